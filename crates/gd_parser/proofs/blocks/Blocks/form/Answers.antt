use Rattle.gd_parser.specs.BlockForms.{inner}
use Rattle.gd_syntax.proofs.StatementSteps.{block_line}
use Rattle.gd_syntax.proofs.Steps.{answers_by, exit}
use Rattle.gd_syntax.specs.Reading.{Read}
use Rattle.gd_syntax.specs.Reading.Look.{looks}
use Rattle.gd_syntax.specs.Reading.Then.{goes, halts}
use Rattle.std.proofs.Common.{ap, refl}
use Rattle.gd_parser.proofs.blocks.Blocks.form.Goals as goal

pub returns-then-not-sees-clause-reads : goal.returns-then-not-sees-clause-reads
returns-then-not-sees-clause-reads g c = answers_by _ _ _ _ c.line_block.result (λ x a. block_line c.args.self.now.tokens.now (inner c.args.self.now.tokens.now c.args.self.now.room) _ _ (c.sees.ensures.no c.if-not-sees.true) a) (λ x a. block_line c.args.self.now.tokens.now (inner c.args.self.now.tokens.now c.args.self.now.room) _ _ (c.sees.ensures.no c.if-not-sees.true) a) (c.line_block.ensures.reads)

pub returns-in_err-start-clause-reads : goal.returns-in_err-start-clause-reads
returns-in_err-start-clause-reads g c = exit _ _ _ _ _ c.from_residual.ensures.1 (λ f h. looks (c.sees.ensures.yes c.if-not-sees.false) (goes (ap (λ n. Read tt n) c.skip.ensures.next) (halts h))) c.in_err-start.ensures.reads

pub returns-in_err-all-clause-reads : goal.returns-in_err-all-clause-reads
returns-in_err-all-clause-reads g c = exit _ _ _ _ _ c.from_residual-in_err-all.ensures.1 (λ f h. looks (c.sees.ensures.yes c.if-not-sees.false) (goes (ap (λ n. Read tt n) c.skip.ensures.next) (goes (c.in_ok-start.ensures.reads) (halts h)))) c.in_err-all.ensures.reads

pub returns-in_err-end-clause-reads : goal.returns-in_err-end-clause-reads
returns-in_err-end-clause-reads g c = exit _ _ _ _ _ c.from_residual-in_err-end.ensures.1 (λ f h. looks (c.sees.ensures.yes c.if-not-sees.false) (goes (ap (λ n. Read tt n) c.skip.ensures.next) (goes (c.in_ok-start.ensures.reads) (goes (c.in_ok-all.ensures.reads) (halts h))))) c.in_err-end.ensures.reads

pub returns-clause-reads : goal.returns-clause-reads
returns-clause-reads g c = looks (c.sees.ensures.yes c.if-not-sees.false) (goes (ap (λ n. Read tt n) c.skip.ensures.next) (goes (c.in_ok-start.ensures.reads) (goes (c.in_ok-all.ensures.reads) (goes (c.in_ok-end.ensures.reads) (refl)))))
