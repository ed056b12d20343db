use Rattle.gd_parser.proofs.BlockParts.{annotated_none}
use Rattle.gd_syntax.proofs.Steps.{answers_by, exit}
use Rattle.gd_syntax.specs.Reading.Look.{looks}
use Rattle.gd_syntax.specs.Reading.Then.{goes, halts}
use Rattle.std.proofs.Common.{refl}
use Rattle.gd_parser.proofs.statements.annotated.Goals as goal

pub returns-in_err-before-clause-reads : goal.returns-in_err-before-clause-reads
returns-in_err-before-clause-reads c = exit _ _ _ _ _ c.from_residual.ensures.1 (λ f h. halts h) c.in_err-before.ensures.reads

pub returns-then-not-sees-clause-reads : goal.returns-then-not-sees-clause-reads
returns-then-not-sees-clause-reads c = rw (c.refuse.ensures) (goes c.in_ok-before.ensures.reads (annotated_none c.args.tokens.now c.args.place _ _ _ (c.sees.ensures.no c.if-not-sees.true) refl))

pub returns-clause-reads : goal.returns-clause-reads
returns-clause-reads c = answers_by _ _ _ _ c.local_var.result (λ x a. goes c.in_ok-before.ensures.reads (looks (c.sees.ensures.yes c.if-not-sees.false) a)) (λ x a. goes c.in_ok-before.ensures.reads (looks (c.sees.ensures.yes c.if-not-sees.false) a)) (c.local_var.ensures.reads)
