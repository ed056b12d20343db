use Rattle.gd_syntax.proofs.Steps.{exit}
use Rattle.gd_syntax.specs.Reading.Then.{goes, halts}
use Rattle.gd_syntax.specs.Reading.Look.{looks}
use Rattle.gd_syntax.specs.Reading.{Read}
use Rattle.gd_syntax.proofs.DeclarationSteps.{args_none}
use Rattle.std.proofs.Common.{ap, refl}
use Rattle.gd_parser.proofs.declarations.optional_args.Goals as goal

pub returns-then-not-sees-clause-reads : goal.returns-then-not-sees-clause-reads
returns-then-not-sees-clause-reads c = rw (c.new.ensures) (args_none c.args.tokens.now c.args.at _ (c.sees.ensures.no c.if-not-sees.true) refl)

pub returns-in_err-items-clause-reads : goal.returns-in_err-items-clause-reads
returns-in_err-items-clause-reads c = exit _ _ _ _ _ c.from_residual.ensures.1 (λ f h. looks (c.sees.ensures.yes c.if-not-sees.false) (goes (ap (λ n. Read tt n) c.skip.ensures.next) (halts h))) c.in_err-items.ensures.reads

pub returns-in_err-next-clause-reads : goal.returns-in_err-next-clause-reads
returns-in_err-next-clause-reads c = exit _ _ _ _ _ c.from_residual-in_err-next.ensures.1 (λ f h. looks (c.sees.ensures.yes c.if-not-sees.false) (goes (ap (λ n. Read tt n) c.skip.ensures.next) (goes c.in_ok-items.ensures.reads (halts h)))) c.in_err-next.ensures.reads

pub returns-clause-reads : goal.returns-clause-reads
returns-clause-reads c = looks (c.sees.ensures.yes c.if-not-sees.false) (goes (ap (λ n. Read tt n) c.skip.ensures.next) (goes c.in_ok-items.ensures.reads (goes c.in_ok-next.ensures.reads refl)))
