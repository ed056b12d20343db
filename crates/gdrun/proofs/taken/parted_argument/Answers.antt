use Rattle.std.proofs.Common.{refl}
use Rattle.gd_syntax.proofs.Steps.{exit}
use Rattle.gd_syntax.specs.Reading.Look.{looks}
use Rattle.gd_syntax.specs.Reading.Then.{goes, halts}
use Rattle.gdrun.proofs.TakenSteps.{parted_argument_read, parted_argument_refused}
use Rattle.gdrun.proofs.taken.parted_argument.Goals as goal

pub returns-then-sees-clause-reads : goal.returns-then-sees-clause-reads
returns-then-sees-clause-reads c = looks (c.sees.ensures.yes c.if-sees.true) refl

pub returns-in_err-next-clause-reads : goal.returns-in_err-next-clause-reads
returns-in_err-next-clause-reads c = exit _ _ _ _ _ c.from_residual.ensures.1 (λ f h. parted_argument_read c.args.tokens.now c.args.count c.args.at _ (c.sees.ensures.no c.if-sees.false) c.if-count-lt-MAX_ARGUMENTS.true (halts h)) c.in_err-next.ensures.reads

pub returns-in_ok-next-clause-reads : goal.returns-in_ok-next-clause-reads
returns-in_ok-next-clause-reads c = parted_argument_read c.args.tokens.now c.args.count c.args.at _ (c.sees.ensures.no c.if-sees.false) c.if-count-lt-MAX_ARGUMENTS.true (goes c.in_ok-next.ensures.reads refl)

pub returns-else-count-lt-MAX_ARGUMENTS-clause-reads : goal.returns-else-count-lt-MAX_ARGUMENTS-clause-reads
returns-else-count-lt-MAX_ARGUMENTS-clause-reads c = rw (c.unbuilt.ensures) (parted_argument_refused c.args.tokens.now c.args.count c.args.at (c.sees.ensures.no c.if-sees.false) c.if-count-lt-MAX_ARGUMENTS.false)
