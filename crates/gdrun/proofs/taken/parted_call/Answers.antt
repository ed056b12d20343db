use Rattle.std.proofs.Common.{refl}
use Rattle.gd_syntax.proofs.Steps.{exit}
use Rattle.gd_syntax.specs.Reading.Look.{looks}
use Rattle.gd_syntax.specs.Reading.Then.{goes, halts}
use Rattle.gdrun.proofs.TakenSteps.{parted_call_none}
use Rattle.gdrun.proofs.taken.parted_call.Goals as goal

pub returns-then-sees-clause-reads : goal.returns-then-sees-clause-reads
returns-then-sees-clause-reads c = looks (c.sees.ensures.yes c.if-sees.true) refl

pub returns-in_err-next-clause-reads : goal.returns-in_err-next-clause-reads
returns-in_err-next-clause-reads c = exit _ _ _ _ _ c.from_residual.ensures.1 (λ f h. parted_call_none c.args.tokens.now c.args.at _ (c.sees.ensures.no c.if-sees.false) (halts h)) c.in_err-next.ensures.reads

pub returns-clause-reads : goal.returns-clause-reads
returns-clause-reads c = parted_call_none c.args.tokens.now c.args.at _ (c.sees.ensures.no c.if-sees.false) (goes c.in_ok-next.ensures.reads refl)
