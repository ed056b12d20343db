use Rattle.std.proofs.Common.{refl, arith}
use Rattle.gd_syntax.proofs.Steps.{exit}
use Rattle.gd_syntax.specs.Reading.{Loop}
use Rattle.gd_syntax.specs.Reading.Then.{goes, halts}
use Rattle.gdrun.proofs.taken.operators.Goals as goal

pub returns-in_err-turn-clause-reads : goal.returns-in_err-turn-clause-reads
returns-in_err-turn-clause-reads c = exit _ _ _ _ _ c.from_residual.ensures.1 (λ f h. halts (c.operators.invariant.reads _ (Loop.stop h))) c.in_err-turn.ensures.reads

pub returns-in-Last-clause-reads : goal.returns-in-Last-clause-reads
returns-in-Last-clause-reads c = goes (c.operators.invariant.reads _ (Loop.last (rw (c.in-Last.is) at c.in_ok-turn.ensures.reads))) refl

pub operators-preserved : goal.operators-preserved
operators-preserved c = let more = rw (c.in-On.is) at c.in_ok-turn.ensures.onward in record { reads = λ o rest. c.operators.invariant.reads o (Loop.on (rw (c.in-On.is) at c.in_ok-turn.ensures.reads) rest); few = omega (arith, more.0, c.operators.invariant.few); after = omega (arith, more.0, c.operators.invariant.after); within = more.1 }
