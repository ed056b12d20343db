use Rattle.std.proofs.Common.{arith}
use Rattle.gd_syntax.proofs.Steps.{exit}
use Rattle.gd_syntax.specs.Reading.{Loop}
use Rattle.gdrun.proofs.taken.lines.Goals as goal

pub returns-in_err-turn-clause-reads : goal.returns-in_err-turn-clause-reads
returns-in_err-turn-clause-reads c = exit _ _ _ _ _ c.from_residual.ensures.1 (λ f h. c.lines.invariant.reads _ (Loop.stop h)) c.in_err-turn.ensures.reads

pub returns-in-Last-clause-reads : goal.returns-in-Last-clause-reads
returns-in-Last-clause-reads c = c.lines.invariant.reads _ (Loop.last (rw (c.in-Last.is) at c.in_ok-turn.ensures.reads))

pub lines-preserved : goal.lines-preserved
lines-preserved c = let more = rw (c.in-On.is) at c.in_ok-turn.ensures.onward in record { reads = λ o rest. c.lines.invariant.reads o (Loop.on (rw (c.in-On.is) at c.in_ok-turn.ensures.reads) rest); within = more.1 }
