use Rattle.std.proofs.Common.{arith}
use Rattle.ref_objects.proofs.Emptying.{emptied}
use Rattle.ref_objects.proofs.sweeps.take_zeros.Goals as goal

pub returns-clause-taken : goal.returns-clause-taken
returns-clause-taken c = emptied c.args.slots.now.items c.loop-left.slots.items c.loop-left.left c.loop-left.invariant.0 (c.loop-left.invariant.3 (omega (arith, c.loop-left.invariant.1)))
