use Rattle.ref_objects.proofs.sweeps.take_pass.Goals as goal

pub loop-x-preserved : goal.loop-x-preserved
loop-x-preserved c = c.take_if_zero-left.ensures c.args.slots.now.items c.args.total c.loop-x.invariant
