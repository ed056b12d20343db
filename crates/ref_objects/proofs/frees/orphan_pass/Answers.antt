use Rattle.ref_objects.proofs.frees.orphan_pass.Goals as goal

pub loop-x-preserved : goal.loop-x-preserved
loop-x-preserved c = c.take_if_orphan-left.ensures c.args.slots.now.items c.args.total c.loop-x.invariant
