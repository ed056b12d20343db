use Rattle.ref_objects.proofs.frees.take_orphans.Goals as goal

pub loop-left-preserved : goal.loop-left-preserved
loop-left-preserved c =
    let next = c.orphan_pass-left-in-loop-left.ensures in
    ((λ first top f. next.freed first top (c.loop-left.invariant.0 first top f)), next.kept, next.less, next.none)
