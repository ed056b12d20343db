use Rattle.ref_objects.specs.Slots.{IsFreePass}
use Rattle.ref_objects.proofs.frees.orphan_pass.Given as goal

abbrev pub invariant-loop-x : goal.invariant-loop-x
invariant-loop-x l = IsFreePass l.initial.slots.items l.slots.items l.total l.left l.x
