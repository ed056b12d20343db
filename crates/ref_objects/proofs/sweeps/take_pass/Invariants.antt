use Rattle.ref_objects.specs.Slots.{IsPassing}
use Rattle.ref_objects.proofs.sweeps.take_pass.Given as goal

abbrev pub invariant-loop-x : goal.invariant-loop-x
invariant-loop-x l = IsPassing l.initial.slots.items l.slots.items l.total l.left l.x
