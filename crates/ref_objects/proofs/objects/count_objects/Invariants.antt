use Rattle.std.proofs.Common.{◌≡◌, ◌≤◌, cond, take}
use Rattle.std.specs.List.{sum_by}
use Rattle.variant_values.specs.Heaps.{is_object}
use Rattle.ref_objects.specs.Slots.{cells_of}
use Rattle.ref_objects.proofs.objects.count_objects.Given as goal

abbrev pub invariant-loop-x : goal.invariant-loop-x
invariant-loop-x l = (l.count ≡ sum_by (λ s. cond (is_object s) 1 0) (take l.x (cells_of l.slots))) × (l.count ≤ l.x)
