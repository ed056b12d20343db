use Rattle.std.proofs.Common.{◌≡◌, ◌≤◌, ◌*◌, ◌^◌, take}
use Rattle.std.specs.List.{sum_by}
use Rattle.variant_values.specs.Places.{in_slot}
use Rattle.ref_objects.specs.Slots.{cells_of}
use Rattle.ref_objects.proofs.checks.places.Given as goal

abbrev pub invariant-loop-i : goal.invariant-loop-i
invariant-loop-i l = (l.n ≡ sum_by (in_slot l.x) (take l.i (cells_of l.slots))) × (l.n ≤ 2 ^ 65 * l.i)
