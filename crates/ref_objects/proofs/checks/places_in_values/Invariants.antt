use Rattle.std.proofs.Common.{◌≡◌, ◌≤◌, take}
use Rattle.std.specs.List.{sum_by}
use Rattle.variant_values.specs.Places.{in_value}
use Rattle.ref_objects.proofs.checks.places_in_values.Given as goal

abbrev pub invariant-loop-v : goal.invariant-loop-v
invariant-loop-v l = (l.n ≡ sum_by (in_value l.x) (take l.v-index l.values)) × (l.n ≤ l.v-index)
