use Rattle.std.proofs.Common.{◌≡◌, ◌≤◌, ◌*◌, take}
use Rattle.std.specs.List.{sum_by}
use Rattle.variant_values.specs.Places.{in_entry}
use Rattle.ref_objects.proofs.checks.places_in_entries.Given as goal

abbrev pub invariant-loop-i : goal.invariant-loop-i
invariant-loop-i l = (l.n ≡ sum_by (in_entry l.x) (take l.i l.entries)) × (l.n ≤ 2 * l.i)
