use Rattle.std.proofs.Common.{◌≡◌, ◌+◌, take}
use Rattle.std.specs.List.{sum_by}
use Rattle.variant_values.specs.Places.{entry_weight}
use Rattle.variant_values.proofs.entries.Entries.room_left.Given as goal

abbrev pub invariant-loop-i : goal.invariant-loop-i
invariant-loop-i l = l.left + sum_by entry_weight (take l.i l.self) ≡ l.room
