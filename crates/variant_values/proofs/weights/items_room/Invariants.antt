use Rattle.std.proofs.Common.{◌≡◌, ◌+◌, take}
use Rattle.std.specs.List.{sum_by}
use Rattle.variant_values.specs.Places.{item_weight}
use Rattle.variant_values.proofs.weights.items_room.Given as goal

abbrev pub invariant-loop-v : goal.invariant-loop-v
invariant-loop-v l = l.left + sum_by item_weight (take l.v-index l.values) ≡ l.room
