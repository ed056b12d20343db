use Rattle.std.proofs.Common.{◌≡◌, ◌+◌, ◌*◌, drop, length}
use Rattle.variant_values.specs.Heaps.{KnowsAll}
use Rattle.variant_values.specs.Places.{room_left}
use Rattle.deep_copies.specs.CopyWeights.{copy_cost, entry_cost, item_cost, total}
use Rattle.deep_copies.proofs.rooms.+rooms.Given as goal

abbrev pub decreases-room_after : goal.decreases-room_after
decreases-room_after l = 3 * l.levels

abbrev pub decreases-room_after_item : goal.decreases-room_after_item
decreases-room_after_item l = 3 * l.levels + 1

abbrev pub decreases-room_after_entry : goal.decreases-room_after_entry
decreases-room_after_entry l = 3 * l.levels + 1

abbrev pub decreases-room_after_items : goal.decreases-room_after_items
decreases-room_after_items l = 3 * l.levels + 2

abbrev pub decreases-room_after_entries : goal.decreases-room_after_entries
decreases-room_after_entries l = 3 * l.levels + 2

abbrev pub invariant-room_after_entries-loop-i : goal.invariant-room_after_entries-loop-i
invariant-room_after_entries-loop-i l =
    room_left l.left (total (λ e. entry_cost l.measure e + copy_cost l.measure l.levels l.heap.state.cells e.1) (drop l.i l.entries)) ≡ room_left l.fn.room (total (λ e. entry_cost l.measure e + copy_cost l.measure l.levels l.heap.state.cells e.1) l.entries)

abbrev pub decreases-room_after_items-loop-rest : goal.decreases-room_after_items-loop-rest
decreases-room_after_items-loop-rest l = length l.rest

abbrev pub invariant-room_after_items-loop-rest : goal.invariant-room_after_items-loop-rest
invariant-room_after_items-loop-rest l = record {
  known : KnowsAll l.heap.state.cells l.rest;
  left : room_left l.left (total (λ v. item_cost l.measure v + copy_cost l.measure l.levels l.heap.state.cells v) l.rest) ≡ room_left l.fn.room (total (λ v. item_cost l.measure v + copy_cost l.measure l.levels l.heap.state.cells v) l.fn.items);
}
