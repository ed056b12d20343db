use Rattle.std.proofs.Common.{◌≡◌, ◌+◌, ◌*◌, drop, length}
use Rattle.variant_values.specs.Heaps.{KnowsAll}
use Rattle.variant_values.specs.ValueTexts.{items_in, count_items}
use Rattle.call_support.specs.Walks.{left_after}
use Rattle.call_support.proofs.walks.+counts.Given as goal

abbrev pub decreases-room_after : goal.decreases-room_after
decreases-room_after l = 3 * l.levels

abbrev pub decreases-room_after_item : goal.decreases-room_after_item
decreases-room_after_item l = 3 * l.levels + 1

abbrev pub decreases-room_after_items : goal.decreases-room_after_items
decreases-room_after_items l = 3 * l.levels + 2

abbrev pub decreases-room_after_entries : goal.decreases-room_after_entries
decreases-room_after_entries l = 3 * l.levels + 2

abbrev pub invariant-room_after_entries-loop-i : goal.invariant-room_after_entries-loop-i
invariant-room_after_entries-loop-i l =
    left_after l.left (count_items (λ e. items_in l.levels l.heap.state.cells e.1) (drop l.i l.entries)) ≡ left_after l.fn.room (count_items (λ e. items_in l.levels l.heap.state.cells e.1) l.entries)

abbrev pub decreases-room_after_items-loop-rest : goal.decreases-room_after_items-loop-rest
decreases-room_after_items-loop-rest l = length l.rest

abbrev pub invariant-room_after_items-loop-rest : goal.invariant-room_after_items-loop-rest
invariant-room_after_items-loop-rest l = record {
  known : KnowsAll l.heap.state.cells l.rest;
  left : left_after l.left (count_items (items_in l.levels l.heap.state.cells) l.rest) ≡ left_after l.fn.room (count_items (items_in l.levels l.heap.state.cells) l.fn.items);
}
