use Rattle.std.proofs.Common.{◌≡◌, ◌+◌, ◌*◌, ◌++◌, drop}
use Rattle.variant_values.specs.Changes.{Keeps}
use Rattle.call_support.specs.Retaining.{RetainsAsMuch}
use Rattle.variant_values.specs.Copies.{copied, copied_items, copied_entries}
use Rattle.variant_values.specs.Heaps.{cell_at, entries_of, items_of, KnowsAll, KnowsEntries}
use Rattle.variant_values.specs.Keys.{HasKeysOnce}
use Rattle.deep_copies.proofs.copies.+copies.Given as goal

abbrev pub decreases-copy_value : goal.decreases-copy_value
decreases-copy_value l = 3 * l.levels

abbrev pub decreases-copy_items : goal.decreases-copy_items
decreases-copy_items l = 3 * l.levels + 1

abbrev pub decreases-copy_entries : goal.decreases-copy_entries
decreases-copy_entries l = 3 * l.levels + 1

abbrev pub decreases-copy_array : goal.decreases-copy_array
decreases-copy_array l = 3 * l.levels + 2

abbrev pub decreases-copy_dict : goal.decreases-copy_dict
decreases-copy_dict l = 3 * l.levels + 2

abbrev pub invariant-copy_items-loop-i : goal.invariant-copy_items-loop-i
invariant-copy_items-loop-i l =
    let from = items_of (cell_at l.fn.heap.state.cells l.of.0) in
    record {
      done : KnowsAll l.heap.state.cells l.copy.items;
      keeps : Keeps l.fn.heap.state.cells l.heap.state.cells;
      kept : RetainsAsMuch l.fn.heap.state l.heap.state;
      stays : cell_at l.heap.state.cells l.of.0 ≡ cell_at l.fn.heap.state.cells l.of.0;
      whole : (l.copy.items ++ (copied_items (copied l.levels) l.heap.state (drop l.i from)).0, (copied_items (copied l.levels) l.heap.state (drop l.i from)).1) ≡ copied_items (copied l.levels) l.fn.heap.state from;
    }

abbrev pub invariant-copy_entries-loop-i : goal.invariant-copy_entries-loop-i
invariant-copy_entries-loop-i l =
    let from = entries_of (cell_at l.fn.heap.state.cells l.of.0) in
    record {
      done : KnowsEntries l.heap.state.cells l.copy;
      keeps : Keeps l.fn.heap.state.cells l.heap.state.cells;
      kept : RetainsAsMuch l.fn.heap.state l.heap.state;
      stays : cell_at l.heap.state.cells l.of.0 ≡ cell_at l.fn.heap.state.cells l.of.0;
      once : HasKeysOnce (l.copy ++ drop l.i from);
      whole : (l.copy ++ (copied_entries (copied l.levels) l.heap.state (drop l.i from)).0, (copied_entries (copied l.levels) l.heap.state (drop l.i from)).1) ≡ copied_entries (copied l.levels) l.fn.heap.state from;
    }
