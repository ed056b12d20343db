use Rattle.std.proofs.Common.{◌≡◌, ◌+◌, ◌*◌, ◌-◌, ◌^◌, ◌≤◌, ◌++◌, length}
use Rattle.variant_values.specs.Places.{weight}
use Rattle.variant_values.specs.Heaps.{KnowsAll}
use Rattle.variant_values.specs.Changes.{Keeps}
use Rattle.call_support.specs.Retaining.{RetainsAsMuch}
use Rattle.variant_values.specs.Resizes.{in_a_row, with_more}
use Rattle.bulk_changes.specs.Containers.{empty_cell, named}
use Rattle.bulk_changes.proofs.resizes.add_many.Given as goal

abbrev pub invariant-loop-i : goal.invariant-loop-i
invariant-loop-i l = record {
  cells : with_more l.heap.state (empty_cell l.kind) (l.count - l.i) ≡ with_more l.fn.heap.state (empty_cell l.kind) l.count;
  row : l.list.items ++ in_a_row (named l.kind) (length l.heap.state.cells) (l.count - l.i) ≡ in_a_row (named l.kind) (length l.fn.heap.state.cells) l.count;
  room : weight l.heap.state.cells + 16 * (l.count - l.i) ≤ 67108864;
  serials : length l.heap.state.cells + (l.count - l.i) ≤ 2 ^ 64;
  keeps : Keeps l.fn.heap.state.cells l.heap.state.cells;
  kept : RetainsAsMuch l.fn.heap.state l.heap.state;
  known : KnowsAll l.heap.state.cells l.list.items;
}
