use Rattle.std.proofs.Common.{take}
use Rattle.variant_values.specs.Changes.{Keeps}
use Rattle.call_support.specs.Retaining.{RetainsAsMuch}
use Rattle.variant_values.specs.DictMethods.{entries_in}
use Rattle.bulk_changes.specs.Merges.{HasNulls}
use Rattle.bulk_changes.proofs.merges.set_nulls.Given as goal

abbrev pub invariant-loop-i : goal.invariant-loop-i
invariant-loop-i l = record {
  nulls : HasNulls l.fn.heap.state l.heap.state l.of.0 (entries_in l.fn.heap.state l.other.0) (take l.i (entries_in l.fn.heap.state l.other.0));
  keeps : Keeps l.fn.heap.state.cells l.heap.state.cells;
  kept : RetainsAsMuch l.fn.heap.state l.heap.state;
}
