use Rattle.std.proofs.Common.{drop}
use Rattle.variant_values.specs.Changes.{Keeps}
use Rattle.call_support.specs.Retaining.{RetainsAsMuch}
use Rattle.variant_values.specs.DictMethods.{entries_in}
use Rattle.bulk_changes.proofs.Merging.{IsEntering}
use Rattle.bulk_changes.proofs.merges.enter_all.Given as goal

abbrev pub invariant-loop-i : goal.invariant-loop-i
invariant-loop-i l = record {
  entering : IsEntering l.overwrite l.fn.heap.state l.heap.state l.of.0 (entries_in l.fn.heap.state l.other.0) (drop l.i (entries_in l.fn.heap.state l.other.0));
  keeps : Keeps l.fn.heap.state.cells l.heap.state.cells;
  kept : RetainsAsMuch l.fn.heap.state l.heap.state;
}
