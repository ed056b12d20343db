use Rattle.std.proofs.Common.{◌≡◌, true, length}
use Rattle.variant_values.specs.Heaps.{cell_at, is_dict}
use Rattle.variant_values.specs.DictMethods.{entries_in, with_entries}
use Rattle.container_calls.proofs.dicts.clear.Given as goal

abbrev pub decreases-loop-key : goal.decreases-loop-key
decreases-loop-key l = length (entries_in l.heap.state l.of.0)

abbrev pub invariant-loop-key : goal.invariant-loop-key
invariant-loop-key l = record {
  dict : is_dict (cell_at l.heap.state.cells l.of.0) ≡ true;
  rest : l.heap.state ≡ with_entries l.fn.heap.state l.of.0 (entries_in l.heap.state l.of.0);
}
