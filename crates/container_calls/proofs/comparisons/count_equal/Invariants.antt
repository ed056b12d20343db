use Rattle.std.proofs.Common.{◌≡◌, ◌≤◌, drop}
use Rattle.variant_values.specs.Comparisons.{count_equal, same_value}
use Rattle.container_calls.proofs.comparisons.count_equal.Given as goal

abbrev pub invariant-loop-i : goal.invariant-loop-i
invariant-loop-i l = record {
  few : l.count ≤ l.i;
  rest : count_equal (λ w. same_value l.heap.state.cells l.v w) 0 l.items ≡ count_equal (λ w. same_value l.heap.state.cells l.v w) l.count (drop l.i l.items);
}
