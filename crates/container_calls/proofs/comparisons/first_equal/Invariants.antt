use Rattle.std.proofs.Common.{◌≡◌, drop}
use Rattle.variant_values.specs.Comparisons.{first_equal, same_value}
use Rattle.container_calls.proofs.comparisons.first_equal.Given as goal

abbrev pub invariant-loop-i : goal.invariant-loop-i
invariant-loop-i l = first_equal (λ w. same_value l.heap.state.cells l.v w) 0 l.items ≡ first_equal (λ w. same_value l.heap.state.cells l.v w) l.i (drop l.i l.items)
