use Rattle.std.proofs.Common.{◌≡◌, true, take}
use Rattle.variant_values.specs.ElementTypes.{all_taken}
use Rattle.container_calls.proofs.elements.all_taken.Given as goal

abbrev pub invariant-loop-v : goal.invariant-loop-v
invariant-loop-v l = all_taken l.heap.state.cells l.element (take l.v-index l.values) ≡ true
