use Rattle.std.proofs.Common.{◌≡◌, ◌<◌, ℕ, length, true, get_or}
use Rattle.variant_values.specs.declared.values.Value.{Value}
use Rattle.variant_values.specs.Heaps.{knows}
use Rattle.value_rows.proofs.conditions.knows_all.Given as goal

abbrev pub invariant-loop-v : goal.invariant-loop-v
invariant-loop-v l = (k : ℕ) (d : Value) → k < l.v-index → k < length l.values → knows l.heap.state.cells (get_or l.values k d) ≡ true
