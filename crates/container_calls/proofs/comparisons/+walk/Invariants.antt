use Rattle.std.proofs.Common.{◌≡◌, ◌+◌, ◌*◌, drop}
use Rattle.variant_values.specs.Comparisons.{same_at, same_entries, same_items}
use Rattle.container_calls.proofs.comparisons.+walk.Given as goal

abbrev pub decreases-open_arrays : goal.decreases-open_arrays
decreases-open_arrays l = 4 * l.levels

abbrev pub decreases-open_dicts : goal.decreases-open_dicts
decreases-open_dicts l = 4 * l.levels

abbrev pub decreases-same_arrays : goal.decreases-same_arrays
decreases-same_arrays l = 4 * l.levels + 1

abbrev pub decreases-same_dicts : goal.decreases-same_dicts
decreases-same_dicts l = 4 * l.levels + 1

abbrev pub decreases-same_at : goal.decreases-same_at
decreases-same_at l = 4 * l.levels + 2

abbrev pub decreases-same_items : goal.decreases-same_items
decreases-same_items l = 4 * l.levels + 3

abbrev pub decreases-same_entries : goal.decreases-same_entries
decreases-same_entries l = 4 * l.levels + 3

-- the rest of the walk gives what the whole gives
abbrev pub invariant-same_items-loop-i : goal.invariant-same_items-loop-i
invariant-same_items-loop-i l = same_items (λ a b n. same_at l.heap.state.cells l.levels a b n) l.vs l.ws l.room ≡ same_items (λ a b n. same_at l.heap.state.cells l.levels a b n) (drop l.i l.vs) (drop l.i l.ws) l.left

abbrev pub invariant-same_entries-loop-i : goal.invariant-same_entries-loop-i
invariant-same_entries-loop-i l = same_entries (λ a b n. same_at l.heap.state.cells l.levels a b n) l.es l.fs l.room ≡ same_entries (λ a b n. same_at l.heap.state.cells l.levels a b n) (drop l.i l.es) l.fs l.left
