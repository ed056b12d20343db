use Rattle.std.proofs.Common.{◌≡◌, ℕ, ◌-◌, List, ◌++◌, length, slice_get}
use Rattle.index_lists.specs.Lists.{list_of}
use Rattle.index_lists.proofs.tests.nodes_of.Given as goal

-- the nodes so far and those from `at` on are the list
abbrev pub invariant-loop-at : goal.invariant-loop-at
invariant-loop-at l =
    (rest : List ℕ) × (l.at ≡ slice_get rest 0) × (l.nodes.items ++ rest ≡ list_of l.rows.lists l.side l.head)

abbrev pub decreases-loop-at : goal.decreases-loop-at
decreases-loop-at l = length (list_of l.rows.lists l.side l.head) - length l.nodes.items
