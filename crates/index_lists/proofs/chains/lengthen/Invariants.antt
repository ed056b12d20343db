use Rattle.std.proofs.Common.{◌≡◌, ℕ, ◌-◌, ◌≤◌, get_or, vec_len}
use Rattle.index_lists.proofs.chains.lengthen.Given as goal

abbrev pub invariant-loop-filler : goal.invariant-loop-filler
invariant-loop-filler g l = record {
  longer : vec_len l.initial.items ≤ vec_len l.items;
  same : (i : ℕ) → get_or l.items.items i l.filler ≡ get_or l.initial.items.items i l.initial.filler;
}

abbrev pub decreases-loop-filler : goal.decreases-loop-filler
decreases-loop-filler g l = l.count - vec_len l.items
