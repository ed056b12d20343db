use Rattle.std.proofs.Common.{◌≡◌, ◌-◌, ◌≤◌, map, vec_len}
use Rattle.index_lists.specs.Lists.{padded}
use Rattle.index_lists.proofs.plain.lengthen.Given as goal

abbrev pub invariant-loop-alloc : goal.invariant-loop-alloc
invariant-loop-alloc l = record {
  few : vec_len l.lists ≤ l.heads;
  same : padded (map (λ list. list.items) l.lists.items) l.heads ≡ padded (map (λ list. list.items) l.initial.lists.items) l.heads;
}

abbrev pub decreases-loop-alloc : goal.decreases-loop-alloc
decreases-loop-alloc l = l.heads - vec_len l.lists
