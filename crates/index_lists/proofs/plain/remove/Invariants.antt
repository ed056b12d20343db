use Rattle.std.proofs.Common.{◌≡◌, map, take, drop, length}
use Rattle.index_lists.specs.Lists.{without}
use Rattle.index_lists.proofs.plain.remove.Given as goal

abbrev pub invariant-loop-list : goal.invariant-loop-list
invariant-loop-list l = record {
  len : length l.list-items ≡ length l.initial.list-items;
  done : take l.list-index (map (λ list. list.items) l.list-items) ≡ map (without l.node) (take l.list-index (map (λ list. list.items) l.initial.list-items));
  rest : drop l.list-index l.list-items ≡ drop l.list-index l.initial.list-items;
}
