use Rattle.std.proofs.Common.{◌≡◌, ◌-◌, ◌++◌, take, drop, length, not, eqb}
use Rattle.std.specs.List.{filter}
use Rattle.index_lists.proofs.plain.leave_out.Given as goal

abbrev pub invariant-loop-at : goal.invariant-loop-at
invariant-loop-at l =
    take l.at l.nodes.items ++ filter (λ other. not (eqb other l.node)) (drop l.at l.nodes.items) ≡ filter (λ other. not (eqb other l.node)) l.initial.nodes.items

abbrev pub decreases-loop-at : goal.decreases-loop-at
decreases-loop-at l = length l.nodes.items - l.at
