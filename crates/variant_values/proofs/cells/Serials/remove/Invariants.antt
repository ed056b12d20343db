use Rattle.std.proofs.Common.{◌≡◌, ◌++◌, ◌-◌, length, take, drop, filter, not, nat_eq}
use Rattle.variant_values.proofs.cells.Serials.remove.Given as goal

abbrev pub invariant-loop-at : goal.invariant-loop-at
invariant-loop-at l = take l.at l.self-inside.items.items ++ filter (λ s. not (nat_eq s.0 l.serial)) (drop l.at l.self-inside.items.items) ≡ filter (λ s. not (nat_eq s.0 l.serial)) l.initial.self-inside.items.items

abbrev pub decreases-loop-at : goal.decreases-loop-at
decreases-loop-at l = length l.self-inside.items.items - l.at
