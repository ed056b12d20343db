use Rattle.std.proofs.Common.{◌≡◌, ◌++◌, ◌-◌, length, take, drop, filter, not}
use Rattle.variant_values.specs.Links.{is_connection}
use Rattle.variant_values.proofs.cells.Connections.remove.Given as goal

abbrev pub invariant-loop-at : goal.invariant-loop-at
invariant-loop-at l = take l.at l.self-inside.rows.items ++ filter (λ c. not (is_connection l.signal l.to l.method c)) (drop l.at l.self-inside.rows.items) ≡ filter (λ c. not (is_connection l.signal l.to l.method c)) l.initial.self-inside.rows.items

abbrev pub decreases-loop-at : goal.decreases-loop-at
decreases-loop-at l = length l.self-inside.rows.items - l.at
