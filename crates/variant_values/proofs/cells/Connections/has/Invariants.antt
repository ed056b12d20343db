use Rattle.std.proofs.Common.{◌≡◌, drop}
use Rattle.std.specs.List.{list_any}
use Rattle.variant_values.specs.Links.{is_connection}
use Rattle.variant_values.proofs.cells.Connections.has.Given as goal

abbrev pub invariant-loop-row : goal.invariant-loop-row
invariant-loop-row l = list_any (is_connection l.signal l.to l.method) (drop l.row-index l.self) ≡ list_any (is_connection l.signal l.to l.method) l.self
