use Rattle.std.proofs.Common.{◌≡◌, ◌++◌, drop}
use Rattle.variant_values.specs.Links.{targets_of}
use Rattle.variant_values.proofs.cells.Connections.targets.Given as goal

abbrev pub invariant-loop-row : goal.invariant-loop-row
invariant-loop-row l = l.found.items ++ targets_of l.signal (drop l.row-index l.self) ≡ targets_of l.signal l.self
