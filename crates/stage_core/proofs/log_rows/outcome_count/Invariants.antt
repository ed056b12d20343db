use Rattle.std.proofs.Common.{◌≡◌, ◌≤◌, length, take}
use Rattle.stage_core.specs.Rows.{log_of}
use Rattle.stage_core.specs.Machine.{outcomes}
use Rattle.stage_core.proofs.log_rows.outcome_count.Given as goal

abbrev pub invariant-loop-row : goal.invariant-loop-row
invariant-loop-row g l = record { count : l.count ≡ length (outcomes (log_of (take l.row-index l.rows)) l.file); few : l.count ≤ l.row-index }
