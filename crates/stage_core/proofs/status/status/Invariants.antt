use Rattle.std.proofs.Common.{◌≡◌, ◌≤◌, [], length, filter, take}
use Rattle.stage_core.specs.Rows.{log_of}
use Rattle.stage_core.specs.Machine.{outcomes, is_final}
use Rattle.stage_core.proofs.status.status.Given as goal

abbrev pub invariant-loop-row : goal.invariant-loop-row
invariant-loop-row g l = record {
  stage : l.stage ≡ length (outcomes (log_of (take l.row-index l.rows)) l.file);
  none_final : filter is_final (outcomes (log_of (take l.row-index l.rows)) l.file) ≡ [];
  few : l.stage ≤ l.row-index;
}
