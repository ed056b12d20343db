use Rattle.std.proofs.Common.{◌≡◌, false, take}
use Rattle.stage_core.specs.Rows.{log_of}
use Rattle.stage_core.specs.Machine.{outcomes, has_final}
use Rattle.stage_core.proofs.log_rows.has_final.Given as goal

abbrev pub invariant-loop-row : goal.invariant-loop-row
invariant-loop-row g l = has_final (outcomes (log_of (take l.row-index l.rows)) l.file) ≡ false
