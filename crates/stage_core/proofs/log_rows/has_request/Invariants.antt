use Rattle.std.proofs.Common.{◌≡◌, false, take}
use Rattle.stage_core.specs.Rows.{log_of}
use Rattle.stage_core.specs.Machine.{is_requested}
use Rattle.stage_core.proofs.log_rows.has_request.Given as goal

abbrev pub invariant-loop-row : goal.invariant-loop-row
invariant-loop-row g l = is_requested (log_of (take l.row-index l.rows)) l.file ≡ false
