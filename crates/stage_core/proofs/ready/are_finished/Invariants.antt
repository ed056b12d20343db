use Rattle.std.proofs.Common.{◌≡◌, ℕ, true, take, Contains}
use Rattle.stage_core.specs.Rows.{log_of}
use Rattle.stage_core.specs.Machine.{outcomes, is_done_at}
use Rattle.stage_core.proofs.ready.are_finished.Given as goal

abbrev pub invariant-loop-file : goal.invariant-loop-file
invariant-loop-file g l = (other : ℕ) → Contains (take l.file-index l.known) other → is_done_at (outcomes (log_of l.rows) other) 5 ≡ true
