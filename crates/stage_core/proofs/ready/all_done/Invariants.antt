use Rattle.std.proofs.Common.{◌≡◌, ℕ, true, take, Contains}
use Rattle.stage_core.specs.Rows.{log_of}
use Rattle.stage_core.specs.Machine.{outcomes, is_done_at}
use Rattle.stage_core.specs.Stages.{stage_needed}
use Rattle.stage_core.proofs.ready.all_done.Given as goal

abbrev pub invariant-loop-other : goal.invariant-loop-other
invariant-loop-other g l = (other : ℕ) → Contains (take l.other-index l.others) other → is_done_at (outcomes (log_of l.rows) other) (stage_needed l.file l.stage other) ≡ true
