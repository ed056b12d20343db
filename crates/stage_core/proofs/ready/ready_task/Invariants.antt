use Rattle.std.proofs.Common.{◌≡◌, ℕ, take, Contains, vec_capacity}
use Rattle.stage_core.specs.Rows.{log_of}
use Rattle.stage_core.specs.Machine.{IsReady}
use Rattle.stage_core.proofs.ready.ready_task.Given as goal

abbrev pub invariant-loop-file : goal.invariant-loop-file
invariant-loop-file g l = record {
  none : (file stage : ℕ) → Contains (take l.file-index l.known) file → IsReady g.O.StageOut (log_of l.rows) l.in_progress file stage → ⊥;
  capacity : vec_capacity l.visited ≡ vec_capacity l.fn.visited;
}
