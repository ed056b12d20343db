-- Tasks with what they need, and with what came of them.
use Rattle.std.specs.Prelude.{List}
use Rattle.stage_core.specs.declared.work.StageOut.{Ghosts}
use Rattle.stage_core.specs.declared.work.Need.{Need}
use Rattle.stage_core.specs.CoreState.{Task}
use Rattle.stage_core.specs.declared.log.OutcomeValue.{OutcomeValue}
use Rattle.stage_core.specs.Value.{IsTaskOf, AreNeedsOf}

-- these are the needs of the task, with their values
pub record HasNeeds {O P : Type 0} (g : Ghosts O P) (task : Task P O) (needs : List (Need O)) : Type 0 where
  pub its_task : IsTaskOf g task.project task.file task.stage
  pub its_needs : AreNeedsOf g task.project task.file task.stage needs

-- a task, and its outcome
pub record FinishedTask (P O : Type 0) : Type 0 where
  pub task : Task P O
  pub outcome : OutcomeValue O
