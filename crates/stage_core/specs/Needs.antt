-- What a task gets of the files that it needs, by the log.
use Rattle.std.specs.Prelude.{◌≡◌, ℕ, ◌-◌, ◌↔◌, List, length, map, min, All, Contains, Option, Some, slice_get}
use Rattle.stage_core.specs.declared.work.StageOut.{Ghosts}
use Rattle.stage_core.specs.declared.work.Need.{Need}
use Rattle.stage_core.specs.Log.{OutcomeValue, Entry, value_of}
use Rattle.stage_core.specs.Machine.{outcomes, IsNeed}
use Rattle.stage_core.specs.Stages.{stage_needed}
use Rattle.stage_core.specs.FileSets.{IsFileSet}

-- the outcome of the stage, or the last one where the file was finished earlier
unfoldable pub outcome_for : {O : Type 0} → List (OutcomeValue O) → ℕ → Option (OutcomeValue O)
outcome_for os stage = slice_get os (min (length os) stage - 1)

-- what a task gets of a needed file
abbrev pub IsNeedOutcome : {O : Type 0} → List (Entry O) → ℕ → ℕ → Need O → Type 0
IsNeedOutcome log file stage need = outcome_for (outcomes log need.file) (stage_needed file stage need.file) ≡ Some (value_of need.outcome)

-- each need of the task once, with the outcome of the stage that the task needs of it
pub record AreNeeds {O P : Type 0} (g : Ghosts O P) (files : ℕ) (log : List (Entry O)) (file stage : ℕ) (needs : List (Need O)) : Type 0 where
  pub each : (other : ℕ) → Contains (map (λ n. n.file) needs) other ↔ IsNeed g log file stage other
  pub once : IsFileSet files (map (λ n. n.file) needs)
  pub handed : All (IsNeedOutcome log file stage) needs
