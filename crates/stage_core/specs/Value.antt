-- The tasks of a project, and what they need.
use Rattle.std.specs.Prelude.{◌≡◌, ℕ, ◌<◌, ◌≤◌, ◌↔◌, true, nat_eq, List, map, All, Contains}
use Rattle.std.specs.List.{IsDistinct}
use Rattle.stage_core.specs.declared.work.StageOut.{Ghosts}
use Rattle.stage_core.specs.declared.work.StageValue.TheVariants.{Done}
use Rattle.stage_core.specs.declared.work.Need.{Need}
use Rattle.stage_core.specs.Log.{OutcomeValue, value_of}
use Rattle.stage_core.specs.Stages.{Needs, stage_needed}
use Rattle.stage_core.specs.Machine.{is_final, HoldsValue}

module _ {O P : Type 0} (g : Ghosts O P) (project : P) where
  -- a task of the project, whose earlier stages are Done
  pub record IsTaskOf (file stage : ℕ) : Type 0 where
    pub in_range : file < g.files project
    pub from_one : 1 ≤ stage
    pub to_five : stage ≤ 5
    pub earlier : (k : ℕ) → 1 ≤ k → k < stage → g.value project file k ≡ Done

  -- the task needs the other file
  abbrev pub IsNeedOf : ℕ → ℕ → ℕ → Type 0
  IsNeedOf file stage other = Needs (g.value project) (g.file_links project) (g.file_walk project) file stage other

  -- the outcome holds the file's value at the stage, or at an earlier one at which the file was finished
  pub record HoldsUpTo (file stage : ℕ) (o : OutcomeValue O) : Type 0 where
    pub at : ℕ
    pub from_one : 1 ≤ at
    pub by : at ≤ stage
    pub holds : HoldsValue g project file at o
    pub earlier : at < stage → is_final o ≡ true

  -- these are the needs of the task, each once, with their values
  pub record AreNeedsOf (file stage : ℕ) (needs : List (Need O)) : Type 0 where
    pub each : (other : ℕ) → Contains (map (λ n. n.file) needs) other ↔ IsNeedOf file stage other
    pub once : IsDistinct nat_eq (map (λ n. n.file) needs)
    pub hold : All (λ n. HoldsUpTo n.file (stage_needed file stage n.file) (value_of n.outcome)) needs
