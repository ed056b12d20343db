-- What holds after any events.
use Rattle.std.specs.Prelude.{◌≡◌, ℕ, ◌≤◌, Bool, false, ◌&&◌, ◌==◌, length, Contains, filter}
use Rattle.stage_core.specs.declared.work.StageOut.{Ghosts}
use Rattle.stage_core.specs.Log.{OutcomeValue, Entry, Request, Claim, Publish, State}
use Rattle.stage_core.specs.Machine.{outcomes, is_done_at, IsKnown, HoldsValue, HasWork}

-- the entry publishes the stage
abbrev pub publishes : {O : Type 0} → ℕ → ℕ → Entry O → Bool
publishes file stage (Request f) = false
publishes file stage (Claim f k) = false
publishes file stage (Publish f k o) = (f == file) && (k == stage)

-- what holds after any events, each of which may come where it comes
pub record IsConsistent {O P : Type 0} (g : Ghosts O P) (project : P) (s : State P O) : Type 0 where
  pub same : s.project ≡ project
  pub values : (file stage : ℕ) (o : OutcomeValue O) → Contains s.log (Publish file stage o) → HoldsValue g project file stage o
  pub once : (file stage : ℕ) → length (filter (publishes file stage) s.log) ≤ 1
  pub five : (file : ℕ) → length (outcomes s.log file) ≤ 5
  pub goes_on : (file : ℕ) → IsKnown g s.log file → is_done_at (outcomes s.log file) 5 ≡ false → HasWork g s
