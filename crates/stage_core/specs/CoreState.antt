-- What a core and a claim are to contracts, and what holds of each core.
use Rattle.std.specs.Prelude.{◌≡◌, ℕ, ◌*◌, ◌≤◌, ◌<◌, true, List, Contains}
use Rattle.stage_core.specs.declared.work.StageOut.{Ghosts}
use Rattle.stage_core.specs.Log.{State, Entry}
use Rattle.stage_core.specs.Machine.{IsSound, edges, is_requested}

-- what a claim says: the project, and the task
pub record Task (P O : Type 0) : Type 0 where
  pub project : P
  -- the log that stood when it was claimed
  pub log : List (Entry O)
  pub file : ℕ
  pub stage : ℕ

-- what contracts see of a core
pub record CoreValue (P O : Type 0) : Type 0 where
  pub state : State P O

abbrev pub state_of : {P O : Type 0} → P → List (Entry O) → List ℕ → State P O
state_of project log in_progress = record { project = project; log = log; in_progress = in_progress }

-- what holds of each core: the log is one that the events can make, and all its room is there
pub record IsCoreState {O P : Type 0} (g : Ghosts O P) (s : State P O) (files row_room known_room visited_room : ℕ) : Type 0 where
  pub sound : IsSound g s
  pub all_files : files ≡ g.files s.project
  pub rows : 11 * files ≤ row_room
  pub known_files : files ≤ known_room
  pub visited : files ≤ visited_room

-- no file of the log is past the project's
pub record AreInRange {O P : Type 0} (g : Ghosts O P) (log : List (Entry O)) (files : ℕ) : Type 0 where
  pub by_links : (a b : ℕ) → Contains (edges g.links log a) b → b < files
  pub by_walk : (a b : ℕ) → Contains (edges g.walk log a) b → b < files
  pub asked : (file : ℕ) → is_requested log file ≡ true → file < files
