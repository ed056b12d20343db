-- What a file's stages need of other files, by what a project says of its files.
use Rattle.std.specs.Prelude.{◌≡◌, ◌≢◌, ℕ, ◌-◌, ◌<◌, ◌≤◌, ◌==◌, Bool, true, false, List, [], Contains, if◌then◌else◌}
use Rattle.stage_core.specs.declared.work.StageValue.{StageValue}
use Rattle.stage_core.specs.declared.work.StageValue.TheVariants.{Done, Refused, Blocked, Absent}

-- the least set that has a and, with each file, those that it leads to
pub data Reaches (next : ℕ → List ℕ) : ℕ → ℕ → Type 0 where
  here : {a : ℕ} → Reaches next a a
  on : {a b c : ℕ} → Reaches next a b → Contains (next b) c → Reaches next a c

-- the stage that a task needs of a file of its walk or closure
abbrev pub stage_needed : ℕ → ℕ → ℕ → ℕ
stage_needed file stage other = if stage == 5 then (if other == file then 4 else 3) else stage - 1

-- what a file names, if its stage 1 is Done
abbrev pub if_done : StageValue → List ℕ → List ℕ
if_done Done files = files
if_done (Refused fault) files = []
if_done Blocked files = []
if_done Absent files = []

-- the file was refused or blocked at the stage
abbrev pub is_stop : StageValue → Bool
is_stop Done = false
is_stop (Refused fault) = true
is_stop Blocked = true
is_stop Absent = false

module _ (value : ℕ → ℕ → StageValue) where
  -- the file was refused or blocked at an earlier stage
  pub record IsStoppedBefore (file stage : ℕ) : Type 0 where
    pub at : ℕ
    pub from_one : 1 ≤ at
    pub earlier : at < stage
    pub stopped : is_stop (value file at) ≡ true

  -- from a file to the files that its stage 1 names
  unfoldable pub value_edges : (ℕ → List ℕ) → ℕ → List ℕ
  value_edges files_of file = if_done (value file 1) (files_of file)

  module _ (links walk : ℕ → List ℕ) (file stage : ℕ) where
    -- The task needs the other file: stage 2 needs the walk, and the stages above it the closure.
    pub record Needs (other : ℕ) : Type 0 where
      pub above : 2 ≤ stage
      pub reached : Reaches (value_edges (if stage == 2 then walk else links)) file other

    -- another file among the needs was refused or blocked at an earlier stage
    pub record IsBlockedBy : Type 0 where
      pub other : ℕ
      pub differs : other ≢ file
      pub needed : Needs other
      pub at : ℕ
      pub from_one : 1 ≤ at
      pub earlier : at < stage
      pub stopped : is_stop (value other at) ≡ true
