-- The log, what it says of files and tasks, and what each event leaves.
use Rattle.std.specs.Prelude.{◌≡◌, ℕ, ◌+◌, ◌-◌, ◌<◌, ◌≤◌, ◌⊎◌, Bool, true, false, ◌||◌, ◌&&◌, if◌then◌else◌, ◌==◌, nat_le, List, [], ◌∷◌, ◌++◌, length, take, filter_map, slice_index, slice_set, Option, Some, None, replicate}
use Rattle.std.specs.List.{list_any}
use Rattle.stage_core.specs.declared.work.StageOut.{Ghosts}
use Rattle.stage_core.specs.declared.work.StageValue.TheVariants as stage_value
use Rattle.stage_core.specs.Stages.{Reaches, stage_needed}
use Rattle.stage_core.specs.Log.{OutcomeValue, Value, Fault, Block, Entry, Request, Claim, Publish, State, Event, Requests, Claims, Publishes, GivesBack}

-- the outcome that an entry publishes of the file
abbrev pub outcome_in : {O : Type 0} → ℕ → Entry O → Option (OutcomeValue O)
outcome_in file (Request f) = None
outcome_in file (Claim f k) = None
outcome_in file (Publish f k o) = if f == file then Some o else None

-- the outcomes of the file, in the order of the log: that of stage k has the place k - 1
unfoldable pub outcomes : {O : Type 0} → List (Entry O) → ℕ → List (OutcomeValue O)
outcomes log file = filter_map (outcome_in file) log

-- the entry requests the file
abbrev pub is_request_of : {O : Type 0} → ℕ → Entry O → Bool
is_request_of file (Request f) = f == file
is_request_of file (Claim f k) = false
is_request_of file (Publish f k o) = false

-- the file was requested
unfoldable pub is_requested : {O : Type 0} → List (Entry O) → ℕ → Bool
is_requested log file = list_any (is_request_of file) log

-- the entry claims the task
abbrev pub is_claim_of : {O : Type 0} → ℕ → ℕ → Entry O → Bool
is_claim_of file stage (Request f) = false
is_claim_of file stage (Claim f k) = (f == file) && (k == stage)
is_claim_of file stage (Publish f k o) = false

-- the task was claimed
unfoldable pub is_claimed : {O : Type 0} → List (Entry O) → ℕ → ℕ → Bool
is_claimed log file stage = list_any (is_claim_of file stage) log

-- no outcome follows this one
abbrev pub is_final : {O : Type 0} → OutcomeValue O → Bool
is_final (Value x) = false
is_final (Fault fault) = true
is_final Block = true

-- one of them is Refused or Blocked
unfoldable pub has_final : {O : Type 0} → List (OutcomeValue O) → Bool
has_final os = list_any is_final os

-- the file is done at the stage: a refused or blocked file counts as done at each later stage
unfoldable pub is_done_at : {O : Type 0} → List (OutcomeValue O) → ℕ → Bool
is_done_at os stage = nat_le stage (length os) || has_final os

-- the files that the first of the outcomes names
abbrev pub first_files : {O : Type 0} → (O → List ℕ) → List (OutcomeValue O) → List ℕ
first_files files_of [] = []
first_files files_of (Value x ∷ os) = files_of x
first_files files_of (Fault fault ∷ os) = []
first_files files_of (Block ∷ os) = []

-- from a file to the files that its stage 1 in the log names
unfoldable pub edges : {O : Type 0} → (O → List ℕ) → List (Entry O) → ℕ → List ℕ
edges files_of log file = first_files files_of (outcomes log file)

-- the file has this stage under way
pub record IsInProgress (in_progress : List ℕ) (file stage : ℕ) : Type 0 where
  pub some : 1 ≤ stage
  pub held : slice_index in_progress file ≡ stage

module _ {O P : Type 0} (g : Ghosts O P) where
  -- the path was requested, or is a link of a known file whose stage 1 is done
  pub record IsKnown (log : List (Entry O)) (file : ℕ) : Type 0 where
    pub from : ℕ
    pub requested : is_requested log from ≡ true
    pub reached : Reaches (edges g.links log) from file

  -- stage 2 needs the walk, and the stages above it the closure
  abbrev pub direct_needs : List (Entry O) → ℕ → ℕ → List ℕ
  direct_needs log stage = edges (if stage == 2 then g.walk else g.links) log

  -- the other file is among the needs of the task
  pub record IsNeed (log : List (Entry O)) (file stage other : ℕ) : Type 0 where
    pub above : 2 ≤ stage
    pub reached : Reaches (direct_needs log stage) file other

  -- the needs are done
  abbrev pub AreNeedsDone : List (Entry O) → ℕ → ℕ → Type 0
  AreNeedsDone log file stage = (other : ℕ) → IsNeed log file stage other → is_done_at (outcomes log other) (stage_needed file stage other) ≡ true

  -- what holds of a task from when it is ready on, in each later log too
  pub record IsOpen (log : List (Entry O)) (file stage : ℕ) : Type 0 where
    pub known : IsKnown log file
    pub from_one : 1 ≤ stage
    pub to_five : stage ≤ 5
    pub begun : stage ≤ length (outcomes log file) + 1
    pub earlier_done : has_final (take (stage - 1) (outcomes log file)) ≡ false
    pub needs : AreNeedsDone log file stage

  -- by the log and the tasks under way, the task may be claimed
  pub record IsReady (log : List (Entry O)) (in_progress : List ℕ) (file stage : ℕ) : Type 0 where
    pub known : IsKnown log file
    pub next : stage ≡ length (outcomes log file) + 1
    pub unfinished : is_done_at (outcomes log file) 5 ≡ false
    pub free : slice_index in_progress file ≡ 0
    pub needs : AreNeedsDone log file stage

  -- the outcome holds the project's value
  abbrev pub HoldsValue : P → ℕ → ℕ → OutcomeValue O → Type 0
  HoldsValue project file stage (Value x) = (g.value project file stage ≡ stage_value.Done) × g.holds project file stage x
  HoldsValue project file stage (Fault fault) = g.value project file stage ≡ stage_value.Refused fault
  HoldsValue project file stage Block = g.value project file stage ≡ stage_value.Blocked

-- What each event leaves. The calls of the core say by these what they do.
module _ {P O : Type 0} where
  -- a first request is logged
  abbrev pub requested : State P O → ℕ → State P O
  requested s file = record s { log = if is_requested s.log file then s.log else s.log ++ Request file ∷ [] }

  -- the task is under way, and its first claim is logged
  abbrev pub claimed : State P O → ℕ → ℕ → State P O
  claimed s file stage = record {
    project = s.project;
    log = if is_claimed s.log file stage then s.log else s.log ++ Claim file stage ∷ [];
    in_progress = slice_set s.in_progress file stage;
  }

  -- the stage is in the log already
  abbrev pub is_published : State P O → ℕ → ℕ → Bool
  is_published s file stage = nat_le stage (length (outcomes s.log file))

  -- the outcome is logged and the task ends, unless the stage is in the log already
  abbrev pub published : State P O → ℕ → ℕ → OutcomeValue O → State P O
  published s file stage o =
      if is_published s file stage
      then s
      else record { project = s.project; log = s.log ++ Publish file stage o ∷ []; in_progress = slice_set s.in_progress file 0 }

  -- the task ends, unless the stage is in the log already
  abbrev pub given_back : State P O → ℕ → ℕ → State P O
  given_back s file stage = if is_published s file stage then s else record s { in_progress = slice_set s.in_progress file 0 }

  abbrev pub after : State P O → Event O → State P O
  after s (Requests file) = requested s file
  after s (Claims file stage) = claimed s file stage
  after s (Publishes file stage o) = published s file stage o
  after s (GivesBack file stage) = given_back s file stage

  abbrev pub run : State P O → List (Event O) → State P O
  run s [] = s
  run s (e ∷ es) = run (after s e) es

module _ {O P : Type 0} (g : Ghosts O P) where
  -- the event may come
  abbrev pub IsAllowed : State P O → Event O → Type 0
  IsAllowed s (Requests file) = file < g.files s.project
  IsAllowed s (Claims file stage) = IsReady g s.log s.in_progress file stage
  IsAllowed s (Publishes file stage o) = IsInProgress s.in_progress file stage × HoldsValue g s.project file stage o
  IsAllowed s (GivesBack file stage) = IsInProgress s.in_progress file stage

  -- each event may come where it comes
  abbrev pub AreAllowed : State P O → List (Event O) → Type 0
  AreAllowed s [] = Unit {0}
  AreAllowed s (e ∷ es) = IsAllowed s e × AreAllowed (after s e) es

  -- no entry, and no task under way
  abbrev pub start : P → State P O
  start project = record { project = project; log = []; in_progress = replicate (g.files project) 0 }

  -- what may stand in a log after these entries
  abbrev pub MayFollow : P → List (Entry O) → Entry O → Type 0
  MayFollow project log (Request file) = (file < g.files project) × (is_requested log file ≡ false)
  MayFollow project log (Claim file stage) = IsOpen g log file stage × (is_claimed log file stage ≡ false)
  MayFollow project log (Publish file stage o) = IsOpen g log file stage × (stage ≡ length (outcomes log file) + 1) × HoldsValue g project file stage o

  -- a log that the events can make
  pub data IsLegal (project : P) : List (Entry O) → Type 0 where
    empty : IsLegal project []
    grows : (log : List (Entry O)) (e : Entry O) → IsLegal project log → MayFollow project log e → IsLegal project (log ++ e ∷ [])

  -- what is true of each state of a run
  pub record IsSound (s : State P O) : Type 0 where
    pub legal : IsLegal s.project s.log
    pub all_files : length s.in_progress ≡ g.files s.project
    pub tasks : (file stage : ℕ) → IsInProgress s.in_progress file stage → IsOpen g s.log file stage × (stage ≡ length (outcomes s.log file) + 1)

  -- a task is ready, or one is under way
  abbrev pub HasWork : State P O → Type 0
  HasWork s = ((file : ℕ) × (stage : ℕ) × IsReady g s.log s.in_progress file stage) ⊎ ((file : ℕ) × (stage : ℕ) × IsInProgress s.in_progress file stage)
