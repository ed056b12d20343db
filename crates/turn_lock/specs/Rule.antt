-- The rule of a lock's table, and what each kind of step tells.
-- There is one log, of the length in word 1, and each pass has seen a beginning of it. Word 0 is 1 exactly where one pass holds the turn, and the value is at home exactly where it is 0.
use Rattle.std.specs.Prelude.{nat_lt, if◌then◌else◌, ◌≡◌, ◌≢◌, ℕ, ◌+◌, ◌≤◌, Bool, true, false, List, [], ◌∷◌, ◌++◌, length, Option, Some, None}
use mathlib.Core.Option.{none, some}
use mathlib.Core.Option as maybe
use mathlib.Core.List.{IsPrefix}
use lib.ListN.{get_elem?}
use Rattle.atomic_table.specs.Table.{State, Me, Step}
use Rattle.turn_lock.specs.declared.view.View.{View}
use Rattle.turn_lock.specs.declared.view.LastTurn.{LastTurn}
use Rattle.turn_lock.specs.declared.view.Hold.{Hold}
use Rattle.turn_lock.specs.declared.view.Hold.TheVariants.{Free, Taken, Raised}

module _ {E : Type 0} where
  abbrev pub holds_turn : Hold E → Bool
  holds_turn Free = false
  holds_turn (Taken taken) = true
  holds_turn (Raised taken) = true

  -- the log of the value that the pass took
  abbrev pub taken_log : Hold E → List E
  taken_log Free = []
  taken_log (Taken taken) = taken
  taken_log (Raised taken) = taken

  -- Only the pass of the seat `holder` holds the turn. The log that it took is the lock's until it raises the length, and from then on the log that it has seen
  abbrev pub MayHold : List E → ℕ → ℕ → ℕ → List E → Hold E → Type 0
  MayHold log turn holder seat seen Free = Unit {0}
  MayHold log turn holder seat seen (Taken taken) = (turn ≡ 1) × (seat ≡ holder) × (taken ≡ log)
  MayHold log turn holder seat seen (Raised taken) = (turn ≡ 1) × (seat ≡ holder) × (seen ≡ log)

module _ {E : Type 0} where
  abbrev pub longer : List E → List E → List E
  longer xs ys = if nat_lt (length xs) (length ys) then ys else xs

  abbrev pub shorter : List E → List E → List E
  shorter xs ys = if nat_lt (length xs) (length ys) then xs else ys

module _ {P E S : Type 0} where
  -- a pass that was split once more, and the pass that came of it, which has seen as much and took no turn
  abbrev pub after_split : View P E S → View P E S
  after_split v = record v { splits = v.splits + 1 }

  abbrev pub split_off : View P E S → View P E S
  split_off v = record { project = v.project; seen = v.seen; shorter_seen = []; hold = Free; left = v.left; found_log = None; found_state = None; turns = 0; earlier = []; lost = 0; splits = 0 }

  -- a pass that takes in another keeps the longer log
  abbrev pub after_join : View P E S → View P E S → View P E S
  after_join v w = record v { seen = longer v.seen w.seen; shorter_seen = shorter v.seen w.seen }

  -- what is left of a pass that another took in
  abbrev pub spent_view : View P E S
  spent_view = record { project = None; seen = []; shorter_seen = []; hold = Free; left = None; found_log = None; found_state = None; turns = 0; earlier = []; lost = 0; splits = 0 }

module _ {P E S : Type 0} where
  -- the pass that a new lock comes with
  abbrev pub first_view : P → List E → S → View P E S
  first_view p log state = record { project = Some p; seen = log; shorter_seen = []; hold = Free; left = Some state; found_log = None; found_state = None; turns = 0; earlier = []; lost = 0; splits = 0 }

  -- what is true of each pass, by its seat
  pub record IsPassView (p : P) (log : List E) (turn holder seat : ℕ) (v : View P E S) : Type 0 where
    pub project : (q : P) → v.project ≡ Some q → q ≡ p
    pub seen : IsPrefix v.seen log
    pub shorter_seen : IsPrefix v.shorter_seen log
    pub hold : MayHold log turn holder seat v.seen v.hold

-- one pass holds the turn
pub record IsTaken {T P E S : Type 0} (holder : ℕ) (home : maybe.Option (Option T)) (views : List (View P E S)) : Type 0 where
  pub home_is : home ≡ none
  pub view : View P E S
  pub at : get_elem? views holder ≡ some view
  pub turn : holds_turn view.hold ≡ true

module _ {T P E : Type 0} (project : T → P) (log_of : T → List E) where
  -- the value at home has the lock's project and the lock's log
  pub record IsAtHome (p : P) (log : List E) (home : maybe.Option (Option T)) : Type 0 where
    pub value : T
    pub home_is : home ≡ some (Some value)
    pub project_is : project value ≡ p
    pub log_is : log_of value ≡ log

module _ {T P E S : Type 0} (project : T → P) (log_of : T → List E) where
  -- The rule. The lock began with the value `first`, whose project it has, and whose log begins each of its logs
  pub record MeetsRule (first : T) (s : State (Option T) (View P E S)) : Type 0 where
    pub log : List E
    pub began : IsPrefix (log_of first) log
    pub turn : ℕ
    pub holder : ℕ
    pub home : maybe.Option (Option T)
    pub words : s.words ≡ turn ∷ length log ∷ []
    pub homes : s.homes ≡ home ∷ []
    pub bit : turn ≤ 1
    pub at_home : turn ≡ 0 → IsAtHome project log_of (project first) log home
    pub away : turn ≡ 1 → IsTaken holder home s.views
    pub each : (seat : ℕ) (v : View P E S) → get_elem? s.views seat ≡ some v → IsPassView (project first) log turn holder seat v

-- a pass's view, and the slot that it has
abbrev pub PassSeat : Type 0 → Type 0 → Type 0 → Type 0 → Type 0
PassSeat T P E S = Me (Option T) (View P E S)

-- what a pass knows of its last turn
abbrev pub last_turn : {P E S : Type 0} → View P E S → LastTurn E S
last_turn v = record { found_log = v.found_log; found_state = v.found_state; seen = v.seen; left = v.left }

-- a pass that takes a turn, and finds this log and this state
abbrev pub after_take : {P E S : Type 0} → List E → S → View P E S → View P E S
after_take log state v = record v { hold = Taken log; found_log = Some log; found_state = Some state; turns = v.turns + 1; earlier = v.earlier ++ last_turn v ∷ [] }

module _ {T P E S : Type 0} (project : T → P) (log_of : T → List E) (state_of : T → S) where
  -- the turn was free: the pass holds it, and has found the value, whose log begins with what the pass has seen
  abbrev pub Wins : PassSeat T P E S → PassSeat T P E S → Type 0
  Wins m m' = (x : T) × (m' ≡ (after_take (log_of x) (state_of x) m.0, (0, Some x) ∷ m.1)) × ((q : P) → m.0.project ≡ Some q → project x ≡ q) × IsPrefix m.0.seen (log_of x)

-- the turn was held, and not by this pass: one more of its takes is lost, and nothing else changed
abbrev pub Loses : {T P E S : Type 0} → PassSeat T P E S → PassSeat T P E S → Type 0
Loses m m' = (m.0.hold ≡ Free) × (m' ≡ (record m.0 { lost = m.0.lost + 1 }, m.1))

module _ {T P E S : Type 0} (project : T → P) (log_of : T → List E) (state_of : T → S) where
  -- the number found tells which
  abbrev pub Takes : Step (Option T) → PassSeat T P E S → ℕ → PassSeat T P E S → Type 0
  Takes st m found m' = (found ≡ 0 → Wins project log_of state_of m m') × (found ≢ 0 → (found ≡ 1) × Loses m m')

-- a load that changes nothing: the shorter log of the last join begins the one that was seen
abbrev pub Compares : {T P E S : Type 0} → Step (Option T) → PassSeat T P E S → ℕ → PassSeat T P E S → Type 0
Compares st m found m' = (m' ≡ m) × IsPrefix m.0.shorter_seen m.0.seen

-- the pass has raised the length, and has seen the log of the value in the slot
abbrev pub Raises : {T P E S : Type 0} → (T → List E) → Step (Option T) → PassSeat T P E S → ℕ → PassSeat T P E S → Type 0
Raises {T} log_of st m n m' = (x : T) → m.1 ≡ (0, Some x) ∷ [] → m' ≡ (record m.0 { seen = log_of x; hold = Raised (taken_log m.0.hold) }, m.1)

-- the pass holds no turn, and has left the state of the value in the slot
abbrev pub Releases : {T P E S : Type 0} → (T → S) → Step (Option T) → PassSeat T P E S → ℕ → PassSeat T P E S → Type 0
Releases {T} state st m n m' = (x : T) → m.1 ≡ (0, Some x) ∷ [] → m' ≡ (record m.0 { hold = Free; left = Some (state x) }, [])
