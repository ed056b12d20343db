-- A pass and a lock as plain data.
use Rattle.std.specs.Prelude.{◌≡◌, ℕ, List, [], ◌∷◌, ◌++◌, ◌+◌, ◌≤◌, length, slice_index, Option, Some, None, Result, MatchResult}
use Rattle.turn_lock.specs.declared.view.View.{View}
use Rattle.turn_lock.specs.declared.view.LastTurn.{LastTurn}
use Rattle.turn_lock.specs.declared.view.Hold.TheVariants.{Free, Taken}
use Rattle.turn_lock.specs.declared.lock.Pass.{Pass}
use Rattle.turn_lock.specs.declared.lock.TurnLock.{TurnLock}
use Rattle.turn_lock.specs.declared.lock.turn.Turn.{Turn}
use mathlib.Core.List.{IsPrefix}
use Rattle.turn_lock.specs.declared.lock.TurnOut.{TurnOut}
use mathlib.Core.Option.{some}
use Rattle.atomic_table.specs.Table.{State}
use Rattle.turn_lock.specs.Rule.{MeetsRule, last_turn}

module _ {T P E S : Type 0} where
  -- the log that a pass has seen
  abbrev pub seen_by : Pass T P E S → List E
  seen_by p = p.seat.me.0.seen

  -- the state that its last turn left
  abbrev pub left_by : Pass T P E S → Option S
  left_by p = p.seat.me.0.left

  -- the log that its last turn found
  abbrev pub found_log : Pass T P E S → Option (List E)
  found_log p = p.seat.me.0.found_log

  -- the state that its last turn found
  abbrev pub found_state : Pass T P E S → Option S
  found_state p = p.seat.me.0.found_state

  -- how many turns it took
  abbrev pub turns_of : Pass T P E S → ℕ
  turns_of p = p.seat.me.0.turns

  -- what it knows of its last turn
  abbrev pub last_of : Pass T P E S → LastTurn E S
  last_of p = last_turn p.seat.me.0

  -- what it knew before each of its turns
  abbrev pub earlier_of : Pass T P E S → List (LastTurn E S)
  earlier_of p = p.seat.me.0.earlier

  -- its takes that found the turn held
  abbrev pub lost_by : Pass T P E S → ℕ
  lost_by p = p.seat.me.0.lost

  -- how many passes were split off it
  abbrev pub splits_of : Pass T P E S → ℕ
  splits_of p = p.seat.me.0.splits

-- the log that a lock began with
abbrev pub first_log : {T P E S : Type 0} → (T → List E) → TurnLock T P E S → List E
first_log log_of l = log_of l.table.shared.key.value

module _ {T P E S : Type 0} (project : T → P) where
  -- the project of a lock, which its first value had
  abbrev pub project_of : TurnLock T P E S → P
  project_of l = project l.table.shared.key.value

  -- the pass is of this lock, and of its project, and holds no turn
  pub record IsPassOf (l : TurnLock T P E S) (p : Pass T P E S) : Type 0 where
    pub table : p.seat.table_id ≡ l.table.shared.table_id
    pub its_project : p.seat.me.0.project ≡ Some (project_of l)
    pub free : p.seat.me.0.hold ≡ Free
    pub no_slots : p.seat.me.1 ≡ []

module _ {T P E S : Type 0} (project : T → P) (log_of : T → List E) where
  -- the pass has the turn of this lock, and took this value
  pub record HasTurn (l : TurnLock T P E S) (p : Pass T P E S) (entry : T) : Type 0 where
    pub table : p.seat.table_id ≡ l.table.shared.table_id
    pub its_project : p.seat.me.0.project ≡ Some (project_of project l)
    pub took : p.seat.me.0.hold ≡ Taken (log_of entry)
    pub slot : p.seat.me.1 ≡ (0, None) ∷ []
    pub same : project entry ≡ project_of project l

module _ {T P E S : Type 0} where
  -- what the last turn of a pass found, and its number of turns and those before the last, are as before
  pub record KeepsTurns (p q : Pass T P E S) : Type 0 where
    pub found_log : found_log q ≡ found_log p
    pub found_state : found_state q ≡ found_state p
    pub turns : turns_of q ≡ turns_of p
    pub earlier : earlier_of q ≡ earlier_of p

  -- the pass has found nothing yet
  pub record HasNoTurns (p : Pass T P E S) : Type 0 where
    pub found_log : found_log p ≡ None
    pub found_state : found_state p ≡ None
    pub turns : turns_of p ≡ 0
    pub earlier : earlier_of p ≡ []

  -- a pass keeps what it has seen and left, and its splits. Takes may be lost
  pub record KeepsHistory (p q : Pass T P E S) : Type 0 where
    pub seen : seen_by q ≡ seen_by p
    pub left : left_by q ≡ left_by p
    pub lost : lost_by p ≤ lost_by q
    pub splits : splits_of q ≡ splits_of p

module _ {T P E S : Type 0} (project : T → P) where
  -- a lost take: one more is counted, and the pass has seen, left and found what it had
  pub record LosesTake (l : TurnLock T P E S) (p q : Pass T P E S) : Type 0 where
    pub pass : IsPassOf project l q
    pub lost : lost_by q ≡ lost_by p + 1
    pub seen : seen_by q ≡ seen_by p
    pub left : left_by q ≡ left_by p
    pub splits : splits_of q ≡ splits_of p
    pub kept : KeepsTurns p q

module _ {T P E S : Type 0} (log_of : T → List E) (state_of : T → S) where
  -- one more turn is counted, it found the log and the state of this value, and what the pass knew of the one before is kept
  pub record HasFound (p q : Pass T P E S) (value : T) : Type 0 where
    pub log : found_log q ≡ Some (log_of value)
    pub state : found_state q ≡ Some (state_of value)
    pub turns : turns_of q ≡ turns_of p + 1
    pub earlier : earlier_of q ≡ earlier_of p ++ last_of p ∷ []

module _ {T P E S : Type 0} (project : T → P) (log_of : T → List E) (state_of : T → S) where
  -- The turn is of this lock and pass. The value has the lock's project, and a log that begins with what the pass had seen.
  -- The pass has found its log and its state, by one turn more
  pub record HasEntered (l : TurnLock T P E S) (p : Pass T P E S) (t : Turn T P E S) : Type 0 where
    pub lock : t.lock.now ≡ l
    pub turn : HasTurn project log_of l t.pass.now t.at_entry.value
    pub found : HasFound log_of state_of p t.pass.now t.value
    pub value : t.value ≡ t.at_entry.value
    pub its_project : project t.value ≡ project_of project l
    pub seen : IsPrefix (seen_by p) (log_of t.value)
    pub pass : KeepsHistory p t.pass.now

-- How a lock ended, by the last state of its table, which met the rule:
-- word 0 was 0, the value was at home, and word 1 was the length of its log; or word 0 was 1
pub record IsClosed {T P E S : Type 0} (project : T → P) (log_of : T → List E) (l : TurnLock T P E S) (r : Result T TurnOut) : Type 0 where
  pub last : State (Option T) (View P E S)
  pub ruled : MeetsRule project log_of l.table.shared.key.value last
  pub answer : MatchResult r
      (λ x. (slice_index last.words 0 ≡ 0) × (last.homes ≡ some (Some x) ∷ []) × (slice_index last.words 1 ≡ length (log_of x)))
      (λ _. slice_index last.words 0 ≡ 1)
