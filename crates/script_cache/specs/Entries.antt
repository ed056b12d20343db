-- What the entries of a cache leave to their passes.
use Rattle.std.specs.Prelude.{◌≡◌, ℕ, ◌+◌, ◌≤◌, ◌⊎◌, true, List, [], ◌∷◌, ◌++◌, length, Some}
use mathlib.Core.List.{IsPrefix}
use Rattle.stage_core.specs.declared.work.StageOut.{Ghosts}
use Rattle.stage_core.specs.Begins.{Begins}
use Rattle.stage_core.specs.CoreState.{Task}
use Rattle.stage_core.specs.Log.{State, Event, Requests, Claims, Publishes, GivesBack}
use Rattle.stage_core.specs.declared.log.Entry.{Entry}
use Rattle.stage_core.specs.declared.log.OutcomeValue.{OutcomeValue}
use Rattle.stage_core.specs.Machine.{run, outcomes, is_claimed, is_done_at, is_requested, IsKnown, IsReady, HoldsValue}
use Rattle.turn_lock.specs.declared.lock.Pass.{Pass}
use Rattle.turn_lock.specs.declared.lock.TurnLock.{TurnLock}
use Rattle.turn_lock.specs.Passes.{IsPassOf, LosesTake, seen_by, left_by, found_log, found_state, turns_of, earlier_of, last_of, lost_by, splits_of}
use Rattle.script_cache.specs.Files.{IsFileAt}
use Rattle.script_cache.specs.declared.shared_core.SharedCore.{SharedCore}

module _ {O P : Type 0} where
  -- the pass is of this lock, and of its project, and holds no turn
  abbrev pub IsCachePass : TurnLock (SharedCore O P) P (Entry O) (List ℕ) → Pass (SharedCore O P) P (Entry O) (List ℕ) → Type 0
  IsCachePass l p = IsPassOf (λ (s : SharedCore O P). s.core.state.project) l p

  -- another pass held the turn: one more take is lost, no turn is taken, and the pass has seen, left and found what it had
  abbrev pub IsHeldOut : TurnLock (SharedCore O P) P (Entry O) (List ℕ) → Pass (SharedCore O P) P (Entry O) (List ℕ) → Pass (SharedCore O P) P (Entry O) (List ℕ) → Type 0
  IsHeldOut l p q = LosesTake (λ (s : SharedCore O P). s.core.state.project) l p q

  -- the task is of this project, and the pass has seen the log that stood when it was claimed
  pub record IsTaskOfPass (project : P) (task : Task P O) (p : Pass (SharedCore O P) P (Entry O) (List ℕ)) : Type 0 where
    pub its_project : task.project ≡ project
    pub seen : Begins task.log (seen_by p)

  -- Exactly one turn: it found the first core, of the project and with a log that begins with what the pass had seen, and left the
  -- second one. So the pass has then seen that core's log, and left its tasks under way
  pub record IsTurn (project : P) (found left : State P O) (p q : Pass (SharedCore O P) P (Entry O) (List ℕ)) : Type 0 where
    pub turns : turns_of q ≡ turns_of p + 1
    pub found_log : found_log q ≡ Some found.log
    pub found_tasks : found_state q ≡ Some found.in_progress
    pub its_project : found.project ≡ project
    pub begins : IsPrefix (seen_by p) found.log
    pub log : seen_by q ≡ left.log
    pub in_progress : left_by q ≡ Some left.in_progress
    pub lost : lost_by p ≤ lost_by q
    pub splits : splits_of q ≡ splits_of p
    -- what the pass knew before is kept, so that each of several turns in a row is told
    pub earlier : earlier_of q ≡ earlier_of p ++ last_of p ∷ []

  -- one entry: one turn, which made exactly these events on the core that it found
  abbrev pub IsEntry : P → State P O → List (Event O) → Pass (SharedCore O P) P (Entry O) (List ℕ) → Pass (SharedCore O P) P (Entry O) (List ℕ) → Type 0
  IsEntry project found events p q = IsTurn project found (run found events) p q

  -- one entry made these events. With no events it changed nothing: the pass has seen and left what it found
  pub record HasMade (project : P) (events : List (Event O)) (p q : Pass (SharedCore O P) P (Entry O) (List ℕ)) : Type 0 where
    pub found : State P O
    pub entry : IsEntry project found events p q

-- each known file is finished in the log
abbrev pub AreAllDone : {O P : Type 0} → Ghosts O P → List (Entry O) → Type 0
AreAllDone g log = (file : ℕ) → IsKnown g log file → is_done_at (outcomes log file) 5 ≡ true

-- by the log that the pass has seen and the tasks under way that it has left, the task is ready again, or its stage is in the log
pub record IsBack {O P : Type 0} (g : Ghosts O P) (file stage : ℕ) (q : Pass (SharedCore O P) P (Entry O) (List ℕ)) : Type 0 where
  pub in_progress : List ℕ
  pub left : left_by q ≡ Some in_progress
  pub stands : IsReady g (seen_by q) in_progress file stage ⊎ (stage ≤ length (outcomes (seen_by q) file))

module _ {O P : Type 0} (g : Ghosts O P) (project : P) where
  -- one entry requested the path's file, and the log has the request
  pub record HasRequested (path : List ℕ) (p q : Pass (SharedCore O P) P (Entry O) (List ℕ)) : Type 0 where
    pub file : ℕ
    pub at : IsFileAt g project path file
    pub made : HasMade project (Requests file ∷ []) p q
    pub logged : is_requested (seen_by q) file ≡ true

  -- one entry claimed the task, which was ready, and then made these events
  pub record HasClaimed (file stage : ℕ) (events : List (Event O)) (p q : Pass (SharedCore O P) P (Entry O) (List ℕ)) : Type 0 where
    pub found : State P O
    pub ready : IsReady g found.log found.in_progress file stage
    pub entry : IsEntry project found (Claims file stage ∷ events) p q

  -- one entry changed nothing, and found each known file finished
  pub record FindsAllDone (p q : Pass (SharedCore O P) P (Entry O) (List ℕ)) : Type 0 where
    pub found : State P O
    pub all_done : AreAllDone g found.log
    pub entry : IsEntry project found [] p q

  -- one entry changed nothing, and found no task ready, though not each known file is finished
  pub record FindsNothing (p q : Pass (SharedCore O P) P (Entry O) (List ℕ)) : Type 0 where
    pub found : State P O
    pub none_ready : (file stage : ℕ) → IsReady g found.log found.in_progress file stage → ⊥
    pub unfinished : AreAllDone g found.log → ⊥
    pub entry : IsEntry project found [] p q

  -- One entry claimed a task that was ready, and gave it back. By the log that the pass has then seen and the tasks under way
  -- that it has left, the task is ready again, and its first claim is in that log
  pub record HasGivenBack (p q : Pass (SharedCore O P) P (Entry O) (List ℕ)) : Type 0 where
    pub file : ℕ
    pub stage : ℕ
    pub claimed : HasClaimed file stage (GivesBack file stage ∷ []) p q
    pub logged : is_claimed (seen_by q) file stage ≡ true
    pub in_progress : List ℕ
    pub left : left_by q ≡ Some in_progress
    pub ready_again : IsReady g (seen_by q) in_progress file stage

  -- one entry claimed the task, and a second one published its value: two turns
  pub record HasRaised (file stage : ℕ) (p q : Pass (SharedCore O P) P (Entry O) (List ℕ)) : Type 0 where
    pub between : Pass (SharedCore O P) P (Entry O) (List ℕ)
    pub claimed : HasClaimed file stage [] p between
    pub outcome : OutcomeValue O
    pub value : HoldsValue g project file stage outcome
    pub published : HasMade project (Publishes file stage outcome ∷ []) between q

  -- One entry claimed a task, and a second one gave it back: two turns. The task's first claim is in the log that the pass has then seen
  pub record HasRetried (p q : Pass (SharedCore O P) P (Entry O) (List ℕ)) : Type 0 where
    pub between : Pass (SharedCore O P) P (Entry O) (List ℕ)
    pub file : ℕ
    pub stage : ℕ
    pub claimed : HasClaimed file stage [] p between
    pub given_back : HasMade project (GivesBack file stage ∷ []) between q
    pub logged : is_claimed (seen_by q) file stage ≡ true
    pub back : IsBack g file stage q
