-- What each stage of a file comes to, where the stages follow one another and a fault hides those of later stages.
use Rattle.std.specs.Prelude.{◌≡◌, ◌≢◌, ℕ, zero, suc, ◌⊎◌, List, Contains}
use Rattle.facts.specs.Reach.{Cover, Reaches}

-- Nothing comes of a stage where the file ended at an earlier one.
pub data Outcome (K : Type 0) : Type 0 where
  Done : Outcome K
  Refused : K → Outcome K
  Blocked : Outcome K
  Nothing : Outcome K

-- `fault` are the faults of each file, `needs k` leads to the files that stage k needs, `order` is that of the faults of one stage.
module _ {K : Type 0} (stage : K → ℕ) (order : K → K → Type 0) (fault : ℕ → K → Type 0) (needs : ℕ → ℕ → List ℕ) where
  -- another file that stage k needs has ended
  pub record IsBlockedBy (ended : ℕ → Type 0) (k p : ℕ) : Type 0 where
    pub other : ℕ
    pub reached : Reaches (needs k) p other
    pub differs : other ≢ p
    pub has_ended : ended other

  -- the file has a fault of this stage
  pub record HasFaultOf (k p : ℕ) : Type 0 where
    pub fault_of : K
    pub is : fault p fault_of
    pub at : stage fault_of ≡ k

  -- refused or blocked at a stage up to k
  abbrev pub IsEnded : ℕ → ℕ → Type 0
  IsEnded zero p = ⊥
  IsEnded (suc k) p = IsEnded k p ⊎ (IsBlockedBy (IsEnded k) (suc k) p ⊎ HasFaultOf (suc k) p)

  -- its first fault of this stage
  pub record IsFirst (k p : ℕ) (x : K) : Type 0 where
    pub is : fault p x
    pub at : stage x ≡ k
    pub least : (y : K) → fault p y → stage y ≡ k → order x y

  -- the outcome of stage k + 1
  pub data HasOutcome (k p : ℕ) : Outcome K → Type 0 where
    is_nothing : IsEnded k p → HasOutcome k p Nothing
    is_blocked : (IsEnded k p → ⊥) → IsBlockedBy (IsEnded k) (suc k) p → HasOutcome k p Blocked
    is_refused : {x : K} → (IsEnded k p → ⊥) → (IsBlockedBy (IsEnded k) (suc k) p → ⊥) → IsFirst (suc k) p x → HasOutcome k p (Refused x)
    is_done : (IsEnded k p → ⊥) → (IsBlockedBy (IsEnded k) (suc k) p → ⊥) → (HasFaultOf (suc k) p → ⊥) → HasOutcome k p Done

  -- a file that is reached by these links is refused at one of its stages
  pub record HasRefusedFile (links : ℕ → List ℕ) (p : ℕ) : Type 0 where
    pub file : ℕ
    pub reached : Reaches links p file
    pub at : ℕ
    pub fault_of : K
    pub is : HasOutcome at file (Refused fault_of)

  -- Needs lead to finitely many files, each has finitely many faults, and these are in a total order.
  pub record IsFinite : Type 0 where
    pub covers : (k p : ℕ) → Cover (needs k) p
    pub list : ℕ → List K
    pub sound : (p : ℕ) (x : K) → Contains (list p) x → fault p x
    pub complete : (p : ℕ) (x : K) → fault p x → Contains (list p) x
    pub total : (x y : K) → order x y ⊎ order y x
    pub trans : (x y z : K) → order x y → order y z → order x z
