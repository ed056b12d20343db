-- What is held up has no fact, where each entry is held up for a reason of its own.
use Rattle.std.proofs.Common.{◌≡◌, sym, subst}
use Rattle.facts.specs.Facts.{Rule, Rules, Derives, gives, gets, IsUnresolved, FailsWith, Requires, IsHeldUp}
use Rattle.facts.proofs.Derivations.{only_runs, fails_gives}

module _ {N : Type 0} {F : N → Type 0} {K : Type 0} (rules : Rules F K) (Entry : N → Type 0) where
  -- a reason of the node's own
  pub data Reason (n : N) : Type 0 where
    ends : {x : K} → FailsWith rules (rules.rule n) x → Reason n
    waits : {m : N} → Requires rules (rules.rule n) m → IsHeldUp rules Entry m → Reason n

  module _ (reasons : (n : N) → Entry n → Reason n) where
    reason : (n : N) → IsHeldUp rules Entry n → Reason n
    reason n (IsHeldUp.entry e) = reasons n e
    reason n (IsHeldUp.ends e) = Reason.ends e
    reason n (IsHeldUp.waits a o) = Reason.waits a o

    never : (n : N) (r : Rule F K (F n)) (f : F n) → Derives rules n r f → (m : N) → Requires rules r m → IsHeldUp rules Entry m → ⊥
    never n _ f gives m a o = elim a [ ]
    never n _ f (gets {g = g} x y) m Requires.now o =
        elim (reason m o) [
          | Reason.ends e ↦ fails_gives rules m _ _ g e x
          | Reason.waits {m = p} a q ↦ never m _ g x p a q
        ]
    never n _ f (gets {m = b} {k = k} {g = g} x y) m (Requires.later {g = h} w z) o =
        let e : g ≡ h = only_runs rules b _ g h x w in
        never n _ f y m (subst (λ c. Requires rules (k c) m) (sym e) z) o

    pub open_unresolved : (n : N) → IsHeldUp rules Entry n → IsUnresolved rules n
    open_unresolved n o f h =
        elim (reason n o) [
          | Reason.ends e ↦ fails_gives rules n _ _ f e h
          | Reason.waits {m = p} a q ↦ never n _ f h p a q
        ]

-- with other entries
pub open_weaker : {N : Type 0} {F : N → Type 0} {K : Type 0} (rules : Rules F K) (A B : N → Type 0) → ((n : N) → A n → B n) → (n : N) → IsHeldUp rules A n → IsHeldUp rules B n
open_weaker rules A B h n (IsHeldUp.entry e) = IsHeldUp.entry (h n e)
open_weaker rules A B h n (IsHeldUp.ends e) = IsHeldUp.ends e
open_weaker rules A B h n (IsHeldUp.waits {m = m} a o) = IsHeldUp.waits a (open_weaker rules A B h m o)
