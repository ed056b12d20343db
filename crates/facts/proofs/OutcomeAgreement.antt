-- The outcomes of a file hang on the files of its closure alone.
use Rattle.std.proofs.Common.{ℕ, zero, suc, inl, inr, List, Contains, sym, subst}
use Rattle.facts.specs.Reach.{Reaches, here, on}
use Rattle.facts.specs.OutcomeAgreement.{AreAlike}
use Rattle.facts.specs.Outcome.{Outcome, IsBlockedBy, IsEnded, HasOutcome, is_nothing, is_blocked, is_refused, is_done}

pub alike_back : {K : Type 0} (fault other : ℕ → K → Type 0) (near far : ℕ → ℕ → List ℕ) (In : ℕ → Type 0) → AreAlike fault other near far In → AreAlike other fault far near In
alike_back fault other near far In a = record {
  there = a.back;
  back = a.there;
  needs = λ k q i. sym (a.needs k q i);
  within = λ k q r i c. a.within k q r i (subst (λ l. Contains l r) (sym (a.needs k q i)) c);
}

module _ {K : Type 0} (stage : K → ℕ) (order : K → K → Type 0) where
  reach_there : (fault other : ℕ → K → Type 0) (near far : ℕ → ℕ → List ℕ) (In : ℕ → Type 0) → AreAlike fault other near far In → (k p q : ℕ) → In p → Reaches (near k) p q → Reaches (far k) p q × In q
  reach_there fault other near far In a k p q i here = (here, i)
  reach_there fault other near far In a k p q i (on {b = b} r c) =
      let h = reach_there fault other near far In a k p b i r in
      (on h.0 (subst (λ l. Contains l q) (a.needs k b h.1) c), a.within k b q h.1 c)

  pub ended_there : (fault other : ℕ → K → Type 0) (near far : ℕ → ℕ → List ℕ) (In : ℕ → Type 0) → AreAlike fault other near far In → (k p : ℕ) → In p → IsEnded stage order fault near k p → IsEnded stage order other far k p
  ended_there fault other near far In a zero p i h = h
  ended_there fault other near far In a (suc k) p i h =
      elim h [
        | inl e ↦ inl (ended_there fault other near far In a k p i e)
        | inr w ↦ elim w [
          | inl b ↦ let r = reach_there fault other near far In a (suc k) p b.other i b.reached in
              inr (inl (record { other = b.other; reached = r.0; differs = b.differs; has_ended = ended_there fault other near far In a k b.other r.1 b.has_ended }))
          | inr f ↦ inr (inr (record { fault_of = f.fault_of; is = a.there p f.fault_of i f.is; at = f.at }))
        ]
      ]

  blocked_there : (fault other : ℕ → K → Type 0) (near far : ℕ → ℕ → List ℕ) (In : ℕ → Type 0) → AreAlike fault other near far In → (k p : ℕ) → In p
      → IsBlockedBy stage order fault near (IsEnded stage order fault near k) (suc k) p → IsBlockedBy stage order other far (IsEnded stage order other far k) (suc k) p
  blocked_there fault other near far In a k p i b =
      let r = reach_there fault other near far In a (suc k) p b.other i b.reached in
      record { other = b.other; reached = r.0; differs = b.differs; has_ended = ended_there fault other near far In a k b.other r.1 b.has_ended }

  module _ (fault other : ℕ → K → Type 0) (near far : ℕ → ℕ → List ℕ) (In : ℕ → Type 0) (a : AreAlike fault other near far In) where
    not_ended : (k p : ℕ) → In p → (IsEnded stage order fault near k p → ⊥) → IsEnded stage order other far k p → ⊥
    not_ended k p i n e = n (ended_there other fault far near In (alike_back fault other near far In a) k p i e)

    not_blocked : (k p : ℕ) → In p → (IsBlockedBy stage order fault near (IsEnded stage order fault near k) (suc k) p → ⊥) → IsBlockedBy stage order other far (IsEnded stage order other far k) (suc k) p → ⊥
    not_blocked k p i n e = n (blocked_there other fault far near In (alike_back fault other near far In a) k p i e)

    pub outcome_there : (k p : ℕ) (v : Outcome K) → In p → HasOutcome stage order fault near k p v → HasOutcome stage order other far k p v
    outcome_there k p _ i (is_nothing e) = is_nothing (ended_there fault other near far In a k p i e)
    outcome_there k p _ i (is_blocked n e) = is_blocked (not_ended k p i n) (blocked_there fault other near far In a k p i e)
    outcome_there k p _ i (is_refused {x = x} n m f) = is_refused (not_ended k p i n) (not_blocked k p i m) (record { is = a.there p x i f.is; at = f.at; least = λ y g s. f.least y (a.back p y i g) s })
    outcome_there k p _ i (is_done n m f) = is_done (not_ended k p i n) (not_blocked k p i m) (λ g. f (record { fault_of = g.fault_of; is = a.back p g.fault_of i g.is; at = g.at }))
