-- Each stage of a file has one outcome.
use Rattle.std.proofs.Common.{◌≡◌, ◌≢◌, ℕ, zero, suc, ◌⊎◌, inl, inr, List, [], ◌∷◌, Contains, refl, sym, ap, subst}
use Rattle.std.proofs.lemmas.Bool.Decides.{eqb_tells}
use Rattle.facts.specs.Reach.{Reaches, here, on}
use Rattle.facts.specs.Outcome.{Outcome, Done, Refused, Blocked, Nothing, IsBlockedBy, HasFaultOf, IsEnded, IsFirst, HasOutcome, HasRefusedFile, IsFinite, is_nothing, is_blocked, is_refused, is_done}
use Rattle.facts.proofs.Decision.{cons_here, cons_there, cons_cases, none_in}

pub reaches_joins : (next : ℕ → List ℕ) (a b c : ℕ) → Reaches next a b → Reaches next b c → Reaches next a c
reaches_joins next a b c r here = r
reaches_joins next a b c r (on s h) = on (reaches_joins next a _ _ r s) h

-- what has it first, or that none has it
pub data Any {A : Type 0} (P : A → Type 0) (xs : List A) : Type 0 where
  some : {x : A} → Contains xs x → P x → Any P xs
  not_one : ((x : A) → Contains xs x → P x → ⊥) → Any P xs

pub any_or : {A : Type 0} (P : A → Type 0) → ((x : A) → P x ⊎ (P x → ⊥)) → (xs : List A) → Any P xs
any_or P d [] = Any.not_one (λ x c h. none_in x c)
any_or P d (x ∷ xs) =
    elim (d x) [
      | inl h ↦ Any.some (cons_here x xs) h
      | inr n ↦ elim (any_or P d xs) [
        | Any.some {x = y} c h ↦ Any.some (cons_there x y xs c) h
        | Any.not_one m ↦ Any.not_one (λ y c h. elim (cons_cases x y xs c) [ inl e ↦ n (subst P (sym e) h) | inr k ↦ m y k h ])
      ]
    ]

module _ {K : Type 0} (stage : K → ℕ) (order : K → K → Type 0) (fault : ℕ → K → Type 0) (near : ℕ → ℕ → List ℕ) where
  abbrev BlockedAt : ℕ → ℕ → Type 0
  BlockedAt k p = IsBlockedBy stage order fault near (IsEnded stage order fault near k) (suc k) p

  -- one outcome at most
  pub only_outcome : ((x y : K) → order x y → order y x → x ≡ y) → (k p : ℕ) (v w : Outcome K) → HasOutcome stage order fault near k p v → HasOutcome stage order fault near k p w → v ≡ w
  only_outcome anti k p v w (is_nothing a) (is_nothing b) = refl
  only_outcome anti k p v w (is_nothing a) (is_blocked b c) = absurd (b a)
  only_outcome anti k p v w (is_nothing a) (is_refused b c d) = absurd (b a)
  only_outcome anti k p v w (is_nothing a) (is_done b c d) = absurd (b a)
  only_outcome anti k p v w (is_blocked a e) (is_nothing b) = absurd (a b)
  only_outcome anti k p v w (is_blocked a e) (is_blocked b c) = refl
  only_outcome anti k p v w (is_blocked a e) (is_refused b c d) = absurd (c e)
  only_outcome anti k p v w (is_blocked a e) (is_done b c d) = absurd (c e)
  only_outcome anti k p v w (is_refused a e f) (is_nothing b) = absurd (a b)
  only_outcome anti k p v w (is_refused a e f) (is_blocked b c) = absurd (e c)
  only_outcome anti k p v w (is_refused {x = x} a e f) (is_refused {x = y} b c d) = ap Refused (anti x y (f.least y d.is d.at) (d.least x f.is f.at))
  only_outcome anti k p v w (is_refused {x = x} a e f) (is_done b c d) = absurd (d (record { fault_of = x; is = f.is; at = f.at }))
  only_outcome anti k p v w (is_done a e f) (is_nothing b) = absurd (a b)
  only_outcome anti k p v w (is_done a e f) (is_blocked b c) = absurd (e c)
  only_outcome anti k p v w (is_done a e f) (is_refused {x = x} b c d) = absurd (f (record { fault_of = x; is = d.is; at = d.at }))
  only_outcome anti k p v w (is_done a e f) (is_done b c d) = refl

  module _ (finite : IsFinite stage order fault near) where
    stage_is : (k : ℕ) (x : K) → (stage x ≡ k) ⊎ (stage x ≡ k → ⊥)
    stage_is k x = elim (eqb_tells (stage x) k) [ inl w ↦ inl w.1 | inr w ↦ inr w.1 ]

    same : (x : K) → order x x
    same x = elim (finite.total x x) [ inl o ↦ o | inr o ↦ o ]

    data Least (k : ℕ) (xs : List K) : Type 0 where
      least : {x : K} → Contains xs x → stage x ≡ k → ((y : K) → Contains xs y → stage y ≡ k → order x y) → Least k xs
      no_one : ((y : K) → Contains xs y → stage y ≡ k → ⊥) → Least k xs

    least_of : (k : ℕ) (xs : List K) → Least k xs
    least_of k [] = Least.no_one (λ y c e. none_in y c)
    least_of k (x ∷ xs) =
        elim (least_of k xs) [
          | Least.no_one n ↦ elim (stage_is k x) [
            | inl e ↦ Least.least (cons_here x xs) e (λ y c s. elim (cons_cases x y xs c) [ inl f ↦ subst (λ z. order x z) f (same x) | inr d ↦ absurd (n y d s) ])
            | inr u ↦ Least.no_one (λ y c s. elim (cons_cases x y xs c) [ inl f ↦ u (subst (λ z. stage z ≡ k) (sym f) s) | inr d ↦ n y d s ])
          ]
          | Least.least {x = m} c e l ↦ elim (stage_is k x) [
            | inr u ↦ Least.least (cons_there x m xs c) e (λ y i s. elim (cons_cases x y xs i) [ inl f ↦ absurd (u (subst (λ z. stage z ≡ k) (sym f) s)) | inr d ↦ l y d s ])
            | inl w ↦ elim (finite.total x m) [
              | inl o ↦ Least.least (cons_here x xs) w (λ y i s. elim (cons_cases x y xs i) [ inl f ↦ subst (λ z. order x z) f (same x) | inr d ↦ finite.trans x m y o (l y d s) ])
              | inr o ↦ Least.least (cons_there x m xs c) e (λ y i s. elim (cons_cases x y xs i) [ inl f ↦ subst (λ z. order m z) f o | inr d ↦ l y d s ])
            ]
          ]
        ]

    fault_or : (k p : ℕ) → ((x : K) × IsFirst stage order fault near k p x) ⊎ (HasFaultOf stage order fault near k p → ⊥)
    fault_or k p =
        elim (least_of k (finite.list p)) [
          | Least.no_one n ↦ inr (λ h. n h.fault_of (finite.complete p h.fault_of h.is) h.at)
          | Least.least {x = x} c e l ↦ inl (x, record { is = finite.sound p x c; at = e; least = λ y f s. l y (finite.complete p y f) s })
        ]

    blocked_or : (k p : ℕ) → ((q : ℕ) → IsEnded stage order fault near k q ⊎ (IsEnded stage order fault near k q → ⊥)) → BlockedAt k p ⊎ (BlockedAt k p → ⊥)
    blocked_or k p d =
        let cover = finite.covers (suc k) p in
        elim (any_or (λ q. (q ≢ p) × IsEnded stage order fault near k q) (λ q. elim (eqb_tells q p) [
          | inl w ↦ inr (λ h. h.0 w.1)
          | inr w ↦ elim (d q) [ inl e ↦ inl (w.1, e) | inr n ↦ inr (λ h. n h.1) ]
        ]) cover.files) [
          | Any.some {x = q} c h ↦ inl (record { other = q; reached = cover.sound q c; differs = h.0; has_ended = h.1 })
          | Any.not_one n ↦ inr (λ b. n b.other (cover.complete b.other b.reached) (b.differs, b.has_ended))
        ]

    pub ended_or : (k p : ℕ) → IsEnded stage order fault near k p ⊎ (IsEnded stage order fault near k p → ⊥)
    ended_or zero p = inr (λ h. h)
    ended_or (suc k) p =
        elim (ended_or k p) [
          | inl e ↦ inl (inl e)
          | inr n ↦ elim (blocked_or k p (ended_or k)) [
            | inl b ↦ inl (inr (inl b))
            | inr m ↦ elim (fault_or (suc k) p) [
              | inl f ↦ inl (inr (inr (record { fault_of = f.0; is = f.1.is; at = f.1.at })))
              | inr l ↦ inr (λ h. elim h [ inl e ↦ n e | inr w ↦ elim w [ inl b ↦ m b | inr f ↦ l f ] ])
            ]
          ]
        ]

    pub outcome : (k p : ℕ) → (v : Outcome K) × HasOutcome stage order fault near k p v
    outcome k p =
        elim (ended_or k p) [
          | inl e ↦ (Nothing, is_nothing e)
          | inr n ↦ elim (blocked_or k p (ended_or k)) [
            | inl b ↦ (Blocked, is_blocked n b)
            | inr m ↦ elim (fault_or (suc k) p) [
              | inl f ↦ (Refused f.0, is_refused n m f.1)
              | inr l ↦ (Done, is_done n m l)
            ]
          ]
        ]

    -- where a file has ended, a file that it reaches is refused
    pub ended_refused : (links : ℕ → List ℕ) → ((k p q : ℕ) → Reaches (near k) p q → Reaches links p q) → (k p : ℕ) → IsEnded stage order fault near k p → HasRefusedFile stage order fault near links p
    ended_refused links inside zero p h = absurd h
    ended_refused links inside (suc k) p h =
        elim (ended_or k p) [
          | inl e ↦ ended_refused links inside k p e
          | inr n ↦ elim (blocked_or k p (ended_or k)) [
            | inl b ↦ let r = ended_refused links inside k b.other b.has_ended in record { file = r.file; reached = reaches_joins links p b.other r.file (inside (suc k) p b.other b.reached) r.reached; at = r.at; fault_of = r.fault_of; is = r.is }
            | inr m ↦ elim (fault_or (suc k) p) [
              | inl f ↦ record { file = p; reached = here; at = k; fault_of = f.0; is = is_refused n m f.1 }
              | inr l ↦ elim h [ inl e ↦ absurd (n e) | inr w ↦ elim w [ inl b ↦ absurd (m b) | inr f ↦ absurd (l f) ] ]
            ]
          ]
        ]
