-- A log has at most eleven entries for each file.
use Rattle.std.proofs.Common.{◌≡◌, ℕ, zero, suc, ◌+◌, ◌*◌, ◌<◌, ◌≤◌, inl, inr, Bool, false, ◌||◌, cond, eqb, leb, List, [], ◌∷◌, ◌++◌, length, refl, sym, ap, ◌∙◌, subst, arith, append-nil, length-append}
use Rattle.std.proofs.lemmas.Bool.Decides.{nat_tests, eqb_tells}
use Rattle.std.proofs.lemmas.List.Folds.{list_any-append}
use Rattle.stage_core.specs.declared.work.StageOut.{Ghosts}
use Rattle.stage_core.specs.Log.{Entry, Request, Claim, Publish}
use Rattle.stage_core.specs.Machine.{outcomes, is_requested, is_claimed, is_claim_of, MayFollow, IsLegal, empty, grows}
use Rattle.stage_core.proofs.Grow.{added, outcomes-push}
use Rattle.stage_core.proofs.Legal.{Laws, requested-push, five_at_most, known_in}

one : Bool → ℕ
one b = cond b 1 0

module _ {O : Type 0} where
  claims : ℕ → List (Entry O) → ℕ → ℕ
  claims zero log file = 0
  claims (suc k) log file = claims k log file + one (is_claimed log file (suc k))

  claimed-push : (log : List (Entry O)) (e : Entry O) (file stage : ℕ) → is_claimed (log ++ e ∷ []) file stage ≡ (is_claimed log file stage || is_claim_of file stage e)
  unfolding is_claimed
  claimed-push log e file stage = grind (arith, list_any-append (is_claim_of file stage) log (e ∷ []))

  claims_few : (k : ℕ) (log : List (Entry O)) (file : ℕ) → claims k log file ≤ k
  unfolding claims one
  claims_few zero log file = omega arith
  claims_few (suc k) log file = grind (arith, claims_few k log file)

  claims_same : (k : ℕ) (log : List (Entry O)) (e : Entry O) (file : ℕ) → ((j : ℕ) → is_claim_of file j e ≡ false) → claims k (log ++ e ∷ []) file ≡ claims k log file
  unfolding claims
  claims_same zero log e file none = refl
  claims_same (suc k) log e file none = grind (arith, claims_same k log e file none, claimed-push log e file (suc k), none (suc k))

  claims_more : (m : ℕ) (log : List (Entry O)) (f k : ℕ) → 1 ≤ k → is_claimed log f k ≡ false → claims m (log ++ Claim f k ∷ []) f ≡ claims m log f + one (leb k m)
  unfolding claims one
  claims_more zero log f k h new = grind (arith, nat_tests)
  claims_more (suc m) log f k h new =
      elim (eqb_tells k (suc m)) [
        | inl w ↦ grind (arith, nat_tests, claims_more m log f k h new, claimed-push log (Claim f k) f (suc m), subst (λ z. is_claimed log f z ≡ false) w.1 new)
        | inr w ↦ grind (arith, nat_tests, claims_more m log f k h new, claimed-push log (Claim f k) f (suc m))
      ]

  weight : List (Entry O) → ℕ → ℕ
  weight log file = one (is_requested log file) + claims 5 log file + length (outcomes log file)

  total : ℕ → List (Entry O) → ℕ
  total zero log = 0
  total (suc n) log = total n log + weight log n

  file_of : Entry O → ℕ
  file_of (Request f) = f
  file_of (Claim f k) = f
  file_of (Publish f k o) = f

  total_past : (n : ℕ) (log more : List (Entry O)) (f : ℕ) → n ≤ f → ((h : ℕ) → weight more h ≡ weight log h + one (eqb h f)) → total n more ≡ total n log
  unfolding total one
  total_past zero log more f l step = refl
  total_past (suc n) log more f l step = grind (arith, nat_tests, total_past n log more f (omega arith) step, step n)

  total_more : (n : ℕ) (log more : List (Entry O)) (f : ℕ) → f < n → ((h : ℕ) → weight more h ≡ weight log h + one (eqb h f)) → total n more ≡ total n log + 1
  unfolding total one
  total_more zero log more f l step = absurd (omega arith)
  total_more (suc n) log more f l step =
      elim (eqb_tells n f) [
        | inl w ↦ grind (arith, nat_tests, total_past n log more f (omega arith) step, step n)
        | inr w ↦ grind (arith, nat_tests, total_more n log more f (omega arith) step, step n)
      ]

module _ {O P : Type 0} (g : Ghosts O P) (project : P) where
  weight-push : (log : List (Entry O)) (e : Entry O) → MayFollow g project log e → (h : ℕ) → weight (log ++ e ∷ []) h ≡ weight log h + one (eqb h (file_of e))
  unfolding weight one file_of
  weight-push log (Request f) m h =
      let same = outcomes-push log (Request f) h ∙ append-nil (outcomes log h) in
      let claims' = claims_same 5 log (Request f) h (λ j. refl) in
      elim (eqb_tells f h) [
        | inl w ↦ grind (arith, nat_tests, requested-push g project log (Request f) h, claims', ap length same, subst (λ z. is_requested log z ≡ false) w.1 m.1)
        | inr w ↦ grind (arith, nat_tests, requested-push g project log (Request f) h, claims', ap length same)
      ]
  weight-push log (Claim f k) m h =
      let same = outcomes-push log (Claim f k) h ∙ append-nil (outcomes log h) in
      elim (eqb_tells f h) [
        | inl w ↦ subst (λ z. one (is_requested (log ++ Claim f k ∷ []) z) + claims 5 (log ++ Claim f k ∷ []) z + length (outcomes (log ++ Claim f k ∷ []) z) ≡ one (is_requested log z) + claims 5 log z + length (outcomes log z) + one (eqb z f)) w.1
            (grind (arith, nat_tests, requested-push g project log (Claim f k) f, claims_more 5 log f k m.0.from_one m.1, m.0.to_five, ap length (outcomes-push log (Claim f k) f ∙ append-nil (outcomes log f))))
        | inr w ↦ grind (arith, nat_tests, requested-push g project log (Claim f k) h, claims_same 5 log (Claim f k) h (λ j. rw w.0 refl), ap length same)
      ]
  weight-push log (Publish f k o) m h =
      let claims' = claims_same 5 log (Publish f k o) h (λ j. refl) in
      elim (eqb_tells f h) [
        | inl w ↦ grind (arith, nat_tests, requested-push g project log (Publish f k o) h, claims', ap length (outcomes-push log (Publish f k o) h), length-append (outcomes log h) (added h (Publish f k o)), w.0)
        | inr w ↦ grind (arith, nat_tests, requested-push g project log (Publish f k o) h, claims', ap length (outcomes-push log (Publish f k o) h), length-append (outcomes log h) (added h (Publish f k o)), w.0)
      ]

  module _ (laws : Laws g) where
    file_in : (log : List (Entry O)) (e : Entry O) → IsLegal g project log → MayFollow g project log e → file_of e < g.files project
    unfolding file_of
    file_in log (Request f) l m = m.0
    file_in log (Claim f k) l m = known_in g project laws log l f m.0.known
    file_in log (Publish f k o) l m = known_in g project laws log l f m.0.known

    zero_total : (n : ℕ) → total {O = O} n [] ≡ 0
    unfolding total weight one claims is_requested is_claimed outcomes
    zero_total zero = refl
    zero_total (suc n) = grind (arith, zero_total n)

    lengths : (log : List (Entry O)) → IsLegal g project log → length log ≡ total (g.files project) log
    lengths log empty = sym (zero_total (g.files project))
    lengths log (grows old e l m) = omega (arith, length-append old (e ∷ []), lengths old l, total_more (g.files project) old (old ++ e ∷ []) (file_of e) (file_in old e l m) (weight-push old e m))

    total_few : (n : ℕ) (log : List (Entry O)) → IsLegal g project log → total n log ≤ 11 * n
    unfolding total weight one
    total_few zero log l = omega arith
    total_few (suc n) log l = grind (arith, total_few n log l, claims_few 5 log n, five_at_most g project log l n)

    -- there is room for one more
    pub room : (log : List (Entry O)) (e : Entry O) → IsLegal g project log → MayFollow g project log e → length log < 11 * g.files project
    room log e l m =
        omega (arith, length-append log (e ∷ []), lengths (log ++ e ∷ []) (grows log e l m), total_few (g.files project) (log ++ e ∷ []) (grows log e l m))

    pub few : (log : List (Entry O)) → IsLegal g project log → length log ≤ 11 * g.files project
    few log l = omega (arith, lengths log l, total_few (g.files project) log l)
