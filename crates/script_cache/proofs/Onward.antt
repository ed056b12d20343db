-- No status goes back as a log grows.
use Rattle.std.proofs.Common.{◌≡◌, ◌∙◌, ℕ, zero, suc, ◌<◌, ◌≤◌, inl, inr, true, false, nat_lt, List, [], ◌∷◌, ◌++◌, length, filter, refl, sym, ap, subst, arith, length-append}
use Rattle.std.proofs.lemmas.Bool.Decides.{nat_tests, eqb_tells}
use Rattle.std.proofs.lemmas.List.Elements.{filter-append}
use Rattle.stage_core.specs.declared.log.Entry.{Entry}
use Rattle.stage_core.specs.declared.log.OutcomeValue.{OutcomeValue}
use Rattle.stage_core.specs.declared.log.OutcomeValue.TheVariants.{Value, Fault, Block}
use Rattle.stage_core.specs.declared.status.RefStatus.TheVariants.{Compiled}
use Rattle.stage_core.specs.Begins.{Begins}
use Rattle.stage_core.specs.Machine.{outcomes, is_final}
use Rattle.stage_core.specs.Status.{stage_status, final_or, status_of}
use Rattle.stage_core.proofs.Grow.{outcomes_begin}
use Rattle.script_cache.specs.Statuses.{rank, HasNotGoneBack}

small : (m : ℕ) → m < 5 → rank (stage_status m) ≡ m
small zero l = refl
small (suc zero) l = refl
small (suc (suc zero)) l = refl
small (suc (suc (suc zero))) l = refl
small (suc (suc (suc (suc zero)))) l = refl
small (suc (suc (suc (suc (suc m))))) l = absurd (omega arith)

large : (m : ℕ) → 5 ≤ m → stage_status m ≡ Compiled
large zero l = absurd (omega arith)
large (suc zero) l = absurd (omega arith)
large (suc (suc zero)) l = absurd (omega arith)
large (suc (suc (suc zero))) l = absurd (omega arith)
large (suc (suc (suc (suc zero)))) l = absurd (omega arith)
large (suc (suc (suc (suc (suc m))))) l = refl

stages : (m n : ℕ) → m ≤ n → HasNotGoneBack (stage_status m) (stage_status n)
stages m n l =
    elim (nat_lt m 5) as (λ b. nat_lt m 5 ≡ b → HasNotGoneBack (stage_status m) (stage_status n)) [
      | true ↦ λ e.
          let below : m < 5 = grind (arith, nat_tests) in
          elim (nat_lt n 5) as (λ b. nat_lt n 5 ≡ b → HasNotGoneBack (stage_status m) (stage_status n)) [
            | true ↦ λ h.
                let n_below : n < 5 = grind (arith, nat_tests) in
                elim (eqb_tells m n) [
                  | inl w ↦ inl (ap stage_status (sym w.1))
                  | inr w ↦ let differs : m < n = grind (arith, nat_tests) in inr (omega (arith, small m below, small n n_below))
                ]
            | false ↦ λ h.
                let high : 5 ≤ n = grind (arith, nat_tests) in
                inr (omega (arith, small m below, ap rank (large n high)))
          ] refl
      | false ↦ λ e.
          let high : 5 ≤ m = grind (arith, nat_tests) in
          inl (large n (omega arith) ∙ sym (large m high))
    ] refl

not_final : (m : ℕ) → rank (stage_status m) < 6
not_final zero = omega arith
not_final (suc zero) = omega arith
not_final (suc (suc zero)) = omega arith
not_final (suc (suc (suc zero))) = omega arith
not_final (suc (suc (suc (suc zero)))) = omega arith
not_final (suc (suc (suc (suc (suc m))))) = omega arith

module _ {O : Type 0} where
  from_stage : (later : List (OutcomeValue O)) (m n : ℕ) → m ≤ n → HasNotGoneBack (stage_status m) (final_or later n)
  from_stage [] m n l = stages m n l
  from_stage (Value x ∷ later) m n l = stages m n l
  from_stage (Fault fault ∷ later) m n l = inr (not_final m)
  from_stage (Block ∷ later) m n l = inr (not_final m)

  by_finals : (finals later : List (OutcomeValue O)) (m n : ℕ) → m ≤ n → HasNotGoneBack (final_or finals m) (final_or (finals ++ later) n)
  by_finals [] later m n l = from_stage later m n l
  by_finals (Value x ∷ finals) later m n l = stages m n l
  by_finals (Fault fault ∷ finals) later m n l = inl refl
  by_finals (Block ∷ finals) later m n l = inl refl

  status_onward : (os more : List (OutcomeValue O)) → HasNotGoneBack (status_of os) (status_of (os ++ more))
  unfolding status_of
  status_onward os more = rw filter-append (by_finals (filter is_final os) (filter is_final more) (length os) (length (os ++ more)) (omega (arith, length-append os more)))

  pub onward : (log later : List (Entry O)) (file : ℕ) → Begins log later → HasNotGoneBack (status_of (outcomes log file)) (status_of (outcomes later file))
  onward log later file b =
      let os = outcomes_begin log later file b in
      subst (λ w. HasNotGoneBack (status_of (outcomes log file)) (status_of w)) os.joins (status_onward (outcomes log file) os.rest)
