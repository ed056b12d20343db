-- What is computed is so.
use Rattle.std.proofs.Common.{◌≡◌, ℕ, zero, suc, inl, inr, Option, Some, None, [], Contains, refl, sym, ap, subst}
use Rattle.facts.specs.Facts.{Rule, Give, Fail, Need, Rules, Derives, gives, gets, HasFact, IsResolved, FailsWith, Requires, IsAtFault}
use Rattle.facts.specs.Evaluation.{Ending, Gave, Failed, Waits, ending_on, ending, given, evaluated, ends_at}
use Rattle.facts.proofs.Derivations.{only_runs}
use Rattle.facts.proofs.Decision.{none_in}

module _ {N : Type 0} {F : N → Type 0} {K : Type 0} (rules : Rules F K) where
  abbrev IsTrueOf : ((m : N) → Option (F m)) → Type 0
  IsTrueOf known = (m : N) (g : F m) → known m ≡ Some g → HasFact rules m g

  gave_runs : (known : (m : N) → Option (F m)) → IsTrueOf known → (n : N) (r : Rule F K (F n)) (f : F n) → ending known r ≡ Gave f → Derives rules n r f
  unfolding ending
  gave_runs known sound n (Give a) f e = let same : a ≡ f = cc e in subst (λ g. Derives rules n (Give a) g) same gives
  gave_runs known sound n (Fail x) f e = absurd (cc e)
  gave_runs known sound n (Need m next) f e =
      elim (known m) as (λ o. known m ≡ o → ending_on m o (λ g. ending known (next g)) ≡ Gave f → Derives rules n (Need m next) f) [
        | None ↦ λ k w. absurd (cc w)
        | Some g ↦ λ k w. gets (sound m g k) (gave_runs known sound n (next g) f w)
      ] refl e

  given_gave : {A : Type 0} (x : Ending F K A) (f : A) → given x ≡ Some f → x ≡ Gave f
  given_gave (Gave a) f e = let same : a ≡ f = cc e in ap Gave same
  given_gave (Failed x) f e = absurd (cc e)
  given_gave (Waits m) f e = absurd (cc e)

  -- a fact that is computed is the node's
  pub evaluated_has : (steps : ℕ) (n : N) (f : F n) → evaluated rules steps n ≡ Some f → HasFact rules n f
  unfolding evaluated
  evaluated_has zero n f e = absurd (cc e)
  evaluated_has (suc steps) n f e = gave_runs (evaluated rules steps) (λ m g k. evaluated_has steps m g k) n (rules.rule n) f (given_gave _ f e)

  failed_ends : {A : Type 0} (known : (m : N) → Option (F m)) → IsTrueOf known → (r : Rule F K A) (x : K) → ending known r ≡ Failed x → FailsWith rules r x
  unfolding ending
  failed_ends known sound (Give a) x e = absurd (cc e)
  failed_ends {A = A} known sound (Fail y) x e =
      let same : y ≡ x = cc e in
      let r : Rule F K A = Fail y in
      let here : FailsWith rules r y = FailsWith.fails in
      subst (λ z. FailsWith rules r z) same here
  failed_ends known sound (Need m next) x e =
      elim (known m) as (λ o. known m ≡ o → ending_on m o (λ g. ending known (next g)) ≡ Failed x → FailsWith rules (Need m next) x) [
        | None ↦ λ k w. absurd (cc w)
        | Some g ↦ λ k w. FailsWith.after (sound m g k) (failed_ends known sound (next g) x w)
      ] refl e

  needed_then : {A : Type 0} (m : N) (next : F m → Rule F K A) (g : F m) → HasFact rules m g → ((y : N) → Requires rules (next g) y → IsResolved rules y) → (y : N) → Requires rules (Need m next) y → IsResolved rules y
  needed_then m next g h rest y Requires.now = (g, h)
  needed_then m next g h rest y (Requires.later {g = b} w z) =
      let e : g ≡ b = only_runs rules m _ g b h w in
      rest y (subst (λ c. Requires rules (next c) y) (sym e) z)

  failed_needs : {A : Type 0} (known : (m : N) → Option (F m)) → IsTrueOf known → (r : Rule F K A) (x : K) → ending known r ≡ Failed x → (y : N) → Requires rules r y → IsResolved rules y
  unfolding ending
  failed_needs known sound (Give a) x e = absurd (cc e)
  failed_needs known sound (Fail z) x e = λ y a. elim a [ ]
  failed_needs known sound (Need m next) x e =
      elim (known m) as (λ o. known m ≡ o → ending_on m o (λ g. ending known (next g)) ≡ Failed x → (y : N) → Requires rules (Need m next) y → IsResolved rules y) [
        | None ↦ λ k w. absurd (cc w)
        | Some g ↦ λ k w. needed_then m next g (sound m g k) (failed_needs known sound (next g) x w)
      ] refl e

  -- a node without nodes below it whose rule is computed to fail is at fault
  pub failed_at_fault : (steps : ℕ) (n : N) (x : K) → rules.children n ≡ [] → ends_at rules steps n ≡ Failed x → IsAtFault rules n x
  failed_at_fault steps n x leaf e =
      IsAtFault.fails_itself (failed_ends (evaluated rules steps) (evaluated_has steps) (rules.rule n) x e) (λ m p. elim p [
        | inl c ↦ none_in m (subst (λ l. Contains l m) leaf c)
        | inr a ↦ failed_needs (evaluated rules steps) (evaluated_has steps) (rules.rule n) x e m a
      ])

  waits_needs : {A : Type 0} (known : (m : N) → Option (F m)) → IsTrueOf known → (r : Rule F K A) (y : N) → ending known r ≡ Waits y → Requires rules r y
  unfolding ending
  waits_needs known sound (Give a) y e = absurd (cc e)
  waits_needs known sound (Fail z) y e = absurd (cc e)
  waits_needs known sound (Need m next) y e =
      elim (known m) as (λ o. known m ≡ o → ending_on m o (λ g. ending known (next g)) ≡ Waits y → Requires rules (Need m next) y) [
        | None ↦ λ k w. (let same : m ≡ y = cc w in subst (λ z. Requires rules (Need m next) z) same Requires.now)
        | Some g ↦ λ k w. Requires.later (sound m g k) (waits_needs known sound (next g) y w)
      ] refl e

  -- what a rule is computed to wait for is needed
  pub waits_requires : (steps : ℕ) (n m : N) → ends_at rules steps n ≡ Waits m → Requires rules (rules.rule n) m
  waits_requires steps n m e = waits_needs (evaluated rules steps) (evaluated_has steps) (rules.rule n) m e
