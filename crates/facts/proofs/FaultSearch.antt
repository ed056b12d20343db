-- A node without a fact is at fault, or leads to one that is.
use Rattle.std.proofs.Common.{◌≡◌, ℕ, zero, suc, ◌+◌, ◌<◌, ◌≤◌, ◌⊎◌, inl, inr, true, false, ◌||◌, eqb, Option, Some, None, List, [], ◌∷◌, length, Contains, refl, sym, ap, ◌∙◌, subst, arith}
use Rattle.std.proofs.lemmas.Bool.Decides.{nat_tests, eqb_tells}
use Rattle.facts.specs.Facts.{Rules, IsUnresolved, LeadsTo, IsAtFault}
use Rattle.facts.specs.FiniteNodes.{IsClosed, IsRanked, LeadsToFault}
use Rattle.facts.proofs.Marks.{is_in, missing}
use Rattle.facts.proofs.Decision.{Why, why, none_in, cons_cases}

is_in-cons : (y : ℕ) (xs : List ℕ) (x : ℕ) → is_in y (x ∷ xs) ≡ (eqb x y || is_in y xs)
unfolding is_in
is_in-cons y xs x = refl

missing-above : (n : ℕ) (xs : List ℕ) (x : ℕ) → n ≤ x → missing n (x ∷ xs) ≡ missing n xs
unfolding missing
missing-above zero xs x h = refl
missing-above (suc n) xs x h = grind (arith, nat_tests, missing-above n xs x (omega arith), is_in-cons n xs x)

missing-cons : (n : ℕ) (xs : List ℕ) (x : ℕ) → x < n → is_in x xs ≡ false → missing n (x ∷ xs) + 1 ≡ missing n xs
unfolding missing
missing-cons zero xs x h e = absurd (omega arith)
missing-cons (suc n) xs x h e =
    elim (eqb_tells x n) [
      | inl w ↦ grind (arith, nat_tests, missing-above n xs x (omega arith), is_in-cons n xs x)
      | inr w ↦ grind (arith, nat_tests, missing-cons n xs x (omega arith) e, is_in-cons n xs x)
    ]

nth : {A : Type 0} → List A → ℕ → Option A
nth [] i = None
nth (x ∷ xs) zero = Some x
nth (x ∷ xs) (suc i) = nth xs i

record Position {A : Type 0} (xs : List A) (x : A) : Type 0 where
  place : ℕ
  below : place < length xs
  is : nth xs place ≡ Some x

position : {A : Type 0} (xs : List A) (x : A) → Contains xs x → Position xs x
unfolding nth
position [] x c = none_in x c
position (y ∷ xs) x c =
    elim (cons_cases y x xs c) [
      | inl e ↦ record { place = 0; below = omega arith; is = ap Some e }
      | inr d ↦ let p = position xs x d in record { place = suc p.place; below = omega (arith, p.below); is = p.is }
    ]

module _ {N : Type 0} {F : N → Type 0} {K : Type 0} (rules : Rules F K) where
  pub leads_join : (a b c : N) → LeadsTo rules a b → LeadsTo rules b c → LeadsTo rules a c
  leads_join a b c l (LeadsTo.first p u) = LeadsTo.further l p u
  leads_join a b c l (LeadsTo.further {b = d} m p u) = LeadsTo.further (leads_join a b d l m) p u

  leads_or : (a b c : N) → LeadsTo rules a b → (b ≡ c) ⊎ LeadsTo rules b c → LeadsTo rules a c
  leads_or a b c l = elim [ inl e ↦ subst (λ z. LeadsTo rules a z) e l | inr m ↦ leads_join a b c l m ]

  fault_before : (a b : N) → LeadsTo rules a b → LeadsToFault rules b → LeadsToFault rules a
  fault_before a b l f = record { node = f.node; fault = f.fault; at = f.at; from = inr (leads_or a b f.node l f.from) }

  module _ (all : List N) (whole : IsClosed rules all) (rank : N → ℕ) (ranked : IsRanked rules rank) where
    record ToDeclaration (n : N) : Type 0 where
      node : N
      kind : K
      is : rules.cycle_fault node ≡ Some kind
      within : Contains all node
      unresolved : IsUnresolved rules node
      leads : LeadsTo rules n node

    declaration_before : (a b : N) → LeadsTo rules a b → ToDeclaration b → ToDeclaration a
    declaration_before a b l t = record { node = t.node; kind = t.kind; is = t.is; within = t.within; unresolved = t.unresolved; leads = leads_join a b t.node l t.leads }

    down : (fuel : ℕ) (n : N) → rank n < fuel → Contains all n → IsUnresolved rules n → LeadsToFault rules n ⊎ ToDeclaration n
    down zero n h i u = absurd (omega arith)
    down (suc fuel) n h i u =
        elim (why rules all whole n i u) [
          | Why.itself e w ↦ inl (record { node = n; fault = _; at = IsAtFault.fails_itself e w; from = inl refl })
          | Why.part {m = m} p v ↦ elim (rules.cycle_fault m) as (λ k. rules.cycle_fault m ≡ k → LeadsToFault rules n ⊎ ToDeclaration n) [
            | Some x ↦ λ e. inr (record { node = m; kind = x; is = e; within = whole.parts n m i p; unresolved = v; leads = LeadsTo.first p v })
            | None ↦ λ e.
                let l : rank m < rank n = ranked.lower n m p e in
                elim (down fuel m (omega (arith, l)) (whole.parts n m i p) v) [
                  | inl b ↦ inl (fault_before n m (LeadsTo.first p v) b)
                  | inr t ↦ inr (declaration_before n m (LeadsTo.first p v) t)
                ]
          ] refl
        ]

    -- the declarations at these places lead to this one
    abbrev Behind : List ℕ → N → Type 0
    Behind seen d = (e : N) (i : ℕ) → nth all i ≡ Some e → is_in i seen ≡ true → LeadsTo rules e d

    one_behind : (seen : List ℕ) (d e : N) (i : ℕ) → nth all i ≡ Some d → Behind seen d → LeadsTo rules d e → Behind (i ∷ seen) e
    one_behind seen d e i at b l f j is s =
        elim (eqb_tells i j) [
          | inl w ↦ let same : d ≡ f = (let x : nth all i ≡ Some f = subst (λ z. nth all z ≡ Some f) (sym w.1) is in cc (at, x)) in subst (λ z. LeadsTo rules z e) same l
          | inr w ↦ leads_join f d e (b f j is (let x : (eqb i j || is_in j seen) ≡ true = sym (is_in-cons j seen i) ∙ s in let y = w.0 in rw y at x)) l
        ]

    chase : (fuel : ℕ) (seen : List ℕ) (d : N) (p : Position all d) → missing (length all) seen ≤ fuel → is_in p.place seen ≡ false → Behind seen d → IsUnresolved rules d → Contains all d → LeadsToFault rules d
    chase zero seen d p few new b u c = absurd (omega (arith, missing-cons (length all) seen p.place p.below new))
    chase (suc fuel) seen d p few new b u c =
        elim (down (suc (rank d)) d (omega arith) c u) [
          | inl f ↦ f
          | inr t ↦
              let q = position all t.node t.within in
              let behind : Behind (p.place ∷ seen) t.node = one_behind seen d t.node p.place p.is b t.leads in
              elim (is_in q.place (p.place ∷ seen)) as (λ r. is_in q.place (p.place ∷ seen) ≡ r → LeadsToFault rules d) [
                | true ↦ λ e. record { node = t.node; fault = t.kind; at = IsAtFault.in_cycle t.is (behind t.node q.place q.is e); from = inr t.leads }
                | false ↦ λ e. fault_before d t.node t.leads (chase fuel (p.place ∷ seen) t.node q (omega (arith, missing-cons (length all) seen p.place p.below new)) e behind t.unresolved t.within)
              ] refl
        ]

    pub fault_behind : (n : N) → Contains all n → IsUnresolved rules n → LeadsToFault rules n
    unfolding is_in
    fault_behind n c u = chase (missing (length all) []) [] n (position all n c) (omega arith) refl (λ e i is s. absurd (cc s)) u c
