-- Where rules agree, so do facts and faults.
use Rattle.std.proofs.Common.{◌≡◌, inl, inr, Contains, refl, sym, ◌∙◌, subst}
use Rattle.facts.specs.Facts.{Rule, Rules, Derives, gives, gets, HasFact, IsResolved, IsUnresolved, FailsWith, Requires, IsPart, LeadsTo, IsAtFault}
use Rattle.facts.specs.Agreement.{Agree}

module _ {N : Type 0} {F : N → Type 0} {K : Type 0} (one two : Rules F K) (In : N → Type 0) (same : Agree one two In) where
  abbrev Stays : {A : Type 0} → Rule F K A → Type 0
  Stays r = (x : N) → Requires one r x → In x

  stays : (n : N) → In n → Stays (one.rule n)
  stays n i x a = same.within n x i (inr a)

  runs_there : (n : N) (r s : Rule F K (F n)) (f : F n) → Derives one n r f → r ≡ s → Stays r → Derives two n s f
  runs_there n _ s f gives e c = subst (λ t. Derives two n t f) e gives
  runs_there n _ s f (gets {m = m} {k = k} {g = g} x y) e c =
      let i : In m = c m Requires.now in
      subst (λ t. Derives two n t f) e (gets (runs_there m _ (two.rule m) g x (same.rules m i) (stays m i)) (runs_there n (k g) (k g) f y refl (λ b a. c b (Requires.later x a))))

  runs_back : (n : N) (r s : Rule F K (F n)) (f : F n) → Derives two n s f → r ≡ s → Stays r → Derives one n r f
  runs_back n r _ f gives e c = subst (λ t. Derives one n t f) (sym e) gives
  runs_back n r _ f (gets {m = m} {k = k} {g = g} x y) e c =
      let i : In m = c m (subst (λ t. Requires one t m) (sym e) Requires.now) in
      let h : HasFact one m g = runs_back m (one.rule m) _ g x (same.rules m i) (stays m i) in
      subst (λ t. Derives one n t f) (sym e) (gets h (runs_back n (k g) (k g) f y refl (λ b a. c b (subst (λ t. Requires one t b) (sym e) (Requires.later h a)))))

  pub has_there : (n : N) (f : F n) → In n → HasFact one n f → HasFact two n f
  has_there n f i h = runs_there n _ _ f h (same.rules n i) (stays n i)

  pub has_back : (n : N) (f : F n) → In n → HasFact two n f → HasFact one n f
  has_back n f i h = runs_back n _ _ f h (same.rules n i) (stays n i)

  pub resolved_there : (n : N) → In n → IsResolved one n → IsResolved two n
  resolved_there n i w = (w.0, has_there n w.0 i w.1)

  pub unresolved_there : (n : N) → In n → IsUnresolved one n → IsUnresolved two n
  unresolved_there n i u f h = u f (has_back n f i h)

  asks_back : {A : Type 0} (r s : Rule F K A) (x : N) → Requires two s x → r ≡ s → Stays r → Requires one r x
  asks_back r _ x Requires.now e c = subst (λ t. Requires one t x) (sym e) Requires.now
  asks_back r _ x (Requires.later {m = m} {k = k} {g = g} h a) e c =
      let i : In m = c m (subst (λ t. Requires one t m) (sym e) Requires.now) in
      let w : HasFact one m g = has_back m g i h in
      subst (λ t. Requires one t x) (sym e) (Requires.later w (asks_back (k g) (k g) x a refl (λ b z. c b (subst (λ t. Requires one t b) (sym e) (Requires.later w z)))))

  asks_there : {A : Type 0} (r s : Rule F K A) (x : N) → Requires one r x → r ≡ s → Stays r → Requires two s x
  asks_there _ s x Requires.now e c = subst (λ t. Requires two t x) e Requires.now
  asks_there _ s x (Requires.later {m = m} {k = k} {g = g} h a) e c =
      subst (λ t. Requires two t x) e (Requires.later (has_there m g (c m Requires.now) h) (asks_there (k g) (k g) x a refl (λ b z. c b (Requires.later h z))))

  ends_there : {A : Type 0} (r s : Rule F K A) (x : K) → FailsWith one r x → r ≡ s → Stays r → FailsWith two s x
  ends_there _ s x FailsWith.fails e c = subst (λ t. FailsWith two t x) e FailsWith.fails
  ends_there _ s x (FailsWith.after {m = m} {k = k} {g = g} h a) e c =
      subst (λ t. FailsWith two t x) e (FailsWith.after (has_there m g (c m Requires.now) h) (ends_there (k g) (k g) x a refl (λ b z. c b (Requires.later h z))))

  pub part_back : (n m : N) → In n → IsPart two n m → IsPart one n m
  part_back n m i = elim [
    | inl c ↦ inl (subst (λ l. Contains l m) (sym (same.children n i)) c)
    | inr a ↦ inr (asks_back _ _ m a (same.rules n i) (stays n i))
  ]

  pub part_there : (n m : N) → In n → IsPart one n m → IsPart two n m
  part_there n m i = elim [
    | inl c ↦ inl (subst (λ l. Contains l m) (same.children n i) c)
    | inr a ↦ inr (asks_there _ _ m a (same.rules n i) (stays n i))
  ]

  leads_in : (a b : N) → In a → LeadsTo one a b → In b
  leads_in a b i (LeadsTo.first p u) = same.within a b i p
  leads_in a b i (LeadsTo.further {b = c} l p u) = same.within c b (leads_in a c i l) p

  leads_there : (a b : N) → In a → LeadsTo one a b → LeadsTo two a b
  leads_there a b i (LeadsTo.first p u) = LeadsTo.first (part_there a b i p) (unresolved_there b (same.within a b i p) u)
  leads_there a b i (LeadsTo.further {b = c} l p u) =
      let j : In c = leads_in a c i l in
      LeadsTo.further (leads_there a c i l) (part_there c b j p) (unresolved_there b (same.within c b j p) u)

  pub fault_there : (n : N) (x : K) → In n → IsAtFault one n x → IsAtFault two n x
  fault_there n x i (IsAtFault.fails_itself e w) =
      IsAtFault.fails_itself (ends_there _ _ x e (same.rules n i) (stays n i)) (λ m p. let q : IsPart one n m = part_back n m i p in resolved_there m (same.within n m i q) (w m q))
  fault_there n x i (IsAtFault.in_cycle e l) = IsAtFault.in_cycle (sym (same.cycle_fault n i) ∙ e) (leads_there n n i l)

  pub agree_back : Agree two one In
  agree_back = record {
    rules = λ n i. sym (same.rules n i);
    children = λ n i. sym (same.children n i);
    cycle_fault = λ n i. sym (same.cycle_fault n i);
    within = λ n m i p. same.within n m i (part_back n m i p);
  }

pub fault_back : {N : Type 0} {F : N → Type 0} {K : Type 0} (one two : Rules F K) (In : N → Type 0) (same : Agree one two In) (n : N) (x : K) → In n → IsAtFault two n x → IsAtFault one n x
fault_back one two In same n x i f = fault_there two one In (agree_back one two In same) n x i f
