-- Derivations of facts and failures are determined.
use Rattle.std.proofs.Common.{◌≡◌, ◌⊎◌, inl, inr, refl, sym, subst}
use Rattle.facts.specs.Facts.{Rule, Give, Fail, Need, Rules, Derives, gives, gets, IsResolved, FailsWith, Requires, IsPart}
use Rattle.facts.specs.Needs.{Needs, one, more}

module _ {N : Type 0} {F : N → Type 0} {K : Type 0} (rules : Rules F K) where
  -- a node has one fact
  pub only_runs : (n : N) (r : Rule F K (F n)) (f g : F n) → Derives rules n r f → Derives rules n r g → f ≡ g
  only_runs n _ f g gives gives = refl
  only_runs n _ f g (gets {m = m} {k = k} {g = a} x y) (gets {g = b} z w) =
      let e : a ≡ b = only_runs m _ a b x z in
      only_runs n _ f g y (subst (λ c. Derives rules n (k c) g) (sym e) w)

  -- a rule that fails gives nothing
  pub fails_gives : (n : N) (r : Rule F K (F n)) (x : K) (f : F n) → FailsWith rules r x → Derives rules n r f → ⊥
  fails_gives n _ x f FailsWith.fails h = elim h [ ]
  fails_gives n _ x f (FailsWith.after {m = m} {k = k} {g = a} y z) (gets {g = b} v w) =
      let e : a ≡ b = only_runs m _ a b y v in
      fails_gives n _ x f z (subst (λ c. Derives rules n (k c) f) (sym e) w)

  -- one fault at most
  pub only_ends : {A : Type 0} (r : Rule F K A) (x y : K) → FailsWith rules r x → FailsWith rules r y → x ≡ y
  only_ends _ x y FailsWith.fails FailsWith.fails = refl
  only_ends _ x y (FailsWith.after {m = m} {k = k} {g = a} u v) (FailsWith.after {g = b} w z) =
      let e : a ≡ b = only_runs m _ a b u w in
      only_ends _ x y v (subst (λ c. FailsWith rules (k c) y) (sym e) z)

  -- what a node with a fact needs has a fact
  pub asks_resolved : (n : N) (r : Rule F K (F n)) (f : F n) (x : N) → Derives rules n r f → Requires rules r x → IsResolved rules x
  asks_resolved n _ f x gives h = elim h [ ]
  asks_resolved n _ f x (gets {g = a} u v) Requires.now = (a, u)
  asks_resolved n _ f x (gets {m = m} {k = k} {g = a} u v) (Requires.later {g = b} w z) =
      let e : a ≡ b = only_runs m _ a b u w in
      asks_resolved n _ f x v (subst (λ c. Requires rules (k c) x) (sym e) z)

  -- a rule whose parts have facts gives a fact or fails
  pub comes_out : (n : N) (r : Rule F K (F n)) → ((x : N) → Requires rules r x → IsResolved rules x) → ((f : F n) × Derives rules n r f) ⊎ ((x : K) × FailsWith rules r x)
  comes_out n (Give f) h = inl (f, gives)
  comes_out n (Fail x) h = inr (x, FailsWith.fails)
  comes_out n (Need m k) h =
      let w = h m Requires.now in
      elim (comes_out n (k w.0) (λ x a. h x (Requires.later w.1 a))) [
        | inl d ↦ inl (d.0, gets w.1 d.1)
        | inr d ↦ inr (d.0, FailsWith.after w.1 d.1)
      ]

  pub data Settled : N → Type 0 where
    settled : {a : N} → ((b : N) → Requires rules (rules.rule a) b → Settled b) → Settled a

  pub settled_runs : (n : N) (r : Rule F K (F n)) (f : F n) → Derives rules n r f → (x : N) → Requires rules r x → Settled x
  settled_runs n _ f gives x h = elim h [ ]
  settled_runs n _ f (gets {m = m} {g = a} u v) x Requires.now = settled (λ b h. settled_runs m _ a u b h)
  settled_runs n _ f (gets {m = m} {k = k} {g = a} u v) x (Requires.later {g = b} w z) =
      let e : a ≡ b = only_runs m _ a b u w in
      settled_runs n _ f v x (subst (λ c. Requires rules (k c) x) (sym e) z)

  needs_push : (a b c : N) → Needs rules a b → Requires rules (rules.rule b) c → Needs rules a c
  needs_push a b c (one x) y = more x (one y)
  needs_push a b c (more x z) y = more x (needs_push _ b c z y)

  settled_apart : (a : N) → Settled a → Needs rules a a → ⊥
  settled_apart a (settled h) (one x) = settled_apart a (h a x) (one x)
  settled_apart a (settled h) (more {b = b} x z) = settled_apart b (h b x) (needs_push b a b z x)

  -- Needs of a node with a fact never come back to it.
  pub resolved_apart : (n : N) → IsResolved rules n → Needs rules n n → ⊥
  resolved_apart n w c = settled_apart n (settled (λ b h. settled_runs n _ w.0 w.1 b h)) c

  -- where all parts have facts, the node has one or its rule fails
  pub parts_resolved : (n : N) → ((m : N) → IsPart rules n m → IsResolved rules m) → IsResolved rules n ⊎ ((x : K) × FailsWith rules (rules.rule n) x)
  parts_resolved n h = comes_out n (rules.rule n) (λ m a. h m (inr a))

  pub needs_resolved : (n m : N) → IsResolved rules n → Needs rules n m → IsResolved rules m
  needs_resolved n m w (one {b = b} x) = asks_resolved n (rules.rule n) w.0 b w.1 x
  needs_resolved n m w (more {b = b} x z) = needs_resolved b m (asks_resolved n (rules.rule n) w.0 b w.1 x) z
