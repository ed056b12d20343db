-- Over finitely many nodes it is decided which have a fact, and why one has none.
use Rattle.std.proofs.Common.{◌≡◌, ℕ, zero, suc, ◌+◌, ◌≤◌, ◌⊎◌, inl, inr, List, [], ◌∷◌, length, Contains, refl, sym, subst, arith}
use Rattle.std.proofs.lemmas.List.Elements.{Contains-push_cases, Contains-append_right, Contains-append_cases}
use Rattle.facts.specs.Facts.{Rule, Give, Fail, Need, Rules, Derives, gives, gets, HasFact, IsResolved, IsUnresolved, FailsWith, Requires, IsPart}
use Rattle.facts.specs.FiniteNodes.{IsClosed}
use Rattle.facts.proofs.Derivations.{only_runs, fails_gives}

pub none_in : {X : Type 0} (x : X) → Contains [] x → {A : Type 0} → A
none_in x c = absurd (omega arith)

pub cons_here : {X : Type 0} (x : X) (xs : List X) → Contains (x ∷ xs) x
cons_here x xs = (0, omega arith, refl)

pub cons_there : {X : Type 0} (x y : X) (xs : List X) → Contains xs y → Contains (x ∷ xs) y
cons_there x y xs c = Contains-append_right (x ∷ []) xs y c

pub cons_cases : {X : Type 0} (x y : X) (xs : List X) → Contains (x ∷ xs) y → (x ≡ y) ⊎ Contains xs y
cons_cases x y xs c =
    elim (Contains-append_cases (x ∷ []) xs y c) [
      | inl h ↦ elim (Contains-push_cases [] x y h) [ inl k ↦ none_in y k | inr e ↦ inl e ]
      | inr h ↦ inr h
    ]

module _ {N : Type 0} {F : N → Type 0} {K : Type 0} (rules : Rules F K) where
  module _ (all : List N) (whole : IsClosed rules all) where
    -- a node outside these is known to have a fact
    abbrev Known : List N → Type 0
    Known open_ones = (n : N) → Contains all n → IsResolved rules n ⊎ Contains open_ones n

    data Stuck (open_ones : List N) {A : Type 0} (r : Rule F K A) : Type 0 where
      ends : {x : K} → FailsWith rules r x → Stuck open_ones r
      waits : {m : N} → Requires rules r m → Contains open_ones m → Stuck open_ones r

    try : (open_ones : List N) (n : N) → Known open_ones → (r : Rule F K (F n)) → ((m : N) → Requires rules r m → Contains all m) → ((f : F n) × Derives rules n r f) ⊎ Stuck open_ones r
    try open_ones n known (Give f) c = inl (f, gives)
    try open_ones n known (Fail x) c = inr (Stuck.ends FailsWith.fails)
    try open_ones n known (Need m k) c =
        elim (known m (c m Requires.now)) [
          | inr o ↦ inr (Stuck.waits Requires.now o)
          | inl w ↦ elim (try open_ones n known (k w.0) (λ b a. c b (Requires.later w.1 a))) [
            | inl d ↦ inl (d.0, gets w.1 d.1)
            | inr (Stuck.ends e) ↦ inr (Stuck.ends (FailsWith.after w.1 e))
            | inr (Stuck.waits a o) ↦ inr (Stuck.waits (Requires.later w.1 a) o)
          ]
        ]

    abbrev AllStuck : List N → List N → Type 0
    AllStuck open_ones some = (n : N) → Contains some n → Stuck open_ones (rules.rule n)

    never : (open_ones : List N) → AllStuck open_ones open_ones → (n : N) (r : Rule F K (F n)) (f : F n) → Derives rules n r f → (m : N) → Requires rules r m → Contains open_ones m → ⊥
    never open_ones stuck n _ f gives m a o = elim a [ ]
    never open_ones stuck n _ f (gets {g = g} x y) m Requires.now o =
        elim (stuck m o) [
          | Stuck.ends e ↦ fails_gives rules m _ _ g e x
          | Stuck.waits {m = p} a q ↦ never open_ones stuck m _ g x p a q
        ]
    never open_ones stuck n _ f (gets {m = b} {k = k} {g = g} x y) m (Requires.later {g = h} w z) o =
        let e : g ≡ h = only_runs rules b _ g h x w in
        never open_ones stuck n _ f y m (subst (λ c. Requires rules (k c) m) (sym e) z) o

    unresolved_stuck : (open_ones : List N) → AllStuck open_ones open_ones → (n : N) → Contains open_ones n → IsUnresolved rules n
    unresolved_stuck open_ones stuck n o f h =
        elim (stuck n o) [
          | Stuck.ends e ↦ fails_gives rules n _ _ f e h
          | Stuck.waits {m = p} a q ↦ never open_ones stuck n _ f h p a q
        ]

    record Picked (some : List N) : Type 0 where
      node : N
      resolved : IsResolved rules node
      rest : List N
      fewer : length rest + 1 ≡ length some
      others : (m : N) → Contains some m → (node ≡ m) ⊎ Contains rest m
      kept : (m : N) → Contains rest m → Contains some m

    pick : (open_ones : List N) → Known open_ones → (some : List N) → ((n : N) → Contains some n → Contains all n) → Picked some ⊎ AllStuck open_ones some
    pick open_ones known [] i = inr (λ n c. none_in n c)
    pick open_ones known (n ∷ some) i =
        elim (try open_ones n known (rules.rule n) (λ m a. whole.parts n m (i n (cons_here n some)) (inr a))) [
          | inl w ↦ inl (record { node = n; resolved = w; rest = some; fewer = omega arith; others = λ m c. cons_cases n m some c; kept = λ m c. cons_there n m some c })
          | inr s ↦ elim (pick open_ones known some (λ m c. i m (cons_there n m some c))) [
            | inl p ↦ inl (record {
              node = p.node;
              resolved = p.resolved;
              rest = n ∷ p.rest;
              fewer = omega (arith, p.fewer);
              others = λ m c. elim (cons_cases n m some c) [
                | inl e ↦ inr (subst (λ z. Contains (n ∷ p.rest) z) e (cons_here n p.rest))
                | inr d ↦ elim (p.others m d) [ inl e ↦ inl e | inr q ↦ inr (cons_there n m p.rest q) ]
              ];
              kept = λ m c. elim (cons_cases n m p.rest c) [ inl e ↦ subst (λ z. Contains (n ∷ some) z) e (cons_here n some) | inr d ↦ cons_there n m some (p.kept m d) ];
            })
            | inr t ↦ inr (λ m c. elim (cons_cases n m some c) [ inl e ↦ subst (λ z. Stuck open_ones (rules.rule z)) e s | inr d ↦ t m d ])
          ]
        ]

    fewer_known : (open_ones : List N) → Known open_ones → (p : Picked open_ones) → Known p.rest
    fewer_known open_ones known p m j =
        elim (known m j) [
          | inl w ↦ inl w
          | inr o ↦ elim (p.others m o) [ inl e ↦ inl (subst (λ z. IsResolved rules z) e p.resolved) | inr q ↦ inr q ]
        ]

    rounds : (fuel : ℕ) (open_ones : List N) → length open_ones ≤ fuel → ((n : N) → Contains open_ones n → Contains all n) → Known open_ones → (n : N) → Contains all n → IsResolved rules n ⊎ IsUnresolved rules n
    rounds zero open_ones few within known n i =
        elim (known n i) [ inl w ↦ inl w | inr o ↦ absurd (omega (arith, o.1)) ]
    rounds (suc fuel) open_ones few within known n i =
        elim (pick open_ones known open_ones within) [
          | inr s ↦ elim (known n i) [ inl w ↦ inl w | inr o ↦ inr (unresolved_stuck open_ones s n o) ]
          | inl p ↦ rounds fuel p.rest (omega (arith, p.fewer)) (λ m c. within m (p.kept m c)) (fewer_known open_ones known p) n i
        ]

    pub decide : (n : N) → Contains all n → IsResolved rules n ⊎ IsUnresolved rules n
    decide = rounds (length all) all (omega arith) (λ n c. c) (λ n c. inr c)

    -- ---- why a node has no fact

    -- its rule fails, or a part has none
    pub data Why (n : N) : Type 0 where
      itself : {x : K} → FailsWith rules (rules.rule n) x → ((m : N) → IsPart rules n m → IsResolved rules m) → Why n
      part : {m : N} → IsPart rules n m → IsUnresolved rules m → Why n

    data Below (some : List N) : Type 0 where
      fine : ((m : N) → Contains some m → IsResolved rules m) → Below some
      bad : {m : N} → Contains some m → IsUnresolved rules m → Below some

    below_or : (some : List N) → ((m : N) → Contains some m → Contains all m) → Below some
    below_or [] i = Below.fine (λ m c. none_in m c)
    below_or (n ∷ some) i =
        elim (decide n (i n (cons_here n some))) [
          | inr u ↦ Below.bad (cons_here n some) u
          | inl w ↦ elim (below_or some (λ m c. i m (cons_there n m some c))) [
            | Below.bad c u ↦ Below.bad (cons_there n _ some c) u
            | Below.fine h ↦ Below.fine (λ m c. elim (cons_cases n m some c) [ inl e ↦ subst (λ z. IsResolved rules z) e w | inr d ↦ h m d ])
          ]
        ]

    data Run (n : N) (r : Rule F K (F n)) : Type 0 where
      done : {f : F n} → Derives rules n r f → Run n r
      failed : {x : K} → FailsWith rules r x → ((m : N) → Requires rules r m → IsResolved rules m) → Run n r
      bad : {m : N} → Requires rules r m → IsUnresolved rules m → Run n r

    -- what a rule needs after its first need
    asks_later : {A : Type 0} (m : N) (k : F m → Rule F K A) (g : F m) → HasFact rules m g → ((x : N) → Requires rules (k g) x → IsResolved rules x) → (x : N) → Requires rules (Need m k) x → IsResolved rules x
    asks_later m k g h w x Requires.now = (g, h)
    asks_later m k g h w x (Requires.later {g = b} y z) =
        let e : g ≡ b = only_runs rules m _ g b h y in
        w x (subst (λ c. Requires rules (k c) x) (sym e) z)

    run : (n : N) (r : Rule F K (F n)) → ((m : N) → Requires rules r m → Contains all m) → Run n r
    run n (Give f) c = Run.done gives
    run n (Fail x) c = Run.failed FailsWith.fails (λ m a. elim a [ ])
    run n (Need m k) c =
        elim (decide m (c m Requires.now)) [
          | inr u ↦ Run.bad Requires.now u
          | inl w ↦ elim (run n (k w.0) (λ b a. c b (Requires.later w.1 a))) [
            | Run.done d ↦ Run.done (gets w.1 d)
            | Run.failed e h ↦ Run.failed (FailsWith.after w.1 e) (asks_later m k w.0 w.1 h)
            | Run.bad a u ↦ Run.bad (Requires.later w.1 a) u
          ]
        ]

    pub why : (n : N) → Contains all n → IsUnresolved rules n → Why n
    why n i u =
        elim (below_or (rules.children n) (λ m c. whole.parts n m i (inl c))) [
          | Below.bad c v ↦ Why.part (inl c) v
          | Below.fine h ↦ elim (run n (rules.rule n) (λ m a. whole.parts n m i (inr a))) [
            | Run.done d ↦ absurd (u _ d)
            | Run.bad a v ↦ Why.part (inr a) v
            | Run.failed e w ↦ Why.itself e (λ m p. elim p [ inl c ↦ h m c | inr a ↦ w m a ])
          ]
        ]
