-- Whether a node is at fault is decided, where the declarations are numbered.
use Rattle.std.proofs.Common.{◌≡◌, ℕ, zero, suc, ◌<◌, ◌⊎◌, inl, inr, Option, Some, None, List, [], ◌∷◌, ◌++◌, map, Contains, refl, sym, ap, ◌∙◌, subst, arith}
use Rattle.std.proofs.lemmas.List.Elements.{Contains-append_left, Contains-append_right, Contains-append_cases}
use Rattle.facts.specs.Facts.{Rule, Give, Fail, Need, Rules, HasFact, IsResolved, IsUnresolved, Requires, IsPart, LeadsTo, IsAtFault}
use Rattle.facts.specs.Reach.{Reaches, here, on}
use Rattle.facts.proofs.Derivations.{only_runs}
use Rattle.facts.proofs.Decision.{decide, Why, why, cons_here, cons_there, cons_cases, none_in}
use Rattle.facts.proofs.FaultSearch.{leads_join}
use Rattle.facts.proofs.OneFault.{resolved_apart_fault}
use Rattle.facts.specs.FiniteNodes.{AreNumbered, IsClosed, IsDeclaration, IsRanked}
use Rattle.facts.proofs.Reach.{cover}
use Rattle.facts.proofs.Outcomes.{Any, any_or}
use Rattle.std.proofs.lemmas.Bool.Decides.{eqb_tells}

module _ {N : Type 0} {F : N → Type 0} {K : Type 0} (rules : Rules F K) where
  -- parts without facts lead from the one to the other, with no declaration between
  pub data Segment : N → N → Type 0 where
    one : {a b : N} → IsPart rules a b → IsUnresolved rules b → Segment a b
    more : {a b c : N} → IsPart rules a b → IsUnresolved rules b → rules.cycle_fault b ≡ None → Segment b c → Segment a c

  segment_leads : (a b : N) → Segment a b → LeadsTo rules a b
  segment_leads a b (one p u) = LeadsTo.first p u
  segment_leads a c (more {b = b} p u t s) = leads_join rules a b c (LeadsTo.first p u) (segment_leads b c s)

  segment_push : (a b c : N) → Segment a b → rules.cycle_fault b ≡ None → IsPart rules b c → IsUnresolved rules c → Segment a c
  segment_push a b c (one p u) t q v = more p u t (one q v)
  segment_push a b c (more {b = d} p u s h) t q v = more p u s (segment_push d b c h t q v)

  module _ (all : List N) (whole : IsClosed rules all) (rank : N → ℕ) (ranked : IsRanked rules rank) where
    -- the parts without facts, as a list
    record Parts (n : N) : Type 0 where
      list : List N
      sound : (m : N) → Contains list m → IsPart rules n m × IsUnresolved rules m
      complete : (m : N) → IsPart rules n m → IsUnresolved rules m → Contains list m

    record Asked {A : Type 0} (r : Rule F K A) : Type 0 where
      list : List N
      sound : (m : N) → Contains list m → Requires rules r m × IsUnresolved rules m
      complete : (m : N) → Requires rules r m → IsUnresolved rules m → Contains list m

    asked_first : {A : Type 0} (m : N) (k : F m → Rule F K A) → IsUnresolved rules m → (x : N) → Requires rules (Need m k) x → Contains (m ∷ []) x
    asked_first m k v x Requires.now = cons_here m []
    asked_first m k v x (Requires.later {g = g} h a) = absurd (v g h)

    asked_later : {A : Type 0} (m : N) (k : F m → Rule F K A) (g : F m) → HasFact rules m g → (list : List N) → ((x : N) → Requires rules (k g) x → IsUnresolved rules x → Contains list x) → (x : N) → Requires rules (Need m k) x → IsUnresolved rules x → Contains list x
    asked_later m k g h list c x Requires.now u = absurd (u g h)
    asked_later m k g h list c x (Requires.later {g = b} y z) u =
        let e : g ≡ b = only_runs rules m _ g b h y in
        c x (subst (λ o. Requires rules (k o) x) (sym e) z) u

    asked : {A : Type 0} (r : Rule F K A) → ((m : N) → Requires rules r m → Contains all m) → Asked r
    asked (Give f) c = record { list = []; sound = λ m i. none_in m i; complete = λ m a u. elim a [ ] }
    asked (Fail x) c = record { list = []; sound = λ m i. none_in m i; complete = λ m a u. elim a [ ] }
    asked (Need m k) c =
        elim (decide rules all whole m (c m Requires.now)) [
          | inr v ↦ record {
            list = m ∷ [];
            sound = λ x i. elim (cons_cases m x [] i) [ inl e ↦ subst (λ z. Requires rules (Need m k) z × IsUnresolved rules z) e (Requires.now, v) | inr n ↦ none_in x n ];
            complete = λ x a u. asked_first m k v x a;
          }
          | inl w ↦ let r = asked (k w.0) (λ b a. c b (Requires.later w.1 a)) in record {
            list = r.list;
            sound = λ x i. let s = r.sound x i in (Requires.later w.1 s.0, s.1);
            complete = λ x a u. asked_later m k w.0 w.1 r.list r.complete x a u;
          }
        ]

    record Bads (some : List N) : Type 0 where
      list : List N
      sound : (m : N) → Contains list m → Contains some m × IsUnresolved rules m
      complete : (m : N) → Contains some m → IsUnresolved rules m → Contains list m

    bads : (some : List N) → ((m : N) → Contains some m → Contains all m) → Bads some
    bads [] c = record { list = []; sound = λ m i. none_in m i; complete = λ m i u. none_in m i }
    bads (x ∷ xs) c =
        let r = bads xs (λ m i. c m (cons_there x m xs i)) in
        elim (decide rules all whole x (c x (cons_here x xs))) [
          | inl w ↦ record {
            list = r.list;
            sound = λ m i. let s = r.sound m i in (cons_there x m xs s.0, s.1);
            complete = λ m i u. elim (cons_cases x m xs i) [ inl e ↦ absurd (let P : N → Type 0 = λ z. IsResolved rules z in let q : IsResolved rules m = subst P e w in u q.0 q.1) | inr j ↦ r.complete m j u ];
          }
          | inr v ↦ record {
            list = x ∷ r.list;
            sound = λ m i. elim (cons_cases x m r.list i) [ inl e ↦ subst (λ z. Contains (x ∷ xs) z × IsUnresolved rules z) e (cons_here x xs, v) | inr j ↦ (let s = r.sound m j in (cons_there x m xs s.0, s.1)) ];
            complete = λ m i u. elim (cons_cases x m xs i) [ inl e ↦ subst (λ z. Contains (x ∷ r.list) z) e (cons_here x r.list) | inr j ↦ cons_there x m r.list (r.complete m j u) ];
          }
        ]

    parts : (n : N) → Contains all n → Parts n
    parts n i =
        let a = asked (rules.rule n) (λ m q. whole.parts n m i (inr q)) in
        let b = bads (rules.children n) (λ m q. whole.parts n m i (inl q)) in
        record {
          list = b.list ++ a.list;
          sound = λ m c. elim (Contains-append_cases b.list a.list m c) [ inl h ↦ let s = b.sound m h in (inl s.0, s.1) | inr h ↦ let s = a.sound m h in (inr s.0, s.1) ];
          complete = λ m p u. elim p [ inl h ↦ Contains-append_left b.list a.list m (b.complete m h u) | inr h ↦ Contains-append_right b.list a.list m (a.complete m h u) ];
        }

    abbrev Head : N → N → Type 0
    Head m e = (m ≡ e) ⊎ ((rules.cycle_fault m ≡ None) × Segment m e)

    record Decls (n : N) : Type 0 where
      list : List N
      sound : (e : N) → Contains list e → Segment n e × IsDeclaration rules e × Contains all e
      complete : (e : N) → Segment n e → IsDeclaration rules e → Contains list e

    record From (n : N) (ms : List N) : Type 0 where
      list : List N
      sound : (e : N) → Contains list e → Segment n e × IsDeclaration rules e × Contains all e
      complete : (m e : N) → Contains ms m → Head m e → IsDeclaration rules e → Contains list e

    not_decl : (m : N) → rules.cycle_fault m ≡ None → IsDeclaration rules m → ⊥
    not_decl m t d = let e = sym d.1 ∙ t in cc e

    from : (n : N) → ((m : N) → Contains all m → rank m < rank n → Decls m) → (ms : List N) → ((m : N) → Contains ms m → IsPart rules n m × IsUnresolved rules m × Contains all m) → From n ms
    from n rec [] h = record { list = []; sound = λ e c. none_in e c; complete = λ m e c. none_in m c }
    from n rec (m ∷ ms) h =
        let rest = from n rec ms (λ x c. h x (cons_there m x ms c)) in
        let p = h m (cons_here m ms) in
        elim (rules.cycle_fault m) as (λ k. rules.cycle_fault m ≡ k → From n (m ∷ ms)) [
          | Some x ↦ λ t. record {
            list = m ∷ rest.list;
            sound = λ e c. elim (cons_cases m e rest.list c) [ inl s ↦ subst (λ z. Segment n z × IsDeclaration rules z × Contains all z) s (one p.0 p.1, (x, t), p.2) | inr d ↦ rest.sound e d ];
            complete = λ y e c g d. elim (cons_cases m y ms c) [
              | inr q ↦ cons_there m e rest.list (rest.complete y e q g d)
              | inl s ↦ elim g [
                | inl k ↦ subst (λ z. Contains (m ∷ rest.list) z) (s ∙ k) (cons_here m rest.list)
                | inr k ↦ absurd (not_decl m (subst (λ z. rules.cycle_fault z ≡ None) (sym s) k.0) (x, t))
              ]
            ];
          }
          | None ↦ λ t.
              let r = rec m p.2 (ranked.lower n m p.0 t) in
              record {
                list = r.list ++ rest.list;
                sound = λ e c. elim (Contains-append_cases r.list rest.list e c) [ inl q ↦ (let s = r.sound e q in (more p.0 p.1 t s.0, s.1, s.2)) | inr q ↦ rest.sound e q ];
                complete = λ y e c g d. elim (cons_cases m y ms c) [
                  | inr q ↦ Contains-append_right r.list rest.list e (rest.complete y e q g d)
                  | inl s ↦ elim g [
                    | inl k ↦ absurd (not_decl m t (subst (λ z. IsDeclaration rules z) (sym (s ∙ k)) d))
                    | inr k ↦ Contains-append_left r.list rest.list e (r.complete e (subst (λ z. Segment z e) (sym s) k.1) d)
                  ]
                ];
              }
        ] refl

    segment_head : (n e : N) (ps : Parts n) → Segment n e → (m : N) × Contains ps.list m × Head m e
    segment_head n e ps (one p u) = (e, ps.complete e p u, inl refl)
    segment_head n e ps (more {b = b} p u t s) = (b, ps.complete b p u, inr (t, s))

    decls : (fuel : ℕ) (n : N) → rank n < fuel → Contains all n → Decls n
    decls zero n h i = absurd (omega arith)
    decls (suc fuel) n h i =
        let ps = parts n i in
        let f = from n (λ m c l. decls fuel m (omega (arith, l)) c) ps.list (λ m c. let s = ps.sound m c in (s.0, s.1, whole.parts n m i s.0)) in
        record { list = f.list; sound = f.sound; complete = λ e s d. let g = segment_head n e ps s in f.complete g.0 e g.1 g.2 d }

    -- ---- the declarations by their numbers
    module _ (numbers : AreNumbered rules all) where
      targets : Option ((d : N) × Contains all d × IsDeclaration rules d) → List ℕ
      targets None = []
      targets (Some w) = map numbers.number (decls (suc (rank w.0)) w.0 (omega arith) w.1).list

      next : ℕ → List ℕ
      next i = targets (numbers.node i)

      map_in : (xs : List N) (x : N) → Contains xs x → Contains (map numbers.number xs) (numbers.number x)
      map_in [] x c = none_in x c
      map_in (y ∷ xs) x c = elim (cons_cases y x xs c) [
        | inl e ↦ subst (λ z. Contains (map numbers.number (y ∷ xs)) (numbers.number z)) e (cons_here (numbers.number y) (map numbers.number xs))
        | inr k ↦ cons_there (numbers.number y) (numbers.number x) (map numbers.number xs) (map_in xs x k)
      ]

      map_out : (xs : List N) (j : ℕ) → Contains (map numbers.number xs) j → (x : N) × Contains xs x × (numbers.number x ≡ j)
      map_out [] j c = none_in j c
      map_out (y ∷ xs) j c = elim (cons_cases (numbers.number y) j (map numbers.number xs) c) [
        | inl e ↦ (y, cons_here y xs, e)
        | inr k ↦ let r = map_out xs j k in (r.0, cons_there y r.0 xs r.1, r.2)
      ]

      targets_out : (w : Option ((d : N) × Contains all d × IsDeclaration rules d)) (j : ℕ) → Contains (targets w) j → (d : N) × (i : Contains all d) × (k : IsDeclaration rules d) × (w ≡ Some (d, i, k)) × (e : N) × Segment d e × IsDeclaration rules e × Contains all e × (numbers.number e ≡ j)
      unfolding targets
      targets_out None j c = none_in j c
      targets_out (Some w) j c =
          let ds = decls (suc (rank w.0)) w.0 (omega arith) w.1 in
          let m = map_out ds.list j c in
          let s = ds.sound m.0 m.1 in
          (w.0, w.1, w.2, refl, m.0, s.0, s.1, s.2, m.2)

      node_is : Option ((d : N) × Contains all d × IsDeclaration rules d) → Option N
      node_is None = None
      node_is (Some w) = Some w.0

      number_one : (d e : N) → Contains all d → IsDeclaration rules d → Contains all e → IsDeclaration rules e → numbers.number d ≡ numbers.number e → d ≡ e
      unfolding node_is
      number_one d e i k j l h =
          let a = numbers.back d i k in
          let b = numbers.back e j l in
          let x : Some d ≡ node_is (numbers.node (numbers.number d)) = sym (ap node_is a.2) in
          let y : node_is (numbers.node (numbers.number e)) ≡ Some e = ap node_is b.2 in
          let z : Some d ≡ Some e = x ∙ ap (λ n. node_is (numbers.node n)) h ∙ y in
          cc z

      edge : (d e : N) → Contains all d → IsDeclaration rules d → Segment d e → IsDeclaration rules e → Contains (next (numbers.number d)) (numbers.number e)
      unfolding next targets
      edge d e i k s l =
          let b = numbers.back d i k in
          let ds = decls (suc (rank d)) d (omega arith) b.0 in
          subst (λ w. Contains (targets w) (numbers.number e)) (sym b.2) (map_in ds.list e (ds.complete e s l))

      edge_back : (d : N) (j : ℕ) → Contains all d → IsDeclaration rules d → Contains (next (numbers.number d)) j → (e : N) × Segment d e × IsDeclaration rules e × Contains all e × (numbers.number e ≡ j)
      unfolding next node_is
      edge_back d j i k c =
          let t = targets_out (numbers.node (numbers.number d)) j c in
          let b = numbers.back d i k in
          let z : Some d ≡ Some t.0 = sym (ap node_is b.2) ∙ ap node_is t.3 in
          let same : t.0 ≡ d = cc z in
          (t.4, subst (λ x. Segment x t.4) same t.5, t.6, t.7, t.8)

      in_range : (a b : ℕ) → Contains (next a) b → b < numbers.count
      unfolding next
      in_range a b c = let t = targets_out (numbers.node a) b c in subst (λ z. z < numbers.count) t.8 (numbers.few t.4 t.7 t.6)

      record Reached (d : N) (j : ℕ) : Type 0 where
        node : N
        decl : IsDeclaration rules node
        within : Contains all node
        number : numbers.number node ≡ j
        leads : (d ≡ node) ⊎ LeadsTo rules d node

      reached : (d : N) → Contains all d → IsDeclaration rules d → (a j : ℕ) → numbers.number d ≡ a → Reaches next a j → Reached d j
      reached d i k a j s here = record { node = d; decl = k; within = i; number = s; leads = inl refl }
      reached d i k a j s (on {b = b} r c) =
          let h = reached d i k a b s r in
          let e = edge_back h.node j h.within h.decl (subst (λ z. Contains (next z) j) (sym h.number) c) in
          record { node = e.0; decl = e.2; within = e.3; number = e.4; leads = inr (elim h.leads [ inl s ↦ subst (λ z. LeadsTo rules z e.0) (sym s) (segment_leads h.node e.0 e.1) | inr l ↦ leads_join rules d h.node e.0 l (segment_leads h.node e.0 e.1) ]) }

      record Last (d b : N) : Type 0 where
        node : N
        decl : IsDeclaration rules node
        within : Contains all node
        reach : Reaches next (numbers.number d) (numbers.number node)
        seg : Segment node b

      leads_all : (a b : N) → Contains all a → LeadsTo rules a b → Contains all b
      leads_all a b i (LeadsTo.first p u) = whole.parts a b i p
      leads_all a b i (LeadsTo.further {b = c} l p u) = whole.parts c b (leads_all a c i l) p

      last : (d b : N) → Contains all d → IsDeclaration rules d → LeadsTo rules d b → Last d b
      last d b i k (LeadsTo.first p u) = record { node = d; decl = k; within = i; reach = here; seg = one p u }
      last d c i k (LeadsTo.further {b = b} l p u) =
          let h = last d b i k l in
          elim (rules.cycle_fault b) as (λ t. rules.cycle_fault b ≡ t → Last d c) [
            | None ↦ λ t. record { node = h.node; decl = h.decl; within = h.within; reach = h.reach; seg = segment_push h.node b c h.seg t p u }
            | Some x ↦ λ t. record { node = b; decl = (x, t); within = leads_all d b i l; reach = on h.reach (edge h.node b h.within h.decl h.seg (x, t)); seg = one p u }
          ] refl

      contains_or : (xs : List ℕ) (y : ℕ) → Contains xs y ⊎ (Contains xs y → ⊥)
      contains_or [] y = inr (λ c. none_in y c)
      contains_or (x ∷ xs) y = elim (eqb_tells x y) [
        | inl w ↦ inl (subst (λ z. Contains (x ∷ xs) z) w.1 (cons_here x xs))
        | inr w ↦ elim (contains_or xs y) [ inl c ↦ inl (cons_there x y xs c) | inr n ↦ inr (λ c. elim (cons_cases x y xs c) [ inl e ↦ w.1 e | inr d ↦ n d ]) ]
      ]

      pub leads_back : (d : N) → Contains all d → IsDeclaration rules d → LeadsTo rules d d ⊎ (LeadsTo rules d d → ⊥)
      leads_back d i k =
          let c = cover next numbers.count in_range (numbers.number d) in
          elim (any_or (λ j. Contains (next j) (numbers.number d)) (λ j. contains_or (next j) (numbers.number d)) c.files) [
            | Any.some {x = j} m h ↦ inl (
                let r = reached d i k (numbers.number d) j refl (c.sound j m) in
                let e = edge_back r.node (numbers.number d) r.within r.decl (subst (λ z. Contains (next z) (numbers.number d)) (sym r.number) h) in
                let same : e.0 ≡ d = number_one e.0 d e.3 e.2 i k e.4 in
                let step : LeadsTo rules r.node d = subst (λ z. LeadsTo rules r.node z) same (segment_leads r.node e.0 e.1) in
                elim r.leads [ inl s ↦ subst (λ z. LeadsTo rules z d) (sym s) step | inr l ↦ leads_join rules d r.node d l step ])
            | Any.not_one n ↦ inr (λ l. let h = last d d i k l in n (numbers.number h.node) (c.complete (numbers.number h.node) h.reach) (edge h.node d h.within h.decl h.seg k))
          ]

      part_fault : (n m : N) (x : K) → IsPart rules n m → IsUnresolved rules m → (rules.cycle_fault n ≡ None) ⊎ (LeadsTo rules n n → ⊥) → IsAtFault rules n x → ⊥
      part_fault n m x p u h (IsAtFault.fails_itself e w) = let k = w m p in u k.0 k.1
      part_fault n m x p u h (IsAtFault.in_cycle t l) = elim h [ inl s ↦ (let e = sym t ∙ s in cc e) | inr b ↦ b l ]

      -- whether a node is at fault is decided
      pub fault_or : (n : N) → Contains all n → ((x : K) × IsAtFault rules n x) ⊎ ((x : K) → IsAtFault rules n x → ⊥)
      fault_or n i =
          elim (decide rules all whole n i) [
            | inl w ↦ inr (λ x f. resolved_apart_fault rules n x w f)
            | inr u ↦ elim (why rules all whole n i u) [
              | Why.itself e w ↦ inl (_, IsAtFault.fails_itself e w)
              | Why.part {m = m} p v ↦ elim (rules.cycle_fault n) as (λ t. rules.cycle_fault n ≡ t → ((x : K) × IsAtFault rules n x) ⊎ ((x : K) → IsAtFault rules n x → ⊥)) [
                | None ↦ λ t. inr (λ x f. part_fault n m x p v (inl t) f)
                | Some x ↦ λ t. elim (leads_back n i (x, t)) [
                  | inl l ↦ inl (x, IsAtFault.in_cycle t l)
                  | inr b ↦ inr (λ y f. part_fault n m y p v (inr b) f)
                ]
              ] refl
            ]
          ]
