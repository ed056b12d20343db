-- The least set, as a list that can be searched.
use Rattle.std.proofs.Common.{◌≡◌, ℕ, zero, suc, ◌+◌, ◌<◌, ◌≤◌, ◌⊎◌, inl, inr, Bool, true, false, ◌||◌, eqb, List, [], ◌∷◌, ◌++◌, Contains, refl, sym, subst, arith}
use Rattle.std.proofs.lemmas.Bool.Decides.{nat_tests, eqb_tells}
use Rattle.std.proofs.lemmas.List.Elements.{Contains-push_cases, Contains-append_left, Contains-append_right, Contains-append_cases}
use Rattle.facts.specs.Reach.{Cover, Reaches, here, on}
use Rattle.facts.proofs.Marks.{is_in, missing}

pub is_in-push : (y : ℕ) (xs : List ℕ) (x : ℕ) → is_in y (xs ++ x ∷ []) ≡ (is_in y xs || eqb x y)
unfolding is_in
is_in-push y [] x = grind arith
is_in-push y (z ∷ xs) x = grind (arith, is_in-push y xs x)

none_in : {X : Type 0} (x : X) → Contains [] x → {A : Type 0} → A
none_in x c = absurd (omega arith)

pub Contains-from_is_in : (y : ℕ) (xs : List ℕ) → is_in y xs ≡ true → Contains xs y
unfolding is_in
Contains-from_is_in y [] e = cc
Contains-from_is_in y (x ∷ xs) e =
    elim (eqb_tells x y) [
      | inl h ↦ (0, omega arith, h.1)
      | inr h ↦ Contains-append_right (x ∷ []) xs y (Contains-from_is_in y xs (grind arith))
    ]

pub is_in-from_contains : (y : ℕ) (xs : List ℕ) → Contains xs y → is_in y xs ≡ true
unfolding is_in
is_in-from_contains y [] c = none_in y c
is_in-from_contains y (x ∷ xs) c =
    elim (Contains-append_cases (x ∷ []) xs y c) [
      | inl h ↦ elim (Contains-push_cases [] x y h) [ inl k ↦ none_in y k | inr e ↦ grind (arith, nat_tests) ]
      | inr h ↦ grind (arith, is_in-from_contains y xs h)
    ]

pub missing-nil : (n : ℕ) → missing n [] ≡ n
unfolding missing is_in
missing-nil zero = refl
missing-nil (suc n) = omega (arith, missing-nil n)

missing-above : (n : ℕ) (xs : List ℕ) (x : ℕ) → n ≤ x → missing n (xs ++ x ∷ []) ≡ missing n xs
unfolding missing
missing-above zero xs x h = refl
missing-above (suc n) xs x h = grind (arith, nat_tests, missing-above n xs x (omega arith), is_in-push n xs x)

pub missing-push : (n : ℕ) (xs : List ℕ) (x : ℕ) → x < n → is_in x xs ≡ false → missing n (xs ++ x ∷ []) + 1 ≡ missing n xs
unfolding missing
missing-push zero xs x h e = absurd (omega arith)
missing-push (suc n) xs x h e =
    elim (eqb_tells x n) [
      | inl w ↦ grind (arith, nat_tests, missing-above n xs x (omega arith), is_in-push n xs x)
      | inr w ↦ grind (arith, nat_tests, missing-push n xs x (omega arith) e, is_in-push n xs x)
    ]

module _ (next : ℕ → List ℕ) where
  pub Reaches-joins : (a b c : ℕ) → Reaches next a b → Reaches next b c → Reaches next a c
  Reaches-joins a b c r here = r
  Reaches-joins a b c r (on s h) = on (Reaches-joins a _ _ r s) h

  abbrev AreIn : List ℕ → List ℕ → Type 0
  AreIn xs rest = (a b : ℕ) → Contains rest a → Contains (next a) b → Contains xs b

  pub closed_holds : (xs : List ℕ) → AreIn xs xs → (a b : ℕ) → Contains xs a → Reaches next a b → Contains xs b
  closed_holds xs k a b c here = c
  closed_holds xs k a b c (on r h) = k _ _ (closed_holds xs k a _ c r) h

  record Leaves (xs rest : List ℕ) : Type 0 where
    source : ℕ
    target : ℕ
    begins : Contains rest source
    leads : Contains (next source) target
    outside : is_in target xs ≡ false

  record Outside (xs bs : List ℕ) : Type 0 where
    target : ℕ
    among : Contains bs target
    outside : is_in target xs ≡ false

  outside_or : (xs bs : List ℕ) → Outside xs bs ⊎ ((b : ℕ) → Contains bs b → Contains xs b)
  outside_or xs [] = inr (λ b c. none_in b c)
  outside_or xs (b ∷ bs) =
      let at : (r : Bool) → is_in b xs ≡ r → Outside xs (b ∷ bs) ⊎ ((y : ℕ) → Contains (b ∷ bs) y → Contains xs y) =
      elim [
        | true ↦ λ e. elim (outside_or xs bs) [
          | inl o ↦ inl (record { target = o.target; among = Contains-append_right (b ∷ []) bs _ o.among; outside = o.outside })
          | inr k ↦ inr (λ y c. elim (Contains-append_cases (b ∷ []) bs y c) [
            | inl h ↦ elim (Contains-push_cases [] b y h) [ inl n ↦ none_in y n | inr s ↦ Contains-from_is_in y xs (subst (λ z. is_in z xs ≡ true) s e) ]
            | inr h ↦ k y h
          ])
        ]
        | false ↦ λ e. inl (record { target = b; among = (0, omega arith, refl); outside = e })
      ] in
      at (is_in b xs) refl

  leaves_or : (xs rest : List ℕ) → Leaves xs rest ⊎ AreIn xs rest
  leaves_or xs [] = inr (λ a b c h. none_in a c)
  leaves_or xs (x ∷ rest) =
      elim (outside_or xs (next x)) [
        | inl o ↦ inl (record { source = x; target = o.target; begins = (0, omega arith, refl); leads = o.among; outside = o.outside })
        | inr k ↦ elim (leaves_or xs rest) [
          | inl l ↦ inl (record { source = l.source; target = l.target; begins = Contains-append_right (x ∷ []) rest _ l.begins; leads = l.leads; outside = l.outside })
          | inr m ↦ inr (λ a b c h. elim (Contains-append_cases (x ∷ []) rest a c) [
            | inl e ↦ elim (Contains-push_cases [] x a e) [ inl n ↦ none_in a n | inr s ↦ k b (subst (λ z. Contains (next z) b) (sym s) h) ]
            | inr e ↦ m a b e h
          ])
        ]
      ]

  module _ (n : ℕ) (in_range : (a b : ℕ) → Contains (next a) b → b < n) (a : ℕ) where
    abbrev Grown : List ℕ → Type 0
    Grown xs = Contains xs a × ((b : ℕ) → Contains xs b → Reaches next a b)

    whole : (xs : List ℕ) → Grown xs → AreIn xs xs → Cover next a
    whole xs w k = record { files = xs; sound = w.1; complete = λ b r. closed_holds xs k a b w.0 r }

    one_more : (xs : List ℕ) → Grown xs → (l : Leaves xs xs) → Grown (xs ++ l.target ∷ [])
    one_more xs w l = (
      Contains-append_left xs _ a w.0,
      λ b c. elim (Contains-push_cases xs l.target b c) [
        | inl h ↦ w.1 b h
        | inr e ↦ subst (λ z. Reaches next a z) e (on (w.1 _ l.begins) l.leads)
      ],
    )

    fewer : (xs : List ℕ) (l : Leaves xs xs) → missing n (xs ++ l.target ∷ []) + 1 ≡ missing n xs
    fewer xs l = missing-push n xs l.target (in_range _ _ l.leads) l.outside

    grown : (fuel : ℕ) (xs : List ℕ) → missing n xs ≤ fuel → Grown xs → Cover next a
    grown zero xs few w = elim (leaves_or xs xs) [ inr k ↦ whole xs w k | inl l ↦ absurd (omega (arith, fewer xs l)) ]
    grown (suc fuel) xs few w =
        elim (leaves_or xs xs) [
          | inr k ↦ whole xs w k
          | inl l ↦ grown fuel (xs ++ l.target ∷ []) (omega (arith, fewer xs l)) (one_more xs w l)
        ]

    pub cover : Cover next a
    cover = grown (missing n (a ∷ [])) (a ∷ []) (omega arith) ((0, omega arith, refl), λ b c. elim (Contains-push_cases [] a b c) [ inl h ↦ none_in b h | inr e ↦ subst (λ z. Reaches next a z) e here ])
