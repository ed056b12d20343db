-- The least set, as a list that can be searched.
use Rattle.std.proofs.Common.{◌≡◌, ℕ, zero, suc, ◌+◌, ◌<◌, ◌≤◌, ◌⊎◌, ◌↔◌, inl, inr, Bool, true, false, ◌||◌, cond, eqb, nat_eq, List, [], ◌∷◌, ◌++◌, length, Contains, take, get_or, refl, sym, ap, ◌∙◌, subst, arith, length-append, take_all}
use Rattle.std.proofs.lemmas.List.{take-append-le, take_more}
use Rattle.std.proofs.lemmas.Bool.Decides.{nat_tests, eqb_tells}
use Rattle.std.proofs.lemmas.List.Elements.{Contains-push, Contains-push_cases, Contains-append_left, Contains-append_right, Contains-append_cases}
use Rattle.std.proofs.lemmas.Cmp.{nat_eq_equiv}
use Rattle.std.proofs.lemmas.Map.Keys.{IsDistinct-push}
use Rattle.std.specs.List.{list_any, IsDistinct}
use Rattle.stage_core.specs.Stages.{Reaches, here, on}
use Rattle.stage_core.specs.FileSets.{is_in, missing, IsFileSet, with_file, with_files}

pub is_in-push : (y : ℕ) (xs : List ℕ) (x : ℕ) → is_in y (xs ++ x ∷ []) ≡ (is_in y xs || eqb x y)
unfolding is_in
is_in-push y [] x = grind arith
is_in-push y (z ∷ xs) x = grind (arith, is_in-push y xs x)

none_in : {X : Type 0} (x : X) → Contains [] x → {A : Type 0} → A
none_in x c = absurd (omega arith)

pub Contains-from_is_in : (y : ℕ) (xs : List ℕ) → is_in y xs ≡ true → Contains xs y
unfolding is_in
Contains-from_is_in y [] e = cc
Contains-from_is_in y (x ∷ xs) e =
    elim (eqb_tells x y) [
      | inl h ↦ (0, omega arith, h.1)
      | inr h ↦ Contains-append_right (x ∷ []) xs y (Contains-from_is_in y xs (grind arith))
    ]

pub is_in-from_contains : (y : ℕ) (xs : List ℕ) → Contains xs y → is_in y xs ≡ true
unfolding is_in
is_in-from_contains y [] c = none_in y c
is_in-from_contains y (x ∷ xs) c =
    elim (Contains-append_cases (x ∷ []) xs y c) [
      | inl h ↦ elim (Contains-push_cases [] x y h) [ inl k ↦ none_in y k | inr e ↦ grind (arith, nat_tests) ]
      | inr h ↦ grind (arith, is_in-from_contains y xs h)
    ]

pub missing-nil : (n : ℕ) → missing n [] ≡ n
unfolding missing is_in
missing-nil zero = refl
missing-nil (suc n) = omega (arith, missing-nil n)

missing-above : (n : ℕ) (xs : List ℕ) (x : ℕ) → n ≤ x → missing n (xs ++ x ∷ []) ≡ missing n xs
unfolding missing
missing-above zero xs x h = refl
missing-above (suc n) xs x h = grind (arith, nat_tests, missing-above n xs x (omega arith), is_in-push n xs x)

pub missing-push : (n : ℕ) (xs : List ℕ) (x : ℕ) → x < n → is_in x xs ≡ false → missing n (xs ++ x ∷ []) + 1 ≡ missing n xs
unfolding missing
missing-push zero xs x h e = absurd (omega arith)
missing-push (suc n) xs x h e =
    elim (eqb_tells x n) [
      | inl w ↦ grind (arith, nat_tests, missing-above n xs x (omega arith), is_in-push n xs x)
      | inr w ↦ grind (arith, nat_tests, missing-push n xs x (omega arith) e, is_in-push n xs x)
    ]

module _ (next : ℕ → List ℕ) where
  pub Reaches-joins : (a b c : ℕ) → Reaches next a b → Reaches next b c → Reaches next a c
  Reaches-joins a b c r here = r
  Reaches-joins a b c r (on s h) = on (Reaches-joins a _ _ r s) h

  abbrev IsClosed : List ℕ → List ℕ → Type 0
  IsClosed xs rest = (a b : ℕ) → Contains rest a → Contains (next a) b → Contains xs b

  pub closed_holds : (xs : List ℕ) → IsClosed xs xs → (a b : ℕ) → Contains xs a → Reaches next a b → Contains xs b
  closed_holds xs k a b c here = c
  closed_holds xs k a b c (on r h) = k _ _ (closed_holds xs k a _ c r) h

  record Leaves (xs rest : List ℕ) : Type 0 where
    source : ℕ
    target : ℕ
    begins : Contains rest source
    leads : Contains (next source) target
    outside : is_in target xs ≡ false

  record Outside (xs bs : List ℕ) : Type 0 where
    target : ℕ
    among : Contains bs target
    outside : is_in target xs ≡ false

  outside_or : (xs bs : List ℕ) → Outside xs bs ⊎ ((b : ℕ) → Contains bs b → Contains xs b)
  outside_or xs [] = inr (λ b c. none_in b c)
  outside_or xs (b ∷ bs) =
      let at : (r : Bool) → is_in b xs ≡ r → Outside xs (b ∷ bs) ⊎ ((y : ℕ) → Contains (b ∷ bs) y → Contains xs y) =
      elim [
        | true ↦ λ e. elim (outside_or xs bs) [
          | inl o ↦ inl (record { target = o.target; among = Contains-append_right (b ∷ []) bs _ o.among; outside = o.outside })
          | inr k ↦ inr (λ y c. elim (Contains-append_cases (b ∷ []) bs y c) [
            | inl h ↦ elim (Contains-push_cases [] b y h) [ inl n ↦ none_in y n | inr s ↦ Contains-from_is_in y xs (subst (λ z. is_in z xs ≡ true) s e) ]
            | inr h ↦ k y h
          ])
        ]
        | false ↦ λ e. inl (record { target = b; among = (0, omega arith, refl); outside = e })
      ] in
      at (is_in b xs) refl

  leaves_or : (xs rest : List ℕ) → Leaves xs rest ⊎ IsClosed xs rest
  leaves_or xs [] = inr (λ a b c h. none_in a c)
  leaves_or xs (x ∷ rest) =
      elim (outside_or xs (next x)) [
        | inl o ↦ inl (record { source = x; target = o.target; begins = (0, omega arith, refl); leads = o.among; outside = o.outside })
        | inr k ↦ elim (leaves_or xs rest) [
          | inl l ↦ inl (record { source = l.source; target = l.target; begins = Contains-append_right (x ∷ []) rest _ l.begins; leads = l.leads; outside = l.outside })
          | inr m ↦ inr (λ a b c h. elim (Contains-append_cases (x ∷ []) rest a c) [
            | inl e ↦ elim (Contains-push_cases [] x a e) [ inl n ↦ none_in a n | inr s ↦ k b (subst (λ z. Contains (next z) b) (sym s) h) ]
            | inr e ↦ m a b e h
          ])
        ]
      ]

  -- the files that are reached from a, as a list
  pub record Cover (a : ℕ) : Type 0 where
    pub files : List ℕ
    pub sound : (b : ℕ) → Contains files b → Reaches next a b
    pub complete : (b : ℕ) → Reaches next a b → Contains files b

  module _ (n : ℕ) (in_range : (a b : ℕ) → Contains (next a) b → b < n) (a : ℕ) where
    abbrev Grown : List ℕ → Type 0
    Grown xs = Contains xs a × ((b : ℕ) → Contains xs b → Reaches next a b)

    whole : (xs : List ℕ) → Grown xs → IsClosed xs xs → Cover a
    whole xs w k = record { files = xs; sound = w.1; complete = λ b r. closed_holds xs k a b w.0 r }

    one_more : (xs : List ℕ) → Grown xs → (l : Leaves xs xs) → Grown (xs ++ l.target ∷ [])
    one_more xs w l = (
      Contains-append_left xs _ a w.0,
      λ b c. elim (Contains-push_cases xs l.target b c) [
        | inl h ↦ w.1 b h
        | inr e ↦ subst (λ z. Reaches next a z) e (on (w.1 _ l.begins) l.leads)
      ],
    )

    fewer : (xs : List ℕ) (l : Leaves xs xs) → missing n (xs ++ l.target ∷ []) + 1 ≡ missing n xs
    fewer xs l = missing-push n xs l.target (in_range _ _ l.leads) l.outside

    grown : (fuel : ℕ) (xs : List ℕ) → missing n xs ≤ fuel → Grown xs → Cover a
    grown zero xs few w = elim (leaves_or xs xs) [ inr k ↦ whole xs w k | inl l ↦ absurd (omega (arith, fewer xs l)) ]
    grown (suc fuel) xs few w =
        elim (leaves_or xs xs) [
          | inr k ↦ whole xs w k
          | inl l ↦ grown fuel (xs ++ l.target ∷ []) (omega (arith, fewer xs l)) (one_more xs w l)
        ]

    pub cover : Cover a
    cover = grown (missing n (a ∷ [])) (a ∷ []) (omega arith) ((0, omega arith, refl), λ b c. elim (Contains-push_cases [] a b c) [ inl h ↦ none_in b h | inr e ↦ subst (λ z. Reaches next a z) e here ])

-- FileSets that are added.
pub Contains-with_file : (xs : List ℕ) (y b : ℕ) → Contains (with_file xs y) b → Contains xs b ⊎ (y ≡ b)
unfolding with_file
Contains-with_file xs y b =
    elim (is_in y xs) as (λ t. Contains (cond t xs (xs ++ y ∷ [])) b → Contains xs b ⊎ (y ≡ b)) [ true ↦ inl | false ↦ Contains-push_cases xs y b ]

pub with_file_kept : (xs : List ℕ) (y b : ℕ) → Contains xs b → Contains (with_file xs y) b
unfolding with_file
with_file_kept xs y b c = elim (is_in y xs) as (λ t. Contains (cond t xs (xs ++ y ∷ [])) b) [ true ↦ c | false ↦ Contains-append_left xs (y ∷ []) b c ]

pub with_file_has : (xs : List ℕ) (y : ℕ) → Contains (with_file xs y) y
unfolding with_file
with_file_has xs y =
    elim (is_in y xs) as (λ t. is_in y xs ≡ t → Contains (cond t xs (xs ++ y ∷ [])) y) [ true ↦ λ e. Contains-from_is_in y xs e | false ↦ λ e. Contains-push xs y ] refl

pub none_twice : IsDistinct nat_eq []
unfolding IsDistinct
none_twice = tt

-- the test of `IsDistinct`, which compares the other way round
test_is_in : (y : ℕ) (xs : List ℕ) → list_any (nat_eq y) xs ≡ is_in y xs
unfolding is_in
test_is_in y [] = refl
test_is_in y (x ∷ xs) = rw (nat_eq_equiv.symm y x, test_is_in y xs) refl

pub with_file_set : (n : ℕ) (xs : List ℕ) (y : ℕ) → y < n → IsFileSet n xs → IsFileSet n (with_file xs y)
unfolding with_file
with_file_set n xs y l m =
    elim (is_in y xs) as (λ t. is_in y xs ≡ t → IsFileSet n (cond t xs (xs ++ y ∷ []))) [
      | true ↦ λ e. m
      | false ↦ λ e. record { once = IsDistinct-push nat_eq_equiv xs y m.once (test_is_in y xs ∙ e); counted = omega (arith, missing-push n xs y l e, length-append xs (y ∷ []), m.counted) }
    ] refl

-- there is room for one more
pub file_set_room : (n : ℕ) (xs : List ℕ) (y : ℕ) → y < n → IsFileSet n xs → is_in y xs ≡ false → length xs < n
file_set_room n xs y l m e = omega (arith, missing-push n xs y l e, m.counted)

pub with_files-push : (xs ys : List ℕ) (y : ℕ) → with_files xs (ys ++ y ∷ []) ≡ with_file (with_files xs ys) y
unfolding with_files
with_files-push xs [] y = refl
with_files-push xs (z ∷ ys) y = with_files-push (with_file xs z) ys y

pub Contains-with_files : (xs ys : List ℕ) (b : ℕ) → Contains (with_files xs ys) b → Contains xs b ⊎ Contains ys b
unfolding with_files
Contains-with_files xs [] b c = inl c
Contains-with_files xs (y ∷ ys) b c =
    elim (Contains-with_files (with_file xs y) ys b c) [
      | inl h ↦ elim (Contains-with_file xs y b h) [ inl k ↦ inl k | inr e ↦ inr (0, omega arith, e) ]
      | inr h ↦ inr (Contains-append_right (y ∷ []) ys b h)
    ]

pub with_files_kept : (xs ys : List ℕ) (b : ℕ) → Contains xs b → Contains (with_files xs ys) b
unfolding with_files
with_files_kept xs [] b c = c
with_files_kept xs (y ∷ ys) b c = with_files_kept (with_file xs y) ys b (with_file_kept xs y b c)

pub with_files_has : (xs ys : List ℕ) (b : ℕ) → Contains ys b → Contains (with_files xs ys) b
unfolding with_files
with_files_has xs [] b c = none_in b c
with_files_has xs (y ∷ ys) b c =
    elim (Contains-append_cases (y ∷ []) ys b c) [
      | inl h ↦ elim (Contains-push_cases [] y b h) [ inl n ↦ none_in b n | inr e ↦ with_files_kept (with_file xs y) ys b (subst (λ z. Contains (with_file xs y) z) e (with_file_has xs y)) ]
      | inr h ↦ with_files_has (with_file xs y) ys b h
    ]

pub with_files_set : (n : ℕ) (xs ys : List ℕ) → ((y : ℕ) → Contains ys y → y < n) → IsFileSet n xs → IsFileSet n (with_files xs ys)
unfolding with_files
with_files_set n xs [] l m = m
with_files_set n xs (y ∷ ys) l m = with_files_set n (with_file xs y) ys (λ z c. l z (Contains-append_right (y ∷ []) ys z c)) (with_file_set n xs y (l y (0, omega arith, refl)) m)

-- what is there stays at its place
pub with_file-take : (k : ℕ) (xs : List ℕ) (y : ℕ) → k ≤ length xs → (take k (with_file xs y) ≡ take k xs) × (k ≤ length (with_file xs y))
unfolding with_file
with_file-take k xs y h =
    elim (is_in y xs) as (λ t. (take k (cond t xs (xs ++ y ∷ [])) ≡ take k xs) × (k ≤ length (cond t xs (xs ++ y ∷ [])))) [
      | true ↦ (refl, h)
      | false ↦ (take-append-le k xs (y ∷ []) h, omega (arith, length-append xs (y ∷ [])))
    ]

pub with_files-take : (k : ℕ) (xs ys : List ℕ) → k ≤ length xs → (take k (with_files xs ys) ≡ take k xs) × (k ≤ length (with_files xs ys))
unfolding with_files
with_files-take k xs [] h = (refl, h)
with_files-take k xs (y ∷ ys) h =
    let m = with_file-take k xs y h in
    let r = with_files-take k (with_file xs y) ys m.1 in
    (r.0 ∙ m.0, r.1)

-- A walk over the files visited, as far as the place `at`.
pub record IsSearch (next : ℕ → List ℕ) (n : ℕ) (first xs : List ℕ) (at : ℕ) : Type 0 where
  pub visited : IsFileSet n xs
  pub within : at ≤ length xs
  pub keeps : (b : ℕ) → Contains first b → Contains xs b
  pub sound : (b : ℕ) → Contains xs b → (a : ℕ) × Contains first a × Reaches next a b
  pub closed : (a b : ℕ) → Contains (take at xs) a → Contains (next a) b → Contains xs b

pub search_start : (next : ℕ → List ℕ) (n : ℕ) (xs : List ℕ) → IsFileSet n xs → IsSearch next n xs xs 0
search_start next n xs m = record { visited = m; within = omega arith; keeps = λ b c. c; sound = λ b c. (b, c, here); closed = λ a b c h. none_in a c }

pub search_step : (next : ℕ → List ℕ) (n : ℕ) (in_range : (a b : ℕ) → Contains (next a) b → b < n) (first xs : List ℕ) (at a : ℕ) → at < length xs → a ≡ get_or xs at a → IsSearch next n first xs at → IsSearch next n first (with_files xs (next a)) (at + 1)
search_step next n in_range first xs at a l is s =
    let new = next a in
    let t = with_files-take (at + 1) xs new (omega arith) in
    let there : Contains xs a = (at, l, sym is) in
    record {
      visited = with_files_set n xs new (in_range a) s.visited;
      within = t.1;
      keeps = λ b c. with_files_kept xs new b (s.keeps b c);
      sound = λ b c. elim (Contains-with_files xs new b c) [
        | inl h ↦ s.sound b h
        | inr h ↦ let r = s.sound a there in (r.0, r.1, on r.2 h)
      ];
      closed = λ x b c h. elim (Contains-push_cases (take at xs) a x (subst (λ ys. Contains ys x) (t.0 ∙ (take_more xs at a l ∙ ap (λ y. take at xs ++ y ∷ []) (sym is))) c)) [
        | inl k ↦ with_files_kept xs new b (s.closed x b k h)
        | inr e ↦ with_files_has xs new b (subst (λ z. Contains (next z) b) (sym e) h)
      ];
    }

pub search_end : (next : ℕ → List ℕ) (n : ℕ) (first xs : List ℕ) (at : ℕ) → length xs ≤ at → IsSearch next n first xs at → (b : ℕ) → ((a : ℕ) × Contains first a × Reaches next a b) → Contains xs b
search_end next n first xs at l s b r = closed_holds next xs (λ x y c h. s.closed x y (subst (λ ys. Contains ys x) (sym (take_all at xs l)) c) h) r.0 b (s.keeps r.0 r.1) r.2

pub ruleset file_set_steps = (file_set_room, with_file_set)

pub empty_file_set : (n : ℕ) → IsFileSet n []
empty_file_set n = record { once = none_twice; counted = omega (arith, missing-nil n) }

pub Contains-take_more : (xs : List ℕ) (i y : ℕ) → i < length xs → Contains (take (i + 1) xs) y → Contains (take i xs) y ⊎ (get_or xs i 0 ≡ y)
Contains-take_more xs i y l c = Contains-push_cases (take i xs) (get_or xs i 0) y (subst (λ ys. Contains ys y) (take_more xs i 0 l) c)

pub Contains-taken : (xs : List ℕ) (i y : ℕ) → length xs ≤ i → Contains xs y → Contains (take i xs) y
Contains-taken xs i y l c = subst (λ ys. Contains ys y) (sym (take_all i xs l)) c

-- the only file so far
pub first_file : (xs : List ℕ) (y b : ℕ) → xs ≡ [] → Contains (with_file xs y) b → y ≡ b
first_file xs y b e c = elim (Contains-with_file xs y b c) [ inl h ↦ none_in b (subst (λ ys. Contains ys b) e h) | inr s ↦ s ]

-- what a walk from one file reaches
pub from_one_file : (next : ℕ → List ℕ) (first : List ℕ) (file : ℕ) (xs : List ℕ) → first ≡ [] → ((b : ℕ) → Contains xs b ↔ ((a : ℕ) × Contains (with_file first file) a × Reaches next a b)) → (b : ℕ) → Contains xs b ↔ Reaches next file b
from_one_file next first file xs none all b = (
  λ c. let from = (all b).0 c in subst (λ a. Reaches next a b) (sym (first_file first file from.0 none from.1)) from.2,
  λ r. (all b).1 (file, with_file_has first file, r),
)
