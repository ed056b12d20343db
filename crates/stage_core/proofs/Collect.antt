-- What loops over files collect.
use Rattle.std.proofs.Common.{◌≡◌, ◌⊎◌, inl, inr, ℕ, zero, suc, ◌+◌, ◌<◌, ◌≤◌, Bool, true, false, cond, eqb, List, [], ◌∷◌, ◌++◌, length, take, get_or, filter, filter_map, map, Contains, Option, Some, None, option_map, option_to_list, refl, sym, ap, ◌∙◌, subst, arith, append-nil}
use Rattle.std.specs.Option.{is_some}
use Rattle.std.specs.declared.cmp.Ordering.{Ordering}
use Rattle.std.specs.declared.cmp.Ordering.TheVariants.{Less}
use Rattle.std.specs.List.{AllByRecursion, cons_option}
use Rattle.std.specs.List.Sorted.{IsStrictlySortedBy}
use Rattle.std.proofs.lemmas.Bool.Decides.{eqb_tells, nat_tests}
use Rattle.std.proofs.lemmas.List.Elements.{Contains-push, Contains-push_cases, Contains-append_left, Contains-append_right, Contains-append_cases, filter_map-append, filter-append}
use Rattle.stage_core.proofs.Reach.{Contains-from_is_in, is_in-from_contains}
use Rattle.std.proofs.lemmas.List.{take_more}
use Rattle.stage_core.specs.Log.{OutcomeValue, Value, Fault, Block}
use Rattle.stage_core.specs.Machine.{is_final}
use Rattle.stage_core.specs.FileSets.{is_in, files_below}
use Rattle.stage_core.specs.Status.{final_or, status_of}

-- one more file
pub files_below-push : (n : ℕ) → files_below (n + 1) ≡ files_below n ++ n ∷ []
unfolding files_below
files_below-push n = let e : suc n ≡ n + 1 = omega arith in subst (λ m. files_below m ≡ files_below n ++ n ∷ []) e refl

filter-push : (p : ℕ → _) (xs : List ℕ) (x : ℕ) → filter p (xs ++ x ∷ []) ≡ cond (p x) (filter p xs ++ x ∷ []) (filter p xs)
filter-push p xs x = filter-append p xs (x ∷ []) ∙ elim (p x) as (λ b. filter p xs ++ cond b (x ∷ []) [] ≡ cond b (filter p xs ++ x ∷ []) (filter p xs)) [ true ↦ refl | false ↦ append-nil (filter p xs) ]

pub ordered_more : (set : List ℕ) (n : ℕ) → filter (λ f. is_in f set) (files_below (n + 1)) ≡ cond (is_in n set) (filter (λ f. is_in f set) (files_below n) ++ n ∷ []) (filter (λ f. is_in f set) (files_below n))
ordered_more set n = ap (filter (λ f. is_in f set)) (files_below-push n) ∙ filter-push (λ f. is_in f set) (files_below n) n

filter_map-push : {X Y : Type 0} (f : X → Option Y) (xs : List X) (x : X) → filter_map f (xs ++ x ∷ []) ≡ filter_map f xs ++ option_to_list (f x)
filter_map-push f xs x =
    filter_map-append f xs (x ∷ []) ∙ ap (λ (t : List _). filter_map f xs ++ t) (elim (f x) as (λ w. cons_option w [] ≡ option_to_list w) [ None ↦ refl | Some y ↦ refl ])

pub filter_map-more : {Y : Type 0} (f : ℕ → Option Y) (xs : List ℕ) (i : ℕ) → i < length xs → filter_map f (take (i + 1) xs) ≡ filter_map f (take i xs) ++ option_to_list (f (get_or xs i 0))
filter_map-more f xs i l = ap (filter_map f) (take_more xs i 0 l) ∙ filter_map-push f (take i xs) (get_or xs i 0)

same_final : {O : Type 0} (o : OutcomeValue O) → is_final o ≡ true → (n : ℕ) (os : List (OutcomeValue O)) → final_or (o ∷ os) n ≡ final_or (o ∷ []) 0
same_final (Value x) final n os = cc
same_final (Fault fault) final n os = refl
same_final Block final n os = refl

-- a final outcome decides the status
pub status_final : {O : Type 0} (before rest : List (OutcomeValue O)) (o : OutcomeValue O) → filter is_final before ≡ [] → is_final o ≡ true → status_of (before ++ o ∷ rest) ≡ final_or (o ∷ []) 0
unfolding status_of
status_final before rest o none final =
    let n = length (before ++ o ∷ rest) in
    let cut : filter is_final (before ++ o ∷ rest) ≡ o ∷ filter is_final rest = filter-append is_final before (o ∷ rest) ∙ rw (none, final) refl in
    rw cut (same_final o final n (filter is_final rest))

-- what a test keeps, and what a function gives, of the elements of a list
none_in : {X A : Type 0} (x : X) → Contains [] x → A
none_in x c = absurd (omega arith)

pub cons_cases : {X : Type 0} (y : X) (xs : List X) (x : X) → Contains (y ∷ xs) x → (y ≡ x) ⊎ Contains xs x
cons_cases y xs x c =
    elim (Contains-append_cases (y ∷ []) xs x c) [
      | inl h ↦ elim (Contains-push_cases [] y x h) [ inl n ↦ none_in x n | inr e ↦ inl e ]
      | inr h ↦ inr h
    ]

pub at_head : {X : Type 0} (y : X) (xs : List X) → Contains (y ∷ xs) y
at_head y xs = (0, omega arith, refl)

pub in_tail : {X : Type 0} (y : X) (xs : List X) (x : X) → Contains xs x → Contains (y ∷ xs) x
in_tail y xs x c = Contains-append_right (y ∷ []) xs x c

filter_from : (p : ℕ → Bool) (xs : List ℕ) (b : ℕ) → Contains (filter p xs) b → Contains xs b × (p b ≡ true)
filter_from p [] b = none_in b
filter_from p (x ∷ xs) b =
    elim (p x) as (λ t. p x ≡ t → Contains (cond t (x ∷ filter p xs) (filter p xs)) b → Contains (x ∷ xs) b × (p b ≡ true)) [
      | true ↦ λ e c. elim (cons_cases x (filter p xs) b c) [
        | inl s ↦ (subst (λ z. Contains (x ∷ xs) z) s (at_head x xs), subst (λ z. p z ≡ true) s e)
        | inr h ↦ let r = filter_from p xs b h in (in_tail x xs b r.0, r.1)
      ]
      | false ↦ λ e c. let r = filter_from p xs b c in (in_tail x xs b r.0, r.1)
    ] refl

filter_to : (p : ℕ → Bool) (xs : List ℕ) (b : ℕ) → Contains xs b → p b ≡ true → Contains (filter p xs) b
filter_to p [] b c e = none_in b c
filter_to p (x ∷ xs) b c e =
    elim (cons_cases x xs b c) [
      | inl s ↦ subst (λ t. Contains (cond t (x ∷ filter p xs) (filter p xs)) b) (sym (subst (λ z. p z ≡ true) (sym s) e)) (subst (λ z. Contains (x ∷ filter p xs) z) s (at_head x (filter p xs)))
      | inr h ↦ elim (p x) as (λ t. Contains (cond t (x ∷ filter p xs) (filter p xs)) b) [ true ↦ in_tail x (filter p xs) b (filter_to p xs b h e) | false ↦ filter_to p xs b h e ]
    ]

pub below_from : (n b : ℕ) → Contains (files_below n) b → b < n
unfolding files_below
below_from zero b c = none_in b c
below_from (suc n) b c = elim (Contains-push_cases (files_below n) n b c) [ inl h ↦ omega (arith, below_from n b h) | inr e ↦ omega arith ]

pub below_to : (n b : ℕ) → b < n → Contains (files_below n) b
unfolding files_below
below_to zero b l = absurd (omega arith)
below_to (suc n) b l =
    elim (eqb_tells b n) [
      | inl w ↦ subst (λ z. Contains (files_below n ++ n ∷ []) z) (sym w.1) (Contains-push (files_below n) n)
      | inr w ↦ Contains-append_left (files_below n) (n ∷ []) b (below_to n b (omega arith))
    ]

-- the set in ascending order has the files of the set
abbrev pub ordered : List ℕ → ℕ → List ℕ
ordered set n = filter (λ f. is_in f set) (files_below n)

pub ordered_from : (set : List ℕ) (n b : ℕ) → Contains (ordered set n) b → Contains set b
ordered_from set n b c = Contains-from_is_in b set (filter_from (λ f. is_in f set) (files_below n) b c).1

pub ordered_to : (set : List ℕ) (n b : ℕ) → b < n → Contains set b → Contains (ordered set n) b
ordered_to set n b l c = filter_to (λ f. is_in f set) (files_below n) b (below_to n b l) (is_in-from_contains b set c)

pub given_from : {X : Type 0} (f : ℕ → Option X) (xs : List ℕ) (x : X) → Contains (filter_map f xs) x → (b : ℕ) × Contains xs b × (f b ≡ Some x)
given_from f [] x = none_in x
given_from f (y ∷ ys) x =
    elim (f y) as (λ w. f y ≡ w → Contains (cons_option w (filter_map f ys)) x → (b : ℕ) × Contains (y ∷ ys) b × (f b ≡ Some x)) [
      | None ↦ λ e c. let r = given_from f ys x c in (r.0, in_tail y ys r.0 r.1, r.2)
      | Some z ↦ λ e c. elim (cons_cases z (filter_map f ys) x c) [
        | inl s ↦ (y, at_head y ys, e ∙ ap Some s)
        | inr h ↦ let r = given_from f ys x h in (r.0, in_tail y ys r.0 r.1, r.2)
      ]
    ] refl

pub given_to : {X : Type 0} (f : ℕ → Option X) (xs : List ℕ) (x : X) (b : ℕ) → Contains xs b → f b ≡ Some x → Contains (filter_map f xs) x
given_to f [] x b c e = none_in b c
given_to f (y ∷ ys) x b c e =
    elim (cons_cases y ys b c) [
      | inl s ↦ subst (λ w. Contains (cons_option w (filter_map f ys)) x) (sym (subst (λ z. f z ≡ Some x) (sym s) e)) (at_head x (filter_map f ys))
      | inr h ↦ elim (f y) as (λ w. Contains (cons_option w (filter_map f ys)) x) [ None ↦ given_to f ys x b h e | Some z ↦ in_tail z (filter_map f ys) x (given_to f ys x b h e) ]
    ]

-- the files at which the function gives a pair
pub firsts_filter : {X : Type 0} (f : ℕ → Option (ℕ × X)) (xs : List ℕ) → ((b : ℕ) (r : ℕ × X) → f b ≡ Some r → r.0 ≡ b) → map (λ r. r.0) (filter_map f xs) ≡ filter (λ b. is_some (f b)) xs
firsts_filter f [] own = refl
firsts_filter f (y ∷ ys) own =
    elim (f y) as (λ w. f y ≡ w → map (λ r. r.0) (cons_option w (filter_map f ys)) ≡ cond (is_some w) (y ∷ filter (λ b. is_some (f b)) ys) (filter (λ b. is_some (f b)) ys)) [
      | None ↦ λ e. firsts_filter f ys own
      | Some r ↦ λ e. rw (own y r e, firsts_filter f ys own) refl
    ] refl

pub filter_all : (p : ℕ → Bool) (xs : List ℕ) → ((b : ℕ) → Contains xs b → p b ≡ true) → filter p xs ≡ xs
filter_all p [] all = refl
filter_all p (y ∷ ys) all = rw (all y (at_head y ys), filter_all p ys (λ b c. all b (in_tail y ys b c))) refl

pub pair_ap : {X : Type 0} (b : ℕ) (w v : Option X) → w ≡ v → option_map {U = ℕ × X} (λ x. (b, x)) w ≡ option_map {U = ℕ × X} (λ x. (b, x)) v
pair_ap {X} b w v e = ap (option_map {U = ℕ × X} (λ x. (b, x))) e

-- the pair that a function gives has the file
pub own_pair : {X : Type 0} (b : ℕ) (w : Option X) (r : ℕ × X) → option_map {U = ℕ × X} (λ x. (b, x)) w ≡ Some r → (r.0 ≡ b) × (w ≡ Some r.1)
own_pair b None r e = cc
own_pair b (Some x) r e = let s : (b, x) ≡ r = cc in (sym (ap (λ p. p.0) s), ap (λ p. Some p.1) s)

all_push : (P : ℕ → Type 0) (xs : List ℕ) (e : ℕ) → AllByRecursion P xs → P e → AllByRecursion P (xs ++ e ∷ [])
all_push P [] e a p = (p, tt)
all_push P (x ∷ xs) e a p = (a.0, all_push P xs e a.1 p)

sorted_push : (c : ℕ → ℕ → Ordering) (xs : List ℕ) (e : ℕ) → IsStrictlySortedBy c xs → ((x : ℕ) → Contains xs x → c x e ≡ Less) → IsStrictlySortedBy c (xs ++ e ∷ [])
unfolding IsStrictlySortedBy
sorted_push c [] e s h = (tt, tt)
sorted_push c (x ∷ xs) e s h = (all_push _ xs e s.0 (h x (at_head x xs)), sorted_push c xs e s.1 (λ y d. h y (in_tail x xs y d)))

pub files_sorted : (c : ℕ → ℕ → Ordering) (n m : ℕ) → m ≤ n → ((f h : ℕ) → f < h → h < n → c f h ≡ Less) → IsStrictlySortedBy c (files_below m)
unfolding files_below IsStrictlySortedBy
files_sorted c n zero l up = tt
files_sorted c n (suc m) l up = sorted_push c (files_below m) m (files_sorted c n m (omega arith) up) (λ x d. up x m (below_from m x d) (omega arith))

-- a test of emptiness
pub not_empty : {X : Type 0} (xs : List X) (n : ℕ) (b : Bool) → n ≡ length xs → b ≡ eqb n 0 → b ≡ false → xs ≡ [] → ⊥
not_empty [] n b l t f e = grind (arith, nat_tests)
not_empty (x ∷ xs) n b l t f e = cc

pub nil_by_test : {X : Type 0} (xs : List X) (n : ℕ) (b : Bool) → n ≡ length xs → b ≡ eqb n 0 → b ≡ true → xs ≡ []
nil_by_test [] n b l t f = refl
nil_by_test (x ∷ xs) n b l t f = absurd (grind (arith, nat_tests))
