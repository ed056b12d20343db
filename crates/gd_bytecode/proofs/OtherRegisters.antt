-- Frames that differ in registers from some number on alone: what an instruction, and what a run, makes of both.
use Rattle.std.proofs.Common.{◌≡◌, ℕ, zero, suc, ◌+◌, ◌<◌, ◌≤◌, Bool, true, false, List, [], ◌∷◌, ◌++◌, take, drop, length, refl, sym, ap, ◌∙◌, arith}
use Rattle.std.specs.Prelude.{slice_get, slice_set, nat_lt, ◌&&◌, unwrap_or}
use Rattle.std.specs.List.{list_all, range_with_len}
use Rattle.std.proofs.lemmas.Bool.{false≢true}
use Rattle.std.proofs.lemmas.Bool.Decides.{nat_tests}
use Rattle.std.proofs.lemmas.List.{take-take, drop-take}
use Rattle.gd_bytecode.specs.declared.forms.Registers.{Registers}
use Rattle.gd_bytecode.specs.declared.forms.Registers.TheVariants as registers
use Rattle.gd_bytecode.specs.Forms.{run, registers_in}
use Rattle.gd_bytecode.specs.Checks.{is_below}
use Rattle.variant_values.specs.declared.values.Value.{Value}
use Rattle.variant_values.specs.declared.values.Value.TheVariants.{Null}
use Rattle.gd_bytecode.specs.CodeLaws.{Stays}
use Rattle.gd_bytecode.specs.FrameState.{register_at}

-- ---- lists that agree in front

get_in_front : {A : Type 0} (n i : ℕ) (xs : List A) → i < n → slice_get (take n xs) i ≡ slice_get xs i
get_in_front zero i xs h = absurd (omega (arith, h))
get_in_front (suc n) i [] h = refl
get_in_front (suc n) zero (x ∷ xs) h = refl
get_in_front (suc n) (suc i) (x ∷ xs) h = get_in_front n i xs (omega (arith, h))

take_set : {A : Type 0} (n i : ℕ) (x : A) (xs : List A) → take n (slice_set xs i x) ≡ slice_set (take n xs) i x
take_set zero i x xs = refl
take_set (suc n) i x [] = refl
take_set (suc n) zero x (y ∷ xs) = refl
take_set (suc n) (suc i) x (y ∷ xs) = ap (λ zs. y ∷ zs) (take_set n i x xs)

pub drop_set : {A : Type 0} (n i : ℕ) (x : A) (xs : List A) → i < n → drop n (slice_set xs i x) ≡ drop n xs
drop_set zero i x xs h = absurd (omega (arith, h))
drop_set (suc n) i x [] h = refl
drop_set (suc n) zero x (y ∷ xs) h = refl
drop_set (suc n) (suc i) x (y ∷ xs) h = drop_set n i x xs (omega (arith, h))

pub none_behind : {A : Type 0} (n : ℕ) (xs : List A) → length xs ≤ n → drop n xs ≡ []
none_behind zero [] h = refl
none_behind zero (x ∷ xs) h = absurd (omega (arith, h))
none_behind (suc n) [] h = refl
none_behind (suc n) (x ∷ xs) h = none_behind n xs (omega (arith, h))

-- The first `n` registers are the same, no more of them are open, and behind them stands `m` or nothing.
pub record Close (n : ℕ) (m : List Value) (opened : ℕ) (xs ys : List Value) : Type 0 where
  pub same : take n xs ≡ take n ys
  pub reach : opened ≤ n
  pub most : Stays n m xs

module _ (n : ℕ) (m : List Value) (opened : ℕ) (xs ys : List Value) (p : Close n m opened xs ys) where
  pub fronts : (k : ℕ) → k ≤ n → take k xs ≡ take k ys
  fronts k h = sym (take-take k n xs h) ∙ ap (take k) p.same ∙ take-take k n ys h

  pub reads : (r : ℕ) → r < n → register_at xs r ≡ register_at ys r
  reads r h = ap (λ o. unwrap_or o Null) (sym (get_in_front n r xs h) ∙ ap (λ zs. slice_get zs r) p.same ∙ get_in_front n r ys h)

  pub rows : (first count : ℕ) → first + count ≤ n → take count (drop first xs) ≡ take count (drop first ys)
  rows first count h = sym (drop-take first count xs) ∙ ap (drop first) (fronts (first + count) h) ∙ drop-take first count ys

  pub sets : (r : ℕ) (v : Value) → take n (slice_set xs r v) ≡ take n (slice_set ys r v)
  sets r v = take_set n r v xs ∙ ap (λ zs. slice_set zs r v) p.same ∙ sym (take_set n r v ys)

-- ---- what a form says of the registers that it names

both : (a b : Bool) → a && b ≡ true → (a ≡ true) × (b ≡ true)
both true b h = (refl, h)
both false b h = absurd (false≢true h)

lt_of : (r n : ℕ) → nat_lt r n ≡ true → r < n
lt_of r n h = grind (arith, nat_tests, h)

row_of : (n first count : ℕ) → list_all (is_below n) (range_with_len first (suc count)) ≡ true → first + suc count ≤ n
row_of n first zero h = let l : first < n = lt_of first n (both (nat_lt first n) _ h).0 in omega (arith, l)
row_of n first (suc count) h = let l : first + 1 + suc count ≤ n = row_of n (first + 1) count (both (nat_lt first n) _ h).1 in omega (arith, l)

all_in_front : (f : ℕ → Bool) (xs ys : List ℕ) → list_all f (xs ++ ys) ≡ true → (list_all f xs ≡ true) × (list_all f ys ≡ true)
all_in_front f [] ys h = (refl, h)
all_in_front f (x ∷ xs) ys h =
    let parts : (f x ≡ true) × (list_all f (xs ++ ys) ≡ true) = both (f x) (list_all f (xs ++ ys)) h in
    let rest : (list_all f xs ≡ true) × (list_all f ys ≡ true) = all_in_front f xs ys parts.1 in
    (ap (λ b. b && list_all f xs) parts.0 ∙ rest.0, rest.1)

-- no register, or all of them in range
abbrev pub IsRow : ℕ → ℕ → ℕ → Type 0
IsRow n first zero = Unit {0}
IsRow n first (suc count) = first + suc count ≤ n

row_in : (n first count : ℕ) → list_all (is_below n) (range_with_len first count) ≡ true → IsRow n first count
row_in n first zero h = tt
row_in n first (suc count) h = row_of n first count h

abbrev pub Holds : ℕ → Registers → Type 0
Holds n registers.None = Unit {0}
Holds n (registers.One a) = a.0 < n
Holds n (registers.Two a b) = (a.0 < n) × (b.0 < n)
Holds n (registers.Three a b c) = (a.0 < n) × (b.0 < n) × (c.0 < n)
Holds n (registers.Call to args) = (to.0 < n) × IsRow n args.first.0 args.count
Holds n (registers.CallOf to of args) = (to.0 < n) × (of.0 < n) × IsRow n args.first.0 args.count
Holds n (registers.Walk walk) = walk.0 + 4 ≤ n
Holds n (registers.WalkFrom walk from) = (from.0 < n) × (walk.0 + 3 ≤ n)
Holds n (registers.WalkArgs walk args) = (walk.0 + 3 ≤ n) × IsRow n args.first.0 args.count
Holds n (registers.Open locals bound) = (locals ≤ n) × (bound ≤ n)

row_end : (n count : ℕ) → IsRow n 0 count → count ≤ n
row_end n zero h = omega arith
row_end n (suc count) h = omega (arith, h)

pub holds : (n : ℕ) (rs : Registers) → list_all (is_below n) (registers_in rs) ≡ true → Holds n rs
holds n registers.None h = tt
holds n (registers.One a) h = lt_of a.0 n (both (nat_lt a.0 n) _ h).0
holds n (registers.Two a b) h =
    let x : (nat_lt a.0 n ≡ true) × (nat_lt b.0 n && true ≡ true) = both (nat_lt a.0 n) _ h in
    (lt_of a.0 n x.0, lt_of b.0 n (both (nat_lt b.0 n) _ x.1).0)
holds n (registers.Three a b c) h =
    let x : (nat_lt a.0 n ≡ true) × (nat_lt b.0 n && (nat_lt c.0 n && true) ≡ true) = both (nat_lt a.0 n) _ h in
    let y : (nat_lt b.0 n ≡ true) × (nat_lt c.0 n && true ≡ true) = both (nat_lt b.0 n) _ x.1 in
    (lt_of a.0 n x.0, lt_of b.0 n y.0, lt_of c.0 n (both (nat_lt c.0 n) _ y.1).0)
holds n (registers.Call to args) h =
    let x : (nat_lt to.0 n ≡ true) × (list_all (is_below n) (run args) ≡ true) = both (nat_lt to.0 n) _ h in
    (lt_of to.0 n x.0, row_in n args.first.0 args.count x.1)
holds n (registers.CallOf to of args) h =
    let x : (nat_lt to.0 n ≡ true) × (nat_lt of.0 n && list_all (is_below n) (run args) ≡ true) = both (nat_lt to.0 n) _ h in
    let y : (nat_lt of.0 n ≡ true) × (list_all (is_below n) (run args) ≡ true) = both (nat_lt of.0 n) _ x.1 in
    (lt_of to.0 n x.0, lt_of of.0 n y.0, row_in n args.first.0 args.count y.1)
holds n (registers.Walk walk) h = row_of n walk.0 3 h
holds n (registers.WalkFrom walk from) h =
    let x : (nat_lt from.0 n ≡ true) × (list_all (is_below n) (range_with_len walk.0 3) ≡ true) = both (nat_lt from.0 n) _ h in
    (lt_of from.0 n x.0, row_of n walk.0 2 x.1)
holds n (registers.WalkArgs walk args) h =
    let x : (list_all (is_below n) (range_with_len walk.0 3) ≡ true) × (list_all (is_below n) (run args) ≡ true) = all_in_front (is_below n) (range_with_len walk.0 3) (run args) h in
    (row_of n walk.0 2 x.0, row_in n args.first.0 args.count x.1)
holds n (registers.Open locals bound) h =
    let x : (list_all (is_below n) (range_with_len 0 locals) ≡ true) × (list_all (is_below n) (range_with_len 0 bound) ≡ true) = all_in_front (is_below n) (range_with_len 0 locals) (range_with_len 0 bound) h in
    (row_end n locals (row_in n 0 locals x.0), row_end n bound (row_in n 0 bound x.1))

-- a wider limit
pub wider : (m n : ℕ) (xs : List ℕ) → m ≤ n → list_all (is_below m) xs ≡ true → list_all (is_below n) xs ≡ true
wider m n [] le h = refl
wider m n (x ∷ xs) le h =
    let parts : (nat_lt x m ≡ true) × (list_all (is_below m) xs ≡ true) = both (nat_lt x m) (list_all (is_below m) xs) h in
    let l : x < m = lt_of x m parts.0 in
    ap (λ b. b && list_all (is_below n) xs) (lt_is x n (omega (arith, l, le))) ∙ wider m n xs le parts.1
  where
    lt_is : (r k : ℕ) → r < k → nat_lt r k ≡ true
    lt_is r k h = grind (arith, nat_tests, h)
