-- The order of texts by their bytes is their order by code points.
use Rattle.std.proofs.Common.{◌≡◌, refl, sym, ap, subst, ◌∙◌, ℕ, ◌+◌, ◌/◌, ◌%◌, ◌<◌, ◌≤◌, List, [], ◌∷◌, ◌++◌, chars, arith}
use mathlib.Core.Logic.{◌⊎◌, inl, inr}
use Rattle.std.proofs.Math.Utf8.{encode, encodes}
use Rattle.std.proofs.lemmas.Bool.Decides.{nat_tests}
use Rattle.std.proofs.lemmas.Cmp.{nat_list_cmp_total}
use Rattle.std.proofs.lemmas.Str.{encodes-chars}
use Rattle.std.specs.Cmp.{nat_cmp_is}
use Rattle.std.specs.Cmp.Lexicographic.{slice_cmp}
use Rattle.std.specs.Ordering.{nat_cmp, ordering_then, ordering_reverse}
use Rattle.std.specs.Str.{IsUtf8}
use Rattle.std.specs.declared.cmp.Ordering.{Ordering}
use Rattle.std.specs.declared.cmp.Ordering.TheVariants.{Less, Equal, Greater}

abbrev order : List ℕ → List ℕ → Ordering
order = slice_cmp nat_cmp

two_orders : (m n : ℕ) → (m < n) ⊎ (n ≤ m)
two_orders m n = grind arith

less : (x y : ℕ) (xs ys : List ℕ) → x < y → order (x ∷ xs) (y ∷ ys) ≡ Less
less x y xs ys h = ap (λ o. ordering_then o (order xs ys)) (sym (nat_cmp_is x y Less h))

greater : (x y : ℕ) (xs ys : List ℕ) → y < x → order (x ∷ xs) (y ∷ ys) ≡ Greater
greater x y xs ys h = ap (λ o. ordering_then o (order xs ys)) (sym (nat_cmp_is x y Greater h))

level : (x y : ℕ) (xs ys : List ℕ) → x ≡ y → order (x ∷ xs) (y ∷ ys) ≡ order xs ys
level x y xs ys h = ap (λ o. ordering_then o (order xs ys)) (sym (nat_cmp_is x y Equal h))

-- the bytes p come before the bytes q, whatever follows them
record Before (p q : List ℕ) : Type 0 where
  is_less : (r t : List ℕ) → order (p ++ r) (q ++ t) ≡ Less

lower : {x y : ℕ} {p q : List ℕ} → x < y → Before (x ∷ p) (y ∷ q)
lower {x} {y} {p} {q} h = record { is_less = λ r t. less x y (p ++ r) (q ++ t) h }

-- a byte that is no greater, and then, if it is the same, what follows is before
step : {x y : ℕ} {p q : List ℕ} → x ≤ y → (x ≡ y → Before p q) → Before (x ∷ p) (y ∷ q)
step {x} {y} {p} {q} h more = record { is_less = by (two_orders x y) }
  where
    by : (x < y) ⊎ (y ≤ x) → (r t : List ℕ) → order (x ∷ (p ++ r)) (y ∷ (q ++ t)) ≡ Less
    by (inl k) r t = less x y (p ++ r) (q ++ t) k
    by (inr k) r t = let e : x ≡ y = omega arith in level x y (p ++ r) (q ++ t) e ∙ (more e).is_less r t

-- the bytes of a code point, by its size
data Form (c : ℕ) : Type 0 where
  of1 : c < 128 → encode c ≡ c ∷ [] → Form c
  of2 : 128 ≤ c → c < 2048 → encode c ≡ (192 + c / 64) ∷ (128 + c % 64) ∷ [] → Form c
  of3 : 2048 ≤ c → c < 65536 → encode c ≡ (224 + c / 4096) ∷ (128 + c / 64 % 64) ∷ (128 + c % 64) ∷ [] → Form c
  of4 : 65536 ≤ c → encode c ≡ (240 + c / 262144) ∷ (128 + c / 4096 % 64) ∷ (128 + c / 64 % 64) ∷ (128 + c % 64) ∷ [] → Form c

encode_one : (c : ℕ) → c < 128 → encode c ≡ c ∷ []
unfolding encode
encode_one c h = grind (arith, nat_tests)

encode_two : (c : ℕ) → 128 ≤ c → c < 2048 → encode c ≡ (192 + c / 64) ∷ (128 + c % 64) ∷ []
unfolding encode
encode_two c l h = grind (arith, nat_tests)

encode_three : (c : ℕ) → 2048 ≤ c → c < 65536 → encode c ≡ (224 + c / 4096) ∷ (128 + c / 64 % 64) ∷ (128 + c % 64) ∷ []
unfolding encode
encode_three c l h = grind (arith, nat_tests)

encode_four : (c : ℕ) → 65536 ≤ c → encode c ≡ (240 + c / 262144) ∷ (128 + c / 4096 % 64) ∷ (128 + c / 64 % 64) ∷ (128 + c % 64) ∷ []
unfolding encode
encode_four c l = grind (arith, nat_tests)

form : (c : ℕ) → Form c
form c = by (two_orders c 128) (two_orders c 2048) (two_orders c 65536)
  where
    by : (c < 128) ⊎ (128 ≤ c) → (c < 2048) ⊎ (2048 ≤ c) → (c < 65536) ⊎ (65536 ≤ c) → Form c
    by (inl h) _ _ = of1 h (encode_one c h)
    by (inr l) (inl h) _ = of2 l h (encode_two c l h)
    by (inr _) (inr l) (inl h) = of3 l h (encode_three c l h)
    by (inr _) (inr _) (inr l) = of4 l (encode_four c l)

through : (c d : ℕ) {p q : List ℕ} → encode c ≡ p → encode d ≡ q → Before p q → Before (encode c) (encode d)
through c d {p} {q} e f h = subst (λ l. Before l (encode d)) (sym e) (subst (λ l. Before p l) (sym f) h)

encode_before : (c d : ℕ) → c < d → Form c → Form d → Before (encode c) (encode d)
encode_before c d h (of1 k e) (of1 l f) = through c d e f (lower h)
encode_before c d h (of1 k e) (of2 l m f) = through c d e f (lower (omega arith))
encode_before c d h (of1 k e) (of3 l m f) = through c d e f (lower (omega arith))
encode_before c d h (of1 k e) (of4 l f) = through c d e f (lower (omega arith))
encode_before c d h (of2 j k e) (of1 l f) = absurd (omega arith)
encode_before c d h (of2 j k e) (of2 l m f) = through c d e f (step (omega arith) (λ first. lower (omega arith)))
encode_before c d h (of2 j k e) (of3 l m f) = through c d e f (lower (omega arith))
encode_before c d h (of2 j k e) (of4 l f) = through c d e f (lower (omega arith))
encode_before c d h (of3 j k e) (of1 l f) = absurd (omega arith)
encode_before c d h (of3 j k e) (of2 l m f) = absurd (omega arith)
encode_before c d h (of3 j k e) (of3 l m f) = through c d e f (step (omega arith) (λ first. step (omega arith) (λ second. lower (omega arith))))
encode_before c d h (of3 j k e) (of4 l f) = through c d e f (lower (omega arith))
encode_before c d h (of4 j e) (of1 l f) = absurd (omega arith)
encode_before c d h (of4 j e) (of2 l m f) = absurd (omega arith)
encode_before c d h (of4 j e) (of3 l m f) = absurd (omega arith)
encode_before c d h (of4 j e) (of4 l f) =
    through c d e f (step (omega arith) (λ first. step (omega arith) (λ second. step (omega arith) (λ third. lower (omega arith)))))

encode_less : (c d : ℕ) (r t : List ℕ) → c < d → order (encode c ++ r) (encode d ++ t) ≡ Less
encode_less c d r t h = (encode_before c d h (form c) (form d)).is_less r t

-- the same bytes in front do not count
cancel : (p r t : List ℕ) → order (p ++ r) (p ++ t) ≡ order r t
cancel [] r t = refl
cancel (x ∷ p) r t = level x x (p ++ r) (p ++ t) refl ∙ cancel p r t

back : (xs ys : List ℕ) → order ys xs ≡ Less → order xs ys ≡ Greater
back xs ys h = nat_list_cmp_total.antisymm xs ys ∙ ap ordering_reverse h

empty_less : (d : ℕ) (t : List ℕ) → Form d → order [] (encode d ++ t) ≡ Less
empty_less d t (of1 h e) = ap (λ l. order [] (l ++ t)) e
empty_less d t (of2 l h e) = ap (λ l. order [] (l ++ t)) e
empty_less d t (of3 l h e) = ap (λ l. order [] (l ++ t)) e
empty_less d t (of4 l e) = ap (λ l. order [] (l ++ t)) e

three_orders : (c d : ℕ) → (c < d) ⊎ ((c ≡ d) ⊎ (d < c))
three_orders c d = grind arith

pub order-encodes : (s t : List ℕ) → slice_cmp nat_cmp (encodes s) (encodes t) ≡ slice_cmp nat_cmp s t
order-encodes [] [] = refl
order-encodes [] (d ∷ t) = empty_less d (encodes t) (form d)
order-encodes (c ∷ s) [] = back (encodes (c ∷ s)) [] (empty_less c (encodes s) (form c))
order-encodes (c ∷ s) (d ∷ t) = by (three_orders c d) (order-encodes s t)
  where
    by : (c < d) ⊎ ((c ≡ d) ⊎ (d < c)) → order (encodes s) (encodes t) ≡ order s t → order (encodes (c ∷ s)) (encodes (d ∷ t)) ≡ order (c ∷ s) (d ∷ t)
    by (inl h) rest = encode_less c d (encodes s) (encodes t) h ∙ sym (less c d s t h)
    by (inr (inl h)) rest =
        ap (λ x. order (encode c ++ encodes s) (encode x ++ encodes t)) (sym h) ∙ cancel (encode c) (encodes s) (encodes t) ∙ rest ∙ sym (level c d s t h)
    by (inr (inr h)) rest =
        back (encodes (c ∷ s)) (encodes (d ∷ t)) (encode_less d c (encodes t) (encodes s) h) ∙ sym (greater c d s t h)

-- texts are ordered by their code points
pub by_code_points : (a b : List ℕ) → IsUtf8 a → IsUtf8 b → slice_cmp nat_cmp a b ≡ slice_cmp nat_cmp (chars a) (chars b)
by_code_points a b u v =
    ap (λ l. slice_cmp nat_cmp l b) (sym (encodes-chars a u)) ∙ ap (λ l. slice_cmp nat_cmp (encodes (chars a)) l) (sym (encodes-chars b v))
    ∙ order-encodes (chars a) (chars b)
