-- Texts cut after characters.
use Rattle.std.proofs.Common.{◌≡◌, ℕ, zero, suc, ◌+◌, ◌-◌, ◌*◌, ◌<◌, ◌≤◌, Bool, true, false, List, [], ◌∷◌, ◌++◌, length, take, drop, chars, refl, sym, ap, subst, ◌∙◌, arith, Option, Some, None, is_some, MatchOption, length-drop, length-take, length-append, slice_get, ◌&&◌, Ok, Err, if◌then◌else◌}
use Rattle.std.proofs.Math.Nat.{suc-mul}
use Rattle.std.specs.List.{repeat}
use Rattle.variant_values.specs.declared.faults.RunFault.TheVariants.{TooLong}
use Rattle.variant_values.specs.Operators.{longest}
use Rattle.std.specs.Char.{encode_utf8}
use Rattle.std.specs.Str.{IsUtf8, all_scalars, IsCharBoundary}
use Rattle.std.proofs.lemmas.Bool.{false≢true, lt-leb}
use Rattle.std.proofs.lemmas.Str.{cons_from_encodes, length-le-encodes, encodes-chars, encodes-append, scalars-chars, chars-encodes, IsCharBoundary-at_seam}
use Rattle.variant_values.specs.StringMethods.{spelled, made, string_result}

drop_tail : (cs es : List ℕ) (i c : ℕ) → drop i cs ≡ c ∷ es → drop (i + 1) cs ≡ es
drop_tail [] es zero c is = cc
drop_tail [] es (suc i) c is = cc
drop_tail (d ∷ ds) es zero c is = cc
drop_tail (d ∷ ds) es (suc i) c is = let e : suc i + 1 ≡ suc (i + 1) = omega arith in ap (λ k. drop k (d ∷ ds)) e ∙ drop_tail ds es i c is

none_left : (cs : List ℕ) → length cs ≡ 0 → cs ≡ []
none_left [] e = refl
none_left (c ∷ cs) e = absurd (omega arith)

-- one character more is passed
pub passes_char : (cs now new : List ℕ) (i : ℕ) (r : Option ℕ) (P : Type 0) → now ≡ spelled (drop i cs) → MatchOption r P (λ c. now ≡ encode_utf8 c ++ new) → is_some r ≡ true → new ≡ spelled (drop (i + 1) cs)
passes_char cs now new i None P at h some = absurd (false≢true some)
passes_char cs now new i (Some c) P at h some =
    let parts = cons_from_encodes (drop i cs) new c (sym at ∙ h) in
    sym parts.2 ∙ ap spelled (sym (drop_tail cs parts.0 i c parts.1))

-- there is no more
pub passes_end : (cs now new : List ℕ) (i n : ℕ) (r : Option ℕ) (Q : ℕ → Type 0) (R : Type 0) → i < n → now ≡ spelled (drop i cs) → MatchOption r ((length now ≡ 0) × R) Q → is_some r ≡ false → [] ≡ spelled (drop n cs)
passes_end cs now new i n (Some c) Q R below at h none = absurd (false≢true (sym none))
passes_end cs now new i n None Q R below at h none =
    let short : length (drop i cs) ≤ 0 = omega (arith, length-le-encodes (drop i cs), ap length at, h.0) in
    let gone : length (drop n cs) ≡ 0 = omega (arith, length-drop n cs, length-drop i cs, short) in
    ap spelled (sym (none_left (drop n cs) gone))

pub take_drop : {A : Type 0} (n : ℕ) (xs : List A) → take n xs ++ drop n xs ≡ xs
take_drop zero xs = refl
take_drop (suc n) [] = refl
take_drop (suc n) (x ∷ xs) = ap (λ ys. x ∷ ys) (take_drop n xs)

-- the text before a cut, and that behind it
pub seam : (text : List ℕ) (n : ℕ) → IsUtf8 text → text ≡ spelled (take n (chars text)) ++ spelled (drop n (chars text))
seam text n utf8 = sym (encodes-chars text utf8) ∙ sym (ap spelled (take_drop n (chars text))) ∙ encodes-append (take n (chars text)) (drop n (chars text))

take_front : {A : Type 0} (xs ys : List A) → take (length xs) (xs ++ ys) ≡ xs
take_front [] ys = refl
take_front (x ∷ xs) ys = ap (λ zs. x ∷ zs) (take_front xs ys)

pub drop_front : {A : Type 0} (xs ys : List A) → drop (length xs) (xs ++ ys) ≡ ys
drop_front [] ys = refl
drop_front (x ∷ xs) ys = drop_front xs ys

pub record IsCut (text rest : List ℕ) (n : ℕ) : Type 0 where
  pub short : length rest ≤ length text
  pub boundary : IsCharBoundary text (length text - length rest)
  pub front : take (length text - length rest) text ≡ spelled (take n (chars text))
  pub back : drop (length text - length rest) text ≡ spelled (drop n (chars text))

pub cut_at : (text rest : List ℕ) (n : ℕ) → IsUtf8 text → IsUtf8 rest → rest ≡ spelled (drop n (chars text)) → IsCut text rest n
cut_at text rest n utf8 rest_utf8 is =
    let front : List ℕ = spelled (take n (chars text)) in
    let whole : text ≡ front ++ rest = seam text n utf8 ∙ ap (λ t. front ++ t) (sym is) in
    let sizes : length text ≡ length front + length rest = ap length whole ∙ length-append front rest in
    let place : length text - length rest ≡ length front = omega arith in
    record {
      short = omega arith;
      boundary = subst (IsCharBoundary text) (sym place) (IsCharBoundary-at_seam text front rest whole rest_utf8);
      front = ap (λ k. take k text) place ∙ ap (take (length front)) whole ∙ take_front front rest;
      back = ap (λ k. drop k text) place ∙ ap (drop (length front)) whole ∙ drop_front front rest ∙ is;
    }

and_right : (a b : Bool) → a && b ≡ true → b ≡ true
and_right true b h = h
and_right false b h = absurd (false≢true h)

scalars_drop : (n : ℕ) (cs : List ℕ) → all_scalars cs ≡ true → all_scalars (drop n cs) ≡ true
scalars_drop zero cs h = h
scalars_drop (suc n) [] h = refl
scalars_drop (suc n) (c ∷ cs) h = scalars_drop n cs (and_right _ _ h)

-- the characters behind a cut
pub chars_behind : (text rest : List ℕ) (n : ℕ) → IsUtf8 text → rest ≡ spelled (drop n (chars text)) → chars rest ≡ drop n (chars text)
chars_behind text rest n utf8 is = ap chars is ∙ chars-encodes (drop n (chars text)) (scalars_drop n (chars text) (scalars-chars text utf8))

get_drop : (cs : List ℕ) (n : ℕ) → slice_get (drop n cs) 0 ≡ slice_get cs n
get_drop cs zero = refl
get_drop [] (suc n) = refl
get_drop (c ∷ cs) (suc n) = get_drop cs n

pub char_behind : (text rest : List ℕ) (n : ℕ) → IsUtf8 text → rest ≡ spelled (drop n (chars text)) → slice_get (chars rest) 0 ≡ slice_get (chars text) n
char_behind text rest n utf8 is = ap (λ cs. slice_get cs 0) (chars_behind text rest n utf8 is) ∙ get_drop (chars text) n

-- a place behind a cut lies within the text
pub place_within : (text rest : List ℕ) (n k : ℕ) → IsUtf8 text → rest ≡ spelled (drop n (chars text)) → n ≤ length (chars text) → k ≤ length rest → n + k ≤ length text
place_within text rest n k utf8 is some within =
    let front = take n (chars text) in
    let long : n ≤ length (spelled front) = omega (arith, length-le-encodes front, length-take n (chars text)) in
    omega (arith, long, within, ap length (seam text n utf8), length-append (spelled front) (spelled (drop n (chars text))), ap length is)

pub length_repeat : (n : ℕ) (xs : List ℕ) → length (repeat n xs) ≡ n * length xs
length_repeat zero xs = omega arith
length_repeat (suc n) xs = omega (arith, length-append xs (repeat n xs), length_repeat n xs, suc-mul n (length xs))

pub too_long : (text : List ℕ) → longest < length text → made text ≡ Err TooLong
too_long text h = ap (λ t. string_result (if t then Ok text else Err TooLong)) (lt-leb (length text) longest h)
