-- What stands at the edges of a text, and whole numbers.
use Rattle.std.proofs.Common.{◌≡◌, ◌≢◌, ℕ, zero, suc, ◌+◌, ◌-◌, ◌^◌, ◌<◌, ◌≤◌, Bool, true, false, not, ◌&&◌, ◌==◌, nat_lt, cond, List, [], ◌∷◌, ◌++◌, length, take, drop, get_or, refl, sym, ap, subst, ◌∙◌, arith, Option, Some, None, Result, Ok, Err, if◌then◌else◌, ℤ, pos, negsuc, OkIff}
use Rattle.std.specs.Result.{result_ok}
use Rattle.std.specs.Char.{digit_value, is_ascii_digit}
use Rattle.std.specs.Str.{all_ascii_digits}
use Rattle.std.specs.Str.Parse.{AllDigits, IsNumeral, ParsesSigned, without_leading_sign, signed_digits_value}
use Rattle.std.proofs.lemmas.Bool.{false≢true, le-leb, lt-leb}
use Rattle.std.proofs.lemmas.Bool.Decides.{nat_tests}
use Rattle.std.specs.Int.{w64}
use Rattle.std.specs.Int.RustNames.{FitsSigned as SFits}
use Rattle.std.proofs.lemmas.Bool.{lt-ltb}
use borrow.Author.Tests.{ltb-true}
use Rattle.variant_values.specs.StringMethods.{is_edge, without_back, is_whole_number, is_in_range, whole_number}

below_last : (b c : ℕ) (cs : List ℕ) → length (b ∷ c ∷ cs) - 1 ≡ suc (length (c ∷ cs) - 1)
below_last b c cs = omega arith

pub back_step : (text : List ℕ) → 0 < length text → get_or text (length text - 1) 0 ≤ 32 → without_back (take (length text - 1) text) ≡ without_back text
back_step [] some low = refl
back_step (b ∷ []) some low = sym (ap (λ t. if t && true then [] else b ∷ []) (le-leb b 32 low))
back_step (b ∷ c ∷ cs) some low =
    let e : length (b ∷ c ∷ cs) - 1 ≡ suc (length (c ∷ cs) - 1) = below_last b c cs in
    let rest = back_step (c ∷ cs) (omega arith) (subst (λ k. get_or (b ∷ c ∷ cs) k 0 ≤ 32) e low) in
    ap (λ k. without_back (take k (b ∷ c ∷ cs))) e ∙ ap (λ xs. if is_edge b && (length xs == 0) then [] else b ∷ xs) rest

pub back_end : (text : List ℕ) → 0 < length text → 32 < get_or text (length text - 1) 0 → text ≡ without_back text
back_end [] some high = refl
back_end (b ∷ []) some high = sym (ap (λ t. if t && true then [] else b ∷ []) (lt-leb b 32 high))
back_end (b ∷ c ∷ cs) some high =
    let e : length (b ∷ c ∷ cs) - 1 ≡ suc (length (c ∷ cs) - 1) = below_last b c cs in
    let rest = back_end (c ∷ cs) (omega arith) (subst (λ k. 32 < get_or (b ∷ c ∷ cs) k 0) e high) in
    let some_left : length (c ∷ cs) == 0 ≡ false = grind (arith, nat_tests) in
    let stays : is_edge b && (length (without_back (c ∷ cs)) == 0) ≡ false = ap (λ xs. is_edge b && (length xs == 0)) (sym rest) ∙ ap (λ t. is_edge b && t) some_left ∙ and_false (is_edge b) in
    ap (λ xs. b ∷ xs) rest ∙ sym (ap (λ t. if t then [] else b ∷ without_back (c ∷ cs)) stays) where
      and_false : (t : Bool) → t && false ≡ false
      and_false true = refl
      and_false false = refl

digit_yes : (c : ℕ) → is_ascii_digit c ≡ true → digit_value c < 10
digit_yes c h = grind (arith, nat_tests)

digit_no : (c : ℕ) → digit_value c < 10 → is_ascii_digit c ≡ true
digit_no c h = grind (arith, nat_tests)

and_left : (a b : Bool) → a && b ≡ true → a ≡ true
and_left true b h = refl
and_left false b h = h

and_right : (a b : Bool) → a && b ≡ true → b ≡ true
and_right true b h = h
and_right false b h = absurd (false≢true h)

and_both : (a b : Bool) → a ≡ true → b ≡ true → a && b ≡ true
and_both true b h k = k
and_both false b h k = absurd (false≢true h)

digits_yes : (ds : List ℕ) → all_ascii_digits ds ≡ true → AllDigits 10 ds
digits_yes [] h = tt
digits_yes (c ∷ cs) h = (digit_yes c (and_left _ _ h), digits_yes cs (and_right _ _ h))

digits_no : (ds : List ℕ) → AllDigits 10 ds → all_ascii_digits ds ≡ true
digits_no [] h = refl
digits_no (c ∷ cs) h = and_both _ _ (digit_no c h.0) (digits_no cs h.1)

some_bytes : (ds : List ℕ) → 0 < length ds → not (length ds == 0) ≡ true
some_bytes ds h = grind (arith, nat_tests)

bytes_some : (ds : List ℕ) → not (length ds == 0) ≡ true → 0 < length ds
bytes_some ds h = grind (arith, nat_tests)

range_yes : (z : ℤ) → SFits w64 z → is_in_range z ≡ true
range_yes (pos n) h = lt-ltb n (2 ^ 63) h.sfits
range_yes (negsuc n) h = lt-ltb n (2 ^ 63) h.sfits

range_no : (z : ℤ) → is_in_range z ≡ true → SFits w64 z
range_no (pos n) h = record { sfits = ltb-true n (2 ^ 63) h }
range_no (negsuc n) h = record { sfits = ltb-true n (2 ^ 63) h }

numeral_yes : (text : List ℕ) → IsNumeral 10 (without_leading_sign text) → is_whole_number text ≡ true
numeral_yes text h = and_both _ _ (some_bytes _ h.0) (digits_no _ h.1)

numeral_no : (text : List ℕ) → is_whole_number text ≡ true → IsNumeral 10 (without_leading_sign text)
numeral_no text h = (bytes_some _ (and_left _ _ h), digits_yes _ (and_right _ _ h))

true_or_false : (b : Bool) (P : Bool → Type 0) → (b ≡ true → P true) → (b ≡ false → P false) → P b
true_or_false true P if_true if_false = if_true refl
true_or_false false P if_true if_false = if_false refl

pub parsed_number : {E : Type 0} (text : List ℕ) (r : Result ℤ E) → ParsesSigned w64 10 text r → result_ok r ≡ whole_number text
parsed_number text (Ok z) h =
    let test : is_whole_number text && is_in_range (signed_digits_value 10 text) ≡ true = and_both _ _ (numeral_yes text h.0.0) (range_yes _ h.0.1) in
    ap Some h.1 ∙ sym (ap (λ t. if t then Some (signed_digits_value 10 text) else None) test)
parsed_number text (Err e) h =
    true_or_false (is_whole_number text && is_in_range (signed_digits_value 10 text)) (λ t. None ≡ (if t then Some (signed_digits_value 10 text) else None))
    (λ test. absurd (h (numeral_no text (and_left _ _ test), range_no _ (and_right _ _ test))))
    (λ test. refl)
