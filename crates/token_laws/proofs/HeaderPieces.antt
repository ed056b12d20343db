-- The header passes each token but the word `class_name`.
use Rattle.std.proofs.Common.{◌≡◌, refl, sym, ap, ◌∙◌, ℕ, zero, suc, ◌+◌, ◌<◌, ◌≤◌, ◌==◌, ◌^◌, pos, Bool, true, false, cond, ◌&&◌, List, [], ◌∷◌, length, take, drop, Option, Some, None, arith}
use Rattle.std.specs.Prelude.{nat_lt}
use Rattle.std.specs.List.{list_all}
use Rattle.std.specs.Char.{is_ascii_digit}
use Rattle.std.proofs.lemmas.Bool.{and_parts, and_from}
use Rattle.std.proofs.lemmas.Bool.Decides.{nat_tests}
use Rattle.unicode_ident.specs.Ident.{is_xid_start, is_xid_continue}
use Rattle.unicode_ident.proofs.IdentLemmas.{is_xid_continue-ascii}
use Rattle.gd_syntax.specs.declared.fault.FaultKind.TheVariants.{BadToken, NumberTooLarge, Unsupported}
use Rattle.gd_syntax.specs.declared.fault.Form.TheVariants.{Float}
use Rattle.gd_syntax.specs.declared.token.Mark.{Mark}
use Rattle.gd_syntax.specs.declared.token.Kind.{Kind}
use Rattle.gd_syntax.specs.declared.token.Kind.TheVariants.{Int}
use Rattle.gd_syntax.specs.Tokens.{mark_text, signs}
use Rattle.gd_syntax.specs.Spellings.{Found, token, wrong, begins, digits_len, float_len, is_digit, number_at, number_value, or_else, radix_len, radix_of, sign_at, spelled}
use Rattle.gd_tokens.proofs.Scans.{spelled_is}
use Rattle.token_laws.proofs.LongestSigns.{found_passes, take_same}
use Rattle.token_laws.proofs.HeaderParts.{Passed, is_sign_char, number_run, digit_xid, plain_passes, signs_plain}

-- ---- numbers

digits_turn : (radix c one two : ℕ) (text : List ℕ) (behind : Bool) → radix ≤ 16 → (a b : Bool) → is_digit radix c ≡ a → ((behind && c == 95) && begins (is_digit radix) text) ≡ b
    → list_all is_xid_continue (take one text) ≡ true → list_all is_xid_continue (take two text) ≡ true → list_all is_xid_continue (take (cond a (suc one) (cond b (suc two) 0)) (c ∷ text)) ≡ true
digits_turn radix c one two text behind few true b is line h k = and_from (is_xid_continue c) (list_all is_xid_continue (take one text)) (digit_xid c radix few is) h
digits_turn radix c one two text behind few false true is line h k =
    let first = and_parts (behind && c == 95) (begins (is_digit radix) text) line in
    let mark = (and_parts behind (c == 95) first.0).1 in
    let e : c ≡ 95 = grind (arith, nat_tests) in
    and_from (is_xid_continue c) (list_all is_xid_continue (take two text)) (ap is_xid_continue e ∙ is_xid_continue-ascii 95 (omega arith)) k
digits_turn radix c one two text behind few false false is line h k = refl

all_digits : (radix : ℕ) (behind : Bool) (text : List ℕ) → radix ≤ 16 → list_all is_xid_continue (take (digits_len radix behind text) text) ≡ true
unfolding digits_len
all_digits radix behind [] few = refl
all_digits radix behind (c ∷ text) few =
    digits_turn radix c (digits_len radix true text) (digits_len radix false text) text behind few (is_digit radix c) ((behind && c == 95) && begins (is_digit radix) text) refl refl (all_digits radix true text few) (all_digits radix false text few)

-- how many characters a number has
abbrev pub size_of : ℕ → List ℕ → ℕ
size_of radix text = radix_len radix + digits_len radix false (drop (radix_len radix) text)

decimal : (text : List ℕ) → list_all is_xid_continue (take (size_of 10 text) text) ≡ true
decimal text = let n : size_of 10 text ≡ digits_len 10 false text = omega arith in ap (λ k. list_all is_xid_continue (take k text)) n ∙ all_digits 10 false text (omega arith)

named : (c d k radix : ℕ) (text : List ℕ) → radix ≤ 16 → k < 128 → is_xid_continue k ≡ true → (c == 48) ≡ true → (d == k) ≡ true → list_all is_xid_continue (take (2 + digits_len radix false text) (c ∷ d ∷ text)) ≡ true
named c d k radix text few less xid first second =
    let e : c ≡ 48 = grind (arith, nat_tests) in
    let f : d ≡ k = grind (arith, nat_tests) in
    let n : 2 + digits_len radix false text ≡ suc (suc (digits_len radix false text)) = omega arith in
    rw n (and_from (is_xid_continue c) (is_xid_continue d && list_all is_xid_continue (take (digits_len radix false text) text)) (ap is_xid_continue e ∙ is_xid_continue-ascii 48 (omega arith))
    (and_from (is_xid_continue d) (list_all is_xid_continue (take (digits_len radix false text) text)) (ap is_xid_continue f ∙ xid) (all_digits radix false text few)))

number_case : (c d : ℕ) (text : List ℕ) (a b : Bool) → ((c == 48 && d == 120) && begins (is_digit 16) text) ≡ a → ((c == 48 && d == 98) && begins (is_digit 2) text) ≡ b
    → list_all is_xid_continue (take (size_of (cond a 16 (cond b 2 10)) (c ∷ d ∷ text)) (c ∷ d ∷ text)) ≡ true
number_case c d text true b is other = let both = and_parts (c == 48) (d == 120) (and_parts (c == 48 && d == 120) (begins (is_digit 16) text) is).0 in named c d 120 16 text (omega arith) (omega arith) (is_xid_continue-ascii 120 (omega arith)) both.0 both.1
number_case c d text false true is other = let both = and_parts (c == 48) (d == 98) (and_parts (c == 48 && d == 98) (begins (is_digit 2) text) other).0 in named c d 98 2 text (omega arith) (omega arith) (is_xid_continue-ascii 98 (omega arith)) both.0 both.1
number_case c d text false false is other = decimal (c ∷ d ∷ text)

number_word : (text : List ℕ) → list_all is_xid_continue (take (size_of (radix_of text) text) text) ≡ true
unfolding radix_of
number_word [] = decimal []
number_word (c ∷ []) = decimal (c ∷ [])
number_word (c ∷ d ∷ text) = number_case c d text ((c == 48 && d == 120) && begins (is_digit 16) text) ((c == 48 && d == 98) && begins (is_digit 2) text) refl refl

number_parts : (value size more : ℕ) (text : List ℕ) (kind : Kind) (n : ℕ) (a b d : Bool) → begins is_xid_start (drop (size + more) text) ≡ a → nat_lt 0 more ≡ b
    → cond a (wrong BadToken 0) (cond b (wrong (Unsupported Float) 0) (cond d (token (Int (pos value)) size) (wrong NumberTooLarge 0))) ≡ token kind n → (size ≡ n) × (begins is_xid_start (drop n text) ≡ false)
number_parts value size more text kind n false false true start none e =
    let same : size ≡ n = cc e in
    let no_more : more ≡ 0 = grind (arith, nat_tests) in
    let there : n ≡ size + more = omega (arith, same, no_more) in
    (same, ap (λ k. begins is_xid_start (drop k text)) there ∙ start)
number_parts value size more text kind n true b d start none e = absurd (cc e)
number_parts value size more text kind n false true d start none e = absurd (cc e)
number_parts value size more text kind n false false false start none e = absurd (cc e)

-- the number has so many characters
pub number_is : (text : List ℕ) (kind : Kind) (n : ℕ) → number_at text ≡ token kind n → size_of (radix_of text) text ≡ n
unfolding number_at
number_is text kind n e =
    let radix = radix_of text in
    let size = size_of radix text in
    let more = cond (radix == 10) (float_len (drop size text)) 0 in
    let value = number_value radix (take (digits_len radix false (drop (radix_len radix) text)) (drop (radix_len radix) text)) in
    (number_parts value size more text kind n (begins is_xid_start (drop (size + more) text)) (nat_lt 0 more) (nat_lt value (2 ^ 63)) refl refl e).0

number_size : (c n : ℕ) (text : List ℕ) → (c == 99) ≡ false → list_all is_xid_continue (take n (c ∷ text)) ≡ true → begins is_xid_start (drop n (c ∷ text)) ≡ false → Passed n (c ∷ text)
number_size c zero text other all start place = refl
number_size c (suc n) text other all start place = number_run c (take n text) (drop n text) all other start place

pub number_passes : (c : ℕ) (text : List ℕ) (kind : Kind) (n : ℕ) → is_ascii_digit c ≡ true → number_at (c ∷ text) ≡ token kind n → Passed n (c ∷ text)
unfolding number_at
number_passes c text kind n digit e =
    let whole = c ∷ text in
    let radix = radix_of whole in
    let size = size_of radix whole in
    let more = cond (radix == 10) (float_len (drop size whole)) 0 in
    let value = number_value radix (take (digits_len radix false (drop (radix_len radix) whole)) (drop (radix_len radix) whole)) in
    let parts = number_parts value size more whole kind n (begins is_xid_start (drop (size + more) whole)) (nat_lt 0 more) (nat_lt value (2 ^ 63)) refl refl e in
    let all : list_all is_xid_continue (take n whole) ≡ true = ap (λ k. list_all is_xid_continue (take k whole)) (sym parts.0) ∙ number_word whole in
    let other : (c == 99) ≡ false = grind (arith, nat_tests) in
    number_size c n text other all parts.1

-- ---- signs

signs_are : list_all (λ m. list_all is_sign_char (mark_text m)) signs ≡ true
signs_are = refl

sign_turn : (k : ℕ) (text : List ℕ) (kind : Kind) (n : ℕ) (o : Option Mark) (other : Found) → spelled signs (take (suc k) text) ≡ o → or_else o other ≡ token kind n
    → (other ≡ token kind n → list_all is_sign_char (take n text) ≡ true) → list_all is_sign_char (take n text) ≡ true
sign_turn k text kind n None other is e more = more e
sign_turn k text kind n (Some m) other is e more =
    let spelling : mark_text m ≡ take (suc k) text = spelled_is signs (take (suc k) text) m is in
    let size : length (mark_text m) ≡ n = cc e in
    let there : take n text ≡ mark_text m = ap (λ j. take j text) (sym size ∙ ap length spelling) ∙ take_same (suc k) text ∙ sym spelling in
    ap (list_all is_sign_char) there ∙ found_passes (λ m. list_all is_sign_char (mark_text m)) signs (take (suc k) text) m signs_are is

sign_chars : (k : ℕ) (text : List ℕ) (kind : Kind) (n : ℕ) → sign_at k text ≡ token kind n → list_all is_sign_char (take n text) ≡ true
unfolding sign_at
sign_chars zero text kind n e = absurd (cc e)
sign_chars (suc k) text kind n e = sign_turn k text kind n (spelled signs (take (suc k) text)) (sign_at k text) refl e (sign_chars k text kind n)

pub sign_passes : (k : ℕ) (text : List ℕ) (kind : Kind) (n : ℕ) → sign_at k text ≡ token kind n → Passed n text
sign_passes k text kind n e = plain_passes (take n text) (drop n text) (signs_plain (take n text) (sign_chars k text kind n e))
