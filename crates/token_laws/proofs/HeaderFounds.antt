-- What is found at a place, and how far the header passes it.
use Rattle.std.proofs.Common.{◌≡◌, refl, sym, ap, ◌∙◌, subst, ℕ, zero, suc, ◌+◌, ◌<◌, ◌≤◌, ◌==◌, ◌^◌, pos, Bool, true, false, cond, not, ◌&&◌, ◌||◌, List, [], ◌∷◌, length, take, drop, Option, Some, None, codes, bytes_eq, arith}
use Rattle.std.specs.Prelude.{nat_lt}
use Rattle.std.specs.List.{list_all, prefix_len}
use Rattle.std.specs.Char.{is_ascii_digit}
use Rattle.std.proofs.lemmas.Bool.{and_parts, and_from}
use Rattle.std.proofs.lemmas.Bool.Decides.{nat_tests}
use Rattle.std.proofs.lemmas.Slice.Eq.{bytes_eq-Decides}
use Rattle.unicode_ident.specs.Ident.{is_xid_start, is_xid_continue}
use Rattle.unicode_ident.proofs.IdentLemmas.{is_xid_continue-ascii, is_xid_start-is_xid_continue}
use Rattle.gd_syntax.specs.declared.fault.FaultKind.{FaultKind}
use Rattle.gd_syntax.specs.declared.fault.FaultKind.TheVariants.{BadToken, NumberTooLarge, Unsupported}
use Rattle.gd_syntax.specs.declared.fault.Form.TheVariants.{Float, RawString}
use Rattle.gd_syntax.specs.declared.token.Mark.{Mark}
use Rattle.gd_syntax.specs.declared.token.Mark.TheVariants.{ClassName}
use Rattle.gd_syntax.specs.declared.token.Kind.{Kind}
use Rattle.gd_syntax.specs.declared.token.Kind.TheVariants.{Mark as Marked, Name, Int}
use Rattle.gd_syntax.specs.Tokens.{mark_text, keywords, signs}
use Rattle.gd_syntax.specs.Spellings.{Found, space, gap, line_end, token, wrong, unended, found_at, begins, Contents, closed, broken, endless, contents, digits_len, float_len, is_blank, is_digit, is_quote, keyword_or_name, line_end_len, line_len, number_at, number_value, or_else, radix_len, radix_of, repeats, sign_at, spelled, starts_word, string_at, string_of, word_at}
use Rattle.gd_syntax.specs.Header.{Part, passed, keyword, is_class_name, part_at, quoted_len, quotes_len, string_part, word_of}
use Rattle.gd_syntax.specs.Header as header
use Rattle.token_laws.specs.HeaderNames.{is_word_kind}
use Rattle.token_laws.proofs.LongestSigns.{found_passes}
use Rattle.token_laws.proofs.HeaderParts.{Passed, is_sign_char, chosen, passed_over, plain_passes, signs_plain, size_passes, word_passes}
use Rattle.token_laws.proofs.HeaderPieces.{size_of, number_is, number_passes, sign_passes}
use Rattle.token_laws.proofs.HeaderStrings.{closed_quoted}

-- how far the header passes what is found
Step : Found → List ℕ → Type 0
Step space text = Passed 1 text
Step (gap n) text = Passed n text
Step (line_end n) text = Passed n text
Step (token kind n) text = is_word_kind kind ≡ false → Passed n text
Step _ text = Unit {0}

-- no blank, no gap and no line end
abbrev is_tokenish : Found → Bool
is_tokenish (token kind n) = true
is_tokenish (wrong kind n) = true
is_tokenish unended = true
is_tokenish _ = false

IsTokenish : Found → Type 0
IsTokenish found = is_tokenish found ≡ true

token_ish : (kind : Kind) (n : ℕ) → IsTokenish (token kind n)
unfolding IsTokenish
token_ish kind n = refl

wrong_ish : (kind : FaultKind) (n : ℕ) → IsTokenish (wrong kind n)
unfolding IsTokenish
wrong_ish kind n = refl

unended_ish : IsTokenish unended
unfolding IsTokenish
unended_ish = refl

step_token : (found : Found) (text : List ℕ) → IsTokenish found → ((kind : Kind) (n : ℕ) → found ≡ token kind n → is_word_kind kind ≡ false → Passed n text) → Step found text
unfolding Step IsTokenish
step_token space text is h = absurd (cc is)
step_token (gap n) text is h = absurd (cc is)
step_token (line_end n) text is h = absurd (cc is)
step_token (token kind n) text is h = h kind n refl
step_token (wrong kind n) text is h = tt
step_token unended text is h = tt

either_token : (b : Bool) (x y : Found) → IsTokenish x → IsTokenish y → IsTokenish (cond b x y)
either_token true x y h k = h
either_token false x y h k = k

parts_token : (value size : ℕ) (a b d : Bool) → IsTokenish (cond a (wrong BadToken 0) (cond b (wrong (Unsupported Float) 0) (cond d (token (Int (pos value)) size) (wrong NumberTooLarge 0))))
parts_token value size true b d = wrong_ish BadToken 0
parts_token value size false true d = wrong_ish (Unsupported Float) 0
parts_token value size false false true = token_ish (Int (pos value)) size
parts_token value size false false false = wrong_ish NumberTooLarge 0

number_token : (text : List ℕ) → IsTokenish (number_at text)
unfolding number_at
number_token text =
    let radix = radix_of text in
    let front = radix_len radix in
    let digits = digits_len radix false (drop front text) in
    let size = front + digits in
    let more = cond (radix == 10) (float_len (drop size text)) 0 in
    let value = number_value radix (take digits (drop front text)) in
    parts_token value size (begins is_xid_start (drop (size + more) text)) (nat_lt 0 more) (nat_lt value (2 ^ 63))

string_of_token : (front : ℕ) (c : Contents) → IsTokenish (string_of front c)
string_of_token front (closed text n) = token_ish _ _
string_of_token front (broken n) = wrong_ish _ _
string_of_token front endless = unended_ish

string_token : (quote : ℕ) (text : List ℕ) → IsTokenish (string_at quote text)
unfolding string_at
string_token quote text = string_of_token (cond (repeats quote 3 text) 3 1) (contents quote (cond (repeats quote 3 text) 3 1) 0 (drop (cond (repeats quote 3 text) 3 1) text))

word_token : (text : List ℕ) → IsTokenish (word_at text)
unfolding word_at
word_token text = either_token _ _ _ (wrong_ish _ _) (token_ish _ _)

or_else_token : (o : Option Mark) (found : Found) → IsTokenish found → IsTokenish (or_else o found)
or_else_token None found is = is
or_else_token (Some m) found is = token_ish _ _

sign_token : (n : ℕ) (text : List ℕ) → IsTokenish (sign_at n text)
unfolding sign_at
sign_token zero text = wrong_ish _ _
sign_token (suc n) text = or_else_token (spelled signs (take (suc n) text)) (sign_at n text) (sign_token n text)

-- ---- line ends

line_end_case : (c : ℕ) (text : List ℕ) (a b e : Bool) → (c == 10) ≡ a → (c == 13) ≡ b → begins (λ d. d == 10) text ≡ e → list_all is_sign_char (take (cond a 1 (cond (b && e) 2 0)) (c ∷ text)) ≡ true
line_end_case c text true b e x y z = let is : c ≡ 10 = grind (arith, nat_tests) in and_from (is_sign_char c) true (ap is_sign_char is) refl
line_end_case c [] false true true x y z = absurd (cc z)
line_end_case c (d ∷ text) false true true x y z =
    let is : c ≡ 13 = grind (arith, nat_tests) in
    let ten : d ≡ 10 = grind (arith, nat_tests) in
    and_from (is_sign_char c) (is_sign_char d && true) (ap is_sign_char is) (and_from (is_sign_char d) true (ap is_sign_char ten) refl)
line_end_case c text false true false x y z = refl
line_end_case c text false false e x y z = refl

line_end_chars : (text : List ℕ) → list_all is_sign_char (take (line_end_len text) text) ≡ true
line_end_chars [] = refl
line_end_chars (c ∷ text) = line_end_case c text (c == 10) (c == 13) (begins (λ d. d == 10) text) refl refl refl

chars_passed : (n : ℕ) (text : List ℕ) → list_all is_sign_char (take n text) ≡ true → Passed n text
chars_passed n text all = plain_passes (take n text) (drop n text) (signs_plain (take n text) all)

blank_char : (c : ℕ) (a b : Bool) → (c == 32) ≡ a → (c == 9) ≡ b → (a || b) ≡ true → is_sign_char c ≡ true
blank_char c true b x y h = let is : c ≡ 32 = grind (arith, nat_tests) in ap is_sign_char is
blank_char c false true x y h = let is : c ≡ 9 = grind (arith, nat_tests) in ap is_sign_char is
blank_char c false false x y h = absurd (cc h)

join_chars : (c : ℕ) (text : List ℕ) → (c == 92) ≡ true → list_all is_sign_char (take (suc (line_end_len text)) (c ∷ text)) ≡ true
join_chars c text slash = let is : c ≡ 92 = grind (arith, nat_tests) in and_from (is_sign_char c) (list_all is_sign_char (take (line_end_len text) text)) (ap is_sign_char is) (line_end_chars text)

comment_passed : (c : ℕ) (text : List ℕ) → (c == 35) ≡ true → Passed (suc (line_len text)) (c ∷ text)
unfolding part_at
comment_passed c text hash = size_passes c (line_len text) text (chosen (c == 35) _ _ hash)

-- ---- strings

string_of_is : (front : ℕ) (c : Contents) (kind : Kind) (n : ℕ) → string_of front c ≡ token kind n → (a : List ℕ) × (k : ℕ) × (c ≡ closed a k) × (front + k ≡ n)
string_of_is front (closed a k) kind n e = (a, k, refl, cc e)
string_of_is front (broken k) kind n e = absurd (cc e)
string_of_is front endless kind n e = absurd (cc e)

quote_hash : (c : ℕ) (b : Bool) → is_quote c ≡ true → (c == 35) ≡ b → b ≡ false
quote_hash c false quote is = refl
quote_hash c true quote is = absurd (let e : c ≡ 35 = grind (arith, nat_tests) in let h = sym quote ∙ ap is_quote e in cc h)

string_by : (c fewer : ℕ) (text : List ℕ) (kind : Kind) (n : ℕ) → is_quote c ≡ true → quotes_len c (c ∷ text) ≡ suc fewer → string_of (suc fewer) (contents c (suc fewer) 0 (drop (suc fewer) (c ∷ text))) ≡ token kind n
    → Passed n (c ∷ text)
unfolding part_at
string_by c fewer text kind n quote count e =
    let is = string_of_is (suc fewer) (contents c (suc fewer) 0 (drop (suc fewer) (c ∷ text))) kind n e in
    let quoted = closed_quoted c fewer quote 0 (drop (suc fewer) (c ∷ text)) is.0 is.1 is.2 refl in
    let m = fewer + is.1 in
    let size : suc m ≡ n = omega (arith, is.3) in
    let string : header.string_at c (c ∷ text) ≡ passed (suc fewer + is.1) = ap (λ q. string_part q (quoted_len c q false (drop q (c ∷ text)))) count ∙ ap (string_part (suc fewer)) quoted in
    let part : part_at (c ∷ text) ≡ passed (suc m) = passed_over (c == 35) _ _ (quote_hash c (c == 35) quote refl) ∙ chosen (is_quote c) _ _ quote ∙ string ∙ ap passed (omega arith) in
    subst (λ k. Passed k (c ∷ text)) size (size_passes c m text part)

string_case : (c : ℕ) (text : List ℕ) (kind : Kind) (n : ℕ) (b : Bool) → is_quote c ≡ true → repeats c 3 (c ∷ text) ≡ b → string_of (cond b 3 1) (contents c (cond b 3 1) 0 (drop (cond b 3 1) (c ∷ text))) ≡ token kind n → Passed n (c ∷ text)
string_case c text kind n true quote three e = string_by c 2 text kind n quote (chosen (repeats c 3 (c ∷ text)) 3 1 three) e
string_case c text kind n false quote three e = string_by c 0 text kind n quote (passed_over (repeats c 3 (c ∷ text)) 3 1 three) e

string_passed : (c : ℕ) (text : List ℕ) (kind : Kind) (n : ℕ) → is_quote c ≡ true → string_at c (c ∷ text) ≡ token kind n → Passed n (c ∷ text)
unfolding string_at
string_passed c text kind n quote e = string_case c text kind n (repeats c 3 (c ∷ text)) quote refl e

-- ---- words

abbrev run : List ℕ → ℕ
run text = prefix_len is_xid_continue text

word_is : (text : List ℕ) (kind : Kind) (n : ℕ) (b : Bool) → cond b (wrong (Unsupported RawString) 0) (token (keyword_or_name (spelled keywords (word_of text)) (word_of text)) (run text)) ≡ token kind n
    → (keyword_or_name (spelled keywords (word_of text)) (word_of text) ≡ kind) × (run text ≡ n)
word_is text kind n true e = absurd (cc e)
word_is text kind n false e = (cc e, cc e)

pub starts_xid : (c : ℕ) (a b : Bool) → is_xid_start c ≡ a → (c == 95) ≡ b → (a || b) ≡ true → is_xid_continue c ≡ true
starts_xid c true b x y h = is_xid_start-is_xid_continue c x
starts_xid c false true x y h = let is : c ≡ 95 = grind (arith, nat_tests) in ap is_xid_continue is ∙ is_xid_continue-ascii 95 (omega arith)
starts_xid c false false x y h = absurd (cc h)

class_name_spelled : spelled keywords (codes "class_name") ≡ Some ClassName
unfolding spelled
class_name_spelled = refl

-- a word that is no `class_name` is passed
word_passed : (c : ℕ) (text : List ℕ) (kind : Kind) (n : ℕ) → (c == 35) ≡ false → is_quote c ≡ false → starts_word c ≡ true → word_at (c ∷ text) ≡ token kind n → is_word_kind kind ≡ false → Passed n (c ∷ text)
unfolding word_at
word_passed c text kind n hash quote starts e other =
    let is = word_is (c ∷ text) kind n (bytes_eq (word_of (c ∷ text)) (codes "r") && begins is_quote (drop (run (c ∷ text)) (c ∷ text))) e in
    let xid = starts_xid c (is_xid_start c) (c == 95) refl refl starts in
    subst (λ k. Passed k (c ∷ text)) is.1 (word_passes c text hash quote xid (name_case (c ∷ text) kind (is_class_name (word_of (c ∷ text))) refl is.0 other))
  where
    name_case : (t : List ℕ) (kind : Kind) (b : Bool) → is_class_name (word_of t) ≡ b → keyword_or_name (spelled keywords (word_of t)) (word_of t) ≡ kind → is_word_kind kind ≡ false → b ≡ false
    name_case t kind false is e other = refl
    name_case t kind true is e other = absurd (
        let same : word_of t ≡ codes "class_name" = (bytes_eq-Decides (word_of t) (codes "class_name")).0 is in
        let spelling : spelled keywords (word_of t) ≡ Some ClassName = ap (spelled keywords) same ∙ class_name_spelled in
        let h : Marked ClassName ≡ kind = sym (ap (λ o. keyword_or_name o (word_of t)) spelling) ∙ e in
        let k = ap is_word_kind h ∙ other in
        cc k
        )

step_case : (c : ℕ) (text : List ℕ) (b1 b2 b3 b4 b5 b6 b7 : Bool) → is_blank c ≡ b1 → (c == 35) ≡ b2 → nat_lt 0 (line_end_len (c ∷ text)) ≡ b3 → (c == 92 && nat_lt 0 (line_end_len text)) ≡ b4 → is_ascii_digit c ≡ b5 → is_quote c ≡ b6 → starts_word c ≡ b7
    → Step (cond b1 space (cond b2 (gap (suc (line_len text))) (cond b3 (line_end (line_end_len (c ∷ text))) (cond b4 (gap (suc (line_end_len text)))
    (cond b5 (number_at (c ∷ text)) (cond b6 (string_at c (c ∷ text)) (cond b7 (word_at (c ∷ text)) (sign_at 3 (c ∷ text))))))))) (c ∷ text)
unfolding Step
step_case c text true b2 b3 b4 b5 b6 b7 i1 i2 i3 i4 i5 i6 i7 = chars_passed 1 (c ∷ text) (and_from (is_sign_char c) true (blank_char c (c == 32) (c == 9) refl refl i1) refl)
step_case c text false true b3 b4 b5 b6 b7 i1 i2 i3 i4 i5 i6 i7 = comment_passed c text i2
step_case c text false false true b4 b5 b6 b7 i1 i2 i3 i4 i5 i6 i7 = chars_passed (line_end_len (c ∷ text)) (c ∷ text) (line_end_chars (c ∷ text))
step_case c text false false false true b5 b6 b7 i1 i2 i3 i4 i5 i6 i7 = chars_passed (suc (line_end_len text)) (c ∷ text) (join_chars c text (and_parts (c == 92) (nat_lt 0 (line_end_len text)) i4).0)
step_case c text false false false false true b6 b7 i1 i2 i3 i4 i5 i6 i7 = step_token (number_at (c ∷ text)) (c ∷ text) (number_token (c ∷ text)) (λ kind n e other. number_passes c text kind n i5 e)
step_case c text false false false false false true b7 i1 i2 i3 i4 i5 i6 i7 = step_token (string_at c (c ∷ text)) (c ∷ text) (string_token c (c ∷ text)) (λ kind n e other. string_passed c text kind n i6 e)
step_case c text false false false false false false true i1 i2 i3 i4 i5 i6 i7 = step_token (word_at (c ∷ text)) (c ∷ text) (word_token (c ∷ text)) (λ kind n e other. word_passed c text kind n i2 i6 i7 e other)
step_case c text false false false false false false false i1 i2 i3 i4 i5 i6 i7 = step_token (sign_at 3 (c ∷ text)) (c ∷ text) (sign_token 3 (c ∷ text)) (λ kind n e other. sign_passes 3 (c ∷ text) kind n e)

found_step : (c : ℕ) (text : List ℕ) → Step (found_at (c ∷ text)) (c ∷ text)
unfolding found_at
found_step c text = step_case c text (is_blank c) (c == 35) (nat_lt 0 (line_end_len (c ∷ text))) (c == 92 && nat_lt 0 (line_end_len text)) (is_ascii_digit c) (is_quote c) (starts_word c) refl refl refl refl refl refl refl

step_at : (c : ℕ) (text : List ℕ) (found : Found) → found_at (c ∷ text) ≡ found → Step found (c ∷ text)
step_at c text found is = subst (λ f. Step f (c ∷ text)) is (found_step c text)

pub space_step : (c : ℕ) (text : List ℕ) → found_at (c ∷ text) ≡ space → Passed 1 (c ∷ text)
unfolding Step
space_step c text is = step_at c text space is

pub gap_step : (c n : ℕ) (text : List ℕ) → found_at (c ∷ text) ≡ gap n → Passed n (c ∷ text)
unfolding Step
gap_step c n text is = step_at c text (gap n) is

pub end_step : (c n : ℕ) (text : List ℕ) → found_at (c ∷ text) ≡ line_end n → Passed n (c ∷ text)
unfolding Step
end_step c n text is = step_at c text (line_end n) is

pub token_step : (c n : ℕ) (text : List ℕ) (kind : Kind) → found_at (c ∷ text) ≡ token kind n → is_word_kind kind ≡ false → Passed n (c ∷ text)
unfolding Step
token_step c n text kind is = step_at c text (token kind n) is

-- ---- each has a character

SomeSize : Found → Type 0
SomeSize (gap n) = 1 ≤ n
SomeSize (line_end n) = 1 ≤ n
SomeSize (token kind n) = 1 ≤ n
SomeSize _ = Unit {0}

some_token : (found : Found) → IsTokenish found → ((kind : Kind) (n : ℕ) → found ≡ token kind n → 1 ≤ n) → SomeSize found
unfolding SomeSize IsTokenish
some_token space is h = absurd (cc is)
some_token (gap n) is h = absurd (cc is)
some_token (line_end n) is h = absurd (cc is)
some_token (token kind n) is h = h kind n refl
some_token (wrong kind n) is h = tt
some_token unended is h = tt

digit_ten : (c : ℕ) → is_ascii_digit c ≡ true → is_digit 10 c ≡ true
digit_ten c digit = (
    let low : nat_lt c 48 ≡ false = grind (arith, nat_tests) in
    let high : nat_lt c 58 ≡ true = grind (arith, nat_tests) in
    rw (low, high) (grind (arith, nat_tests))
    )

decimal_some : (c : ℕ) (text : List ℕ) → is_ascii_digit c ≡ true → 1 ≤ size_of 10 (c ∷ text)
unfolding digits_len
decimal_some c text digit = let n : size_of 10 (c ∷ text) ≡ suc (digits_len 10 true text) = rw (digit_ten c digit) (omega arith) in omega (arith, n)

radix_case : (c d : ℕ) (text : List ℕ) (a b : Bool) → is_ascii_digit c ≡ true → 1 ≤ size_of (cond a 16 (cond b 2 10)) (c ∷ d ∷ text)
radix_case c d text true b digit = omega arith
radix_case c d text false true digit = omega arith
radix_case c d text false false digit = decimal_some c (d ∷ text) digit

radix_some : (c : ℕ) (text : List ℕ) → is_ascii_digit c ≡ true → 1 ≤ size_of (radix_of (c ∷ text)) (c ∷ text)
unfolding radix_of
radix_some c [] digit = decimal_some c [] digit
radix_some c (d ∷ text) digit = radix_case c d text ((c == 48 && d == 120) && begins (is_digit 16) text) ((c == 48 && d == 98) && begins (is_digit 2) text) digit

number_some : (c : ℕ) (text : List ℕ) (kind : Kind) (n : ℕ) → is_ascii_digit c ≡ true → number_at (c ∷ text) ≡ token kind n → 1 ≤ n
number_some c text kind n digit e = let size = number_is (c ∷ text) kind n e in omega (arith, size, radix_some c text digit)

string_case_some : (c : ℕ) (text : List ℕ) (kind : Kind) (n : ℕ) (b : Bool) → string_of (cond b 3 1) (contents c (cond b 3 1) 0 (drop (cond b 3 1) (c ∷ text))) ≡ token kind n → 1 ≤ n
string_case_some c text kind n true e = let is = string_of_is 3 (contents c 3 0 (drop 3 (c ∷ text))) kind n e in omega (arith, is.3)
string_case_some c text kind n false e = let is = string_of_is 1 (contents c 1 0 (drop 1 (c ∷ text))) kind n e in omega (arith, is.3)

string_some : (c : ℕ) (text : List ℕ) (kind : Kind) (n : ℕ) → string_at c (c ∷ text) ≡ token kind n → 1 ≤ n
unfolding string_at
string_some c text kind n e = string_case_some c text kind n (repeats c 3 (c ∷ text)) e

word_some : (c : ℕ) (text : List ℕ) (kind : Kind) (n : ℕ) → starts_word c ≡ true → word_at (c ∷ text) ≡ token kind n → 1 ≤ n
unfolding word_at
word_some c text kind n starts e =
    let is = word_is (c ∷ text) kind n (bytes_eq (word_of (c ∷ text)) (codes "r") && begins is_quote (drop (run (c ∷ text)) (c ∷ text))) e in
    let xid = starts_xid c (is_xid_start c) (c == 95) refl refl starts in
    let size : run (c ∷ text) ≡ suc (run text) = rw xid (omega arith) in
    omega (arith, is.1, size)

sign_turn_some : (k : ℕ) (text : List ℕ) (kind : Kind) (n : ℕ) (o : Option Mark) (other : Found) → spelled signs (take (suc k) text) ≡ o → or_else o other ≡ token kind n → (other ≡ token kind n → 1 ≤ n) → 1 ≤ n
sign_turn_some k text kind n None other is e more = more e
sign_turn_some k text kind n (Some m) other is e more =
    let size : length (mark_text m) ≡ n = cc e in
    let some : nat_lt 0 (length (mark_text m)) ≡ true = found_passes (λ m. nat_lt 0 (length (mark_text m))) signs (take (suc k) text) m refl is in
    let less : 0 < length (mark_text m) = grind (arith, nat_tests) in
    omega (arith, less, size)

sign_some : (k : ℕ) (text : List ℕ) (kind : Kind) (n : ℕ) → sign_at k text ≡ token kind n → 1 ≤ n
unfolding sign_at
sign_some zero text kind n e = absurd (cc e)
sign_some (suc k) text kind n e = sign_turn_some k text kind n (spelled signs (take (suc k) text)) (sign_at k text) refl e (sign_some k text kind n)

size_case : (c : ℕ) (text : List ℕ) (b1 b2 b3 b4 b5 b6 b7 : Bool) → nat_lt 0 (line_end_len (c ∷ text)) ≡ b3 → is_ascii_digit c ≡ b5 → starts_word c ≡ b7
    → SomeSize (cond b1 space (cond b2 (gap (suc (line_len text))) (cond b3 (line_end (line_end_len (c ∷ text))) (cond b4 (gap (suc (line_end_len text)))
    (cond b5 (number_at (c ∷ text)) (cond b6 (string_at c (c ∷ text)) (cond b7 (word_at (c ∷ text)) (sign_at 3 (c ∷ text)))))))))
unfolding SomeSize
size_case c text true b2 b3 b4 b5 b6 b7 i3 i5 i7 = tt
size_case c text false true b3 b4 b5 b6 b7 i3 i5 i7 = omega arith
size_case c text false false true b4 b5 b6 b7 i3 i5 i7 = grind (arith, nat_tests)
size_case c text false false false true b5 b6 b7 i3 i5 i7 = omega arith
size_case c text false false false false true b6 b7 i3 i5 i7 = some_token (number_at (c ∷ text)) (number_token (c ∷ text)) (λ kind n e. number_some c text kind n i5 e)
size_case c text false false false false false true b7 i3 i5 i7 = some_token (string_at c (c ∷ text)) (string_token c (c ∷ text)) (λ kind n e. string_some c text kind n e)
size_case c text false false false false false false true i3 i5 i7 = some_token (word_at (c ∷ text)) (word_token (c ∷ text)) (λ kind n e. word_some c text kind n i7 e)
size_case c text false false false false false false false i3 i5 i7 = some_token (sign_at 3 (c ∷ text)) (sign_token 3 (c ∷ text)) (λ kind n e. sign_some 3 (c ∷ text) kind n e)

some_size : (c : ℕ) (text : List ℕ) (found : Found) → found_at (c ∷ text) ≡ found → SomeSize found
unfolding found_at
some_size c text found is = subst SomeSize is (size_case c text (is_blank c) (c == 35) (nat_lt 0 (line_end_len (c ∷ text))) (c == 92 && nat_lt 0 (line_end_len text)) (is_ascii_digit c) (is_quote c) (starts_word c) refl refl refl)

pub gap_some : (c n : ℕ) (text : List ℕ) → found_at (c ∷ text) ≡ gap n → 1 ≤ n
unfolding SomeSize
gap_some c n text is = some_size c text (gap n) is

pub end_some : (c n : ℕ) (text : List ℕ) → found_at (c ∷ text) ≡ line_end n → 1 ≤ n
unfolding SomeSize
end_some c n text is = some_size c text (line_end n) is

pub token_some : (c n : ℕ) (text : List ℕ) (kind : Kind) → found_at (c ∷ text) ≡ token kind n → 1 ≤ n
unfolding SomeSize
token_some c n text kind is = some_size c text (token kind n) is

-- ---- words

-- a name, or the word `class_name`
abbrev pub is_wordish : Kind → Bool
is_wordish (Name text) = true
is_wordish (Marked ClassName) = true
is_wordish _ = false

IsUnworded : Found → Type 0
IsUnworded (token kind n) = is_wordish kind ≡ false
IsUnworded _ = Unit {0}

parts_unworded : (value size : ℕ) (a b d : Bool) → IsUnworded (cond a (wrong BadToken 0) (cond b (wrong (Unsupported Float) 0) (cond d (token (Int (pos value)) size) (wrong NumberTooLarge 0))))
unfolding IsUnworded
parts_unworded value size true b d = tt
parts_unworded value size false true d = tt
parts_unworded value size false false true = refl
parts_unworded value size false false false = tt

number_unworded : (text : List ℕ) → IsUnworded (number_at text)
unfolding number_at
number_unworded text =
    let radix = radix_of text in
    let front = radix_len radix in
    let digits = digits_len radix false (drop front text) in
    let size = front + digits in
    let more = cond (radix == 10) (float_len (drop size text)) 0 in
    let value = number_value radix (take digits (drop front text)) in
    parts_unworded value size (begins is_xid_start (drop (size + more) text)) (nat_lt 0 more) (nat_lt value (2 ^ 63))

string_of_unworded : (front : ℕ) (c : Contents) → IsUnworded (string_of front c)
unfolding IsUnworded
string_of_unworded front (closed text n) = refl
string_of_unworded front (broken n) = tt
string_of_unworded front endless = tt

string_unworded : (quote : ℕ) (text : List ℕ) → IsUnworded (string_at quote text)
unfolding string_at
string_unworded quote text = string_of_unworded (cond (repeats quote 3 text) 3 1) (contents quote (cond (repeats quote 3 text) 3 1) 0 (drop (cond (repeats quote 3 text) 3 1) text))

not_false : (b : Bool) → not b ≡ true → b ≡ false
not_false false e = refl
not_false true e = absurd (cc e)

sign_turn_unworded : (k : ℕ) (text : List ℕ) (o : Option Mark) (other : Found) → spelled signs (take (suc k) text) ≡ o → IsUnworded other → IsUnworded (or_else o other)
unfolding IsUnworded
sign_turn_unworded k text None other is h = h
sign_turn_unworded k text (Some m) other is h = not_false (is_wordish (Marked m)) (found_passes (λ m. not (is_wordish (Marked m))) signs (take (suc k) text) m refl is)

sign_unworded : (k : ℕ) (text : List ℕ) → IsUnworded (sign_at k text)
unfolding sign_at IsUnworded
sign_unworded zero text = tt
sign_unworded (suc k) text = sign_turn_unworded k text (spelled signs (take (suc k) text)) (sign_at k text) refl (sign_unworded k text)

-- a name or the word `class_name` is the word that begins the text
pub record IsWord (c : ℕ) (text : List ℕ) (kind : Kind) (n : ℕ) : Type 0 where
  pub blank : is_blank c ≡ false
  pub hash : (c == 35) ≡ false
  pub quote : is_quote c ≡ false
  pub starts : starts_word c ≡ true
  pub kind_is : keyword_or_name (spelled keywords (word_of (c ∷ text))) (word_of (c ∷ text)) ≡ kind
  pub size : run (c ∷ text) ≡ n

unworded : (c : ℕ) (text : List ℕ) (kind : Kind) (n : ℕ) (found : Found) → IsUnworded found → found ≡ token kind n → is_wordish kind ≡ true → IsWord c text kind n
unfolding IsUnworded
unworded c text kind n found h e wordish = absurd (let other : is_wordish kind ≡ false = subst IsUnworded e h in cc)

word_case : (c : ℕ) (text : List ℕ) (kind : Kind) (n : ℕ) (b1 b2 b3 b4 b5 b6 b7 : Bool) → is_blank c ≡ b1 → (c == 35) ≡ b2 → is_quote c ≡ b6 → starts_word c ≡ b7
    → cond b1 space (cond b2 (gap (suc (line_len text))) (cond b3 (line_end (line_end_len (c ∷ text))) (cond b4 (gap (suc (line_end_len text)))
    (cond b5 (number_at (c ∷ text)) (cond b6 (string_at c (c ∷ text)) (cond b7 (word_at (c ∷ text)) (sign_at 3 (c ∷ text)))))))) ≡ token kind n → is_wordish kind ≡ true → IsWord c text kind n
unfolding word_at
word_case c text kind n true b2 b3 b4 b5 b6 b7 i1 i2 i6 i7 e wordish = absurd (cc e)
word_case c text kind n false true b3 b4 b5 b6 b7 i1 i2 i6 i7 e wordish = absurd (cc e)
word_case c text kind n false false true b4 b5 b6 b7 i1 i2 i6 i7 e wordish = absurd (cc e)
word_case c text kind n false false false true b5 b6 b7 i1 i2 i6 i7 e wordish = absurd (cc e)
word_case c text kind n false false false false true b6 b7 i1 i2 i6 i7 e wordish = unworded c text kind n (number_at (c ∷ text)) (number_unworded (c ∷ text)) e wordish
word_case c text kind n false false false false false true b7 i1 i2 i6 i7 e wordish = unworded c text kind n (string_at c (c ∷ text)) (string_unworded c (c ∷ text)) e wordish
word_case c text kind n false false false false false false true i1 i2 i6 i7 e wordish =
    let is = word_is (c ∷ text) kind n (bytes_eq (word_of (c ∷ text)) (codes "r") && begins is_quote (drop (run (c ∷ text)) (c ∷ text))) e in
    record { blank = i1; hash = i2; quote = i6; starts = i7; kind_is = is.0; size = is.1 }
word_case c text kind n false false false false false false false i1 i2 i6 i7 e wordish = unworded c text kind n (sign_at 3 (c ∷ text)) (sign_unworded 3 (c ∷ text)) e wordish

pub word_found : (c : ℕ) (text : List ℕ) (kind : Kind) (n : ℕ) → found_at (c ∷ text) ≡ token kind n → is_wordish kind ≡ true → IsWord c text kind n
unfolding found_at
word_found c text kind n e wordish = word_case c text kind n (is_blank c) (c == 35) (nat_lt 0 (line_end_len (c ∷ text))) (c == 92 && nat_lt 0 (line_end_len text)) (is_ascii_digit c) (is_quote c) (starts_word c) refl refl refl refl e wordish

tokenish_space : (found : Found) → IsTokenish found → found ≡ space → ⊥
unfolding IsTokenish
tokenish_space found is e = let h : false ≡ true = sym (ap is_tokenish e) ∙ is in cc h

blank_case : (c : ℕ) (text : List ℕ) (b1 b2 b3 b4 b5 b6 b7 : Bool) → is_blank c ≡ b1
    → cond b1 space (cond b2 (gap (suc (line_len text))) (cond b3 (line_end (line_end_len (c ∷ text))) (cond b4 (gap (suc (line_end_len text)))
    (cond b5 (number_at (c ∷ text)) (cond b6 (string_at c (c ∷ text)) (cond b7 (word_at (c ∷ text)) (sign_at 3 (c ∷ text)))))))) ≡ space → is_blank c ≡ true
blank_case c text true b2 b3 b4 b5 b6 b7 i1 e = i1
blank_case c text false true b3 b4 b5 b6 b7 i1 e = absurd (cc e)
blank_case c text false false true b4 b5 b6 b7 i1 e = absurd (cc e)
blank_case c text false false false true b5 b6 b7 i1 e = absurd (cc e)
blank_case c text false false false false true b6 b7 i1 e = absurd (tokenish_space (number_at (c ∷ text)) (number_token (c ∷ text)) e)
blank_case c text false false false false false true b7 i1 e = absurd (tokenish_space (string_at c (c ∷ text)) (string_token c (c ∷ text)) e)
blank_case c text false false false false false false true i1 e = absurd (tokenish_space (word_at (c ∷ text)) (word_token (c ∷ text)) e)
blank_case c text false false false false false false false i1 e = absurd (tokenish_space (sign_at 3 (c ∷ text)) (sign_token 3 (c ∷ text)) e)

pub space_blank : (c : ℕ) (text : List ℕ) → found_at (c ∷ text) ≡ space → is_blank c ≡ true
unfolding found_at
space_blank c text e = blank_case c text (is_blank c) (c == 35) (nat_lt 0 (line_end_len (c ∷ text))) (c == 92 && nat_lt 0 (line_end_len text)) (is_ascii_digit c) (is_quote c) (starts_word c) refl e
