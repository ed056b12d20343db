-- The order of places, and where what is no token stands.
use Rattle.std.proofs.Common.{◌≡◌, ◌⊎◌, inl, inr, refl, ℕ, zero, suc, ◌+◌, ◌-◌, ◌<◌, ◌≤◌, ◌==◌, ◌^◌, Bool, true, false, cond, ◌&&◌, List, [], ◌∷◌, length, take, drop, Option, Some, None, length-drop, arith}
use Rattle.std.specs.Prelude.{nat_lt}
use Rattle.std.specs.Char.{is_ascii_digit}
use Rattle.unicode_ident.specs.Ident.{is_xid_start}
use Rattle.std.proofs.lemmas.Bool.{cases_lt}
use Rattle.gd_syntax.specs.declared.fault.Place.{Place}
use Rattle.gd_syntax.specs.declared.fault.FaultKind.{FaultKind}
use Rattle.gd_syntax.specs.declared.fault.FaultKind.TheVariants.{BadToken, NumberTooLarge, Unsupported}
use Rattle.gd_syntax.specs.declared.fault.Form.TheVariants.{Float, RawString}
use Rattle.gd_syntax.specs.declared.token.Mark.{Mark}
use Rattle.gd_syntax.specs.Tokens.{signs}
use Rattle.gd_syntax.specs.declared.token.Kind.{Kind}
use Rattle.gd_syntax.specs.Spellings.{Found, space, token, wrong, found_at, begins, Contents, closed, broken, endless, one_on, behind, contents, piece_at, repeats, Piece, string_of, string_at, number_of, number_at, whole, word_at, sign_at, or_else, spelled, is_blank, is_quote, starts_word, line_end_len}
use Rattle.gd_syntax.specs.Layout.{past, past_all}
use Rattle.token_laws.specs.FaultOrder.{IsBefore}

pub not_true : false ≡ true → ⊥
not_true e = cc

-- a place that is another or before it
pub record IsUpTo (a b : Place) : Type 0 where
  pub line : a.line ≤ b.line
  pub column : a.line ≡ b.line → a.column ≤ b.column

up_to_itself : (a : Place) → IsUpTo a a
up_to_itself a = record { line = omega arith; column = λ same. omega arith }

pub before_up_to : (a b : Place) → IsBefore a b → IsUpTo a b
before_up_to a b h = record { line = h.line; column = λ same. let less = h.column same in omega arith }

pub before_on : (a b c : Place) → IsBefore a b → IsUpTo b c → IsBefore a c
before_on a b c h k = record {
  line = omega (arith, h.line, k.line);
  column = λ same.
      let first : a.line ≡ b.line = omega (arith, h.line, k.line) in
      let next : b.line ≡ c.line = omega (arith, h.line, k.line) in
      omega (arith, h.column first, k.column next);
}

pub on_before : (a b c : Place) → IsUpTo a b → IsBefore b c → IsBefore a c
on_before a b c h k = record {
  line = omega (arith, h.line, k.line);
  column = λ same.
      let first : a.line ≡ b.line = omega (arith, h.line, k.line) in
      let next : b.line ≡ c.line = omega (arith, h.line, k.line) in
      omega (arith, h.column first, k.column next);
}

same_place : (a b : Place) → a.line ≡ b.line → a.column ≡ b.column → a ≡ b
same_place a b line column = λ i. record { line = line i; column = column i }

column_case : (a b : Place) → IsUpTo a b → a.line ≡ b.line → (a.column < b.column) ⊎ (b.column ≤ a.column) → IsBefore a b ⊎ (a ≡ b)
column_case a b h same (inl less) = inl (record { line = h.line; column = λ k. less })
column_case a b h same (inr more) = let most = h.column same in inr (same_place a b same (omega arith))

line_case : (a b : Place) → IsUpTo a b → (a.line < b.line) ⊎ (b.line ≤ a.line) → IsBefore a b ⊎ (a ≡ b)
line_case a b h (inl less) = inl (record { line = h.line; column = λ same. absurd (omega arith) })
line_case a b h (inr more) = let same : a.line ≡ b.line = omega (arith, h.line) in column_case a b h same (cases_lt a.column b.column)

pub before_or_same : (a b : Place) → IsUpTo a b → IsBefore a b ⊎ (a ≡ b)
before_or_same a b h = line_case a b h (cases_lt a.line b.line)

-- Places go on.
past_by : (newline : Bool) (a : Place) → IsBefore a (cond newline (record { line = a.line + 1; column = 1 }) (record { line = a.line; column = a.column + 1 }))
past_by true a = record { line = omega arith; column = λ same. absurd (omega arith) }
past_by false a = record { line = omega arith; column = λ same. omega arith }

pub past_before : (a : Place) (c : ℕ) → IsBefore a (past a c)
past_before a c = past_by (c == 10) a

column_by : (newline : Bool) (a : Place) → 1 ≤ Place.column (cond newline (record { line = a.line + 1; column = 1 }) (record { line = a.line; column = a.column + 1 }))
column_by true a = omega arith
column_by false a = omega arith

-- columns count from 1
pub past_column : (a : Place) (c : ℕ) → 1 ≤ Place.column (past a c)
past_column a c = column_by (c == 10) a

all_up_to : (a : Place) (text : List ℕ) → IsUpTo a (past_all a text)
all_up_to a [] = up_to_itself a
all_up_to a (c ∷ text) = before_up_to a (past_all (past a c) text) (before_on a (past a c) (past_all (past a c) text) (past_before a c) (all_up_to (past a c) text))

pub char_before : (a : Place) (c : ℕ) (text : List ℕ) → IsBefore a (past_all a (c ∷ text))
char_before a c text = before_on a (past a c) (past_all (past a c) text) (past_before a c) (all_up_to (past a c) text)

pub part_up_to : (n : ℕ) (a : Place) (text : List ℕ) → IsUpTo a (past_all a (take n text))
part_up_to n a text = all_up_to a (take n text)

pub part_before : (n : ℕ) (a : Place) (text : List ℕ) → n < length text → IsBefore (past_all a (take n text)) (past_all a text)
part_before n a [] within = absurd (omega arith)
part_before zero a (c ∷ text) within = char_before a c text
part_before (suc n) a (c ∷ text) within = part_before n (past a c) text (omega arith)

-- What is no token is found in front of the text's end, and its fault is one of these kinds.
abbrev pub is_found : FaultKind → Bool
is_found BadToken = true
is_found NumberTooLarge = true
is_found (Unsupported form) = true
is_found _ = false

unfoldable pub IsWithin : ℕ → Found → Type 0
IsWithin size (wrong kind n) = (n < size) × (is_found kind ≡ true)
IsWithin size _ = Unit {0}

either_within : (size : ℕ) (b : Bool) (x y : Found) → IsWithin size x → IsWithin size y → IsWithin size (cond b x y)
either_within size true x y h k = h
either_within size false x y h k = k

IsBrokenWithin : ℕ → Contents → Type 0
IsBrokenWithin size (broken n) = n < size
IsBrokenWithin size _ = Unit {0}

one_on_within : (size : ℕ) (c : Contents) → IsBrokenWithin size c → IsBrokenWithin (suc size) (one_on c)
unfolding IsBrokenWithin
one_on_within size (closed text n) h = tt
one_on_within size (broken n) h = omega arith
one_on_within size endless h = tt

behind_within : (size : ℕ) (front : List ℕ) (c : Contents) → IsBrokenWithin size c → IsBrokenWithin size (behind front c)
unfolding IsBrokenWithin
behind_within size front (closed text n) h = tt
behind_within size front (broken n) h = h
behind_within size front endless h = tt

piece_within : (size : ℕ) (piece : Option Piece) (on : ℕ → Contents) → ((n : ℕ) → IsBrokenWithin size (on n))
    → IsBrokenWithin (suc size) (elim piece as (λ _. Contents) [
      | None ↦ broken 0
      | Some piece ↦ behind piece.gives (one_on (on (piece.size - 1)))
    ])
unfolding IsBrokenWithin
piece_within size None on h = omega arith
piece_within size (Some piece) on h = behind_within (suc size) piece.gives (one_on (on (piece.size - 1))) (one_on_within size (on (piece.size - 1)) (h (piece.size - 1)))

closes_within : (size : ℕ) (b : Bool) (count : ℕ) (c : Contents) → IsBrokenWithin size c → IsBrokenWithin size (cond b (closed [] count) c)
unfolding IsBrokenWithin
closes_within size true count c h = tt
closes_within size false count c h = h

contents_within : (quote count n : ℕ) (text : List ℕ) → IsBrokenWithin (length text) (contents quote count n text)
unfolding contents IsBrokenWithin
contents_within quote count n [] = tt
contents_within quote count (suc n) (c ∷ text) = one_on_within (length text) (contents quote count n text) (contents_within quote count n text)
contents_within quote count zero (c ∷ text) =
    closes_within (suc (length text)) (repeats quote count (c ∷ text)) count _
    (piece_within (length text) (piece_at (c ∷ text)) (λ n. contents quote count n text) (λ n. contents_within quote count n text))

broken_case : (front : ℕ) (size : ℕ) (c : Contents) → IsBrokenWithin (size - front) c → IsWithin size (string_of front c)
unfolding IsBrokenWithin IsWithin
broken_case front size (closed text n) h = tt
broken_case front size (broken n) h = (omega arith, refl)
broken_case front size endless h = tt

quotes_within : (quote count : ℕ) (text : List ℕ) → IsWithin (length text) (string_of count (contents quote count 0 (drop count text)))
quotes_within quote count text =
    let inner = contents_within quote count 0 (drop count text) in
    broken_case count (length text) (contents quote count 0 (drop count text)) (rw length-drop at inner)

string_within : (quote : ℕ) (text : List ℕ) → IsWithin (length text) (string_at quote text)
unfolding string_at
string_within quote text = quotes_within quote (cond (repeats quote 3 text) 3 1) text

at_once : (size : ℕ) (kind : FaultKind) → 0 < size → is_found kind ≡ true → IsWithin size (wrong kind 0)
unfolding IsWithin
at_once size kind some is = (some, is)

whole_within : (size : ℕ) (value length : ℕ) → 0 < size → IsWithin size (whole value length)
unfolding IsWithin
whole_within size value length some = either_within size (nat_lt value (2 ^ 63)) _ _ tt (at_once size NumberTooLarge some refl)

number_of_within : (size value n more : ℕ) (text : List ℕ) → 0 < size → IsWithin size (number_of value n more text)
unfolding IsWithin
number_of_within size value n more text some =
    either_within size (begins is_xid_start (drop (n + more) text)) _ _ (at_once size BadToken some refl)
    (either_within size (nat_lt 0 more) _ _ (at_once size (Unsupported Float) some refl) (whole_within size value n some))

number_within : (size : ℕ) (text : List ℕ) → 0 < size → IsWithin size (number_at text)
unfolding number_at
number_within size text some = number_of_within size _ _ _ text some

token_within : (size : ℕ) (kind : Kind) (n : ℕ) → IsWithin size (token kind n)
unfolding IsWithin
token_within size kind n = tt

word_within : (size : ℕ) (text : List ℕ) → 0 < size → IsWithin size (word_at text)
unfolding word_at
word_within size text some = either_within size _ _ _ (at_once size (Unsupported RawString) some refl) (token_within size _ _)

or_else_within : (size : ℕ) (mark : Option Mark) (found : Found) → IsWithin size found → IsWithin size (or_else mark found)
unfolding IsWithin
or_else_within size None found h = h
or_else_within size (Some m) found h = tt

sign_within : (size n : ℕ) (text : List ℕ) → 0 < size → IsWithin size (sign_at n text)
unfolding sign_at
sign_within size zero text some = at_once size BadToken some refl
sign_within size (suc n) text some = or_else_within size (spelled signs (take (suc n) text)) (sign_at n text) (sign_within size n text some)

pub found_within : (c : ℕ) (text : List ℕ) → IsWithin (length (c ∷ text)) (found_at (c ∷ text))
unfolding found_at IsWithin
found_within c text =
    let size = length (c ∷ text) in
    let some : 0 < size = omega arith in
    either_within size (is_blank c) space _ tt
    (either_within size (c == 35) _ _ tt
    (either_within size (nat_lt 0 (line_end_len (c ∷ text))) _ _ tt
    (either_within size (c == 92 && nat_lt 0 (line_end_len text)) _ _ tt
    (either_within size (is_ascii_digit c) _ _ (number_within size (c ∷ text) some)
    (either_within size (is_quote c) _ _ (string_within c (c ∷ text))
    (either_within size (starts_word c) _ _ (word_within size (c ∷ text) some) (sign_within size 3 (c ∷ text) some)))))))
