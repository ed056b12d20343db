-- What stands at a place of a text: the longest spelling there, as the Godot manual's page "GDScript reference" and UAX 31
-- have it. Each group names the section of that page.
use Rattle.std.specs.Prelude.{ℕ, zero, suc, ◌+◌, ◌-◌, ◌^◌, pos, Bool, true, false, not, ◌&&◌, ◌||◌, ◌==◌, nat_lt, if◌then◌else◌, List, [], ◌∷◌, ◌++◌, length, take, drop, codes, bytes_eq, Option, Some, None}
use Rattle.std.specs.List.{find, filter, list_all, prefix_len}
use Rattle.std.specs.Char.{is_ascii_digit, digit_value}
use Rattle.std.specs.Str.Parse.{digits_value}
use Rattle.unicode_ident.specs.Ident.{is_xid_start, is_xid_continue}
use Rattle.gd_syntax.specs.declared.fault.FaultKind.{FaultKind}
use Rattle.gd_syntax.specs.declared.fault.FaultKind.TheVariants.{BadToken, NumberTooLarge, Unsupported}
use Rattle.gd_syntax.specs.declared.fault.Form.TheVariants.{Float, RawString}
use Rattle.gd_syntax.specs.declared.token.Mark.{Mark}
use Rattle.gd_syntax.specs.declared.token.Kind.{Kind}
use Rattle.gd_syntax.specs.declared.token.Kind.TheVariants.{Mark as Marked, Name, Int, Text}
use Rattle.gd_syntax.specs.Tokens.{mark_text, keywords, signs}

-- what stands at a place, with the number of its characters
pub data Found : Type 0 where
  -- a space or a tab
  space : Found
  -- a comment, or a line end that joins two lines
  gap : ℕ → Found
  line_end : ℕ → Found
  token : Kind → ℕ → Found
  -- no token, with the fault so many characters further on
  wrong : FaultKind → ℕ → Found
  -- a string that nothing closes
  unended : Found

-- whether the text begins with a character that passes
abbrev pub begins : (ℕ → Bool) → List ℕ → Bool
begins passes [] = false
begins passes (c ∷ text) = passes c

-- Signs: the longest one ("Operators", "Keywords").

-- the one of these that is spelled so
unfoldable pub spelled : List Mark → List ℕ → Option Mark
spelled marks text = find (λ m. bytes_eq (mark_text m) text) marks

abbrev pub or_else : Option Mark → Found → Found
or_else None other = other
or_else (Some m) other = token (Marked m) (length (mark_text m))

-- the longest sign of at most so many characters that begins the text
unfoldable pub sign_at : ℕ → List ℕ → Found
sign_at zero text = wrong BadToken 0
sign_at (suc n) text = or_else (spelled signs (take (suc n) text)) (sign_at n text)

-- Words: all the characters that may go on an identifier ("Identifiers", "Keywords"; UAX 31, requirement R1, default
-- identifiers, with `_` as one more character that may begin one).

abbrev pub starts_word : ℕ → Bool
starts_word c = is_xid_start c || c == 95

abbrev pub is_quote : ℕ → Bool
is_quote c = c == 34 || c == 39

abbrev pub keyword_or_name : Option Mark → List ℕ → Kind
keyword_or_name None word = Name word
keyword_or_name (Some m) word = Marked m

-- `r` before a quote begins a raw string
unfoldable pub word_at : List ℕ → Found
word_at text =
    let n = prefix_len is_xid_continue text in
    let word = take n text in
    if bytes_eq word (codes "r") && begins is_quote (drop n text) then wrong (Unsupported RawString) 0
    else token (keyword_or_name (spelled keywords word) word) n

-- Numbers: digits, with one `_` between two digits where one likes ("Literals").

abbrev pub is_digit : ℕ → ℕ → Bool
is_digit radix c = nat_lt (digit_value c) radix

-- how many characters are digits, with `_` between two of them; whether a digit stands in front
unfoldable pub digits_len : ℕ → Bool → List ℕ → ℕ
digits_len radix behind [] = 0
digits_len radix behind (c ∷ text) =
    if is_digit radix c then suc (digits_len radix true text)
    else if (behind && c == 95) && begins (is_digit radix) text then suc (digits_len radix false text) else 0

-- the number that such digits write
unfoldable pub number_value : ℕ → List ℕ → ℕ
number_value radix digits = digits_value radix (filter (λ c. not (c == 95)) digits)

-- a `.` and digits
unfoldable pub fraction_len : List ℕ → ℕ
fraction_len [] = 0
fraction_len (c ∷ text) = if c == 46 && begins (is_digit 10) text then suc (digits_len 10 false text) else 0

abbrev pub is_sign : ℕ → Bool
is_sign c = c == 43 || c == 45

abbrev pub sign_len : List ℕ → ℕ
sign_len text = if begins is_sign text then 1 else 0

-- an `e`, a sign where one likes, and digits
unfoldable pub exponent_len : List ℕ → ℕ
exponent_len [] = 0
exponent_len (c ∷ text) =
    let n = sign_len text in
    if (c == 101 || c == 69) && begins (is_digit 10) (drop n text) then suc (n + digits_len 10 false (drop n text)) else 0

-- the radix that the text's first two characters name, where one of its digits follows
unfoldable pub radix_of : List ℕ → ℕ
radix_of [] = 10
radix_of (c ∷ []) = 10
radix_of (c ∷ d ∷ text) =
    if (c == 48 && d == 120) && begins (is_digit 16) text then 16
    else if (c == 48 && d == 98) && begins (is_digit 2) text then 2 else 10

-- how many characters name the radix
abbrev pub radix_len : ℕ → ℕ
radix_len radix = if radix == 10 then 0 else 2

-- how many characters a fraction and an exponent have
unfoldable pub float_len : List ℕ → ℕ
float_len text = let n = fraction_len text in n + exponent_len (drop n text)

-- a whole number of this value, if it fits
abbrev pub whole : ℕ → ℕ → Found
whole value size = if nat_lt value (2 ^ 63) then token (Int (pos value)) size else wrong NumberTooLarge 0

-- A number of `size` characters, `more` of which are those of a float. No letter follows a number.
abbrev pub number_of : ℕ → ℕ → ℕ → List ℕ → Found
number_of value size more text =
    if begins is_xid_start (drop (size + more) text) then wrong BadToken 0
    else if nat_lt 0 more then wrong (Unsupported Float) 0
    else whole value size

unfoldable pub number_at : List ℕ → Found
number_at text =
    let radix = radix_of text in
    let front = radix_len radix in
    let n = digits_len radix false (drop front text) in
    let size = front + n in
    let more = if radix == 10 then float_len (drop size text) else 0 in
    number_of (number_value radix (take n (drop front text))) size more text

-- Strings: from the longest quotes that begin the text up to the first such quotes ("Literals", with its escapes).

-- `\n` or `\r\n`: how many characters of a line end begin the text
abbrev pub line_end_len : List ℕ → ℕ
line_end_len [] = 0
line_end_len (c ∷ text) = if c == 10 then 1 else if c == 13 && begins (λ d. d == 10) text then 2 else 0

-- whether the text begins with n of these quotes
abbrev pub repeats : ℕ → ℕ → List ℕ → Bool
repeats quote zero text = true
repeats quote (suc n) [] = false
repeats quote (suc n) (c ∷ text) = c == quote && repeats quote n text

-- a part of a string: what it gives, and how many characters it has
pub record Piece : Type 0 where
  pub gives : List ℕ
  pub size : ℕ

-- the character that a letter behind `\` stands for
abbrev pub escaped : ℕ → Option ℕ
escaped c =
    if c == 110 then Some 10 else if c == 116 then Some 9 else if c == 114 then Some 13 else if c == 97 then Some 7
    else if c == 98 then Some 8 else if c == 102 then Some 12 else if c == 118 then Some 11
    else if c == 34 then Some 34 else if c == 39 then Some 39 else if c == 92 then Some 92 else None

abbrev pub is_scalar : ℕ → Bool
is_scalar c = nat_lt c 0xd800 || (nat_lt 0xdfff c && nat_lt c 0x110000)

-- `\`, a letter, and n hexadecimal digits that write a character
unfoldable pub code_escape : ℕ → List ℕ → Option Piece
code_escape n text =
    let digits = take n text in
    if (length digits == n && list_all (is_digit 16) digits) && is_scalar (number_value 16 digits)
    then Some (record { gives = number_value 16 digits ∷ []; size = 2 + n }) else None

abbrev pub letter_escape : Option ℕ → Option Piece
letter_escape None = None
letter_escape (Some c) = Some (record { gives = c ∷ []; size = 2 })

-- the escape whose characters behind `\` begin the text
unfoldable pub escape_at : List ℕ → Option Piece
escape_at [] = None
escape_at (c ∷ text) =
    if c == 117 then code_escape 4 text
    else if c == 85 then code_escape 6 text
    else if nat_lt 0 (line_end_len (c ∷ text)) then Some (record { gives = []; size = 1 + line_end_len (c ∷ text) })
    else letter_escape (escaped c)

-- the character or escape that begins the text of a string
unfoldable pub piece_at : List ℕ → Option Piece
piece_at [] = None
piece_at (c ∷ text) = if c == 92 then escape_at text else Some (record { gives = c ∷ []; size = 1 })

-- how a string goes on: its characters, and how many it takes to spell them and to close it; or a wrong escape so many
-- characters on; or nothing closes it
pub data Contents : Type 0 where
  closed : List ℕ → ℕ → Contents
  broken : ℕ → Contents
  endless : Contents

abbrev pub one_on : Contents → Contents
one_on (closed text n) = closed text (suc n)
one_on (broken n) = broken (suc n)
one_on endless = endless

abbrev pub behind : List ℕ → Contents → Contents
behind front (closed text n) = closed (front ++ text) n
behind front (broken n) = broken n
behind front endless = endless

-- the contents of a string from here on, where n characters are left of what came before
unfoldable pub contents : ℕ → ℕ → ℕ → List ℕ → Contents
contents quote count n [] = endless
contents quote count (suc n) (c ∷ text) = one_on (contents quote count n text)
contents quote count zero (c ∷ text) =
    if repeats quote count (c ∷ text) then closed [] count
    else elim (piece_at (c ∷ text)) as (λ _. Contents) [
      | None ↦ broken 0
      | Some piece ↦ behind piece.gives (one_on (contents quote count (piece.size - 1) text))
    ]

abbrev pub string_of : ℕ → Contents → Found
string_of front (closed text n) = token (Text text) (front + n)
string_of front (broken n) = wrong BadToken (front + n)
string_of front endless = unended

unfoldable pub string_at : ℕ → List ℕ → Found
string_at quote text =
    let count = if repeats quote 3 text then 3 else 1 in
    string_of count (contents quote count 0 (drop count text))

-- Gaps ("Comments", "Line continuation").

abbrev pub is_blank : ℕ → Bool
is_blank c = c == 32 || c == 9

-- how many characters stand before the end of the line
abbrev pub line_len : List ℕ → ℕ
line_len [] = 0
line_len (c ∷ text) = if line_end_len (c ∷ text) == 0 then suc (line_len text) else 0

unfoldable pub found_at : List ℕ → Found
found_at [] = wrong BadToken 0
found_at (c ∷ text) =
    if is_blank c then space
    else if c == 35 then gap (suc (line_len text))
    else if nat_lt 0 (line_end_len (c ∷ text)) then line_end (line_end_len (c ∷ text))
    else if c == 92 && nat_lt 0 (line_end_len text) then gap (suc (line_end_len text))
    else if is_ascii_digit c then number_at (c ∷ text)
    else if is_quote c then string_at c (c ∷ text)
    else if starts_word c then word_at (c ∷ text)
    else sign_at 3 (c ∷ text)
