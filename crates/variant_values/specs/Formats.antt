-- Formats of the operator `%`, after the Godot manual's "GDScript format strings".
use Rattle.std.specs.Prelude.{ℕ, zero, suc, ◌+◌, ◌-◌, ℤ, unsigned_abs, int_lt, pos, Bool, true, false, ◌&&◌, ◌||◌, ◌==◌, nat_le, List, [], ◌∷◌, ◌++◌, length, take, drop, chars, encode_utf8, if◌then◌else◌, Option, Some, None, option_map, Result, Err}
use Rattle.std.specs.List.{list_any, prefix_len, repeat}
use Rattle.std.specs.Fmt.{digits}
use Rattle.std.specs.Char.{is_ascii_digit}
use Rattle.std.specs.Str.{all_scalars}
use Rattle.std.specs.Str.Parse.{digits_value}
use Rattle.variant_values.specs.declared.values.Value.{Value}
use Rattle.variant_values.specs.declared.values.Value.TheVariants.{Int, Str, Array}
use Rattle.variant_values.specs.declared.cells.Cell.{Cell}
use Rattle.variant_values.specs.declared.faults.RunFault.{RunFault}
use Rattle.variant_values.specs.declared.faults.RunFault.TheVariants.{BadFormat, TooDeep}
use Rattle.variant_values.specs.Heaps.{cell_at, items_of}
use Rattle.variant_values.specs.ValueTexts.{Names, text_in, items_in, is_within, most_levels, fitting}
use Rattle.variant_values.specs.StringMethods.{natural}

-- what stands behind a `%`: flags, a width and a letter
pub record Directive : Type 0 where
  -- `-`: the text stands at the left
  pub left : Bool
  -- `0`: zeros before a number
  pub zeros : Bool
  -- `+`: a sign before a number that is not negative
  pub plus : Bool
  -- the least number of characters
  pub width : ℕ
  pub letter : ℕ
  -- how many bytes it has
  pub size : ℕ

-- `-`, `0` and `+`
abbrev pub is_flag : ℕ → Bool
is_flag b = b == 45 || (b == 48 || b == 43)

-- `s`, `d`, `x`, `X`, `o` and `c`
abbrev pub is_letter : ℕ → Bool
is_letter b = b == 115 || (b == 100 || (b == 120 || (b == 88 || (b == 111 || b == 99))))

abbrev pub has_byte : ℕ → List ℕ → Bool
has_byte b bs = list_any (λ x. x == b) bs

-- a width of up to three digits
abbrev pub width_of : List ℕ → Option ℕ
width_of digits = if nat_le (length digits) 3 then Some (digits_value 10 digits) else None

-- the letter behind flags and a width
abbrev pub letter_at : List ℕ → Option ℕ
letter_at [] = None
letter_at (b ∷ bs) = if is_letter b then Some b else None

abbrev pub directive_with : List ℕ → ℕ → Option ℕ → Option ℕ → Option Directive
directive_with flags size None letter = None
directive_with flags size (Some width) None = None
directive_with flags size (Some width) (Some letter) = Some (record {
  left = has_byte 45 flags;
  zeros = has_byte 48 flags;
  plus = has_byte 43 flags;
  width = width;
  letter = letter;
  size = size;
})

-- flags in any order, a width, and a letter
abbrev pub directive_behind : ℕ → ℕ → List ℕ → Option Directive
directive_behind flags digits bs = directive_with (take flags bs) (flags + digits + 1) (width_of (take digits (drop flags bs))) (letter_at (drop digits (drop flags bs)))

abbrev pub directive_at : List ℕ → Option Directive
directive_at bs = directive_behind (prefix_len is_flag bs) (prefix_len is_ascii_digit (drop (prefix_len is_flag bs) bs)) bs

abbrev pub blanks : ℕ → List ℕ
blanks n = repeat n (32 ∷ [])

abbrev pub zeros_of : ℕ → List ℕ
zeros_of n = repeat n (48 ∷ [])

-- blanks up to the width
abbrev pub padded_text : Directive → List ℕ → List ℕ
padded_text d text =
    let missing = blanks (d.width - length (chars text)) in
    if d.left then text ++ missing else missing ++ text

abbrev pub sign_of : Bool → ℤ → List ℕ
sign_of plus z = if int_lt z (pos 0) then 45 ∷ [] else (if plus then 43 ∷ [] else [])

-- the digits of the size: those of `x` and `X` in base 16, those of `o` in base 8
abbrev pub size_digits : ℕ → ℕ → List ℕ
size_digits letter n =
    if letter == 120 then digits 16 false n else (if letter == 88 then digits 16 true n else (if letter == 111 then digits 8 false n else digits 10 false n))

-- the sign and the digits, with blanks or zeros up to the width: `-` beats `0`, and zeros go behind the sign
abbrev pub padded_number : Directive → List ℕ → List ℕ → List ℕ
padded_number d sign shown =
    let missing = d.width - (length sign + length shown) in
    if d.left then sign ++ shown ++ blanks missing else (if d.zeros then sign ++ zeros_of missing ++ shown else blanks missing ++ sign ++ shown)

abbrev pub number_text : Directive → ℤ → List ℕ
number_text d z = padded_number d (sign_of d.plus z) (size_digits d.letter (unsigned_abs z))

-- a code point, where there is such a character
abbrev pub coded : Option ℕ → Option (List ℕ)
coded None = None
coded (Some c) = if all_scalars (c ∷ []) then Some (encode_utf8 c) else None

-- the character of `c`: a code point, or a string of one character
abbrev pub character_in : Value → Option (List ℕ)
character_in (Int n) = coded (natural n)
character_in (Str text) = if length (chars text) == 1 then Some text else None
character_in v = None

abbrev pub number_in : Directive → Value → Option (List ℕ)
number_in d (Int n) = Some (number_text d n)
number_in d v = None

-- Whether the walks of all texts stay within the limits, and the whole text. There is none where the format is bad.
abbrev pub Formatted : Type 0
Formatted = Option (Bool × List ℕ)

abbrev pub plain : Option (List ℕ) → Formatted
plain None = None
plain (Some text) = Some (true, text)

-- what one value gives
abbrev pub formatted_value : List (Option Cell) → Names → Directive → Value → Formatted
formatted_value cells names d v =
    if d.letter == 115 then Some (is_within (items_in most_levels cells v), padded_text d (text_in most_levels cells names v))
    else (if d.letter == 99 then plain (option_map (padded_text d) (character_in v)) else plain (number_in d v))

-- one after the other
abbrev pub followed : Formatted → Formatted → Formatted
followed None b = None
followed (Some a) None = None
followed (Some a) (Some b) = Some (a.0 && b.0, a.1 ++ b.1)

-- ---- a pattern is read as pieces

-- a text as it stands there, or a value as a directive shows it
pub data Piece : Type 0 where
  Literal : (text : List ℕ) → Piece
  Shown : (directive : Directive) → Piece

-- a byte before pieces belongs to the text that they begin with
abbrev pub with_byte : ℕ → List Piece → List Piece
with_byte b [] = Literal (b ∷ []) ∷ []
with_byte b (Literal text ∷ ps) = Literal (b ∷ text) ∷ ps
with_byte b (Shown d ∷ ps) = Literal (b ∷ []) ∷ Shown d ∷ ps

abbrev pub starts_percent : List ℕ → Bool
starts_percent [] = false
starts_percent (b ∷ bs) = b == 37

-- a directive, and the pieces behind its bytes
abbrev pub with_shown : Option Directive → (ℕ → Option (List Piece)) → Option (List Piece)
with_shown None behind = None
with_shown (Some d) behind = option_map (λ ps. Shown d ∷ ps) (behind d.size)

-- The pieces of a pattern, or none where what stands behind a `%` is no directive. The first `skip` bytes are those of a
-- directive and are passed over; `%%` is one `%`.
abbrev pub pieces_after : ℕ → List ℕ → Option (List Piece)
pieces_after skip [] = Some []
pieces_after (suc skip) (b ∷ bs) = pieces_after skip bs
pieces_after zero (b ∷ bs) =
    if b == 37 then (if starts_percent bs then option_map (with_byte 37) (pieces_after 1 bs) else with_shown (directive_at bs) (λ n. pieces_after n bs))
    else option_map (with_byte b) (pieces_after 0 bs)

abbrev pub pieces : List ℕ → Option (List Piece)
pieces pattern = pieces_after 0 pattern

-- ---- and the pieces are filled

-- each directive takes the next value, and all values are taken
abbrev pub filled : (Directive → Value → Formatted) → List Piece → List Value → Formatted
filled value [] [] = Some (true, [])
filled value [] (v ∷ vs) = None
filled value (Literal text ∷ ps) vs = followed (Some (true, text)) (filled value ps vs)
filled value (Shown d ∷ ps) [] = None
filled value (Shown d ∷ ps) (v ∷ vs) = followed (value d v) (filled value ps vs)

abbrev pub filled_where : (Directive → Value → Formatted) → Option (List Piece) → List Value → Formatted
filled_where value None vs = None
filled_where value (Some ps) vs = filled value ps vs

-- an array has the values, and another value stands alone
abbrev pub values_of : List (Option Cell) → Value → List Value
values_of cells (Array s) = items_of (cell_at cells s.0)
values_of cells v = v ∷ []

abbrev pub format_result : Formatted → Result (List ℕ) RunFault
format_result None = Err BadFormat
format_result (Some (within, text)) = if within then fitting text else Err TooDeep

-- A pattern with values: `BadFormat` for a breach of its form and for too few or too many values, then `TooDeep` where the
-- walk of a text passes a limit, and then `TooLong`.
abbrev pub format_value : List (Option Cell) → Names → List ℕ → Value → Result (List ℕ) RunFault
format_value cells names pattern arg = format_result (filled_where (formatted_value cells names) (pieces pattern) (values_of cells arg))
