-- The header of a script: the lines from the start that are blank or begin with `#`, `@`, `extends` or `class_name`. Its
-- global name is the identifier behind the first word `class_name` in these lines, outside strings and comments (Godot
-- manual, "GDScript reference", "Registering named classes").
use Rattle.std.specs.Prelude.{ℕ, zero, suc, ◌+◌, ◌-◌, Bool, true, false, not, ◌&&◌, ◌||◌, ◌==◌, nat_lt, if◌then◌else◌, List, [], ◌∷◌, length, take, drop, codes, bytes_eq, option_map, Option, Some, None}
use Rattle.std.specs.List.{prefix_len}
use Rattle.unicode_ident.specs.Ident.{is_xid_continue}
use Rattle.gd_syntax.specs.declared.fault.Place.{Place}
use Rattle.gd_syntax.specs.declared.token.Mark.{Mark}
use Rattle.gd_syntax.specs.Spellings.{begins, is_blank, is_quote, line_end_len, line_len, repeats, spelled, starts_word}
use Rattle.gd_syntax.specs.Layout.{past, past_all, text_of, text_start}
use Rattle.gd_syntax.specs.Tokens.{keywords}

-- a name and its place
pub record Global : Type 0 where
  pub name : List ℕ
  pub place : Place

-- the word that begins the text
abbrev pub word_of : List ℕ → List ℕ
word_of text = take (prefix_len is_xid_continue text) text

abbrev pub is_class_name : List ℕ → Bool
is_class_name word = bytes_eq word (codes "class_name")

-- whether the line that begins the text has only blanks
abbrev pub is_blank_line : List ℕ → Bool
is_blank_line text = let rest = drop (prefix_len is_blank text) text in length rest == 0 || nat_lt 0 (line_end_len rest)

-- whether the line that begins the text is a header line
abbrev pub is_header_line : List ℕ → Bool
is_header_line text =
    is_blank_line text || begins (λ c. c == 35 || c == 64) text || bytes_eq (word_of text) (codes "extends") || is_class_name (word_of text)

abbrev pub unless_keyword : Option Mark → Global → Option Global
unless_keyword None global = Some global
unless_keyword (Some m) global = None

-- how many characters the header lines take that begin the text, where a line starts there or is under way
unfoldable pub header_len : Bool → List ℕ → ℕ
header_len starts [] = 0
header_len starts (c ∷ text) = if starts && not (is_header_line (c ∷ text)) then 0 else suc (header_len (c == 10) text)

abbrev pub header_text : List ℕ → List ℕ
header_text text = take (header_len true text) text

-- the name that blanks part from `class_name`, on the same line; a keyword is no name
abbrev pub name_behind : Place → List ℕ → Option Global
name_behind place text =
    let n = prefix_len is_blank text in
    let name = word_of (drop n text) in
    if begins starts_word (drop n text) then unless_keyword (spelled keywords name) (record { name = name; place = past_all place (take n text) }) else None

-- How many characters there are from inside a string up to the end of the quotes that close it; none where nothing
-- closes it. The character behind `\` closes nothing.
unfoldable pub quoted_len : ℕ → ℕ → Bool → List ℕ → Option ℕ
quoted_len quote count escaped [] = None
quoted_len quote count escaped (c ∷ text) =
    if not escaped && repeats quote count (c ∷ text) then Some count
    else option_map (λ n. suc n) (quoted_len quote count (not escaped && c == 92) text)

-- what stands at a place
pub data Part : Type 0 where
  -- a comment, a string, a word or another character
  passed : ℕ → Part
  -- the word `class_name`
  keyword : Part
  -- a string that nothing closes
  unended : Part

abbrev pub string_part : ℕ → Option ℕ → Part
string_part count None = unended
string_part count (Some n) = passed (count + n)

abbrev pub quotes_len : ℕ → List ℕ → ℕ
quotes_len quote text = if repeats quote 3 text then 3 else 1

-- the string that begins the text
abbrev pub string_at : ℕ → List ℕ → Part
string_at quote text = string_part (quotes_len quote text) (quoted_len quote (quotes_len quote text) false (drop (quotes_len quote text) text))

abbrev pub word_part : List ℕ → Part
word_part word = if is_class_name word then keyword else passed (length word)

unfoldable pub part_at : List ℕ → Part
part_at [] = unended
part_at (c ∷ text) =
    if c == 35 then passed (suc (line_len text))
    else if is_quote c then string_at c (c ∷ text)
    else if is_xid_continue c then word_part (word_of (c ∷ text))
    else passed 1

-- The name in a text with this part in front, where `behind` gives the name in the text so many characters behind its
-- first.
abbrev pub name_in : Part → Place → List ℕ → (ℕ → Option Global) → Option Global
name_in (passed n) place text behind = behind (n - 1)
name_in keyword place text behind = name_behind (past_all place (take (length (codes "class_name")) text)) (drop (length (codes "class_name")) text)
name_in unended place text behind = None

-- the name in the text from this place on, where n characters are left of the part before
unfoldable pub name_from : ℕ → Place → List ℕ → Option Global
name_from n place [] = None
name_from (suc n) place (c ∷ text) = name_from n (past place c) text
name_from zero place (c ∷ text) = name_in (part_at (c ∷ text)) place (c ∷ text) (λ n. name_from n (past place c) text)

-- the global name of a file; behind a bad byte there is no text
abbrev pub global_of : List ℕ → Option Global
global_of bytes = name_from 0 text_start (header_text (text_of bytes))

-- where the header of a file ends: the place just past its last character
abbrev pub header_end_of : List ℕ → Place
header_end_of bytes = past_all text_start (header_text (text_of bytes))
