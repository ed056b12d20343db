-- Values of a project's settings (Godot manual, "TSCN file format"): where a value ends, and what a string says.
use Rattle.std.specs.Prelude.{ℕ, suc, ◌-◌, Bool, false, ◌&&◌, ◌||◌, ◌==◌, nat_lt, if◌then◌else◌, List, [], ◌∷◌, length, Option, Some, None}
use Rattle.gd_syntax.specs.Spellings.{Contents, closed, broken, endless, contents, line_end_len}

-- whether a place of a value is in a string, and there behind a `\`
pub data Inside : Type 0 where
  outside : Inside
  quoted : Inside
  escaped : Inside

abbrev pub inside_after : Inside → ℕ → Inside
inside_after outside c = if c == 34 then quoted else outside
inside_after quoted c = if c == 34 then outside else if c == 92 then escaped else quoted
inside_after escaped c = quoted

abbrev pub opens : ℕ → Bool
opens c = c == 40 || c == 91 || c == 123

abbrev pub closes : ℕ → Bool
closes c = c == 41 || c == 93 || c == 125

-- How many brackets are open behind a character. A closing bracket closes the innermost, whatever its kind, and with none open it
-- closes nothing.
abbrev pub depth_after : Inside → ℕ → ℕ → ℕ
depth_after outside depth c = if opens c then suc depth else if closes c then depth - 1 else depth
depth_after quoted depth c = depth
depth_after escaped depth c = depth

abbrev pub is_closed : Inside → ℕ → Bool
is_closed outside depth = depth == 0
is_closed quoted depth = false
is_closed escaped depth = false

abbrev pub one_more : Option ℕ → Option ℕ
one_more None = None
one_more (Some n) = Some (suc n)

-- How many characters a value has from here on: up to the first line end outside strings and brackets. None where a string or a
-- bracket is open at the end of the text.
unfoldable pub value_len : Inside → ℕ → List ℕ → Option ℕ
value_len inside depth [] = if is_closed inside depth then Some 0 else None
value_len inside depth (c ∷ text) =
    if is_closed inside depth && nat_lt 0 (line_end_len (c ∷ text)) then Some 0
    else one_more (value_len (inside_after inside c) (depth_after inside depth c) text)

abbrev pub whole_string : ℕ → Contents → Option (List ℕ)
whole_string size (closed text n) = if n == size then Some text else None
whole_string size (broken n) = None
whole_string size endless = None

-- what a value says that is one string in `"`, with the escapes of a script's strings, and nothing else
unfoldable pub string_value : List ℕ → Option (List ℕ)
string_value [] = None
string_value (c ∷ text) = if c == 34 then whole_string (length text) (contents 34 1 0 text) else None
