-- The lines of a project's settings: sections `[name]`, settings `key=value`, comments behind `;`, and blank lines.
use Rattle.std.specs.Prelude.{ℕ, zero, suc, ◌+◌, ◌-◌, Bool, false, not, ◌&&◌, ◌||◌, ◌==◌, nat_lt, if◌then◌else◌, List, [], ◌∷◌, length, take, drop, Option, Some, None}
use Rattle.std.specs.List.{list_all, prefix_len}
use Rattle.gd_syntax.specs.Spellings.{begins, is_blank, line_end_len, line_len}
use Rattle.scene_syntax.specs.Values.{outside, value_len}

pub data Line : Type 0 where
  -- a blank line or a comment
  nothing : Line
  section : List ℕ → Line
  -- a key and its value
  setting : List ℕ → List ℕ → Line
  -- none of these
  broken : Line
  -- the text ends before it is one of these
  unfinished : Line

-- what stands on a line, and how many characters it has before the line's end
pub record Reading : Type 0 where
  pub line : Line
  pub size : ℕ

abbrev pub is_solid : ℕ → Bool
is_solid c = not (is_blank c)

-- whether the last character passes; `none` where there is no character
abbrev pub last_passes : (ℕ → Bool) → Bool → List ℕ → Bool
last_passes passes none [] = none
last_passes passes none (c ∷ text) = last_passes passes (passes c) text

-- A name or key is not empty, and has no blank at its start or end.
abbrev pub is_name : List ℕ → Bool
is_name text = begins is_solid text && last_passes is_solid false text

-- how many characters stand before this one
abbrev pub before : ℕ → List ℕ → ℕ
before c text = prefix_len (λ d. not (d == c)) text

-- a line without what it has to have, which the text may end on
abbrev pub lacking : Bool → Line
lacking stops = if stops then unfinished else broken

-- a line behind `[`, on which the text may stop
abbrev pub section_line : Bool → List ℕ → Line
section_line stops row =
    let n = before 93 row in
    if nat_lt n (length row) then (if is_name (take n row) && n + 1 == length row then section (take n row) else broken)
    else lacking (stops && not (begins is_blank row))

-- a setting whose value has so many characters and begins the text; or which is open at its end
abbrev pub with_value : List ℕ → List ℕ → Option ℕ → Reading
with_value key text None = record { line = unfinished; size = length key + 1 + length text }
with_value key text (Some n) = record { line = setting key (take n text); size = length key + 1 + n }

-- a line that is no section and no comment, which begins the text
abbrev pub setting_line : Bool → List ℕ → List ℕ → Reading
setting_line stops row text =
    let n = before 61 row in
    if nat_lt n (length row) && is_name (take n row) then with_value (take n row) (drop (n + 1) text) (value_len outside 0 (drop (n + 1) text))
    else record { line = lacking (stops && not (nat_lt n (length row))); size = length row }

-- the line that begins the text, which may stop on it
abbrev pub line_in : Bool → List ℕ → List ℕ → Reading
line_in stops row text =
    if list_all is_blank row || begins (λ c. c == 59) row then record { line = nothing; size = length row }
    else if begins is_blank row then record { line = broken; size = length row }
    else if begins (λ c. c == 91) row then record { line = section_line stops (drop 1 row); size = length row }
    else setting_line stops row text

unfoldable pub line_at : List ℕ → Reading
line_at text = line_in (line_len text == length text) (take (line_len text) text) text

-- a line and the number that it begins on
pub record Numbered : Type 0 where
  pub number : ℕ
  pub line : Line

-- the number of the next line behind a character
abbrev pub number_after : ℕ → ℕ → ℕ
number_after number c = if c == 10 then suc number else number

-- a line on which the text is cut is none, unless it is broken before
abbrev pub cut_line : Line → Line
cut_line broken = broken
cut_line _ = unfinished

abbrev pub cut_where : Bool → Line → Line
cut_where is_cut line = if is_cut then cut_line line else line

abbrev pub line_before : Bool → Reading → ℕ → Line
line_before is_cut found size = cut_where (is_cut && found.size == size) found.line

-- how many characters a line that begins the text has, with those of its end
abbrev pub size_of : Reading → List ℕ → ℕ
size_of found text = found.size + line_end_len (drop found.size text)

-- The lines from here on, where n characters are left of the line before. What follows the text may cut its last line.
module _ (is_cut : Bool) where
  unfoldable pub lines : ℕ → ℕ → List ℕ → List Numbered
  lines n number [] = []
  lines (suc n) number (c ∷ text) = lines n (number_after number c) text
  lines zero number (c ∷ text) =
      let found = line_at (c ∷ text) in
      record { number = number; line = line_before is_cut found (length (c ∷ text)) } ∷ lines (size_of found (c ∷ text) - 1) (number_after number c) text
