-- Which faults a file has, and which of them comes first.
use Rattle.std.specs.Prelude.{◌≡◌, ◌⊎◌, ℕ, ◌<◌, ◌≤◌, true, false, List, [], ◌∷◌, ◌++◌, map, flat_map, option_to_list, Contains, All, Option, Some, None, Result, Ok, Err}
use Rattle.gd_syntax.specs.declared.fault.Place.{Place}
use Rattle.gd_syntax.specs.declared.fault.LoadFault.{LoadFault}
use Rattle.gd_syntax.specs.declared.fault.FaultKind.{FaultKind}
use Rattle.gd_syntax.specs.declared.fault.FaultKind.TheVariants.{BadBytes, BadToken, MixedIndent, BadIndent, Unclosed, NumberTooLarge}
use Rattle.gd_syntax.specs.declared.token.Mark.{Mark}
use Rattle.gd_syntax.specs.Layout.{Answer, Ending, ends, stops, unclosed, breaks, Line, Layout, at, bad_byte, before_byte, ends_in_colon, first_layout, first_place, indented, is_unclosed, lines_of, pieces, text_of, text_start}

-- The order.

-- a place before another: on no later line, and on the same line in an earlier column
pub record IsBefore (a b : Place) : Type 0 where
  pub line : a.line ≤ b.line
  pub column : a.line ≡ b.line → a.column < b.column

-- at one place the kind of the lesser rank comes first
abbrev pub rank : FaultKind → ℕ
rank BadBytes = 1
rank BadToken = 2
rank MixedIndent = 3
rank BadIndent = 4
rank Unclosed = 5
rank NumberTooLarge = 6
rank _ = 7

-- a fault that comes before another
pub data ComesBefore (a b : LoadFault) : Type 0 where
  -- `Unclosed` comes only where there is no other fault
  not_last : is_unclosed a.kind ≡ false → is_unclosed b.kind ≡ true → ComesBefore a b
  by_place : is_unclosed a.kind ≡ is_unclosed b.kind → IsBefore a.place b.place → ComesBefore a b
  by_kind : is_unclosed a.kind ≡ is_unclosed b.kind → a.place ≡ b.place → rank a.kind < rank b.kind → ComesBefore a b

-- The faults.

-- where wrong blanks are a fault: a wrong character in the line's first column, a wrong depth at what stands first on it
abbrev pub blank_place : FaultKind → Line → Place → Place
blank_place MixedIndent line first = record { line = line.start.line; column = 1 }
blank_place _ line first = first

-- wrong blanks of this line or the first such line behind it; behind wrong blanks no line has a depth
abbrev pub blanks_onto : Line → Place → Result (List Mark × Layout) FaultKind → (Layout → List LoadFault) → List LoadFault
blanks_onto line first (Err kind) behind = at kind (blank_place kind line first) ∷ []
blanks_onto line first (Ok now) behind = behind now.1

-- blanks with nothing behind them on their line are never wrong
abbrev pub line_blanks : Option Place → Layout → Line → (Layout → List LoadFault) → List LoadFault
line_blanks None layout line behind = behind layout
line_blanks (Some first) layout line behind = blanks_onto line first (indented layout line.indent (ends_in_colon line.tokens)) behind

-- the fault of the first line whose blanks are wrong, if there is one
unfoldable pub blank_faults : Layout → List Line → List LoadFault
blank_faults layout [] = []
blank_faults layout (line ∷ lines) = line_blanks (first_place line.tokens line.ending) layout line (λ after. blank_faults after lines)

-- what a line ends with: what is no token, or what nothing closes
abbrev pub ending_faults : Ending → List LoadFault
ending_faults (ends place) = []
ending_faults (stops place) = []
ending_faults (unclosed place) = at Unclosed place ∷ []
ending_faults (breaks place fault) = fault ∷ []

abbrev pub part_faults : List Line → List LoadFault
part_faults lines = flat_map (λ line. ending_faults line.ending) lines

-- All of them. What stands before a byte that is no UTF-8 is no blank line.
unfoldable pub faults_in : List ℕ → List LoadFault
faults_in bytes =
    let lines = lines_of [] (pieces 0 text_start (text_of bytes)) in
    option_to_list (bad_byte bytes) ++ (blank_faults first_layout (map (before_byte (bad_byte bytes)) lines) ++ part_faults lines)

-- The law.

abbrev pub IsFirstOf : List LoadFault → LoadFault → Type 0
IsFirstOf faults fault = Contains faults fault × All (λ other. (other ≡ fault) ⊎ ComesBefore fault other) faults

-- tokens are answered where there is no fault, and else the fault that comes before all others
abbrev pub AnswersFirst : List LoadFault → Answer → Type 0
AnswersFirst faults (Ok tokens) = faults ≡ []
AnswersFirst faults (Err fault) = IsFirstOf faults fault
