-- A line that is read piece after piece.
use Rattle.std.specs.Prelude.{◌≡◌, ℕ, ◌-◌, ◌<◌, Bool, false, if◌then◌else◌, List, [], ◌∷◌, ◌++◌, length, reverse, Option, Some, None}
use Rattle.gd_syntax.specs.declared.fault.Place.{Place}
use Rattle.gd_syntax.specs.declared.token.Kind.{Kind}
use Rattle.gd_syntax.specs.declared.token.Token.{Token}
use Rattle.gd_syntax.specs.Layout as spec
use Rattle.gd_tokens.specs.declared.lines.Ending.{Ending}
use Rattle.gd_tokens.specs.declared.lines.Ending.TheVariants.{Ends, Stops, Unclosed, Breaks}
use Rattle.gd_tokens.specs.declared.lines.Line.{Line}
use Rattle.gd_tokens.specs.declared.lines.LineStart.{LineStart}

abbrev pub ending_of : Ending → spec.Ending
ending_of (Ends place) = spec.ends place
ending_of (Stops place) = spec.stops place
ending_of (Unclosed place) = spec.unclosed place
ending_of (Breaks place fault) = spec.breaks place fault

abbrev pub line_of : Line → spec.Line
line_of line = record { start = line.start; indent = line.indent.items; tokens = line.tokens.items; ending = ending_of line.ending }

-- what was read of a line
pub record Front : Type 0 where
  pub start : Place
  pub indent : List ℕ
  -- nothing but blanks so far
  pub blank : Bool
  pub tokens : List Token
  -- the open brackets, innermost first
  pub opened : List Place

abbrev pub front_of : LineStart → Front
front_of line = record { start = line.start; indent = line.indent.items; blank = line.blank; tokens = line.tokens.items; opened = reverse line.opened.items }

-- the lines that these are, with what was read in front of the first
abbrev pub onto : Front → List spec.Line → List spec.Line
onto front [] = []
onto front (line ∷ lines) = record { start = front.start; indent = if front.blank then front.indent ++ line.indent else front.indent; tokens = front.tokens ++ line.tokens; ending = line.ending } ∷ lines

-- the lines of what was read and of the text from this place on
abbrev pub lines_from : Front → Place → List ℕ → List spec.Line
lines_from front place text = onto front (spec.lines_of front.opened (spec.pieces 0 place text))

-- what was read, with a blank behind it
abbrev pub with_blank : Front → ℕ → Front
with_blank front c = record front { indent = if front.blank then front.indent ++ c ∷ [] else front.indent }

abbrev pub with_gap : Front → Front
with_gap front = record front { blank = false }

abbrev pub with_token : Front → Kind → Place → Front
with_token front kind place = record front { blank = false; tokens = front.tokens ++ record { kind = kind; place = place } ∷ []; opened = spec.brackets kind place front.opened }

-- the line that what was read is, where it ends so
abbrev pub ended : Front → Ending → spec.Line
ended front ending = record { start = front.start; indent = front.indent; tokens = front.tokens; ending = ending_of ending }

-- the pieces behind one of so many characters that begins the text
abbrev pub pieces_behind : ℕ → Place → List ℕ → List spec.Piece
pieces_behind n place [] = []
pieces_behind n place (c ∷ text) = spec.pieces (n - 1) (spec.past place c) text

-- the lines behind a line that ends so
abbrev pub lines_behind : Ending → Place → List ℕ → List spec.Line
lines_behind (Ends end) place text = spec.lines_of [] (spec.pieces 0 place text)
lines_behind _ place text = []

-- where a line follows, the text gets shorter
abbrev pub GoesOn : Ending → List ℕ → List ℕ → Type 0
GoesOn (Ends end) text rest = length rest < length text
GoesOn _ text rest = Unit {0}

-- what one piece does: the line goes on and the text gets shorter, or the line ends
abbrev pub IsStep : Front → Place → List ℕ → Option Ending → Front → Place → List ℕ → Type 0
IsStep old place text None new next rest = (lines_from old place text ≡ lines_from new next rest) × (length rest < length text)
IsStep old place text (Some ending) new next rest = (lines_from old place text ≡ ended new ending ∷ lines_behind ending next rest) × GoesOn ending text rest
