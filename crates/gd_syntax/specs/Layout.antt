-- The tokens of a text: it is cut into pieces, these make lines, and the depths of the lines open and close blocks. The
-- Godot manual shows blocks by examples alone; the rule is that of Python's "Indentation" with one character for all
-- depths. As a function it gives each text one list or one fault.
use Rattle.std.specs.Prelude.{◌≡◌, slice_get, ℕ, zero, suc, ◌+◌, ◌-◌, Bool, true, false, not, ◌&&◌, ◌==◌, nat_lt, if◌then◌else◌, List, [], ◌∷◌, ◌++◌, length, take, drop, map, replicate, Option, Some, None, Result, Ok, Err}
use Rattle.std.specs.List.{list_all, fold}
use Rattle.std.specs.Str.{chars}
use Rattle.std.specs.declared.alloc.Global.{Global}
use Rattle.std.specs.declared.vec.Vec.{Vec}
use Rattle.std.specs.Str.Lossy.{utf8_valid_len}
use Rattle.gd_syntax.specs.declared.fault.Place.{Place}
use Rattle.gd_syntax.specs.declared.fault.LoadFault.{LoadFault}
use Rattle.gd_syntax.specs.declared.fault.FaultKind.{FaultKind}
use Rattle.gd_syntax.specs.declared.fault.FaultKind.TheVariants.{BadBytes, BadToken, MixedIndent, BadIndent, Unclosed}
use Rattle.gd_syntax.specs.declared.fault.SolveError.{SolveError}
use Rattle.gd_syntax.specs.declared.fault.SolveError.TheVariants.{Fault, NoMemory}
use Rattle.gd_syntax.specs.declared.token.Mark.{Mark}
use Rattle.gd_syntax.specs.declared.token.Mark.TheVariants.{LParen, RParen, LBracket, RBracket, LBrace, RBrace, Colon, Newline, Indent, Dedent, End}
use Rattle.gd_syntax.specs.declared.token.Kind.{Kind}
use Rattle.gd_syntax.specs.declared.token.Kind.TheVariants.{Mark as Marked}
use Rattle.gd_syntax.specs.declared.token.Token.{Token}
use Rattle.gd_syntax.specs.Spellings.{Found, space, gap, line_end, token, wrong, unended, found_at, begins}

-- Places.

abbrev pub text_start : Place
text_start = record { line = 1; column = 1 }

-- the place behind a character
abbrev pub past : Place → ℕ → Place
past place c = if c == 10 then record { line = place.line + 1; column = 1 } else record { line = place.line; column = place.column + 1 }

-- the place behind a text
abbrev pub past_all : Place → List ℕ → Place
past_all place text = fold past place text

abbrev pub at : FaultKind → Place → LoadFault
at kind place = record { kind = kind; place = place }

-- Pieces.

pub data Part : Type 0 where
  blank : ℕ → Part
  skipped : Part
  line_over : Part
  read : Kind → Part
  -- no token, with its fault
  fails : LoadFault → Part
  -- a string that nothing closes
  endless : Part
  -- the end of the text
  over : Part

pub record Piece : Type 0 where
  pub part : Part
  pub place : Place

-- what was found at a place, in front of the pieces that stand so many characters behind its first; a fault is the last
abbrev pub piece_onto : Found → Place → ℕ → List ℕ → (ℕ → List Piece) → List Piece
piece_onto space place c text behind = record { part = blank c; place = place } ∷ behind 0
piece_onto (gap n) place c text behind = record { part = skipped; place = place } ∷ behind (n - 1)
piece_onto (line_end n) place c text behind = record { part = line_over; place = place } ∷ behind (n - 1)
piece_onto (token kind n) place c text behind = record { part = read kind; place = place } ∷ behind (n - 1)
piece_onto (wrong kind n) place c text behind = record { part = fails (at kind (past_all place (take n (c ∷ text)))); place = place } ∷ []
piece_onto unended place c text behind = record { part = endless; place = place } ∷ []

-- the pieces from this place on, where n characters are left of the piece before
unfoldable pub pieces : ℕ → Place → List ℕ → List Piece
pieces n place [] = record { part = over; place = place } ∷ []
pieces (suc n) place (c ∷ text) = pieces n (past place c) text
pieces zero place (c ∷ text) = piece_onto (found_at (c ∷ text)) place c text (λ n. pieces n (past place c) text)

-- Lines.

-- how a line ends
pub data Ending : Type 0 where
  -- at a line end that no bracket is open at
  ends : Place → Ending
  -- at the end of the text
  stops : Place → Ending
  -- at the end of the text, with this bracket or string as the innermost that is open
  unclosed : Place → Ending
  -- at what begins here and is no token, with its fault
  breaks : Place → LoadFault → Ending

-- the blanks before all else, the tokens, and the end
pub record Line : Type 0 where
  pub start : Place
  pub indent : List ℕ
  pub tokens : List Token
  pub ending : Ending

-- a line that has nothing before its end
abbrev pub bare : Place → Ending → Line
bare place ending = record { start = place; indent = []; tokens = []; ending = ending }

-- the first line with a blank, a gap or a token in front
abbrev pub blank_onto : Place → ℕ → List Line → List Line
blank_onto place c [] = []
blank_onto place c (line ∷ lines) = record line { start = place; indent = c ∷ line.indent } ∷ lines

abbrev pub gap_onto : Place → List Line → List Line
gap_onto place [] = []
gap_onto place (line ∷ lines) = record line { start = place; indent = [] } ∷ lines

abbrev pub token_onto : Token → List Line → List Line
token_onto t [] = []
token_onto t (line ∷ lines) = record { start = t.place; indent = []; tokens = t ∷ line.tokens; ending = line.ending } ∷ lines

abbrev pub opens_bracket : Mark → Bool
opens_bracket LParen = true
opens_bracket LBracket = true
opens_bracket LBrace = true
opens_bracket _ = false

abbrev pub closes_bracket : Mark → Bool
closes_bracket RParen = true
closes_bracket RBracket = true
closes_bracket RBrace = true
closes_bracket _ = false

-- The open brackets behind a token, innermost first. A closing bracket closes the innermost, whatever its kind.
abbrev pub brackets : Kind → Place → List Place → List Place
brackets (Marked m) place opened = if opens_bracket m then place ∷ opened else if closes_bracket m then drop 1 opened else opened
brackets _ place opened = opened

abbrev pub line_stop : List Place → Place → Ending
line_stop [] place = stops place
line_stop (bracket ∷ opened) place = unclosed bracket

-- inside brackets a line end is a gap
abbrev pub line_end_onto : List Place → Place → (List Place → List Line) → List Line
line_end_onto [] place behind = bare place (ends place) ∷ behind []
line_end_onto (bracket ∷ opened) place behind = gap_onto place (behind (bracket ∷ opened))

-- a piece in front of the lines behind it, where brackets are open at these places; a fault is in the last line
abbrev pub part_onto : Part → Place → List Place → (List Place → List Line) → List Line
part_onto (blank c) place opened behind = blank_onto place c (behind opened)
part_onto skipped place opened behind = gap_onto place (behind opened)
part_onto line_over place opened behind = line_end_onto opened place behind
part_onto (read kind) place opened behind = token_onto (record { kind = kind; place = place }) (behind (brackets kind place opened))
part_onto (fails fault) place opened behind = bare place (breaks place fault) ∷ []
part_onto endless place opened behind = bare place (unclosed place) ∷ []
part_onto over place opened behind = bare place (line_stop opened place) ∷ []

-- the lines of these pieces
unfoldable pub lines_of : List Place → List Piece → List Line
lines_of opened [] = []
lines_of opened (piece ∷ more) = part_onto piece.part piece.place opened (λ inner. lines_of inner more)

-- Blocks.

pub record Layout : Type 0 where
  -- the character that indents the lines of this file, once one is indented
  pub unit : Option ℕ
  -- the depths of the open blocks, innermost first; the file's own is 0
  pub depths : List ℕ
  -- the line before ended in `:`
  pub opens : Bool

abbrev pub first_layout : Layout
first_layout = record { unit = None; depths = []; opens = false }

abbrev pub innermost : List ℕ → ℕ
innermost [] = 0
innermost (depth ∷ depths) = depth

-- the blocks that are not deeper than a line
abbrev pub kept : ℕ → List ℕ → List ℕ
kept depth [] = []
kept depth (d ∷ depths) = if nat_lt depth d then kept depth depths else d ∷ depths

-- the tokens that open or close blocks in front of a line, and the blocks that are then open
pub record Blocks : Type 0 where
  pub marks : List Mark
  pub depths : List ℕ

-- A line is as deep as an open block, or deeper directly after a line that ends in `:`.
abbrev pub blocks_at : Bool → ℕ → List ℕ → Option Blocks
blocks_at opens depth depths =
    let left = kept depth depths in
    if nat_lt (innermost depths) depth then (if opens then Some (record { marks = Indent ∷ []; depths = depth ∷ depths }) else None)
    else if innermost left == depth then Some (record { marks = replicate (length depths - length left) Dedent; depths = left }) else None

-- the first indented line fixes the character
abbrev pub unit_of : Option ℕ → List ℕ → Option ℕ
unit_of (Some unit) indent = Some unit
unit_of None [] = None
unit_of None (c ∷ indent) = Some c

abbrev pub is_mixed : Option ℕ → List ℕ → Bool
is_mixed None indent = false
is_mixed (Some unit) indent = not (list_all (λ c. c == unit) indent)

abbrev pub is_colon : Kind → Bool
is_colon (Marked Colon) = true
is_colon _ = false

abbrev pub is_colon_token : Option Token → Bool
is_colon_token None = false
is_colon_token (Some t) = is_colon t.kind

-- whether the last token is `:`
abbrev pub ends_in_colon : List Token → Bool
ends_in_colon tokens = is_colon_token (slice_get tokens (length tokens - 1))

abbrev pub with_blocks : Option ℕ → Bool → Option Blocks → Result (List Mark × Layout) FaultKind
with_blocks unit opens None = Err BadIndent
with_blocks unit opens (Some blocks) = Ok (blocks.marks, record { unit = unit; depths = blocks.depths; opens = opens })

-- what the blanks of a line open and close, and the layout behind the line, which may end in `:`; or what is wrong
-- with the blanks
abbrev pub indented : Layout → List ℕ → Bool → Result (List Mark × Layout) FaultKind
indented layout indent opens =
    let unit = unit_of layout.unit indent in
    if is_mixed unit indent then Err MixedIndent else with_blocks unit opens (blocks_at layout.opens (length indent) layout.depths)

-- The list.

abbrev pub Answer : Type 0
Answer = Result (List Token) LoadFault

abbrev pub front : List Token → Answer → Answer
front tokens (Ok more) = Ok (tokens ++ more)
front tokens (Err fault) = Err fault

abbrev pub mark_at : Place → Mark → Token
mark_at place m = record { kind = Marked m; place = place }

-- where what stands first on a line begins; a line with nothing is not looked at
abbrev pub ending_start : Ending → Option Place
ending_start (ends place) = None
ending_start (stops place) = None
ending_start (unclosed place) = Some place
ending_start (breaks place fault) = Some place

abbrev pub first_place : List Token → Ending → Option Place
first_place [] ending = ending_start ending
first_place (t ∷ tokens) ending = Some t.place

-- whether a fault comes before `BadIndent` at one place
abbrev pub precedes_depth : FaultKind → Bool
precedes_depth BadBytes = true
precedes_depth BadToken = true
precedes_depth _ = false

abbrev pub same_place : Place → Place → Bool
same_place a b = a.line == b.line && a.column == b.column

-- The fault of a line of a wrong depth, at what stands first on it: `BadIndent`, or that of a bad byte or of no token.
abbrev pub depth_kind : List Token → Ending → FaultKind
depth_kind [] (breaks place fault) = if precedes_depth fault.kind && same_place fault.place place then fault.kind else BadIndent
depth_kind _ _ = BadIndent

-- what is wrong with a line whose blanks are wrong
abbrev pub indent_fault : FaultKind → Line → Place → LoadFault
indent_fault MixedIndent line first = at MixedIndent (record { line = line.start.line; column = 1 })
indent_fault _ line first = at (depth_kind line.tokens line.ending) first

-- at the end of the text each of the open blocks is closed
abbrev pub closing : Place → ℕ → List Token
closing place n = replicate n (mark_at place Dedent) ++ mark_at place End ∷ []

-- a line with nothing on it has no NL
abbrev pub newline : Bool → Place → List Token
newline true place = []
newline false place = mark_at place Newline ∷ []

-- how a line ends, on which there may be nothing, and the lines behind it
abbrev pub line_tail : Bool → Layout → Ending → Answer → Answer
line_tail nothing layout (ends place) more = front (newline nothing place) more
line_tail nothing layout (stops place) more = Ok (newline nothing place ++ closing place (length layout.depths))
line_tail nothing layout (unclosed place) more = Err (at Unclosed place)
line_tail nothing layout (breaks place fault) more = Err fault

abbrev pub marks_at : Place → List Mark → List Token
marks_at place marks = map (mark_at place) marks

-- a line with something on it, in front of the lines behind it
abbrev pub line_onto : Line → Place → Result (List Mark × Layout) FaultKind → (Layout → Answer) → Answer
line_onto line first (Err kind) behind = Err (indent_fault kind line first)
line_onto line first (Ok now) behind = front (marks_at first now.0 ++ line.tokens) (line_tail false now.1 line.ending (behind now.1))

abbrev pub laid_onto : Option Place → Layout → Line → (Layout → Answer) → Answer
laid_onto None layout line behind = line_tail true layout line.ending (behind layout)
laid_onto (Some first) layout line behind = line_onto line first (indented layout line.indent (ends_in_colon line.tokens)) behind

-- the tokens of these lines
unfoldable pub tokens_of : Layout → List Line → Answer
tokens_of layout [] = Ok []
tokens_of layout (line ∷ lines) = laid_onto (first_place line.tokens line.ending) layout line (λ after. tokens_of after lines)

-- The bytes.

-- the characters of the longest front that is UTF-8, without a byte order mark at its start
abbrev pub text_of : List ℕ → List ℕ
text_of bytes =
    let text = chars (take (utf8_valid_len bytes) bytes) in
    if begins (λ c. c == 0xfeff) text then drop 1 text else text

abbrev pub is_unclosed : FaultKind → Bool
is_unclosed Unclosed = true
is_unclosed _ = false

-- the first byte of a file that is no UTF-8, which stands behind the text
unfoldable pub bad_byte : List ℕ → Option LoadFault
bad_byte bytes = if utf8_valid_len bytes == length bytes then None else Some (at BadBytes (past_all text_start (text_of bytes)))

-- whether what stands behind the blanks of a line without tokens, up to this place, is a comment
abbrev pub is_comment : List Token → Line → Place → Bool
is_comment [] line place = place.line == line.start.line && nat_lt (length line.indent) (place.column - line.start.column)
is_comment (t ∷ tokens) line place = false

-- A bad byte breaks the line that it stands on, also inside brackets or a string. So that line is not blank, but the blanks
-- before a comment do not count.
abbrev pub broken : LoadFault → Line → Ending → Line
broken fault line (stops place) = record line { indent = if is_comment line.tokens line place then [] else line.indent; ending = breaks place fault }
broken fault line (unclosed place) = record line { ending = breaks place fault }
broken fault line _ = line

abbrev pub before_byte : Option LoadFault → Line → Line
before_byte None line = line
before_byte (Some fault) line = broken fault line line.ending

-- the tokens of a text that ends at its file's end, or at a bad byte
abbrev pub tokens_before : Option LoadFault → List ℕ → Answer
tokens_before bad text = tokens_of first_layout (map (before_byte bad) (lines_of [] (pieces 0 text_start text)))

-- the tokens of a file, or its first fault
unfoldable pub tokens_in_bytes : List ℕ → Answer
tokens_in_bytes bytes = tokens_before (bad_byte bytes) (text_of bytes)

-- what `tokens` answers: the list or the fault, unless memory runs out
abbrev pub IsAnswer : Result (Vec Token Global) SolveError → Answer → Type 0
IsAnswer (Ok tokens) answer = answer ≡ Ok tokens.items
IsAnswer (Err (Fault fault)) answer = answer ≡ Err fault
IsAnswer (Err NoMemory) answer = Unit {0}
