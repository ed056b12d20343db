-- What a piece in front does to the lines of a text.
use Rattle.std.proofs.Common.{◌≡◌, refl, sym, ap, ◌∙◌, ℕ, zero, suc, ◌-◌, ◌≤◌, max, Bool, true, false, List, [], ◌∷◌, ◌++◌, length, take, drop, get_or, append-nil, append_assoc, arith}
use Rattle.gd_syntax.specs.declared.fault.Place.{Place}
use Rattle.gd_syntax.specs.declared.fault.FaultKind.{FaultKind}
use Rattle.gd_syntax.specs.declared.token.Kind.{Kind}
use Rattle.gd_syntax.specs.declared.token.Token.{Token}
use Rattle.gd_syntax.specs.Spellings.{Found, space, gap, line_end, token, wrong, unended, found_at}
use Rattle.std.specs.Prelude.{if◌then◌else◌, reverse}
use Rattle.gd_syntax.specs.Layout.{Piece, line_over, piece_onto, line_end_onto, Line, pieces, lines_of, past, past_all, at, bare, blank_onto, gap_onto, token_onto, brackets, line_stop, ends, unclosed, breaks, Ending}
use Rattle.gd_tokens.specs.declared.lines.Ending.{Ending as CodeEnding}
use Rattle.gd_tokens.specs.declared.lines.Ending.TheVariants.{Ends, Stops, Unclosed, Breaks}
use Rattle.gd_tokens.specs.LineParts.{Front, onto, lines_from, with_blank, with_gap, with_token, pieces_behind, ending_of, ended, lines_behind, GoesOn}

-- the characters that are left of a piece
pub pieces_left : (n : ℕ) (place : Place) (text : List ℕ) → n ≤ length text → pieces n place text ≡ pieces 0 (past_all place (take n text)) (drop n text)
unfolding pieces
pieces_left zero place text fits = refl
pieces_left (suc n) place [] fits = absurd (omega arith)
pieces_left (suc n) place (c ∷ text) fits = pieces_left n (past place c) text (omega arith)

pub behind_is : (n : ℕ) (place : Place) (text : List ℕ) → 1 ≤ length text → n ≤ length text → pieces_behind n place text ≡ pieces 0 (past_all place (take (max n 1) text)) (drop (max n 1) text)
behind_is n place [] some fits = absurd (omega arith)
behind_is zero place (c ∷ text) some fits = refl
behind_is (suc n) place (c ∷ text) some fits =
    let less : suc n - 1 ≡ n = omega arith in
    let most : max (suc n) 1 ≡ suc n = omega arith in
    ap (λ k. pieces k (past place c) text) less ∙ pieces_left n (past place c) text (omega arith) ∙ ap (λ k. pieces 0 (past_all place (take k (c ∷ text))) (drop k (c ∷ text))) (sym most)

-- a line behind what was read, where no blank of it counts
settled : (blank : Bool) (start : Place) (indent : List ℕ) (tokens more : List Token) (ending : Ending) (lines : List Line)
    → (record { start = start; indent = (if blank then indent ++ [] else indent); tokens = tokens ++ more; ending = ending } ∷ lines) ≡ (record { start = start; indent = indent; tokens = tokens ++ more; ending = ending } ∷ lines)
settled true start indent tokens more ending lines = rw append-nil refl
settled false start indent tokens more ending lines = refl

pub onto_gap : (front : Front) (place : Place) (lines : List Line) → onto front (gap_onto place lines) ≡ onto (with_gap front) lines
onto_gap front place [] = refl
onto_gap front place (line ∷ lines) = settled front.blank front.start front.indent front.tokens line.tokens line.ending lines

pub onto_token : (front : Front) (t : Token) (opened : List Place) (lines : List Line) → onto front (token_onto t lines) ≡ onto (record front { blank = false; tokens = front.tokens ++ t ∷ []; opened = opened }) lines
onto_token front t opened [] = refl
onto_token front t opened (line ∷ lines) =
    settled front.blank front.start front.indent front.tokens (t ∷ line.tokens) line.ending lines
    ∙ ap (λ ts. record { start = front.start; indent = front.indent; tokens = ts; ending = line.ending } ∷ lines) (sym (append_assoc front.tokens (t ∷ []) line.tokens))

pub blanks : (blank : Bool) (start : Place) (indent : List ℕ) (tokens : List Token) (opened : List Place) (c : ℕ) (place : Place) (lines : List Line)
    → onto (record { start = start; indent = indent; blank = blank; tokens = tokens; opened = opened }) (blank_onto place c lines)
    ≡ onto (with_blank (record { start = start; indent = indent; blank = blank; tokens = tokens; opened = opened }) c) lines
blanks blank start indent tokens opened c place [] = refl
blanks true start indent tokens opened c place (line ∷ lines) = ap (λ i. record { start = start; indent = i; tokens = tokens ++ line.tokens; ending = line.ending } ∷ lines) (sym (append_assoc indent (c ∷ []) line.indent))
blanks false start indent tokens opened c place (line ∷ lines) = refl

pub onto_bare : (front : Front) (place : Place) (ending : Ending) (lines : List Line) → onto front (bare place ending ∷ lines) ≡ record { start = front.start; indent = front.indent; tokens = front.tokens; ending = ending } ∷ lines
onto_bare front place ending lines =
    settled front.blank front.start front.indent front.tokens [] ending lines
    ∙ ap (λ ts. record { start = front.start; indent = front.indent; tokens = ts; ending = ending } ∷ lines) (append-nil front.tokens)

-- the cases of a piece

-- the lines behind what was found
abbrev found_lines : Front → Place → ℕ → List ℕ → Found → List Line
found_lines front place c text found = onto front (lines_of front.opened (piece_onto found place c text (λ n. pieces n (past place c) text)))

as_found : (front : Front) (place : Place) (c : ℕ) (text : List ℕ) (found : Found) → found_at (c ∷ text) ≡ found → lines_from front place (c ∷ text) ≡ found_lines front place c text found
unfolding pieces
as_found front place c text found is = ap (found_lines front place c text) is

pub blank_case : (front : Front) (place : Place) (text : List ℕ) (c : ℕ) → 1 ≤ length text → c ≡ get_or text 0 c → found_at text ≡ space → lines_from front place text ≡ onto (with_blank front c) (lines_of front.opened (pieces_behind 1 place text))
unfolding lines_of
blank_case front place [] c some is found = absurd (omega arith)
blank_case front place (d ∷ text) c some is found =
    as_found front place d text space found ∙ blanks front.blank front.start front.indent front.tokens front.opened d place (lines_of front.opened (pieces 0 (past place d) text))
    ∙ ap (λ k. onto (with_blank front k) (lines_of front.opened (pieces 0 (past place d) text))) (sym is)

pub gap_case : (front : Front) (place : Place) (text : List ℕ) (n : ℕ) → 1 ≤ length text → found_at text ≡ gap n → lines_from front place text ≡ onto (with_gap front) (lines_of front.opened (pieces_behind n place text))
unfolding lines_of
gap_case front place [] n some found = absurd (omega arith)
gap_case front place (d ∷ text) n some found = as_found front place d text (gap n) found ∙ onto_gap front place (lines_of front.opened (pieces (n - 1) (past place d) text))

pub token_case : (front : Front) (place : Place) (text : List ℕ) (kind : Kind) (n : ℕ) → 1 ≤ length text → found_at text ≡ token kind n
    → lines_from front place text ≡ onto (with_token front kind place) (lines_of (brackets kind place front.opened) (pieces_behind n place text))
unfolding lines_of
token_case front place [] kind n some found = absurd (omega arith)
token_case front place (d ∷ text) kind n some found =
    as_found front place d text (token kind n) found
    ∙ onto_token front (record { kind = kind; place = place }) (brackets kind place front.opened) (lines_of (brackets kind place front.opened) (pieces (n - 1) (past place d) text))

outer_end : (opened : List Place) (place : Place) (behind : List Piece) → opened ≡ [] → lines_of opened (record { part = line_over; place = place } ∷ behind) ≡ bare place (ends place) ∷ lines_of [] behind
unfolding lines_of
outer_end opened place behind none = ap (λ o. line_end_onto o place (λ inner. lines_of inner behind)) none

pub end_case : (front : Front) (place : Place) (text : List ℕ) (n : ℕ) → front.opened ≡ [] → 1 ≤ length text → found_at text ≡ line_end n
    → lines_from front place text ≡ record { start = front.start; indent = front.indent; tokens = front.tokens; ending = ends place } ∷ lines_of [] (pieces_behind n place text)
end_case front place [] n none some found = absurd (omega arith)
end_case front place (d ∷ text) n none some found =
    as_found front place d text (line_end n) found ∙ ap (onto front) (outer_end front.opened place (pieces (n - 1) (past place d) text) none)
    ∙ onto_bare front place (ends place) (lines_of [] (pieces (n - 1) (past place d) text))

inner_end : (opened : List Place) (place : Place) (behind : List Piece) → 1 ≤ length opened → lines_of opened (record { part = line_over; place = place } ∷ behind) ≡ gap_onto place (lines_of opened behind)
unfolding lines_of
inner_end [] place behind some = absurd (omega arith)
inner_end (bracket ∷ opened) place behind some = refl

pub inner_case : (front : Front) (place : Place) (text : List ℕ) (n : ℕ) → 1 ≤ length front.opened → 1 ≤ length text → found_at text ≡ line_end n
    → lines_from front place text ≡ onto (with_gap front) (lines_of front.opened (pieces_behind n place text))
inner_case front place [] n within some found = absurd (omega arith)
inner_case front place (d ∷ text) n within some found =
    as_found front place d text (line_end n) found ∙ ap (onto front) (inner_end front.opened place (pieces (n - 1) (past place d) text) within)
    ∙ onto_gap front place (lines_of front.opened (pieces (n - 1) (past place d) text))

pub wrong_case : (front : Front) (place : Place) (text : List ℕ) (kind : FaultKind) (n : ℕ) → 1 ≤ length text → found_at text ≡ wrong kind n
    → lines_from front place text ≡ record { start = front.start; indent = front.indent; tokens = front.tokens; ending = breaks place (at kind (past_all place (take n text))) } ∷ []
unfolding lines_of
wrong_case front place [] kind n some found = absurd (omega arith)
wrong_case front place (d ∷ text) kind n some found =
    as_found front place d text (wrong kind n) found ∙ onto_bare front place (breaks place (at kind (past_all place (take n (d ∷ text))))) []

pub unended_case : (front : Front) (place : Place) (text : List ℕ) → 1 ≤ length text → found_at text ≡ unended
    → lines_from front place text ≡ record { start = front.start; indent = front.indent; tokens = front.tokens; ending = unclosed place } ∷ []
unfolding lines_of
unended_case front place [] some found = absurd (omega arith)
unended_case front place (d ∷ text) some found = as_found front place d text unended found ∙ onto_bare front place (unclosed place) []

pub stop_case : (front : Front) (place : Place) (text : List ℕ) → length text ≡ 0
    → lines_from front place text ≡ record { start = front.start; indent = front.indent; tokens = front.tokens; ending = line_stop front.opened place } ∷ []
unfolding pieces lines_of
stop_case front place [] none = onto_bare front place (line_stop front.opened place) []
stop_case front place (d ∷ text) none = absurd (omega arith)

pub resume : (front new : Front) (behind more : List Piece) → new ≡ front → more ≡ behind → onto front (lines_of front.opened behind) ≡ onto new (lines_of new.opened more)
resume front new behind more same is = ap (λ ps. onto front (lines_of front.opened ps)) (sym is) ∙ ap (λ f. onto f (lines_of f.opened more)) (sym same)

pub none_opened : (opened : List Place) → length opened ≡ 0 → reverse opened ≡ []
none_opened [] none = refl
none_opened (bracket ∷ opened) none = absurd (omega arith)

-- no line follows one that the end of the text ends
last_line : (ending : CodeEnding) (opened : List Place) (place next : Place) (text : List ℕ) → ending_of ending ≡ line_stop opened place → lines_behind ending next text ≡ []
last_line (Ends end) [] place next text is = absurd (cc)
last_line (Ends end) (bracket ∷ opened) place next text is = absurd (cc)
last_line (Stops end) opened place next text is = refl
last_line (Unclosed end) opened place next text is = refl
last_line (Breaks end fault) opened place next text is = refl

last_goes : (ending : CodeEnding) (opened : List Place) (place : Place) (text : List ℕ) → ending_of ending ≡ line_stop opened place → GoesOn ending text text
last_goes (Ends end) [] place text is = absurd (cc)
last_goes (Ends end) (bracket ∷ opened) place text is = absurd (cc)
last_goes (Stops end) opened place text is = tt
last_goes (Unclosed end) opened place text is = tt
last_goes (Breaks end fault) opened place text is = tt

pub stopped : (front : Front) (ending : CodeEnding) (place : Place) (text : List ℕ) → length text ≡ 0 → ending_of ending ≡ line_stop front.opened place → (lines_from front place text ≡ ended front ending ∷ lines_behind ending place text) × GoesOn ending text text
stopped front ending place text none is = (
  stop_case front place text none ∙ ap (λ e. record { start = front.start; indent = front.indent; tokens = front.tokens; ending = e } ∷ []) (sym is)
      ∙ ap (λ ls. ended front ending ∷ ls) (sym (last_line ending front.opened place place text is)),
  last_goes ending front.opened place text is,
)

-- a line of which nothing was read
abbrev pub first_front : Place → Front
first_front place = record { start = place; indent = []; blank = true; tokens = []; opened = [] }

pub first_blank : (place : Place) (c : ℕ) (lines : List Line) → onto (first_front place) (blank_onto place c lines) ≡ blank_onto place c lines
first_blank place c [] = refl
first_blank place c (line ∷ lines) = refl

pub first_gap : (place : Place) (lines : List Line) → onto (first_front place) (gap_onto place lines) ≡ gap_onto place lines
first_gap place [] = refl
first_gap place (line ∷ lines) = refl

pub first_token : (place : Place) (kind : Kind) (lines : List Line) → onto (first_front place) (token_onto (record { kind = kind; place = place }) lines) ≡ token_onto (record { kind = kind; place = place }) lines
first_token place kind [] = refl
first_token place kind (line ∷ lines) = refl

first_found : (place : Place) (c : ℕ) (text : List ℕ) (found : Found) (behind : ℕ → List Piece) → onto (first_front place) (lines_of [] (piece_onto found place c text behind)) ≡ lines_of [] (piece_onto found place c text behind)
unfolding lines_of
first_found place c text space behind = first_blank place c (lines_of [] (behind 0))
first_found place c text (gap n) behind = first_gap place (lines_of [] (behind (n - 1)))
first_found place c text (line_end n) behind = refl
first_found place c text (token kind n) behind = first_token place kind (lines_of (brackets kind place []) (behind (n - 1)))
first_found place c text (wrong kind n) behind = refl
first_found place c text unended behind = refl

pub from_start : (place : Place) (text : List ℕ) → lines_from (first_front place) place text ≡ lines_of [] (pieces 0 place text)
unfolding pieces lines_of
from_start place [] = refl
from_start place (c ∷ text) = first_found place c text (found_at (c ∷ text)) (λ n. pieces n (past place c) text)
