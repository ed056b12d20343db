-- A fault of the first pieces is the fault of the text.
use Rattle.std.proofs.Common.{◌≡◌, refl, sym, ap, ◌∙◌, ℕ, zero, suc, ◌-◌, Bool, true, false, cond, List, [], ◌∷◌, ◌++◌, length, append_assoc, Option, Some, None, Result, Ok, Err, arith}
use Rattle.std.specs.Prelude.{◌==◌}
use Rattle.std.specs.Str.Lossy.{utf8_valid_len}
use Rattle.gd_syntax.specs.declared.fault.Place.{Place}
use Rattle.gd_syntax.specs.declared.fault.LoadFault.{LoadFault}
use Rattle.gd_syntax.specs.declared.fault.FaultKind.{FaultKind}
use Rattle.gd_syntax.specs.declared.fault.FaultKind.TheVariants.{BadBytes, MixedIndent}
use Rattle.gd_syntax.specs.declared.token.Mark.{Mark}
use Rattle.gd_syntax.specs.declared.token.Token.{Token}
use Rattle.gd_syntax.specs.Spellings.{Found, space, gap, line_end, token, wrong, unended, found_at}
use Rattle.gd_syntax.specs.Layout.{Answer, Part, Piece, blank, skipped, line_over, read, fails, endless, over, part_onto, piece_onto, line_end_onto, blank_onto, gap_onto, token_onto, brackets, line_stop, bare, Ending, ends, stops, unclosed, breaks, Line, Layout, Blocks, pieces, lines_of, past, first_layout, front, newline, is_mixed, unit_of, blocks_at, with_blocks, indented, at, bad_byte, depth_kind, ends_in_colon, indent_fault, line_tail, laid_onto, line_onto, first_place, tokens_of, is_unclosed, past_all, text_of, text_start, tokens_in_bytes}
use Rattle.gd_tokens.specs.LineParts.{Front, onto, with_blank, with_gap, with_token}
use Rattle.token_laws.specs.Laws.{answer_on, IsFirstFault}
use Rattle.token_laws.proofs.FaultLines.{AreOrdered, HasFirst, lines_on}
use Rattle.token_laws.proofs.FirstOfFaults.{marked, other_places}
use Rattle.gd_tokens.proofs.Pieces.{onto_gap, onto_token, blanks, onto_bare, first_front, first_blank, first_gap, first_token}

-- a fault other than `Unclosed` of the one is the fault of the other
Keeps : Answer → Answer → Type 0
Keeps short long = (fault : LoadFault) → short ≡ Err fault → is_unclosed fault.kind ≡ false → long ≡ Err fault

front_keeps : (tokens : List Token) (short long : Answer) → Keeps short long → Keeps (front tokens short) (front tokens long)
unfolding Keeps
front_keeps tokens (Ok list) long keeps fault e counts = absurd (cc)
front_keeps tokens (Err first) long keeps fault e counts = let is = keeps fault e counts in rw is refl

tail_keeps : (nothing : Bool) (layout : Layout) (ending : Ending) (short long : Answer) → Keeps short long → Keeps (line_tail nothing layout ending short) (line_tail nothing layout ending long)
unfolding Keeps
tail_keeps nothing layout (ends place) short long keeps fault e counts = front_keeps (newline nothing place) short long keeps fault e counts
tail_keeps nothing layout (stops place) short long keeps fault e counts = e
tail_keeps nothing layout (unclosed place) short long keeps fault e counts = e
tail_keeps nothing layout (breaks place first) short long keeps fault e counts = e

line_keeps : (line : Line) (first : Place) (now : Result (List Mark × Layout) FaultKind) (short long : Layout → Answer) → ((layout : Layout) → Keeps (short layout) (long layout)) → Keeps (line_onto line first now short) (line_onto line first now long)
unfolding Keeps
line_keeps line first (Err kind) short long keeps fault e counts = e
line_keeps line first (Ok now) short long keeps fault e counts =
    front_keeps _ (line_tail false now.1 line.ending (short now.1)) (line_tail false now.1 line.ending (long now.1)) (tail_keeps false now.1 line.ending (short now.1) (long now.1) (keeps now.1)) fault e counts

laid_keeps : (first : Option Place) (layout : Layout) (line : Line) (short long : Layout → Answer) → ((layout : Layout) → Keeps (short layout) (long layout)) → Keeps (laid_onto first layout line short) (laid_onto first layout line long)
laid_keeps None layout line short long keeps = tail_keeps true layout line.ending (short layout) (long layout) (keeps layout)
laid_keeps (Some first) layout line short long keeps = line_keeps line first (indented layout line.indent (ends_in_colon line.tokens)) short long keeps

-- whether a bracket can be open, and whether blanks still count
Begun : List Token → List Place → Bool → Type 0
Begun [] opened b = opened ≡ []
Begun (t ∷ tokens) opened b = b ≡ false

begun_gap : (tokens : List Token) (opened : List Place) (b : Bool) → Begun tokens opened b → Begun tokens opened false
unfolding Begun
begun_gap [] opened b begun = begun
begun_gap (t ∷ tokens) opened b begun = refl

begun_token : (tokens : List Token) (t : Token) (opened : List Place) → Begun (tokens ++ t ∷ []) opened false
unfolding Begun
begun_token [] t opened = refl
begun_token (x ∷ tokens) t opened = refl

-- some line is made
Some_line : List Line → Type 0
Some_line [] = ⊥
Some_line (line ∷ lines) = Unit {0}

blank_some : (place : Place) (c : ℕ) (lines : List Line) → Some_line lines → Some_line (blank_onto place c lines)
unfolding Some_line
blank_some place c [] some = some
blank_some place c (line ∷ lines) some = tt

gap_some : (place : Place) (lines : List Line) → Some_line lines → Some_line (gap_onto place lines)
unfolding Some_line
gap_some place [] some = some
gap_some place (line ∷ lines) some = tt

token_some : (t : Token) (lines : List Line) → Some_line lines → Some_line (token_onto t lines)
unfolding Some_line
token_some t [] some = some
token_some t (line ∷ lines) some = tt

end_some : (opened : List Place) (place : Place) (behind : List Place → List Line) → ((opened : List Place) → Some_line (behind opened)) → Some_line (line_end_onto opened place behind)
unfolding Some_line
end_some [] place behind some = tt
end_some (bracket ∷ opened) place behind some = gap_some place (behind (bracket ∷ opened)) (some (bracket ∷ opened))

part_some : (part : Part) (place : Place) (opened : List Place) (behind : List Place → List Line) → ((opened : List Place) → Some_line (behind opened)) → Some_line (part_onto part place opened behind)
unfolding Some_line
part_some (blank c) place opened behind some = blank_some place c (behind opened) (some opened)
part_some skipped place opened behind some = gap_some place (behind opened) (some opened)
part_some line_over place opened behind some = end_some opened place behind some
part_some (read kind) place opened behind some = token_some (record { kind = kind; place = place }) (behind (brackets kind place opened)) (some (brackets kind place opened))
part_some (fails fault) place opened behind some = tt
part_some endless place opened behind some = tt
part_some over place opened behind some = tt

abbrev end_at : Place → List Piece
end_at place = record { part = over; place = place } ∷ []

lines_some : (more : List Piece) (there : Place) (opened : List Place) → Some_line (lines_of opened (more ++ end_at there))
unfolding lines_of Some_line
lines_some [] there opened = tt
lines_some (piece ∷ more) there opened = part_some piece.part piece.place opened (λ inner. lines_of inner (more ++ end_at there)) (lines_some more there)

-- a refusal of the blanks does not depend on how the line ends
blocks_refused : (unit : Option ℕ) (a b : Bool) (blocks : Option Blocks) (kind : FaultKind) → with_blocks unit a blocks ≡ Err kind → with_blocks unit b blocks ≡ Err kind
blocks_refused unit a b None kind e = e
blocks_refused unit a b (Some blocks) kind e = absurd (cc)

mixed_refused : (mixed : Bool) (unit : Option ℕ) (a b : Bool) (blocks : Option Blocks) (kind : FaultKind) → cond mixed (Err MixedIndent) (with_blocks unit a blocks) ≡ Err kind → cond mixed (Err MixedIndent) (with_blocks unit b blocks) ≡ Err kind
mixed_refused true unit a b blocks kind e = e
mixed_refused false unit a b blocks kind e = blocks_refused unit a b blocks kind e

still_refused : (layout : Layout) (indent : List ℕ) (a b : Bool) (kind : FaultKind) → indented layout indent a ≡ Err kind → indented layout indent b ≡ Err kind
still_refused layout indent a b kind e =
    let unit = unit_of layout.unit indent in
    mixed_refused (is_mixed unit indent) unit a b (blocks_at layout.opens (length indent) layout.depths) kind e

fault_same : (kind : FaultKind) (a b : Line) (first : Place) → a.start ≡ b.start → depth_kind a.tokens a.ending ≡ depth_kind b.tokens b.ending → indent_fault kind a first ≡ indent_fault kind b first
fault_same MixedIndent a b first start depth = ap (λ (p : Place). at MixedIndent (record { line = p.line; column = 1 })) start
fault_same _ a b first start depth = ap (λ k. at k first) depth

-- the last line, where it goes on
stop_good : (nothing : Bool) (layout : Layout) (opened : List Place) (place : Place) (answer : Answer) (tokens : List Token) (fault : LoadFault) → front tokens (line_tail nothing layout (line_stop opened place) answer) ≡ Err fault → is_unclosed fault.kind ≡ false → ⊥
stop_good nothing layout [] place answer tokens fault e counts = absurd (cc)
stop_good nothing layout (bracket ∷ opened) place answer tokens fault e counts = absurd (cc)

last_case : (layout : Layout) (start : Place) (indent : List ℕ) (t : Token) (tokens more : List Token) (opened : List Place) (here : Place) (other : Ending) (rest : List Line)
    (now : Result (List Mark × Layout) FaultKind) → indented layout indent (ends_in_colon (t ∷ tokens)) ≡ now
    → Keeps (line_onto (record { start = start; indent = indent; tokens = t ∷ tokens; ending = line_stop opened here }) t.place now (λ after. tokens_of after []))
    (line_onto (record { start = start; indent = indent; tokens = t ∷ tokens ++ more; ending = other }) t.place (indented layout indent (ends_in_colon (t ∷ tokens ++ more))) (λ after. tokens_of after rest))
unfolding Keeps
last_case layout start indent t tokens more opened here other rest (Err kind) is fault e counts =
    let still = still_refused layout indent (ends_in_colon (t ∷ tokens)) (ends_in_colon (t ∷ tokens ++ more)) kind is in
    rw still (ap (λ f. Err f) (sym (fault_same kind _ _ t.place refl refl)) ∙ e)
last_case layout start indent t tokens more opened here other rest (Ok now) is fault e counts = absurd (stop_good false now.1 opened here _ _ fault e counts)

last_line : (layout : Layout) (start : Place) (indent : List ℕ) (b : Bool) (t : Token) (tokens : List Token) (opened : List Place) (here : Place) (lines : List Line) → b ≡ false → Some_line lines
    → Keeps (tokens_of layout (record { start = start; indent = indent; tokens = t ∷ tokens; ending = line_stop opened here } ∷ []))
    (tokens_of layout (onto (record { start = start; indent = indent; blank = b; tokens = t ∷ tokens; opened = opened }) lines))
unfolding tokens_of Some_line
last_line layout start indent b t tokens opened here [] begun some = absurd some
last_line layout start indent true t tokens opened here (line ∷ lines) begun some = absurd (cc)
last_line layout start indent false t tokens opened here (line ∷ lines) begun some =
    last_case layout start indent t tokens line.tokens opened here line.ending lines (indented layout indent (ends_in_colon (t ∷ tokens))) refl

no_fault : (layout : Layout) (start : Place) (indent : List ℕ) (opened : List Place) (here : Place) (long : Answer) → opened ≡ []
    → Keeps (tokens_of layout (record { start = start; indent = indent; tokens = []; ending = line_stop opened here } ∷ [])) long
unfolding tokens_of Keeps
no_fault layout start indent [] here long none fault e counts = absurd (cc)
no_fault layout start indent (bracket ∷ opened) here long none fault e counts = absurd (cc)

last_keeps : (layout : Layout) (start : Place) (indent : List ℕ) (b : Bool) (tokens : List Token) (opened : List Place) (here : Place) (lines : List Line) → Begun tokens opened b → Some_line lines
    → Keeps (tokens_of layout (record { start = start; indent = indent; tokens = tokens; ending = line_stop opened here } ∷ []))
    (tokens_of layout (onto (record { start = start; indent = indent; blank = b; tokens = tokens; opened = opened }) lines))
unfolding Begun
last_keeps layout start indent b [] opened here lines begun some = no_fault layout start indent opened here (tokens_of layout (onto (record { start = start; indent = indent; blank = b; tokens = []; opened = opened }) lines)) begun
last_keeps layout start indent b (t ∷ tokens) opened here lines begun some = last_line layout start indent b t tokens opened here lines begun some

-- keeping along equations
along : (short shorter long longer : Answer) → shorter ≡ short → longer ≡ long → Keeps short long → Keeps shorter longer
along short shorter long longer is are keeps = rw (is, are) keeps

-- the lines of these pieces behind what was read of one
abbrev KeepsAll : List Piece → List Piece → Type 0
KeepsAll short long =
    (layout : Layout) (line : Front) → Begun line.tokens line.opened line.blank
    → Keeps (tokens_of layout (onto line (lines_of line.opened short))) (tokens_of layout (onto line (lines_of line.opened long)))

first_part : (part : Part) (place : Place) (behind : List Place → List Line) → onto (first_front place) (part_onto part place [] behind) ≡ part_onto part place [] behind
first_part (blank c) place behind = first_blank place c (behind [])
first_part skipped place behind = first_gap place (behind [])
first_part line_over place behind = refl
first_part (read kind) place behind = first_token place kind (behind (brackets kind place []))
first_part (fails fault) place behind = refl
first_part endless place behind = refl
first_part over place behind = refl

whole_keeps : (ps behind : List Piece) (here there : Place) → KeepsAll (ps ++ end_at here) (ps ++ (behind ++ end_at there)) → (layout : Layout)
    → Keeps (tokens_of layout (lines_of [] (ps ++ end_at here))) (tokens_of layout (lines_of [] (ps ++ (behind ++ end_at there))))
unfolding lines_of tokens_of Keeps Begun
whole_keeps [] behind here there keeps layout fault e counts = absurd (cc)
whole_keeps (piece ∷ ps) behind here there keeps layout fault e counts =
    let short = first_part piece.part piece.place (λ inner. lines_of inner (ps ++ end_at here)) in
    let long = first_part piece.part piece.place (λ inner. lines_of inner (ps ++ (behind ++ end_at there))) in
    along _ _ _ _ (ap (tokens_of layout) (sym short)) (ap (tokens_of layout) (sym long)) (keeps layout (first_front piece.place) refl) fault e counts

end_keeps : (layout : Layout) (start : Place) (indent : List ℕ) (b : Bool) (tokens : List Token) (opened : List Place) (place : Place) (short long : List Piece)
    → Begun tokens opened b → KeepsAll short long → ((layout : Layout) → Keeps (tokens_of layout (lines_of [] short)) (tokens_of layout (lines_of [] long)))
    → Keeps (tokens_of layout (onto (record { start = start; indent = indent; blank = b; tokens = tokens; opened = opened }) (line_end_onto opened place (λ inner. lines_of inner short))))
    (tokens_of layout (onto (record { start = start; indent = indent; blank = b; tokens = tokens; opened = opened }) (line_end_onto opened place (λ inner. lines_of inner long))))
unfolding tokens_of
end_keeps layout start indent b tokens [] place short long begun keeps whole =
    let line : Front = record { start = start; indent = indent; blank = b; tokens = tokens; opened = [] } in
    along _ _ _ _ (ap (tokens_of layout) (onto_bare line place (ends place) (lines_of [] short))) (ap (tokens_of layout) (onto_bare line place (ends place) (lines_of [] long)))
    (laid_keeps (first_place tokens (ends place)) layout (record { start = start; indent = indent; tokens = tokens; ending = ends place }) (λ after. tokens_of after (lines_of [] short)) (λ after. tokens_of after (lines_of [] long)) whole)
end_keeps layout start indent b tokens (bracket ∷ opened) place short long begun keeps whole =
    let line : Front = record { start = start; indent = indent; blank = b; tokens = tokens; opened = bracket ∷ opened } in
    along _ _ _ _ (ap (tokens_of layout) (onto_gap line place (lines_of (bracket ∷ opened) short))) (ap (tokens_of layout) (onto_gap line place (lines_of (bracket ∷ opened) long)))
    (keeps layout (with_gap line) (begun_gap tokens (bracket ∷ opened) b begun))

same_keeps : (answer : Answer) → Keeps answer answer
unfolding Keeps
same_keeps answer fault e counts = e

part_keeps : (part : Part) (layout : Layout) (start : Place) (indent : List ℕ) (b : Bool) (tokens : List Token) (opened : List Place) (place : Place) (short long : List Piece)
    → Begun tokens opened b → KeepsAll short long → ((layout : Layout) → Keeps (tokens_of layout (lines_of [] short)) (tokens_of layout (lines_of [] long)))
    → Keeps (tokens_of layout (onto (record { start = start; indent = indent; blank = b; tokens = tokens; opened = opened }) (part_onto part place opened (λ inner. lines_of inner short))))
    (tokens_of layout (onto (record { start = start; indent = indent; blank = b; tokens = tokens; opened = opened }) (part_onto part place opened (λ inner. lines_of inner long))))
part_keeps (blank c) layout start indent b tokens opened place short long begun keeps whole =
    along _ _ _ _ (ap (tokens_of layout) (blanks b start indent tokens opened c place (lines_of opened short))) (ap (tokens_of layout) (blanks b start indent tokens opened c place (lines_of opened long)))
    (keeps layout (with_blank (record { start = start; indent = indent; blank = b; tokens = tokens; opened = opened }) c) begun)
part_keeps skipped layout start indent b tokens opened place short long begun keeps whole =
    let line : Front = record { start = start; indent = indent; blank = b; tokens = tokens; opened = opened } in
    along _ _ _ _ (ap (tokens_of layout) (onto_gap line place (lines_of opened short))) (ap (tokens_of layout) (onto_gap line place (lines_of opened long)))
    (keeps layout (with_gap line) (begun_gap tokens opened b begun))
part_keeps line_over layout start indent b tokens opened place short long begun keeps whole = end_keeps layout start indent b tokens opened place short long begun keeps whole
part_keeps (read kind) layout start indent b tokens opened place short long begun keeps whole =
    let line : Front = record { start = start; indent = indent; blank = b; tokens = tokens; opened = opened } in
    let t : Token = record { kind = kind; place = place } in
    let inner = brackets kind place opened in
    along _ _ _ _ (ap (tokens_of layout) (onto_token line t inner (lines_of inner short))) (ap (tokens_of layout) (onto_token line t inner (lines_of inner long)))
    (keeps layout (with_token line kind place) (begun_token tokens t inner))
part_keeps (fails first) layout start indent b tokens opened place short long begun keeps whole = same_keeps _
part_keeps endless layout start indent b tokens opened place short long begun keeps whole = same_keeps _
part_keeps over layout start indent b tokens opened place short long begun keeps whole = same_keeps _

pieces_keep : (ps behind : List Piece) (here there : Place) → KeepsAll (ps ++ end_at here) (ps ++ (behind ++ end_at there))
unfolding lines_of
pieces_keep [] behind here there layout line begun =
    along _ _ _ _ (ap (tokens_of layout) (onto_bare line here (line_stop line.opened here) [])) refl
    (last_keeps layout line.start line.indent line.blank line.tokens line.opened here (lines_of line.opened (behind ++ end_at there)) begun (lines_some behind there line.opened))
pieces_keep (piece ∷ ps) behind here there layout line begun =
    let rest = pieces_keep ps behind here there in
    part_keeps piece.part layout line.start line.indent line.blank line.tokens line.opened piece.place (ps ++ end_at here) (ps ++ (behind ++ end_at there)) begun rest (whole_keeps ps behind here there rest)

-- A text's pieces end in its end or in a fault: nothing behind them counts.
end_same : (opened : List Place) (place : Place) (short long : List Place → List Line) → ((opened : List Place) → long opened ≡ short opened) → line_end_onto opened place long ≡ line_end_onto opened place short
end_same [] place short long same = ap (λ lines. bare place (ends place) ∷ lines) (same [])
end_same (bracket ∷ opened) place short long same = ap (gap_onto place) (same (bracket ∷ opened))

found_ends : (found : Found) (place : Place) (c : ℕ) (text : List ℕ) (behind : ℕ → List Piece) (more : List Piece) (opened : List Place)
    → ((n : ℕ) (opened : List Place) → lines_of opened (behind n ++ more) ≡ lines_of opened (behind n))
    → lines_of opened (piece_onto found place c text behind ++ more) ≡ lines_of opened (piece_onto found place c text behind)
unfolding lines_of
found_ends space place c text behind more opened same = ap (blank_onto place c) (same 0 opened)
found_ends (gap n) place c text behind more opened same = ap (gap_onto place) (same (n - 1) opened)
found_ends (line_end n) place c text behind more opened same =
    end_same opened place (λ inner. lines_of inner (behind (n - 1))) (λ inner. lines_of inner (behind (n - 1) ++ more)) (same (n - 1))
found_ends (token kind n) place c text behind more opened same = ap (token_onto (record { kind = kind; place = place })) (same (n - 1) (brackets kind place opened))
found_ends (wrong kind n) place c text behind more opened same = refl
found_ends unended place c text behind more opened same = refl

pieces_end : (text : List ℕ) (n : ℕ) (place : Place) (more : List Piece) (opened : List Place) → lines_of opened (pieces n place text ++ more) ≡ lines_of opened (pieces n place text)
unfolding pieces lines_of
pieces_end [] n place more opened = refl
pieces_end (c ∷ text) (suc n) place more opened = pieces_end text n (past place c) more opened
pieces_end (c ∷ text) zero place more opened =
    found_ends (found_at (c ∷ text)) place c text (λ n. pieces n (past place c) text) more opened (λ n inner. pieces_end text n (past place c) more inner)

text_fault : (text : List ℕ) (front behind : List Piece) (here : Place) (fault : LoadFault)
    → pieces 0 text_start text ≡ front ++ behind → answer_on front here ≡ Err fault → is_unclosed fault.kind ≡ false → tokens_of first_layout (lines_of [] (pieces 0 text_start text)) ≡ Err fault
unfolding Keeps
text_fault text front behind here fault is e counts =
    let whole = whole_keeps front behind here here (pieces_keep front behind here here) first_layout fault e counts in
    let same : lines_of [] (front ++ (behind ++ end_at here)) ≡ lines_of [] (pieces 0 text_start text) =
    ap (lines_of []) (sym (append_assoc front behind (end_at here))) ∙ ap (λ ps. lines_of [] (ps ++ end_at here)) (sym is) ∙ pieces_end text 0 text_start (end_at here) []
    in
    ap (tokens_of first_layout) (sym same) ∙ whole

-- A bad byte behind the text does not change its fault.

-- the line that the byte stands on
broken_keeps : (start : Place) (indent : List ℕ) (tokens : List Token) (opened : List Place) (here : Place) (other : Ending) (first : Place) (now : Result (List Mark × Layout) FaultKind) (short long : Layout → Answer)
    → depth_kind tokens (line_stop opened here) ≡ depth_kind tokens other
    → Keeps (line_onto (record { start = start; indent = indent; tokens = tokens; ending = line_stop opened here }) first now short)
    (line_onto (record { start = start; indent = indent; tokens = tokens; ending = other }) first now long)
unfolding Keeps
broken_keeps start indent tokens opened here other first (Err kind) short long depth fault e counts = ap (λ f. Err f) (sym (fault_same kind _ _ first refl depth)) ∙ e
broken_keeps start indent tokens opened here other first (Ok now) short long depth fault e counts = absurd (stop_good false now.1 opened here _ _ fault e counts)

ok_keeps : (tokens : List Token) (long : Answer) → Keeps (Ok tokens) long
unfolding Keeps
ok_keeps tokens long fault e counts = absurd (cc)

same_line : (layout : Layout) (line : Line) (lines more : List Line) → ((layout : Layout) → Keeps (tokens_of layout lines) (tokens_of layout more)) → Keeps (tokens_of layout (line ∷ lines)) (tokens_of layout (line ∷ more))
unfolding tokens_of
same_line layout line lines more keeps = laid_keeps (first_place line.tokens line.ending) layout line (λ after. tokens_of after lines) (λ after. tokens_of after more) keeps

byte_keeps : (whole : Bool) (end start : Place) (indent : List ℕ) (tokens : List Token) (ending : Ending) (lines : List Line) (layout : Layout)
    → AreOrdered end (record { start = start; indent = indent; tokens = tokens; ending = ending } ∷ lines) → ((layout : Layout) → Keeps (tokens_of layout lines) (tokens_of layout (marked whole end lines)))
    → Keeps (tokens_of layout (record { start = start; indent = indent; tokens = tokens; ending = ending } ∷ lines))
    (tokens_of layout (marked whole end (record { start = start; indent = indent; tokens = tokens; ending = ending } ∷ lines)))
unfolding tokens_of Keeps AreOrdered HasFirst
byte_keeps true end start indent tokens ending lines layout on keeps = same_line layout (record { start = start; indent = indent; tokens = tokens; ending = ending }) lines (marked true end lines) keeps
byte_keeps false end start indent tokens (ends place) lines layout on keeps = same_line layout (record { start = start; indent = indent; tokens = tokens; ending = ends place }) lines (marked false end lines) keeps
byte_keeps false end start indent tokens (breaks place fault) lines layout on keeps = same_line layout (record { start = start; indent = indent; tokens = tokens; ending = breaks place fault }) lines (marked false end lines) keeps
byte_keeps false end start indent [] (stops place) lines layout on keeps = ok_keeps _ _
byte_keeps false end start indent (t ∷ tokens) (stops place) lines layout on keeps =
    broken_keeps start indent (t ∷ tokens) [] place (breaks place (at BadBytes end)) t.place (indented layout indent (ends_in_colon (t ∷ tokens))) (λ after. tokens_of after lines) (λ after. tokens_of after (marked false end lines)) refl
byte_keeps false end start indent [] (unclosed place) lines layout on keeps =
    let other = other_places end place on.0.first in
    broken_keeps start indent [] (place ∷ []) place (breaks place (at BadBytes end)) place (indented layout indent false) (λ after. tokens_of after lines) (λ after. tokens_of after (marked false end lines)) (rw other refl)
byte_keeps false end start indent (t ∷ tokens) (unclosed place) lines layout on keeps =
    broken_keeps start indent (t ∷ tokens) (place ∷ []) place (breaks place (at BadBytes end)) t.place (indented layout indent (ends_in_colon (t ∷ tokens))) (λ after. tokens_of after lines) (λ after. tokens_of after (marked false end lines)) refl

bytes_keep : (whole : Bool) (end : Place) (lines : List Line) → AreOrdered end lines → (layout : Layout) → Keeps (tokens_of layout lines) (tokens_of layout (marked whole end lines))
unfolding tokens_of AreOrdered
bytes_keep whole end [] on layout = same_keeps (Ok [])
bytes_keep whole end (line ∷ lines) on layout = byte_keeps whole end line.start line.indent line.tokens line.ending lines layout on (bytes_keep whole end lines on.1)

pub first_fault : (bytes : List ℕ) → IsFirstFault bytes
unfolding tokens_in_bytes bad_byte Keeps
first_fault bytes front behind here fault is e counts =
    let text = text_of bytes in
    let end = past_all text_start text in
    bytes_keep (utf8_valid_len bytes == length bytes) end (lines_of [] (pieces 0 text_start text)) (lines_on text text_start (omega arith)).ordered first_layout fault (text_fault text front behind here fault is e counts) counts
