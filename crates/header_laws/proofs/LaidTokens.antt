-- The tokens of a file are those that its pieces read, in order, with tokens of the layout between them.
use Rattle.std.proofs.Common.{◌≡◌, refl, sym, ap, ◌∙◌, subst, ℕ, zero, suc, ◌-◌, Bool, true, false, cond, List, [], ◌∷◌, ◌++◌, length, map, replicate, take, append_assoc, Option, Some, None, Result, Ok, Err}
use Rattle.gd_syntax.specs.declared.fault.Place.{Place}
use Rattle.gd_syntax.specs.declared.fault.LoadFault.{LoadFault}
use Rattle.gd_syntax.specs.declared.fault.FaultKind.{FaultKind}
use Rattle.gd_syntax.specs.declared.token.Token.{Token}
use Rattle.gd_syntax.specs.declared.token.Kind.{Kind}
use Rattle.gd_syntax.specs.declared.token.Kind.TheVariants.{Mark as Marked}
use Rattle.gd_syntax.specs.declared.token.Mark.{Mark}
use Rattle.gd_syntax.specs.declared.token.Mark.TheVariants.{Newline, Indent, Dedent, End}
use Rattle.gd_syntax.specs.Spellings.{Found, space, gap, line_end, token, wrong, unended, found_at}
use Rattle.gd_syntax.specs.Layout.{Part, blank, skipped, line_over, read, over, Piece, at, past, past_all, piece_onto, pieces, Ending, ends, stops, unclosed, breaks, Line, bare, blank_onto, gap_onto, token_onto, brackets, line_stop, line_end_onto, lines_of, Layout, Blocks, first_layout, blocks_at, with_blocks, indented, ends_in_colon, Answer, front, mark_at, first_place, closing, newline, line_tail, marks_at, line_onto, laid_onto, tokens_of, text_of, text_start, bad_byte, broken, before_byte, tokens_before, tokens_in_bytes}

-- ---- what is read

abbrev pub read_onto : Part → Place → List Token → List Token
read_onto (read kind) place tokens = record { kind = kind; place = place } ∷ tokens
read_onto _ place tokens = tokens

-- the tokens that pieces read
unfoldable pub reads : List Piece → List Token
reads [] = []
reads (p ∷ more) = read_onto p.part p.place (reads more)

abbrev pub goes_on : Part → Bool
goes_on (blank c) = true
goes_on skipped = true
goes_on line_over = true
goes_on (read kind) = true
goes_on _ = false

-- pieces up to the end of a text that has no fault
pub data Whole : List Piece → Type 0 where
  ended : (place : Place) → Whole (record { part = over; place = place } ∷ [])
  further : {more : List Piece} (p : Piece) → goes_on p.part ≡ true → Whole more → Whole (p ∷ more)

-- the tokens of lines
pub flat : List Line → List Token
flat [] = []
flat (line ∷ lines) = line.tokens ++ flat lines

abbrev is_good : Ending → Bool
is_good (ends place) = true
is_good (stops place) = true
is_good _ = false

AllGood : List Line → Type 0
AllGood [] = Unit {0}
AllGood (line ∷ lines) = (is_good line.ending ≡ true) × AllGood lines

-- some line is made
abbrev HasLine : List Line → Type 0
HasLine [] = ⊥
HasLine (line ∷ lines) = Unit {0}

-- a line follows one that is ended, and none follows the last
abbrev Next : Ending → List Line → Type 0
Next (ends place) lines = HasLine lines
Next (stops place) lines = lines ≡ []
Next _ lines = Unit {0}

Shaped : List Line → Type 0
Shaped [] = Unit {0}
Shaped (line ∷ lines) = Next line.ending lines × Shaped lines

-- lines that are made of pieces
record Made (pieces : List Piece) (lines : List Line) : Type 0 where
  some : HasLine lines
  shaped : Shaped lines
  same : AllGood lines → reads pieces ≡ flat lines
  whole : AllGood lines → Whole pieces

blank_made : (place : Place) (c : ℕ) (ps : List Piece) (lines : List Line) → Made ps lines → Made (record { part = blank c; place = place } ∷ ps) (blank_onto place c lines)
unfolding reads flat AllGood Shaped
blank_made place c ps [] h = absurd h.some
blank_made place c ps (line ∷ lines) h = record { some = tt; shaped = h.shaped; same = λ good. h.same good; whole = λ good. Whole.further _ refl (h.whole good) }

gap_made : (place : Place) (part : Part) (ps : List Piece) (lines : List Line) → ((tokens : List Token) → read_onto part place tokens ≡ tokens) → goes_on part ≡ true → Made ps lines → Made (record { part = part; place = place } ∷ ps) (gap_onto place lines)
unfolding reads flat AllGood Shaped
gap_made place part ps [] none on h = absurd h.some
gap_made place part ps (line ∷ lines) none on h = record { some = tt; shaped = h.shaped; same = λ good. none (reads ps) ∙ h.same good; whole = λ good. Whole.further _ on (h.whole good) }

token_made : (place : Place) (kind : Kind) (ps : List Piece) (lines : List Line) → Made ps lines → Made (record { part = read kind; place = place } ∷ ps) (token_onto (record { kind = kind; place = place }) lines)
unfolding reads flat AllGood Shaped
token_made place kind ps [] h = absurd h.some
token_made place kind ps (line ∷ lines) h = record {
  some = tt;
  shaped = h.shaped;
  same = λ good. ap (λ (ts : List Token). record { kind = kind; place = place } ∷ ts) (h.same good);
  whole = λ good. Whole.further _ refl (h.whole good);
}

end_made : (place : Place) (opened : List Place) (ps : List Piece) (behind : List Place → List Line) → ((inner : List Place) → Made ps (behind inner)) → Made (record { part = line_over; place = place } ∷ ps) (line_end_onto opened place behind)
unfolding reads flat AllGood Shaped
end_made place [] ps behind h = record {
  some = tt;
  shaped = ((h []).some, (h []).shaped);
  same = λ good. (h []).same good.1;
  whole = λ good. Whole.further _ refl ((h []).whole good.1);
}
end_made place (b ∷ opened) ps behind h = gap_made place line_over ps (behind (b ∷ opened)) (λ tokens. refl) refl (h (b ∷ opened))

stop_made : (place : Place) (opened : List Place) → Made (record { part = over; place = place } ∷ []) (bare place (line_stop opened place) ∷ [])
unfolding reads flat AllGood Shaped
stop_made place [] = record { some = tt; shaped = (refl, tt); same = λ good. refl; whole = λ good. Whole.ended place }
stop_made place (b ∷ opened) = record { some = tt; shaped = (tt, tt); same = λ good. refl; whole = λ good. Whole.ended place }

fail_made : (ps : List Piece) (place : Place) (fault : LoadFault) → Made ps (bare place (breaks place fault) ∷ [])
unfolding AllGood Shaped
fail_made ps place fault = record { some = tt; shaped = (tt, tt); same = λ good. absurd (let h = good.0 in cc h); whole = λ good. absurd (let h = good.0 in cc h) }

open_made : (ps : List Piece) (place : Place) → Made ps (bare place (unclosed place) ∷ [])
unfolding AllGood Shaped
open_made ps place = record { some = tt; shaped = (tt, tt); same = λ good. absurd (let h = good.0 in cc h); whole = λ good. absurd (let h = good.0 in cc h) }

found_made : (here : Place) (c : ℕ) (text : List ℕ) (found : Found) (opened : List Place) → ((n : ℕ) (inner : List Place) → Made (pieces n (past here c) text) (lines_of inner (pieces n (past here c) text)))
    → Made (piece_onto found here c text (λ n. pieces n (past here c) text)) (lines_of opened (piece_onto found here c text (λ n. pieces n (past here c) text)))
unfolding lines_of
found_made here c text space opened more = blank_made here c _ _ (more 0 opened)
found_made here c text (gap n) opened more = gap_made here skipped _ _ (λ tokens. refl) refl (more (n - 1) opened)
found_made here c text (line_end n) opened more = end_made here opened _ (λ inner. lines_of inner (pieces (n - 1) (past here c) text)) (more (n - 1))
found_made here c text (token kind n) opened more = token_made here kind _ _ (more (n - 1) (brackets kind here opened))
found_made here c text (wrong kind n) opened more = fail_made _ here (at kind (past_all here (take n (c ∷ text))))
found_made here c text unended opened more = open_made _ here

lines_made : (n : ℕ) (here : Place) (text : List ℕ) (opened : List Place) → Made (pieces n here text) (lines_of opened (pieces n here text))
unfolding pieces lines_of
lines_made n here [] opened = stop_made here opened
lines_made (suc n) here (c ∷ text) opened = lines_made n (past here c) text opened
lines_made zero here (c ∷ text) opened = found_made here c text (found_at (c ∷ text)) opened (λ n inner. lines_made n (past here c) text inner)

-- ---- tokens of the layout

abbrev pub is_block : Kind → Bool
is_block (Marked Newline) = true
is_block (Marked Indent) = true
is_block (Marked Dedent) = true
is_block _ = false

-- the tokens of a file, among those that are read
pub data Spread : List Token → List Token → Type 0 where
  done : (place : Place) → Spread [] (mark_at place End ∷ [])
  laid : {xs ts : List Token} (t : Token) → is_block t.kind ≡ true → Spread xs ts → Spread xs (t ∷ ts)
  kept : {xs ts : List Token} (t : Token) → Spread xs ts → Spread (t ∷ xs) (t ∷ ts)

AreBlocks : List Mark → Type 0
AreBlocks [] = Unit {0}
AreBlocks (w ∷ marks) = (is_block (Marked w) ≡ true) × AreBlocks marks

spread_marks : (place : Place) (marks : List Mark) (xs ts : List Token) → AreBlocks marks → Spread xs ts → Spread xs (marks_at place marks ++ ts)
unfolding AreBlocks
spread_marks place [] xs ts all s = s
spread_marks place (w ∷ marks) xs ts all s = Spread.laid (mark_at place w) all.0 (spread_marks place marks xs ts all.1 s)

spread_kept : (front xs ts : List Token) → Spread xs ts → Spread (front ++ xs) (front ++ ts)
spread_kept [] xs ts s = s
spread_kept (t ∷ front) xs ts s = Spread.kept t (spread_kept front xs ts s)

spread_closing : (place : Place) (n : ℕ) → Spread [] (closing place n)
spread_closing place zero = Spread.done place
spread_closing place (suc n) = Spread.laid (mark_at place Dedent) refl (spread_closing place n)

dedents : (n : ℕ) → AreBlocks (replicate n Dedent)
unfolding AreBlocks
dedents zero = tt
dedents (suc n) = (refl, dedents n)

abbrev BlocksOf : Option Blocks → Type 0
BlocksOf None = Unit {0}
BlocksOf (Some blocks) = AreBlocks blocks.marks

blocks_case : (a opens b : Bool) (depth n : ℕ) (depths left : List ℕ)
    → BlocksOf (cond a (cond opens (Some (record { marks = Indent ∷ []; depths = depth ∷ depths })) None) (cond b (Some (record { marks = replicate n Dedent; depths = left })) None))
unfolding AreBlocks
blocks_case true true b depth n depths left = (refl, tt)
blocks_case true false b depth n depths left = tt
blocks_case false opens true depth n depths left = dedents n
blocks_case false opens false depth n depths left = tt

blocks_are : (opens : Bool) (depth : ℕ) (depths : List ℕ) → BlocksOf (blocks_at opens depth depths)
blocks_are opens depth depths = blocks_case _ opens _ depth _ depths _

abbrev MarksOf : Result (List Mark × Layout) FaultKind → Type 0
MarksOf (Err kind) = Unit {0}
MarksOf (Ok now) = AreBlocks now.0

with_are : (unit : Option ℕ) (opens : Bool) (o : Option Blocks) → BlocksOf o → MarksOf (with_blocks unit opens o)
with_are unit opens None h = tt
with_are unit opens (Some blocks) h = h

mixed_are : (b : Bool) (kind : FaultKind) (r : Result (List Mark × Layout) FaultKind) → MarksOf r → MarksOf (cond b (Err kind) r)
mixed_are true kind r h = tt
mixed_are false kind r h = h

marks_are : (layout : Layout) (indent : List ℕ) (opens : Bool) → MarksOf (indented layout indent opens)
marks_are layout indent opens = mixed_are _ _ _ (with_are _ opens _ (blocks_are layout.opens (length indent) layout.depths))

-- what the lines behind a line give
abbrev Tells : List Line → Answer → Type 0
Tells lines answer = (ts : List Token) → answer ≡ Ok ts → Spread (flat lines) ts × AllGood lines

spread_newline : (nothing : Bool) (place : Place) (xs ts : List Token) → Spread xs ts → Spread xs (newline nothing place ++ ts)
spread_newline true place xs ts s = s
spread_newline false place xs ts s = Spread.laid (mark_at place Newline) refl s

front_ok : (tokens : List Token) (answer : Answer) (ts : List Token) → front tokens answer ≡ Ok ts → (more : List Token) × (answer ≡ Ok more) × (tokens ++ more ≡ ts)
front_ok tokens (Ok more) ts e = (more, refl, cc e)
front_ok tokens (Err fault) ts e = absurd (cc e)

tail_tells : (nothing : Bool) (layout : Layout) (ending : Ending) (lines : List Line) (more : Answer) → Next ending lines → (HasLine lines → Tells lines more)
    → (ts : List Token) → line_tail nothing layout ending more ≡ Ok ts → (Spread (flat lines) ts) × (is_good ending ≡ true) × AllGood lines
unfolding flat AllGood
tail_tells nothing layout (ends place) lines more next h ts e =
    let parts = front_ok (newline nothing place) more ts e in
    let told = h next parts.0 parts.1 in
    (subst (Spread (flat lines)) parts.2 (spread_newline nothing place (flat lines) parts.0 told.0), refl, told.1)
tail_tells nothing layout (stops place) lines more next h ts e =
    let s = spread_newline nothing place [] (closing place (length layout.depths)) (spread_closing place (length layout.depths)) in
    let same : newline nothing place ++ closing place (length layout.depths) ≡ ts = cc e in
    subst (λ ls. Spread (flat ls) ts × (is_good (stops place) ≡ true) × AllGood ls) (sym next) (subst (Spread []) same s, refl, tt)
tail_tells nothing layout (unclosed place) lines more next h ts e = absurd (cc e)
tail_tells nothing layout (breaks place fault) lines more next h ts e = absurd (cc e)

onto_tells : (line : Line) (first : Place) (lines : List Line) (r : Result (List Mark × Layout) FaultKind) (behind : Layout → Answer) → MarksOf r → Next line.ending lines → ((layout : Layout) → HasLine lines → Tells lines (behind layout))
    → (ts : List Token) → line_onto line first r behind ≡ Ok ts → Spread (line.tokens ++ flat lines) ts × ((is_good line.ending ≡ true) × AllGood lines)
onto_tells line first lines (Err kind) behind marks next h ts e = absurd (cc e)
onto_tells line first lines (Ok now) behind marks next h ts e =
    let parts = front_ok (marks_at first now.0 ++ line.tokens) (line_tail false now.1 line.ending (behind now.1)) ts e in
    let told = tail_tells false now.1 line.ending lines (behind now.1) next (h now.1) parts.0 parts.1 in
    let s = spread_marks first now.0 (line.tokens ++ flat lines) (line.tokens ++ parts.0) marks (spread_kept line.tokens (flat lines) parts.0 told.0) in
    (subst (Spread (line.tokens ++ flat lines)) (sym (append_assoc (marks_at first now.0) line.tokens parts.0) ∙ parts.2) s, (told.1, told.2))

line_tells : (start : Place) (indent : List ℕ) (tokens : List Token) (ending : Ending) (layout : Layout) (lines : List Line) (behind : Layout → Answer) → Next ending lines → ((layout : Layout) → HasLine lines → Tells lines (behind layout))
    → (ts : List Token) → laid_onto (first_place tokens ending) layout (record { start = start; indent = indent; tokens = tokens; ending = ending }) behind ≡ Ok ts → Spread (tokens ++ flat lines) ts × ((is_good ending ≡ true) × AllGood lines)
line_tells start indent (t ∷ tokens) ending layout lines behind next h ts e =
    onto_tells (record { start = start; indent = indent; tokens = t ∷ tokens; ending = ending }) t.place lines _ behind (marks_are layout indent (ends_in_colon (t ∷ tokens))) next h ts e
line_tells start indent [] (ends place) layout lines behind next h ts e =
    let told = tail_tells true layout (ends place) lines (behind layout) next (h layout) ts e in (told.0, (told.1, told.2))
line_tells start indent [] (stops place) layout lines behind next h ts e =
    let told = tail_tells true layout (stops place) lines (behind layout) next (h layout) ts e in (told.0, (told.1, told.2))
line_tells start indent [] (unclosed place) layout lines behind next h ts e =
    onto_tells (record { start = start; indent = indent; tokens = []; ending = unclosed place }) place lines _ behind (marks_are layout indent (ends_in_colon [])) next h ts e
line_tells start indent [] (breaks place fault) layout lines behind next h ts e =
    onto_tells (record { start = start; indent = indent; tokens = []; ending = breaks place fault }) place lines _ behind (marks_are layout indent (ends_in_colon [])) next h ts e

lines_tell : (lines : List Line) (layout : Layout) → HasLine lines → Shaped lines → Tells lines (tokens_of layout lines)
unfolding tokens_of flat AllGood Shaped
lines_tell [] layout some shaped ts e = absurd some
lines_tell (line ∷ lines) layout some shaped ts e =
    line_tells line.start line.indent line.tokens line.ending layout lines (λ after. tokens_of after lines) shaped.0 (λ after has. lines_tell lines after has shaped.1) ts e

-- ---- the bad byte

abbrev before : Option LoadFault → List Line → List Line
before bad lines = map (before_byte bad) lines

broken_next : (fault : LoadFault) (line : Line) (ending : Ending) (lines more : List Line) → line.ending ≡ ending → (HasLine lines → HasLine more) → (lines ≡ [] → more ≡ []) → Next ending lines → Next (broken fault line ending).ending more
broken_next fault line (ends place) lines more is some none next = subst (λ x. Next x more) (sym is) (some next)
broken_next fault line (stops place) lines more is some none next = tt
broken_next fault line (unclosed place) lines more is some none next = tt
broken_next fault line (breaks place other) lines more is some none next = subst (λ x. Next x more) (sym is) tt

byte_next : (bad : Option LoadFault) (line : Line) (lines more : List Line) → (HasLine lines → HasLine more) → (lines ≡ [] → more ≡ []) → Next line.ending lines → Next (before_byte bad line).ending more
byte_next (Some fault) line lines more some none next = broken_next fault line line.ending lines more refl some none next
byte_next None line lines more some none next = kept_next line.ending lines more some none next
  where
    kept_next : (ending : Ending) (lines more : List Line) → (HasLine lines → HasLine more) → (lines ≡ [] → more ≡ []) → Next ending lines → Next ending more
    kept_next (ends place) lines more some none next = some next
    kept_next (stops place) lines more some none next = none next
    kept_next (unclosed place) lines more some none next = tt
    kept_next (breaks place other) lines more some none next = tt

before_some : (bad : Option LoadFault) (lines : List Line) → HasLine lines → HasLine (before bad lines)
before_some bad [] some = some
before_some bad (line ∷ lines) some = tt

before_none : (bad : Option LoadFault) (lines : List Line) → lines ≡ [] → before bad lines ≡ []
before_none bad lines e = ap (before bad) e

before_shaped : (bad : Option LoadFault) (lines : List Line) → Shaped lines → Shaped (before bad lines)
unfolding Shaped
before_shaped bad [] shaped = tt
before_shaped bad (line ∷ lines) shaped = (byte_next bad line lines (before bad lines) (before_some bad lines) (before_none bad lines) shaped.0, before_shaped bad lines shaped.1)

broken_good : (fault : LoadFault) (line : Line) (ending : Ending) → line.ending ≡ ending → is_good (broken fault line ending).ending ≡ true → is_good line.ending ≡ true
broken_good fault line (ends place) is good = good
broken_good fault line (stops place) is good = absurd (cc good)
broken_good fault line (unclosed place) is good = absurd (cc good)
broken_good fault line (breaks place other) is good = good

byte_good : (bad : Option LoadFault) (line : Line) → is_good (before_byte bad line).ending ≡ true → is_good line.ending ≡ true
byte_good (Some fault) line good = broken_good fault line line.ending refl good
byte_good None line good = good

before_good : (bad : Option LoadFault) (lines : List Line) → AllGood (before bad lines) → AllGood lines
unfolding AllGood
before_good bad [] good = tt
before_good bad (line ∷ lines) good = (byte_good bad line good.0, before_good bad lines good.1)

broken_tokens : (fault : LoadFault) (line : Line) (ending : Ending) → (broken fault line ending).tokens ≡ line.tokens
broken_tokens fault line (ends place) = refl
broken_tokens fault line (stops place) = refl
broken_tokens fault line (unclosed place) = refl
broken_tokens fault line (breaks place other) = refl

byte_tokens : (bad : Option LoadFault) (line : Line) → (before_byte bad line).tokens ≡ line.tokens
byte_tokens (Some fault) line = broken_tokens fault line line.ending
byte_tokens None line = refl

before_flat : (bad : Option LoadFault) (lines : List Line) → flat (before bad lines) ≡ flat lines
unfolding flat
before_flat bad [] = refl
before_flat bad (line ∷ lines) = ap (λ ts. ts ++ flat (before bad lines)) (byte_tokens bad line) ∙ ap (λ ts. line.tokens ++ ts) (before_flat bad lines)

-- ---- the link

pub record AreLaid (text : List ℕ) (tokens : List Token) : Type 0 where
  pub spread : Spread (reads (pieces 0 text_start text)) tokens
  pub whole : Whole (pieces 0 text_start text)

laid_before : (bad : Option LoadFault) (text : List ℕ) (tokens : List Token) → tokens_before bad text ≡ Ok tokens → AreLaid text tokens
laid_before bad text tokens e =
    let lines = lines_of [] (pieces 0 text_start text) in
    let made = lines_made 0 text_start text [] in
    let told = lines_tell (before bad lines) first_layout (before_some bad lines made.some) (before_shaped bad lines made.shaped) tokens e in
    let good = before_good bad lines told.1 in
    record { spread = subst (λ xs. Spread xs tokens) (before_flat bad lines ∙ sym (made.same good)) told.0; whole = made.whole good }

pub are_laid : (bytes : List ℕ) (tokens : List Token) → tokens_in_bytes bytes ≡ Ok tokens → AreLaid (text_of bytes) tokens
unfolding tokens_in_bytes
are_laid bytes tokens e = laid_before (bad_byte bytes) (text_of bytes) tokens e
