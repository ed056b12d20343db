-- What is answered is the first of the faults.
use Rattle.std.proofs.Common.{◌≡◌, ◌⊎◌, inl, inr, refl, sym, ap, ◌∙◌, subst, ℕ, ◌<◌, ◌≤◌, Bool, true, false, cond, ◌&&◌, List, [], ◌∷◌, ◌++◌, length, Option, Some, None, Result, Ok, Err, arith}
use Rattle.std.specs.Prelude.{◌==◌, map, option_to_list}
use Rattle.std.specs.List.{AllByRecursion}
use Rattle.std.specs.Str.Lossy.{utf8_valid_len}
use Rattle.std.proofs.lemmas.Bool.{eq-eqb, and_from, and_parts, eqb-true}
use Rattle.std.proofs.lemmas.List.Elements.{All-from_recursion, All-cons, All-contains, Contains-append_right}
use Rattle.gd_syntax.specs.declared.fault.Place.{Place}
use Rattle.gd_syntax.specs.declared.fault.LoadFault.{LoadFault}
use Rattle.gd_syntax.specs.declared.fault.FaultKind.{FaultKind}
use Rattle.gd_syntax.specs.declared.fault.FaultKind.TheVariants.{BadBytes, BadToken, MixedIndent, BadIndent, Unclosed, NumberTooLarge, Unsupported}
use Rattle.gd_syntax.specs.declared.token.Mark.{Mark}
use Rattle.gd_syntax.specs.declared.token.Token.{Token}
use Rattle.gd_syntax.specs.Layout.{Answer, Ending, ends, stops, unclosed, breaks, Line, Layout, Blocks, at, bad_byte, before_byte, blocks_at, broken, depth_kind, ending_start, ends_in_colon, first_layout, first_place, front, indent_fault, indented, is_comment, is_mixed, is_unclosed, laid_onto, line_onto, line_tail, lines_of, marks_at, newline, past_all, pieces, precedes_depth, same_place, text_of, text_start, tokens_in_bytes, tokens_of, unit_of, with_blocks}
use Rattle.token_laws.specs.FaultOrder.{IsBefore, ComesBefore, not_last, by_place, by_kind, rank, blank_place, blanks_onto, line_blanks, blank_faults, part_faults, faults_in, IsFirstOf, AnswersFirst}
use Rattle.token_laws.proofs.FaultPlaces.{not_true, IsUpTo, is_found, on_before, before_or_same}
use Rattle.token_laws.proofs.FaultLines.{IsBehind, AreBehind, HasBlanks, HasFirst, HasNext, AreOrdered, GoOn, lines_on}

-- a fault that is another or comes before it
abbrev IsAhead : LoadFault → LoadFault → Type 0
IsAhead fault other = (other ≡ fault) ⊎ ComesBefore fault other

abbrev AreAhead : LoadFault → List LoadFault → Type 0
AreAhead fault faults = AllByRecursion (IsAhead fault) faults

heads : (fault : LoadFault) (faults : List LoadFault) → AreAhead fault faults → IsFirstOf (fault ∷ faults) fault
heads fault faults ahead = ((0, omega arith, refl), All-from_recursion (IsAhead fault) (fault ∷ faults) (inl refl, ahead))

follows : (fault other : LoadFault) → ComesBefore fault other → IsFirstOf (other ∷ fault ∷ []) fault
follows fault other before = ((1, omega arith, refl), All-from_recursion (IsAhead fault) (other ∷ fault ∷ []) (inr before, (inl refl, tt)))

-- a fault behind a place, or `Unclosed`, comes after one there that is not `Unclosed`
behind_case : (last : Bool) (fault other : LoadFault) → is_unclosed fault.kind ≡ false → is_unclosed other.kind ≡ last → IsBehind fault.place other → ComesBefore fault other
behind_case true fault other counts is behind = not_last counts is
behind_case false fault other counts is behind = by_place (counts ∙ sym is) (behind is)

behind_ahead : (fault : LoadFault) (faults : List LoadFault) → is_unclosed fault.kind ≡ false → AreBehind fault.place faults → AreAhead fault faults
behind_ahead fault [] counts behind = tt
behind_ahead fault (other ∷ faults) counts behind = (inr (behind_case (is_unclosed other.kind) fault other counts refl behind.0), behind_ahead fault faults counts behind.1)

further : (a b : Place) → IsUpTo a b → (faults : List LoadFault) → AreBehind b faults → AreBehind a faults
further a b less [] behind = tt
further a b less (fault ∷ faults) behind = (λ counts. on_before a b fault.place less (behind.0 counts), further a b less faults behind.1)

-- The byte that is no UTF-8, where the text is not the whole of its file.

abbrev pub bad_at : Bool → Place → Option LoadFault
bad_at whole end = cond whole None (Some (at BadBytes end))

abbrev Settles : Bool → Place → List LoadFault → Answer → Type 0
Settles whole end faults answer = AnswersFirst (option_to_list (bad_at whole end) ++ faults) answer

-- a fault in front of the byte comes before it
with_byte : (whole : Bool) (end : Place) (faults : List LoadFault) (fault : LoadFault) → IsFirstOf faults fault → is_unclosed fault.kind ≡ false → IsBefore fault.place end
    → IsFirstOf (option_to_list (bad_at whole end) ++ faults) fault
with_byte true end faults fault first counts inside = first
with_byte false end faults fault first counts inside = (
  Contains-append_right (at BadBytes end ∷ []) faults fault first.0,
  All-cons (IsAhead fault) (at BadBytes end) faults (inr (by_place counts inside)) first.1,
)

front_settles : (tokens : List Token) (faults : List LoadFault) (answer : Answer) → AnswersFirst faults answer → AnswersFirst faults (front tokens answer)
front_settles tokens faults (Ok more) settles = settles
front_settles tokens faults (Err fault) settles = settles

-- Wrong blanks.

mixed_some : (unit : Option ℕ) (indent : List ℕ) → is_mixed unit indent ≡ true → 1 ≤ length indent
mixed_some None indent mixed = absurd (cc)
mixed_some (Some unit) [] mixed = absurd (cc)
mixed_some (Some unit) (c ∷ indent) mixed = omega arith

depth_case : (unit : Option ℕ) (opens : Bool) (blocks : Option Blocks) (kind : FaultKind) → with_blocks unit opens blocks ≡ Err kind → kind ≡ BadIndent
depth_case unit opens None kind e = cc
depth_case unit opens (Some blocks) kind e = absurd (cc)

refused_case : (mixed : Bool) (unit : Option ℕ) (indent : List ℕ) (opens : Bool) (blocks : Option Blocks) (kind : FaultKind) → is_mixed unit indent ≡ mixed → cond mixed (Err MixedIndent) (with_blocks unit opens blocks) ≡ Err kind
    → ((kind ≡ MixedIndent) × (1 ≤ length indent)) ⊎ (kind ≡ BadIndent)
refused_case true unit indent opens blocks kind is e = inl (cc, mixed_some unit indent is)
refused_case false unit indent opens blocks kind is e = inr (depth_case unit opens blocks kind e)

refused : (layout : Layout) (indent : List ℕ) (opens : Bool) (kind : FaultKind) → indented layout indent opens ≡ Err kind → ((kind ≡ MixedIndent) × (1 ≤ length indent)) ⊎ (kind ≡ BadIndent)
refused layout indent opens kind e =
    let unit = unit_of layout.unit indent in
    refused_case (is_mixed unit indent) unit indent opens (blocks_at layout.opens (length indent) layout.depths) kind refl e

mixed_settles : (whole : Bool) (end start : Place) (indent : List ℕ) (faults : List LoadFault) → 1 ≤ length indent → 1 ≤ start.column → HasBlanks end start indent faults
    → Settles whole end (at MixedIndent (record { line = start.line; column = 1 }) ∷ faults) (Err (at MixedIndent (record { line = start.line; column = 1 })))
unfolding HasBlanks
mixed_settles whole end start [] faults some column blanks = absurd (omega arith)
mixed_settles whole end start (c ∷ indent) faults some column blanks =
    let place : Place = record { line = start.line; column = 1 } in
    let less : IsUpTo place start = record { line = omega arith; column = λ same. column } in
    let fault = at MixedIndent place in
    with_byte whole end (fault ∷ faults) fault (heads fault faults (behind_ahead fault faults refl (further place start less faults blanks.1))) refl (on_before place start end less blanks.0)

found_rank : (kind : FaultKind) → is_found kind ≡ true → precedes_depth kind ≡ false → 4 < rank kind
found_rank BadToken found other = absurd (cc)
found_rank NumberTooLarge found other = omega arith
found_rank (Unsupported form) found other = omega arith
found_rank _ found other = absurd (not_true found)

-- `BadBytes` and `BadToken` come before `BadIndent`
precedes_rank : (kind : FaultKind) → precedes_depth kind ≡ true → (is_unclosed kind ≡ false) × (rank kind < 4)
precedes_rank BadBytes is = (refl, omega arith)
precedes_rank BadToken is = (refl, omega arith)
precedes_rank _ is = absurd (not_true is)

same_places : (a b : Place) → same_place a b ≡ true → a ≡ b
same_places a b is =
    let parts = and_parts (a.line == b.line) (a.column == b.column) is in
    let line = eqb-true a.line b.line parts.0 in
    let column = eqb-true a.column b.column parts.1 in
    λ i. record { line = line i; column = column i }

not_bad : (bad : Bool) (a b : Place) → (bad && same_place a b) ≡ false → b ≡ a → bad ≡ false
not_bad false a b is same = refl
not_bad true a b is same = absurd (let one = and_from (a.line == b.line) (a.column == b.column) (eq-eqb a.line b.line (ap (λ p. p.line) (sym same))) (eq-eqb a.column b.column (ap (λ p. p.column) (sym same))) in cc)

same_itself : (a : Place) → same_place a a ≡ true
same_itself a = and_from (a.line == a.line) (a.column == a.column) (eq-eqb a.line a.line refl) (eq-eqb a.column a.column refl)

places_case : (a b : Place) (same : Bool) → same_place a b ≡ same → IsBefore b a → same ≡ false
places_case a b false is before = refl
places_case a b true is before = absurd (let e = same_places a b is in let less = before.column (sym (ap (λ p. p.line) e)) in omega (arith, less, ap (λ p. p.column) e))

pub other_places : (a b : Place) → IsBefore b a → same_place a b ≡ false
other_places a b before = places_case a b (same_place a b) refl before

-- a wrong depth where what is no token stands first
depth_before : (last : Bool) (place : Place) (fault : LoadFault) → is_unclosed fault.kind ≡ last → (precedes_depth fault.kind && same_place fault.place place) ≡ false
    → IsUpTo place fault.place → (is_unclosed fault.kind ≡ false → is_found fault.kind ≡ true) → ComesBefore (at BadIndent place) fault
depth_before true place fault is other up_to known = not_last refl is
depth_before false place fault is other up_to known = elim (before_or_same place fault.place up_to) [
  | inl before ↦ by_place (sym is) before
  | inr same ↦ by_kind (sym is) same (found_rank fault.kind (known is) (not_bad (precedes_depth fault.kind) fault.place place other same))
]

badly_settles : (whole badly : Bool) (end place : Place) (fault : LoadFault) → (precedes_depth fault.kind && same_place fault.place place) ≡ badly → IsBefore place end
    → IsUpTo place fault.place → (is_unclosed fault.kind ≡ false → is_found fault.kind ≡ true) → Settles whole end (at BadIndent place ∷ fault ∷ []) (Err (at (cond badly fault.kind BadIndent) place))
badly_settles whole true end place fault is inside up_to known =
    let parts = and_parts (precedes_depth fault.kind) (same_place fault.place place) is in
    let there = same_places fault.place place parts.1 in
    let less = precedes_rank fault.kind parts.0 in
    let same : at fault.kind place ≡ fault = λ i. record { kind = fault.kind; place = sym there i } in
    subst (λ f. IsFirstOf (option_to_list (bad_at whole end) ++ (at BadIndent place ∷ f ∷ [])) (at fault.kind place)) same
    (with_byte whole end (at BadIndent place ∷ at fault.kind place ∷ []) (at fault.kind place) (follows (at fault.kind place) (at BadIndent place) (by_kind less.0 refl less.1)) less.0 inside)
badly_settles whole false end place fault is inside up_to known =
    with_byte whole end (at BadIndent place ∷ fault ∷ []) (at BadIndent place) (heads (at BadIndent place) (fault ∷ []) (inr (depth_before (is_unclosed fault.kind) place fault refl is up_to known), tt)) refl inside

byte_settles : (end place : Place) → place ≡ end → Settles false end (at BadIndent place ∷ []) (Err (at (cond (same_place end place) BadBytes BadIndent) place))
byte_settles end place is =
    subst (λ p. IsFirstOf (at BadBytes end ∷ at BadIndent p ∷ []) (at (cond (same_place end p) BadBytes BadIndent) p)) (sym is)
    (rw (same_itself end) (heads (at BadBytes end) (at BadIndent end ∷ []) (inr (by_kind refl refl (omega arith)), tt)))

badly_case : (whole : Bool) (end place : Place) (fault : LoadFault) → (is_unclosed fault.kind ≡ false → is_found fault.kind ≡ true) → IsBefore place end × IsUpTo place fault.place → (first : Place) → Some place ≡ Some first
    → Settles whole end (at BadIndent first ∷ fault ∷ []) (Err (at (cond (precedes_depth fault.kind && same_place fault.place place) fault.kind BadIndent) first))
badly_case whole end place fault known begins first is =
    let badly = precedes_depth fault.kind && same_place fault.place place in
    let there : place ≡ first = cc in
    subst (λ p. Settles whole end (at BadIndent p ∷ fault ∷ []) (Err (at (cond badly fault.kind BadIndent) p))) there (badly_settles whole badly end place fault refl begins.0 begins.1 known)

open_settles : (whole : Bool) (end place : Place) → IsBefore place end → Settles whole end (at BadIndent place ∷ at Unclosed place ∷ []) (Err (at BadIndent place))
open_settles whole end place inside = with_byte whole end (at BadIndent place ∷ at Unclosed place ∷ []) (at BadIndent place) (heads (at BadIndent place) (at Unclosed place ∷ []) (inr (not_last refl refl), tt)) refl inside

-- a wrong depth of a line with tokens, or of another
depth_settles : (whole : Bool) (end : Place) (tokens : List Token) (ending shown : Ending) (faults : List LoadFault) → HasFirst end tokens ending faults
    → (HasFirst end [] ending faults → (first : Place) → ending_start shown ≡ Some first → Settles whole end (at BadIndent first ∷ faults) (Err (at (depth_kind [] shown) first)))
    → (first : Place) → first_place tokens shown ≡ Some first → Settles whole end (at BadIndent first ∷ faults) (Err (at (depth_kind tokens shown) first))
unfolding HasFirst
depth_settles whole end [] ending shown faults begins none first is = none begins first is
depth_settles whole end (t ∷ tokens) ending shown faults begins none first is =
    let there : t.place ≡ first = cc in
    subst (λ p. Settles whole end (at BadIndent p ∷ faults) (Err (at BadIndent p))) there
    (with_byte whole end (at BadIndent t.place ∷ faults) (at BadIndent t.place) (heads (at BadIndent t.place) faults (behind_ahead (at BadIndent t.place) faults refl begins.1)) refl begins.0)

-- Lines.

blanks_settle : (whole : Bool) (end : Place) (shown : Line) (faults : List LoadFault) (first : Place) (kind : FaultKind) → 1 ≤ shown.start.column → HasBlanks end shown.start shown.indent faults
    → Settles whole end (at BadIndent first ∷ faults) (Err (at (depth_kind shown.tokens shown.ending) first))
    → ((kind ≡ MixedIndent) × (1 ≤ length shown.indent)) ⊎ (kind ≡ BadIndent) → Settles whole end (at kind (blank_place kind shown first) ∷ faults) (Err (indent_fault kind shown first))
blanks_settle whole end shown faults first kind column blanks depth (inl mixed) =
    subst (λ k. Settles whole end (at k (blank_place k shown first) ∷ faults) (Err (indent_fault k shown first))) (sym mixed.0) (mixed_settles whole end shown.start shown.indent faults mixed.1 column blanks)
blanks_settle whole end shown faults first kind column blanks depth (inr is) =
    subst (λ k. Settles whole end (at k (blank_place k shown first) ∷ faults) (Err (indent_fault k shown first))) (sym is) depth

now_settles : (whole : Bool) (end : Place) (layout : Layout) (shown : Line) (rest : List Line) (faults : List LoadFault) (first : Place) (now : Result (List Mark × Layout) FaultKind)
    → indented layout shown.indent (ends_in_colon shown.tokens) ≡ now → 1 ≤ shown.start.column → HasBlanks end shown.start shown.indent faults
    → Settles whole end (at BadIndent first ∷ faults) (Err (at (depth_kind shown.tokens shown.ending) first))
    → ((after : Layout) → Settles whole end (blank_faults after rest ++ faults) (line_tail false after shown.ending (tokens_of after rest)))
    → Settles whole end (blanks_onto shown first now (λ after. blank_faults after rest) ++ faults) (line_onto shown first now (λ after. tokens_of after rest))
now_settles whole end layout shown rest faults first (Err kind) is column blanks depth tail =
    blanks_settle whole end shown faults first kind column blanks depth (refused layout shown.indent (ends_in_colon shown.tokens) kind is)
now_settles whole end layout shown rest faults first (Ok now) is column blanks depth tail =
    front_settles (marks_at first now.0 ++ shown.tokens) (option_to_list (bad_at whole end) ++ (blank_faults now.1 rest ++ faults)) (line_tail false now.1 shown.ending (tokens_of now.1 rest)) (tail now.1)

first_settles : (whole : Bool) (end : Place) (layout : Layout) (shown : Line) (rest : List Line) (faults : List LoadFault) (first : Option Place) → first_place shown.tokens shown.ending ≡ first
    → 1 ≤ shown.start.column → HasBlanks end shown.start shown.indent faults
    → ((first : Place) → first_place shown.tokens shown.ending ≡ Some first → Settles whole end (at BadIndent first ∷ faults) (Err (at (depth_kind shown.tokens shown.ending) first)))
    → ((nothing : Bool) (after : Layout) → Settles whole end (blank_faults after rest ++ faults) (line_tail nothing after shown.ending (tokens_of after rest)))
    → Settles whole end (line_blanks first layout shown (λ after. blank_faults after rest) ++ faults) (laid_onto first layout shown (λ after. tokens_of after rest))
first_settles whole end layout shown rest faults None is column blanks depth tail = tail true layout
first_settles whole end layout shown rest faults (Some first) is column blanks depth tail =
    now_settles whole end layout shown rest faults first (indented layout shown.indent (ends_in_colon shown.tokens)) refl column blanks (depth first is) (tail false)

-- a line, as the byte behind the text leaves it, in front of others
shown_settles : (whole : Bool) (end : Place) (layout : Layout) (shown : Line) (rest : List Line) (faults : List LoadFault) → 1 ≤ shown.start.column → HasBlanks end shown.start shown.indent faults
    → ((first : Place) → first_place shown.tokens shown.ending ≡ Some first → Settles whole end (at BadIndent first ∷ faults) (Err (at (depth_kind shown.tokens shown.ending) first)))
    → ((nothing : Bool) (after : Layout) → Settles whole end (blank_faults after rest ++ faults) (line_tail nothing after shown.ending (tokens_of after rest)))
    → Settles whole end (blank_faults layout (shown ∷ rest) ++ faults) (tokens_of layout (shown ∷ rest))
unfolding blank_faults tokens_of
shown_settles whole end layout shown rest faults column blanks depth tail =
    first_settles whole end layout shown rest faults (first_place shown.tokens shown.ending) refl column blanks depth tail

abbrev pub marked : Bool → Place → List Line → List Line
marked whole end lines = map (before_byte (bad_at whole end)) lines

-- what the lines behind a line settle
abbrev Behind : Bool → Place → Place → List Line → Type 0
Behind whole here end lines = (after : Layout) → GoOn here end lines → Settles whole end (blank_faults after (marked whole end lines) ++ part_faults lines) (tokens_of after (marked whole end lines))

-- the blanks before a comment do not count
blanks_case : (b : Bool) (end start : Place) (indent : List ℕ) (faults : List LoadFault) → HasBlanks end start indent faults → HasBlanks end start (cond b [] indent) faults
unfolding HasBlanks
blanks_case true end start indent faults blanks = tt
blanks_case false end start indent faults blanks = blanks

ended_settles : (whole : Bool) (here end start : Place) (indent : List ℕ) (tokens : List Token) (place : Place) (lines : List Line) (layout : Layout)
    → GoOn here end (record { start = start; indent = indent; tokens = tokens; ending = ends place } ∷ lines) → Behind whole here end lines
    → Settles whole end (blank_faults layout (record { start = start; indent = indent; tokens = tokens; ending = ends place } ∷ marked whole end lines) ++ part_faults lines)
    (tokens_of layout (record { start = start; indent = indent; tokens = tokens; ending = ends place } ∷ marked whole end lines))
unfolding AreOrdered HasNext
ended_settles whole here end start indent tokens place lines layout on more =
    let rest = marked whole end lines in
    let shown : Line = record { start = start; indent = indent; tokens = tokens; ending = ends place } in
    shown_settles whole end layout shown rest (part_faults lines) on.ordered.0.column on.ordered.0.blanks
    (depth_settles whole end tokens (ends place) (ends place) (part_faults lines) on.ordered.0.first (λ begins first is. absurd (cc)))
    (λ nothing after. front_settles (newline nothing place) (option_to_list (bad_at whole end) ++ (blank_faults after rest ++ part_faults lines)) (tokens_of after rest)
    (more after (record { faults = on.faults; ordered = on.ordered.1; some = on.ordered.0.next })))

line_settles : (whole : Bool) (here end start : Place) (indent : List ℕ) (tokens : List Token) (ending : Ending) (lines : List Line) (layout : Layout)
    → GoOn here end (record { start = start; indent = indent; tokens = tokens; ending = ending } ∷ lines) → Behind whole here end lines
    → Settles whole end (blank_faults layout (marked whole end (record { start = start; indent = indent; tokens = tokens; ending = ending } ∷ lines)) ++ part_faults (record { start = start; indent = indent; tokens = tokens; ending = ending } ∷ lines))
    (tokens_of layout (marked whole end (record { start = start; indent = indent; tokens = tokens; ending = ending } ∷ lines)))
unfolding AreOrdered HasNext HasFirst blank_faults tokens_of
line_settles true here end start indent tokens (ends place) lines layout on more = ended_settles true here end start indent tokens place lines layout on more
line_settles false here end start indent tokens (ends place) lines layout on more = ended_settles false here end start indent tokens place lines layout on more
line_settles true here end start indent tokens (stops place) [] layout on more =
    shown_settles true end layout (record { start = start; indent = indent; tokens = tokens; ending = stops place }) [] [] on.ordered.0.column on.ordered.0.blanks
    (depth_settles true end tokens (stops place) (stops place) [] on.ordered.0.first (λ begins first is. absurd (cc)))
    (λ nothing after. refl)
line_settles false here end start indent tokens (stops place) [] layout on more =
    let fault = at BadBytes end in
    let line : Line = record { start = start; indent = indent; tokens = tokens; ending = stops place } in
    shown_settles false end layout (broken fault line (stops place)) [] [] on.ordered.0.column (blanks_case (is_comment tokens line place) end start indent [] on.ordered.0.blanks)
    (depth_settles false end tokens (stops place) (breaks place fault) [] on.ordered.0.first
    (λ begins first is. let there : place ≡ first = cc in subst (λ p. Settles false end (at BadIndent p ∷ []) (Err (at (cond (same_place end place) BadBytes BadIndent) p))) there (byte_settles end place begins)))
    (λ nothing after. heads fault [] tt)
line_settles true here end start indent tokens (unclosed place) [] layout on more =
    let faults = at Unclosed place ∷ [] in
    shown_settles true end layout (record { start = start; indent = indent; tokens = tokens; ending = unclosed place }) [] faults on.ordered.0.column on.ordered.0.blanks
    (depth_settles true end tokens (unclosed place) (unclosed place) faults on.ordered.0.first
    (λ begins first is. let there : place ≡ first = cc in subst (λ p. Settles true end (at BadIndent p ∷ faults) (Err (at BadIndent p))) there (open_settles true end place begins)))
    (λ nothing after. heads (at Unclosed place) [] tt)
line_settles false here end start indent tokens (unclosed place) [] layout on more =
    let fault = at BadBytes end in
    let faults = at Unclosed place ∷ [] in
    shown_settles false end layout (record { start = start; indent = indent; tokens = tokens; ending = breaks place fault }) [] faults on.ordered.0.column on.ordered.0.blanks
    (depth_settles false end tokens (unclosed place) (breaks place fault) faults on.ordered.0.first
    (λ begins first is.
    let there : place ≡ first = cc in
    rw (other_places end place begins) (subst (λ p. Settles false end (at BadIndent p ∷ faults) (Err (at BadIndent p))) there (open_settles false end place begins))))
    (λ nothing after. heads fault faults (inr (not_last refl refl), tt))
line_settles true here end start indent tokens (breaks place fault) [] layout on more =
    let faults = fault ∷ [] in
    shown_settles true end layout (record { start = start; indent = indent; tokens = tokens; ending = breaks place fault }) [] faults on.ordered.0.column on.ordered.0.blanks
    (depth_settles true end tokens (breaks place fault) (breaks place fault) faults on.ordered.0.first (badly_case true end place fault on.faults.0.known))
    (λ nothing after. heads fault [] tt)
line_settles false here end start indent tokens (breaks place fault) [] layout on more =
    let faults = fault ∷ [] in
    let counts = on.ordered.0.next.0 in
    shown_settles false end layout (record { start = start; indent = indent; tokens = tokens; ending = breaks place fault }) [] faults on.ordered.0.column on.ordered.0.blanks
    (depth_settles false end tokens (breaks place fault) (breaks place fault) faults on.ordered.0.first (badly_case false end place fault on.faults.0.known))
    (λ nothing after. with_byte false end faults fault (heads fault [] tt) counts (on.faults.0.inside counts))
line_settles whole here end start indent tokens (stops place) (line ∷ lines) layout on more = absurd (let none = on.ordered.0.next in cc)
line_settles whole here end start indent tokens (unclosed place) (line ∷ lines) layout on more = absurd (let none = on.ordered.0.next in cc)
line_settles whole here end start indent tokens (breaks place fault) (line ∷ lines) layout on more = absurd (let none = on.ordered.0.next.1 in cc)

lines_settle : (whole : Bool) (here end : Place) (lines : List Line) → Behind whole here end lines
lines_settle whole here end [] layout on = absurd on.some
lines_settle whole here end (line ∷ lines) layout on = line_settles whole here end line.start line.indent line.tokens line.ending lines layout on (lines_settle whole here end lines)

pub first_counts : (bytes : List ℕ) → AnswersFirst (faults_in bytes) (tokens_in_bytes bytes)
unfolding faults_in bad_byte tokens_in_bytes
first_counts bytes =
    let text = text_of bytes in
    lines_settle (utf8_valid_len bytes == length bytes) text_start (past_all text_start text) (lines_of [] (pieces 0 text_start text)) first_layout (lines_on text text_start (omega arith))

-- No two faults are first.

no_circle : (a b : Place) → IsBefore a b → IsBefore b a → ⊥
no_circle a b h k =
    let same : a.line ≡ b.line = omega (arith, h.line, k.line) in
    omega (arith, h.column same, k.column (sym same))

no_turn : (a b : Place) → IsBefore a b → b ≡ a → ⊥
no_turn a b h same = let column = h.column (sym (ap (λ p. p.line) same)) in omega (arith, column, ap (λ p. p.column) same)

one_way : (a b : LoadFault) → ComesBefore a b → ComesBefore b a → ⊥
one_way a b (not_last counts is) (not_last other last) = absurd (cc)
one_way a b (not_last counts is) (by_place same less) = absurd (cc)
one_way a b (not_last counts is) (by_kind same there less) = absurd (cc)
one_way a b (by_place same less) (not_last counts is) = absurd (cc)
one_way a b (by_place same less) (by_place other more) = no_circle a.place b.place less more
one_way a b (by_place same less) (by_kind other there more) = no_turn a.place b.place less there
one_way a b (by_kind same there less) (not_last counts is) = absurd (cc)
one_way a b (by_kind same there less) (by_place other more) = no_turn b.place a.place more there
one_way a b (by_kind same there less) (by_kind other here more) = omega arith

same_first : (a b : LoadFault) → IsAhead a b → IsAhead b a → a ≡ b
same_first a b (inl same) ahead = sym same
same_first a b (inr before) (inl same) = same
same_first a b (inr before) (inr after) = absurd (one_way a b before after)

pub one_first : (faults : List LoadFault) (a b : LoadFault) → IsFirstOf faults a → IsFirstOf faults b → a ≡ b
one_first faults a b first other = same_first a b (All-contains (IsAhead a) faults b first.1 other.0) (All-contains (IsAhead b) faults a other.1 first.0)
