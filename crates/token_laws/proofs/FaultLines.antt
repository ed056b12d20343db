-- The faults of a text's lines stand in the order of its places.
use Rattle.std.proofs.Common.{◌≡◌, refl, ℕ, zero, suc, ◌-◌, ◌≤◌, Bool, true, false, cond, List, [], ◌∷◌, length, take, drop, subst}
use Rattle.std.specs.List.{AllByRecursion}
use Rattle.gd_syntax.specs.declared.fault.Place.{Place}
use Rattle.gd_syntax.specs.declared.fault.LoadFault.{LoadFault}
use Rattle.gd_syntax.specs.declared.fault.FaultKind.{FaultKind}
use Rattle.gd_syntax.specs.declared.fault.FaultKind.TheVariants.{Unclosed}
use Rattle.gd_syntax.specs.declared.token.Kind.{Kind}
use Rattle.gd_syntax.specs.declared.token.Kind.TheVariants.{Mark as Marked}
use Rattle.gd_syntax.specs.declared.token.Token.{Token}
use Rattle.gd_syntax.specs.Spellings.{Found, space, gap, line_end, token, wrong, unended, found_at}
use Rattle.gd_syntax.specs.Layout.{Ending, ends, stops, unclosed, breaks, Line, bare, blank_onto, gap_onto, token_onto, line_end_onto, line_stop, brackets, opens_bracket, closes_bracket, is_unclosed, lines_of, past, past_all, piece_onto, pieces}
use Rattle.token_laws.specs.FaultOrder.{IsBefore, part_faults}
use Rattle.token_laws.proofs.FaultPlaces.{not_true, IsUpTo, IsWithin, is_found, before_up_to, before_on, past_before, past_column, char_before, part_up_to, part_before, found_within}

-- A fault of the parts is `Unclosed`, or stands behind this place, or there, and before the text's end.
pub record IsFrom (here end : Place) (fault : LoadFault) : Type 0 where
  pub behind : is_unclosed fault.kind ≡ false → IsUpTo here fault.place
  pub inside : is_unclosed fault.kind ≡ false → IsBefore fault.place end
  pub known : is_unclosed fault.kind ≡ false → is_found fault.kind ≡ true

abbrev pub AreFrom : Place → Place → List LoadFault → Type 0
AreFrom here end faults = AllByRecursion (IsFrom here end) faults

-- it is `Unclosed`, or stands behind this place
abbrev pub IsBehind : Place → LoadFault → Type 0
IsBehind here fault = is_unclosed fault.kind ≡ false → IsBefore here fault.place

abbrev pub AreBehind : Place → List LoadFault → Type 0
AreBehind here faults = AllByRecursion (IsBehind here) faults

-- where blanks begin a line, what is on it stands behind its start
unfoldable pub HasBlanks : Place → Place → List ℕ → List LoadFault → Type 0
HasBlanks end start [] faults = Unit {0}
HasBlanks end start (c ∷ indent) faults = IsBefore start end × AreBehind start faults

-- what stands first on a line is before the faults of the parts, or is their one fault
unfoldable pub HasFirst : Place → List Token → Ending → List LoadFault → Type 0
HasFirst end (t ∷ tokens) ending faults = IsBefore t.place end × AreBehind t.place faults
HasFirst end [] (ends place) faults = Unit {0}
HasFirst end [] (stops place) faults = place ≡ end
HasFirst end [] (unclosed place) faults = IsBefore place end
HasFirst end [] (breaks place fault) faults = IsBefore place end × IsUpTo place fault.place

-- some line is made
abbrev pub HasLine : List Line → Type 0
HasLine [] = ⊥
HasLine (line ∷ lines) = Unit {0}

-- a line follows one that is ended, and none follows another
unfoldable pub HasNext : Ending → List Line → Type 0
HasNext (ends place) lines = HasLine lines
HasNext (breaks place fault) lines = (is_unclosed fault.kind ≡ false) × (lines ≡ [])
HasNext _ lines = lines ≡ []

pub record IsOrdered (end : Place) (line : Line) (lines : List Line) : Type 0 where
  pub column : 1 ≤ line.start.column
  pub blanks : HasBlanks end line.start line.indent (part_faults (line ∷ lines))
  pub first : HasFirst end line.tokens line.ending (part_faults (line ∷ lines))
  pub next : HasNext line.ending lines

unfoldable pub AreOrdered : Place → List Line → Type 0
AreOrdered end [] = Unit {0}
AreOrdered end (line ∷ lines) = IsOrdered end line lines × AreOrdered end lines

-- the lines from a place on
pub record GoOn (here end : Place) (lines : List Line) : Type 0 where
  pub faults : AreFrom here end (part_faults lines)
  pub ordered : AreOrdered end lines
  pub some : HasLine lines

from_before : (a b end : Place) → IsBefore a b → (faults : List LoadFault) → AreFrom b end faults → AreFrom a end faults
from_before a b end less [] h = tt
from_before a b end less (fault ∷ faults) h = (
  record { behind = λ counts. before_up_to a fault.place (before_on a b fault.place less (h.0.behind counts)); inside = h.0.inside; known = h.0.known },
  from_before a b end less faults h.1,
)

behind_before : (a b end : Place) → IsBefore a b → (faults : List LoadFault) → AreFrom b end faults → AreBehind a faults
behind_before a b end less [] h = tt
behind_before a b end less (fault ∷ faults) h = (λ counts. before_on a b fault.place less (h.0.behind counts), behind_before a b end less faults h.1)

blank_on : (here there end : Place) (c : ℕ) (lines : List Line) → 1 ≤ here.column → IsBefore here end → IsBefore here there → GoOn there end lines → GoOn here end (blank_onto here c lines)
unfolding AreOrdered HasBlanks
blank_on here there end c [] column inside less h = absurd h.some
blank_on here there end c (line ∷ lines) column inside less h =
    let faults = part_faults (line ∷ lines) in
    record {
      faults = from_before here there end less faults h.faults;
      ordered = (
        record { column = column; blanks = (inside, behind_before here there end less faults h.faults); first = h.ordered.0.first; next = h.ordered.0.next },
        h.ordered.1,
      );
      some = tt;
    }

gap_on : (here there end : Place) (lines : List Line) → 1 ≤ here.column → IsBefore here there → GoOn there end lines → GoOn here end (gap_onto here lines)
unfolding AreOrdered HasBlanks
gap_on here there end [] column less h = absurd h.some
gap_on here there end (line ∷ lines) column less h = record {
  faults = from_before here there end less (part_faults (line ∷ lines)) h.faults;
  ordered = (record { column = column; blanks = tt; first = h.ordered.0.first; next = h.ordered.0.next }, h.ordered.1);
  some = tt;
}

token_on : (here there end : Place) (kind : Kind) (lines : List Line) → 1 ≤ here.column → IsBefore here end → IsBefore here there → GoOn there end lines
    → GoOn here end (token_onto (record { kind = kind; place = here }) lines)
unfolding AreOrdered HasBlanks HasFirst
token_on here there end kind [] column inside less h = absurd h.some
token_on here there end kind (line ∷ lines) column inside less h =
    let faults = part_faults (line ∷ lines) in
    record {
      faults = from_before here there end less faults h.faults;
      ordered = (
        record { column = column; blanks = tt; first = (inside, behind_before here there end less faults h.faults); next = h.ordered.0.next },
        h.ordered.1,
      );
      some = tt;
    }

end_on : (here there end : Place) (opened : List Place) (behind : List Place → List Line) → 1 ≤ here.column → IsBefore here there → ((inner : List Place) → AllByRecursion (λ b. IsBefore b end) inner → GoOn there end (behind inner))
    → AllByRecursion (λ b. IsBefore b end) opened → GoOn here end (line_end_onto opened here behind)
unfolding AreOrdered HasBlanks HasFirst HasNext
end_on here there end [] behind column less h all =
    let more = h [] tt in
    record {
      faults = from_before here there end less (part_faults (behind [])) more.faults;
      ordered = (record { column = column; blanks = tt; first = tt; next = more.some }, more.ordered);
      some = tt;
    }
end_on here there end (bracket ∷ opened) behind column less h all = gap_on here there end (behind (bracket ∷ opened)) column less (h (bracket ∷ opened) all)

-- the brackets that are open stand before the text's end
dropped : (end : Place) (opened : List Place) → AllByRecursion (λ b. IsBefore b end) opened → AllByRecursion (λ b. IsBefore b end) (drop 1 opened)
dropped end [] all = tt
dropped end (bracket ∷ opened) all = all.1

bracket_by : (end here : Place) (opens closes : Bool) (opened : List Place) → IsBefore here end → AllByRecursion (λ b. IsBefore b end) opened
    → AllByRecursion (λ b. IsBefore b end) (cond opens (here ∷ opened) (cond closes (drop 1 opened) opened))
bracket_by end here true closes opened inside all = (inside, all)
bracket_by end here false true opened inside all = dropped end opened all
bracket_by end here false false opened inside all = all

bracketed : (end here : Place) (kind : Kind) (opened : List Place) → IsBefore here end → AllByRecursion (λ b. IsBefore b end) opened → AllByRecursion (λ b. IsBefore b end) (brackets kind here opened)
bracketed end here (Marked m) opened inside all = bracket_by end here (opens_bracket m) (closes_bracket m) opened inside all
bracketed end here _ opened inside all = all

stop_on : (here end : Place) (opened : List Place) → 1 ≤ here.column → here ≡ end → AllByRecursion (λ b. IsBefore b end) opened → GoOn here end (bare here (line_stop opened here) ∷ [])
unfolding AreOrdered HasBlanks HasFirst HasNext
stop_on here end [] column is all = record { faults = tt; ordered = (record { column = column; blanks = tt; first = is; next = refl }, tt); some = tt }
stop_on here end (bracket ∷ opened) column is all = record {
  faults = (record { behind = λ counts. absurd (cc); inside = λ counts. absurd (cc); known = λ counts. absurd (cc) }, tt);
  ordered = (record { column = column; blanks = tt; first = all.0; next = refl }, tt);
  some = tt;
}

found_counts : (kind : FaultKind) → is_found kind ≡ true → is_unclosed kind ≡ false
found_counts Unclosed found = absurd (not_true found)
found_counts _ found = refl

-- what was found at a place goes on so
part_on : (end here : Place) (c : ℕ) (text : List ℕ) (found : Found) (opened : List Place) → 1 ≤ here.column → past_all here (c ∷ text) ≡ end → IsWithin (length (c ∷ text)) found
    → AllByRecursion (λ b. IsBefore b end) opened
    → ((n : ℕ) (inner : List Place) → AllByRecursion (λ b. IsBefore b end) inner → GoOn (past here c) end (lines_of inner (pieces n (past here c) text)))
    → GoOn here end (lines_of opened (piece_onto found here c text (λ n. pieces n (past here c) text)))
unfolding lines_of AreOrdered HasBlanks HasFirst HasNext IsWithin
part_on end here c text space opened column is within all more =
    let inside : IsBefore here end = subst (λ p. IsBefore here p) is (char_before here c text) in
    blank_on here (past here c) end c (lines_of opened (pieces 0 (past here c) text)) column inside (past_before here c) (more 0 opened all)
part_on end here c text (gap n) opened column is within all more = gap_on here (past here c) end (lines_of opened (pieces (n - 1) (past here c) text)) column (past_before here c) (more (n - 1) opened all)
part_on end here c text (line_end n) opened column is within all more = end_on here (past here c) end opened (λ inner. lines_of inner (pieces (n - 1) (past here c) text)) column (past_before here c) (more (n - 1)) all
part_on end here c text (token kind n) opened column is within all more =
    let inside : IsBefore here end = subst (λ p. IsBefore here p) is (char_before here c text) in
    let inner = brackets kind here opened in
    token_on here (past here c) end kind (lines_of inner (pieces (n - 1) (past here c) text)) column inside (past_before here c) (more (n - 1) inner (bracketed end here kind opened inside all))
part_on end here c text (wrong kind n) opened column is within all more =
    let inside : IsBefore here end = subst (λ p. IsBefore here p) is (char_before here c text) in
    let behind : IsUpTo here (past_all here (take n (c ∷ text))) = part_up_to n here (c ∷ text) in
    record {
      faults = (
        record {
          behind = λ counts. behind;
          inside = λ counts. subst (λ p. IsBefore (past_all here (take n (c ∷ text))) p) is (part_before n here (c ∷ text) within.0);
          known = λ counts. within.1;
        },
        tt,
      );
      ordered = (record { column = column; blanks = tt; first = (inside, behind); next = (found_counts kind within.1, refl) }, tt);
      some = tt;
    }
part_on end here c text unended opened column is within all more =
    let inside : IsBefore here end = subst (λ p. IsBefore here p) is (char_before here c text) in
    record {
      faults = (record { behind = λ counts. absurd (cc); inside = λ counts. absurd (cc); known = λ counts. absurd (cc) }, tt);
      ordered = (record { column = column; blanks = tt; first = inside; next = refl }, tt);
      some = tt;
    }

pieces_on : (end : Place) (text : List ℕ) (n : ℕ) (here : Place) (opened : List Place) → 1 ≤ here.column → past_all here text ≡ end → AllByRecursion (λ b. IsBefore b end) opened
    → GoOn here end (lines_of opened (pieces n here text))
unfolding pieces lines_of
pieces_on end [] n here opened column is all = stop_on here end opened column is all
pieces_on end (c ∷ text) (suc n) here opened column is all =
    let more = pieces_on end text n (past here c) opened (past_column here c) is all in
    record { faults = from_before here (past here c) end (past_before here c) _ more.faults; ordered = more.ordered; some = more.some }
pieces_on end (c ∷ text) zero here opened column is all =
    part_on end here c text (found_at (c ∷ text)) opened column is (found_within c text) all (λ n inner. pieces_on end text n (past here c) inner (past_column here c) is)

pub lines_on : (text : List ℕ) (here : Place) → 1 ≤ here.column → GoOn here (past_all here text) (lines_of [] (pieces 0 here text))
lines_on text here column = pieces_on (past_all here text) text 0 here [] column refl tt
