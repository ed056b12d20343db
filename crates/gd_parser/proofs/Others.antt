-- Alternatives of members: those that the next token does not begin, and those that a test chooses.
use Rattle.std.proofs.Common.{◌≡◌, ◌≢◌, ◌∙◌, ◌-◌, ◌≤◌, ℕ, zero, suc, arith, Bool, true, false, ◌||◌, List, [], ◌∷◌, ◌++◌, Option, Some, None, refl, sym, ap, subst}
use Rattle.std.specs.List.{list_any}
use Rattle.std.proofs.lemmas.List.Folds.{list_any-append}
use Rattle.gd_syntax.specs.declared.fault.Place.{Place}
use Rattle.gd_syntax.specs.declared.token.Token.{Token}
use Rattle.gd_syntax.specs.declared.token.Kind.{Kind}
use Rattle.gd_syntax.specs.declared.token.Kind.TheVariants.{Mark as Marked, Name, Int, Text}
use Rattle.gd_syntax.specs.declared.token.Mark.{Mark}
use Rattle.gd_syntax.specs.declared.token.Mark.TheVariants as m
use Rattle.gd_syntax.specs.declared.tree.member.Annotation.{Annotation}
use Rattle.gd_syntax.specs.declared.tree.member.Member.{Member}
use Rattle.gd_syntax.specs.declared.tree.member.Member.TheVariants as tree
use Rattle.gd_syntax.specs.declared.tree.member.Param.{Param}
use Rattle.gd_syntax.specs.declared.stops.Sought.TheVariants.{StaticFunc, Other}
use Rattle.gd_syntax.specs.declared.fault.LoadFault.{LoadFault}
use Rattle.gd_syntax.specs.Reading.{Outcome, Read, Stops, Reading, ◌>>=◌, ◌>>◌, goes, halts, give, Look, looks}
use Rattle.gd_syntax.specs.TokenReading.{mark_at, refuse, skip, Due}
use Rattle.gd_syntax.specs.MemberGrammar.{root_of, has_value, is_field_annotation, func, annotated_by, annotated, member_by, members, class_block}
use Rattle.gd_syntax.proofs.StatementSteps.{class_is}
use Rattle.gd_parser.specs.Members.{annotated_member, plain_by}

-- what begins no base
pub root_other : (k : Kind) → ((text : List ℕ) → k ≢ Text text) → ((text : List ℕ) → k ≢ Name text) → root_of k ≡ None
root_other (Text text) t n = absurd (t text refl)
root_other (Name text) t n = absurd (n text refl)
root_other (Marked a) t n = refl
root_other (Int a) t n = refl

or_false : (b : Bool) → (b || false) ≡ b
or_false true = refl
or_false false = refl

-- whether a parameter has a default, with one more
pub due_further : (all : List Param) (x : Param) (b c : Bool) → b ≡ list_any (λ p. has_value p.declared) all → c ≡ (b || has_value x.declared)
    → c ≡ list_any (λ p. has_value p.declared) (all ++ x ∷ [])
due_further all x b c due more =
    let one : list_any (λ p. has_value p.declared) (x ∷ []) ≡ has_value x.declared = or_false (has_value x.declared) in
    more ∙ ap (λ d. d || has_value x.declared) due ∙ ap (λ d. list_any (λ p. has_value p.declared) all || d) (sym one)
    ∙ sym (list_any-append (λ p. has_value p.declared) all (x ∷ []))

module _ (tokens : List Token) where
  -- a variable or a function behind its annotations
  module _ (place : Place) (before : List Annotation) (at : ℕ) (o : Outcome Member) where
    pub func_refused : list_any is_field_annotation before ≡ true → refuse tokens Other at o → annotated_by tokens place before (Some m.Func) at o
    func_refused t h = rw t h

    pub func_read : list_any is_field_annotation before ≡ false → (do skip tokens; f ← func tokens place before false; give (tree.Func f)) at o
        → annotated_by tokens place before (Some m.Func) at o
    func_read t h = rw t h

    pub static_refused : list_any is_field_annotation before ≡ true → refuse tokens Other at o → annotated_by tokens place before (Some m.Static) at o
    static_refused t h = rw t h

    pub static_read : list_any is_field_annotation before ≡ false
        → (do skip tokens; Due tokens StaticFunc m.Func; f ← func tokens place before true; give (tree.Func f)) at o
        → annotated_by tokens place before (Some m.Static) at o
    static_read t h = rw t h

    annotated_other_by : (k : Option Mark) → k ≢ Some m.Var → k ≢ Some m.Func → k ≢ Some m.Static → refuse tokens Other at o → annotated_by tokens place before k at o
    annotated_other_by (Some m.Var) x y z h = absurd (x refl)
    annotated_other_by (Some m.Func) x y z h = absurd (y refl)
    annotated_other_by (Some m.Static) x y z h = absurd (z refl)
    annotated_other_by _ x y z h = h

    pub annotated_other : mark_at tokens at ≢ Some m.Var → mark_at tokens at ≢ Some m.Func → mark_at tokens at ≢ Some m.Static → refuse tokens Other at o
        → annotated tokens place before at o
    annotated_other x y z h = looks refl (annotated_other_by (mark_at tokens at) x y z h)

  -- members that are no class
  module _ (place : Place) (at : ℕ) (o : Outcome Member) where
    plain_annotated_by : (k : Option Mark) → k ≢ Some m.Pass → k ≢ Some m.Const → k ≢ Some m.Enum → k ≢ Some m.Signal
        → annotated_member tokens place at o → plain_by tokens place k at o
    plain_annotated_by (Some m.Pass) x y z w h = absurd (x refl)
    plain_annotated_by (Some m.Const) x y z w h = absurd (y refl)
    plain_annotated_by (Some m.Enum) x y z w h = absurd (z refl)
    plain_annotated_by (Some m.Signal) x y z w h = absurd (w refl)
    plain_annotated_by _ x y z w h = h

    pub plain_annotated : mark_at tokens at ≢ Some m.Pass → mark_at tokens at ≢ Some m.Const → mark_at tokens at ≢ Some m.Enum
        → mark_at tokens at ≢ Some m.Signal → annotated_member tokens place at o → Look (mark_at tokens) (plain_by tokens place) at o
    plain_annotated x y z w h = looks refl (plain_annotated_by (mark_at tokens at) x y z w h)

  module _ (inner : ℕ → Reading (List Member × ℕ)) (classes : ℕ) (place : Place) (at : ℕ) where
    member_plain_by : (k : Option Mark) (o : Outcome (Member × ℕ)) → k ≢ Some m.Class
        → (do x ← plain_by tokens place k; give (x, classes)) at o → member_by tokens inner classes place k at o
    member_plain_by (Some m.Class) o x h = absurd (x refl)
    member_plain_by (Some m.Pass) o x h = h
    member_plain_by (Some m.Const) o x h = h
    member_plain_by (Some m.Enum) o x h = h
    member_plain_by (Some m.Signal) o x h = h
    member_plain_by _ o x h = h

    pub member_plain : {x : Member} {next : ℕ} → mark_at tokens at ≢ Some m.Class → Look (mark_at tokens) (plain_by tokens place) at (Read x next)
        → Look (mark_at tokens) (member_by tokens inner classes place) at (Read (x, classes) next)
    member_plain n (looks {k} e h) = looks e (member_plain_by k _ (subst (λ (j : Option Mark). j ≢ Some m.Class) e n) (goes h refl))

    pub member_plain_stops : {f : LoadFault} → mark_at tokens at ≢ Some m.Class → Look (mark_at tokens) (plain_by tokens place) at (Stops f)
        → Look (mark_at tokens) (member_by tokens inner classes place) at (Stops f)
    member_plain_stops n (looks {k} e h) = looks e (member_plain_by k _ (subst (λ (j : Option Mark). j ≢ Some m.Class) e n) (halts h))

  -- the members of an inner class, where one more may be open
  pub class_of : (room classes at : ℕ) (o : Outcome (List Member × ℕ)) → 1 ≤ room
      → (do Due tokens Other m.Newline; Due tokens Other m.Indent; all ← members tokens (class_block tokens (room - 1)) ([], classes); Due tokens Other m.Dedent; give all) at o
      → class_block tokens room classes at o
  class_of zero classes at o some h = absurd (omega arith)
  class_of (suc room) classes at o some h =
      let e : suc room - 1 ≡ room = omega arith in
      let P : ℕ → Type 0 = λ k. (do Due tokens Other m.Newline; Due tokens Other m.Indent; all ← members tokens (class_block tokens k) ([], classes); Due tokens Other m.Dedent; give all) at o in
      class_is tokens room classes at o (subst P e h)
