-- Heads and files: the alternatives that a test chooses.
use Rattle.std.proofs.Common.{◌≡◌, ◌||◌, ℕ, Bool, true, false, not, List, [], ◌∷◌, Option, Some, None, Result, Ok, Err, sym, subst}
use Rattle.std.specs.List.{list_any, slice_get}
use Rattle.std.specs.Result.{IsErrAnd}
use Rattle.gd_syntax.specs.declared.fault.Place.{Place}
use Rattle.gd_syntax.specs.declared.fault.SolveError.{SolveError}
use Rattle.gd_syntax.specs.declared.fault.SolveError.TheVariants.{Fault, NoMemory}
use Rattle.gd_syntax.specs.declared.token.Token.{Token}
use Rattle.gd_syntax.specs.declared.token.Mark.TheVariants as m
use Rattle.gd_syntax.specs.declared.tree.member.Annotation.{Annotation}
use Rattle.gd_syntax.specs.declared.tree.member.Base.{Base}
use Rattle.gd_syntax.specs.declared.tree.member.Member.{Member}
use Rattle.gd_syntax.specs.declared.tree.member.Script.{Script}
use Rattle.gd_syntax.specs.declared.stops.Sought.TheVariants.{Other}
use Rattle.gd_syntax.specs.Reading.{Outcome, Read, Stops, ◌>>=◌, ◌>>◌, give, Turn, On, Fails}
use Rattle.gd_syntax.specs.TokenReading.{skip, refuse}
use Rattle.gd_syntax.specs.MemberGrammar.{is_field_annotation, base, annotated}
use Rattle.gd_syntax.specs.ScriptGrammar.{Heads, is_head_annotation, with_head, is_named, is_based, base_by, class_name, extends, head_by, first_member, no_member, script}
use Rattle.gd_syntax.proofs.OnlyScripts.{only_script}
use Rattle.gd_parser.specs.Files.{IsParsed, GivesTree}

module _ (tokens : List Token) (found : ℕ → Bool) where
  module _ (based : Bool) (at : ℕ) (o : Outcome (Option Base)) where
    pub base_refuses : based ≡ true → refuse tokens Other at o → base_by tokens found based (Some m.Extends) at o
    base_refuses t h = rw t h

    pub base_reads : based ≡ false → (do skip tokens; b ← base tokens; give (Some b)) at o → base_by tokens found based (Some m.Extends) at o
    base_reads t h = rw t h

  module _ (sofar : Heads) (place : Place) (known : Bool) (at : ℕ) (o : Outcome (Turn Heads)) where
    pub name_refuses : (list_any is_field_annotation sofar.1 || (list_any is_named sofar.0 || not known)) ≡ true → refuse tokens Other at o
        → head_by tokens found sofar place known (Some m.ClassName) at o
    name_refuses t h = rw t h

    pub name_reads : (list_any is_field_annotation sofar.1 || (list_any is_named sofar.0 || not known)) ≡ false
        → (do x ← class_name tokens found (list_any is_based sofar.0) place; give (On (with_head sofar x))) at o
        → head_by tokens found sofar place known (Some m.ClassName) at o
    name_reads t h = rw t h

    pub extends_refuses : (list_any is_field_annotation sofar.1 || list_any is_based sofar.0) ≡ true → refuse tokens Other at o
        → head_by tokens found sofar place known (Some m.Extends) at o
    extends_refuses t h = rw t h

    pub extends_reads : (list_any is_field_annotation sofar.1 || list_any is_based sofar.0) ≡ false
        → (do x ← extends tokens found place; give (On (with_head sofar x))) at o
        → head_by tokens found sofar place known (Some m.Extends) at o
    extends_reads t h = rw t h

  module _ (behind : List Annotation) (at : ℕ) (o : Outcome (List Member)) where
    pub nothing_behind : slice_get behind 0 ≡ None → (give []) at o → first_member tokens found behind at o
    nothing_behind e h = first_none behind e h where
      first_none : (all : List Annotation) → slice_get all 0 ≡ None → (give []) at o → first_member tokens found all at o
      first_none [] e h = h
      first_none (a ∷ before) e h = absurd (cc e)

    pub member_refused : (a : Annotation) → slice_get behind 0 ≡ Some a → list_any is_head_annotation behind ≡ true → refuse tokens Other at o
        → first_member tokens found behind at o
    member_refused a e t h = refused behind e t where
      refused : (all : List Annotation) → slice_get all 0 ≡ Some a → list_any is_head_annotation all ≡ true → first_member tokens found all at o
      refused [] e t = absurd (cc e)
      refused (b ∷ before) e t = rw t h

    pub no_member_refused : list_any is_field_annotation behind ≡ true → refuse tokens Other at o → no_member tokens found behind at o
    no_member_refused t h = rw t h

    pub no_member_given : list_any is_field_annotation behind ≡ false → (give []) at o → no_member tokens found behind at o
    no_member_given t h = rw t h

  pub member_read : (behind : List Annotation) (at : ℕ) (o : Outcome (List Member)) (a : Annotation) → slice_get behind 0 ≡ Some a
      → list_any is_head_annotation behind ≡ false → (do x ← annotated tokens a.place behind; give (x ∷ [])) at o → first_member tokens found behind at o
  member_read [] at o a e t h = absurd (cc e)
  member_read (b ∷ before) at o a e t h =
      let same : b ≡ a = cc e in
      let P : Annotation → Type 0 = λ z. (do x ← annotated tokens z.place (b ∷ before); give (x ∷ [])) at o in
      rw t (subst P (sym same) h)

-- ---- the file

module _ (tokens : List Token) (header_end : Place) where
  pub parse_fails : (r : Result Script SolveError) (e : SolveError) → IsErrAnd r (λ y. y ≡ e) → Fails e (script tokens header_end 0) → IsParsed tokens header_end r
  parse_fails (Ok tree) e is h = absurd is
  parse_fails (Err x) e is h = rw is h

  pub only_fault : (r : Result Script SolveError) (e : SolveError) (o : Outcome Script) → IsErrAnd r (λ y. y ≡ e) → Fails e (script tokens header_end 0)
      → script tokens header_end 0 o → GivesTree r o
  only_fault (Ok tree) e o is h x = absurd is
  only_fault (Err NoMemory) e o is h x = tt
  only_fault (Err (Fault f)) e o is h x =
      let P : SolveError → Type 0 = λ z. Fails z (script tokens header_end 0) in
      only_script tokens header_end 0 o (Stops f) x (subst P (sym is) h)

  pub only_tree : (tree : Script) (end : ℕ) (o : Outcome Script) → script tokens header_end 0 (Read tree end) → script tokens header_end 0 o → GivesTree (Ok tree) o
  only_tree tree end o h x = (end, only_script tokens header_end 0 o (Read tree end) x h)
