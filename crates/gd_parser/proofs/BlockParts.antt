-- Small steps of the readings of statements and blocks.
use Rattle.std.proofs.Common.{◌≡◌, ◌≢◌, ℕ, zero, suc, ◌-◌, ◌≤◌, Bool, true, false, List, [], ◌∷◌, ◌++◌, Option, Some, None, refl, subst, arith}
use Rattle.gd_syntax.specs.declared.fault.Place.{Place}
use Rattle.gd_syntax.specs.declared.token.Token.{Token}
use Rattle.gd_syntax.specs.declared.token.Mark.{Mark}
use Rattle.gd_syntax.specs.declared.token.Mark.TheVariants as m
use Rattle.gd_syntax.specs.declared.tree.expr.Expr.{Expr}
use Rattle.gd_syntax.specs.declared.tree.member.Annotation.{Annotation}
use Rattle.gd_syntax.specs.declared.tree.pattern.Pattern.{Pattern}
use Rattle.gd_syntax.specs.declared.tree.statement.Simple.{Simple}
use Rattle.gd_syntax.specs.declared.tree.statement.Stmt.{Stmt}
use Rattle.gd_syntax.specs.declared.stops.Sought.TheVariants.{Other}
use Rattle.gd_syntax.specs.Reading.{Outcome, Read, Stops, Reading, Then, goes, halts, ◌>>=◌, ◌>>◌, give, Look, looks, Turn, On, Loop}
use Rattle.gd_syntax.specs.TokenReading.{max_levels, mark_at, skip, refuse, Due}
use Rattle.gd_syntax.specs.DeclarationGrammar.{expr}
use Rattle.gd_syntax.specs.StatementGrammar.{unbound, pats_by, annotated_by, block, block_by}
use Rattle.gd_syntax.proofs.StatementSteps.{block_is}
use Rattle.gd_parser.specs.BlockForms.{headed, form}

pub mark_differs : (k : Option Mark) (a b : Mark) → k ≡ Some a → a ≢ b → k ≢ Some b
mark_differs k a b e n h = n (cc (e, h))

pub none_differs : (k l : Option Mark) (b : Mark) → l ≡ None → l ≡ k → k ≢ Some b
none_differs k l b e f h = cc (e, f, h)

-- a turn of a repetition, in a sequence
pub loop_then : {A B : Type 0} {turn : A → Reading (Turn A)} {rest : A → Reading B} {a b : A} {at next : ℕ} {o : Outcome B}
    → turn a at (Read (On b) next) → Then (Loop turn b) rest next o → Then (Loop turn a) rest at o
loop_then t (goes h r) = goes (Loop.on t h) r
loop_then t (halts h) = halts (Loop.on t h)

-- what follows a part that was read
abbrev followed : {A B : Type 0} → (A → Reading B) → Outcome B → Outcome A → Type 0
followed rest o (Read a next) = rest a next o
followed rest o (Stops f) = Unit {0}

follow : {A B : Type 0} (rest : A → Reading B) (o : Outcome B) (a b : A) (at next : ℕ) → Read a at ≡ Read b next → rest a at o → rest b next o
follow {A} rest o a b at next e r = let P : Outcome A → Type 0 = followed rest o in subst P e r

module _ (tokens : List Token) where
  -- an expression and its `:`, in a longer sequence
  pub headed_then : {B : Type 0} (rest : Expr → Reading B) (at : ℕ) (o : Outcome B) → Then (headed tokens) rest at o
      → Then (expr tokens) (λ x. Then (Due tokens Other m.Colon) (λ _. rest x)) at o
  headed_then rest at o (goes (goes h (goes d e)) r) = goes h (goes d (follow rest o _ _ _ _ e r))
  headed_then rest at o (halts (halts h)) = halts h
  headed_then rest at o (halts (goes h (halts d))) = goes h (halts d)
  headed_then rest at o (halts (goes h (goes d e))) = absurd (cc e)

  pub pats_refused : (bound : Bool) (sofar : List Pattern) (at : ℕ) (o : Outcome (Turn (List Pattern))) → bound ≡ true → refuse tokens Other at o → pats_by tokens bound sofar (Some m.Comma) at o
  pats_refused true sofar at o e h = h
  pats_refused false sofar at o e h = absurd (cc e)

  pub pats_goes : (bound : Bool) (sofar : List Pattern) (at : ℕ) (o : Outcome (Turn (List Pattern))) → bound ≡ false
      → (do skip tokens; x ← unbound tokens max_levels; give (On (sofar ++ x ∷ []))) at o → pats_by tokens bound sofar (Some m.Comma) at o
  pats_goes false sofar at o e h = h
  pats_goes true sofar at o e h = absurd (cc e)

  annotated_none_by : (place : Place) (before : List Annotation) (k : Option Mark) (at : ℕ) (o : Outcome Simple) → k ≢ Some m.Var → refuse tokens Other at o → annotated_by tokens place before k at o
  annotated_none_by place before (Some m.Var) at o x h = absurd (x refl)
  annotated_none_by place before _ at o x h = h

  pub annotated_none : (place : Place) (before : List Annotation) (at : ℕ) (o : Outcome Simple) → mark_at tokens at ≢ Some m.Var → refuse tokens Other at o
      → Look (mark_at tokens) (annotated_by tokens place before) at o
  annotated_none place before at o x h = looks refl (annotated_none_by place before (mark_at tokens at) at o x h)

  -- a block, where one more may be open
  pub block_of : (room at : ℕ) (o : Outcome (List Stmt)) → 1 ≤ room → form tokens (room - 1) at o → block tokens room at o
  block_of zero at o some h = absurd (omega arith)
  block_of (suc room) at o some h =
      let e : suc room - 1 ≡ room = omega arith in
      let P : ℕ → Type 0 = λ k. Look (mark_at tokens) (block_by tokens (block tokens k)) at o in
      block_is tokens room at o (subst P e h)
