-- Small steps of the readings of patterns, where one reader serves patterns with `var` and those without.
use Rattle.std.proofs.Common.{◌≡◌, ◌≢◌, ℕ, zero, suc, ◌-◌, ◌≤◌, Bool, true, false, ◌||◌, if◌then◌else◌, List, [], ◌∷◌, ◌++◌, Option, Some, None, codes, bytes_eq, refl, subst, ap, ◌∙◌, arith}
use Rattle.std.specs.List.{list_any}
use Rattle.std.proofs.lemmas.List.Folds.{list_any-append}
use Rattle.gd_syntax.specs.declared.fault.Place.{Place}
use Rattle.gd_syntax.specs.declared.fault.FaultKind.TheVariants.{Unsupported}
use Rattle.gd_syntax.specs.declared.fault.Form.TheVariants.{When}
use Rattle.gd_syntax.specs.declared.token.Token.{Token}
use Rattle.gd_syntax.specs.declared.token.Kind.{Kind}
use Rattle.gd_syntax.specs.declared.token.Kind.TheVariants.{Mark as Marked}
use Rattle.gd_syntax.specs.declared.token.Mark.{Mark}
use Rattle.gd_syntax.specs.declared.token.Mark.TheVariants as m
use Rattle.gd_syntax.specs.declared.tree.expr.Literal.{Literal}
use Rattle.gd_syntax.specs.declared.tree.pattern.Pattern.{Pattern}
use Rattle.gd_syntax.specs.declared.tree.pattern.Pattern.TheVariants as p
use Rattle.gd_syntax.specs.declared.stops.Sought.TheVariants.{Other}
use Rattle.gd_syntax.specs.Reading.{Outcome, Stops, Reading, either, Look, looks, goes, halts}
use Rattle.gd_syntax.specs.TokenReading.{kind_at, literal_of, fault_at, refuse}
use Rattle.gd_syntax.specs.PatternGrammar.{is_when, pattern_form, pattern_by, other_pattern_by, path_pattern, finished}
use Rattle.gd_syntax.specs.PatternGrammar as grammar
use Rattle.gd_syntax.specs.StatementGrammar.{binds, unbound, unbound_form, unbound_by, unbound_other_by}
use Rattle.gd_syntax.proofs.PatternSteps.{pattern_is, pattern_full}
use Rattle.gd_syntax.proofs.StatementSteps.{unbound_is, unbound_full}
use Rattle.gd_syntax.proofs.Targets.{binds-Wildcard, binds-Path}
use Rattle.gd_parser.specs.PatternForms.{pattern, full, bind, path, other_by, other, form_by, unfinished, form}

-- ---- whether a `var` stands in a list

or_false : (b : Bool) → (b || false) ≡ b
or_false true = refl
or_false false = refl

pub one_any : {A : Type 0} (f : A → Bool) (x : A) → list_any f (x ∷ []) ≡ f x
one_any f x = or_false (f x)

pub push_any : {A : Type 0} (f : A → Bool) (all : List A) (x : A) → list_any f (all ++ x ∷ []) ≡ (list_any f all || f x)
push_any f all x = list_any-append f all (x ∷ []) ∙ ap (λ b. list_any f all || b) (one_any f x)

one_binds : (place : Place) (names : List (List ℕ)) (b : Bool) → binds (if b then p.Wildcard place else p.Path place names) ≡ false
one_binds place names true = binds-Wildcard place
one_binds place names false = binds-Path place names

pub path_binds : (place : Place) (names : List (List ℕ)) → binds (path_pattern place names) ≡ false
path_binds place [] = binds-Path place []
path_binds place (name ∷ []) = one_binds place (name ∷ []) (bytes_eq name (codes "_"))
path_binds place (name ∷ other ∷ names) = binds-Path place (name ∷ other ∷ names)

-- ---- other patterns

pub marked_other : (k : Kind) (a b : Mark) → k ≡ Marked a → a ≢ b → k ≢ Marked b
marked_other k a b e n h = n (cc (e, h))

module _ (tokens : List Token) where
  module _ (free : Bool) (room : ℕ) where
    pub free_bind : (place : Place) (at : ℕ) (o : Outcome Pattern) → free ≡ true → grammar.bind tokens room (pattern tokens free (room - 1)) place at o → bind tokens free room place at o
    free_bind place at o e h = free_bind_by free e h where
      free_bind_by : (b : Bool) → b ≡ true → grammar.bind tokens room (pattern tokens free (room - 1)) place at o
          → either b (grammar.bind tokens room (pattern tokens free (room - 1)) place) (refuse tokens Other) at o
      free_bind_by true e h = h
      free_bind_by false e h = absurd (cc e)

    other_path_by : (place : Place) (k : Kind) (at : ℕ) (o : Outcome Pattern) → k ≢ Marked m.Var → k ≢ Marked m.Minus → k ≢ Marked m.LBracket → k ≢ Marked m.LBrace
        → path tokens free room place at o → other_by tokens free room place k at o
    other_path_by place (Marked m.Var) at o x y z w h = absurd (x refl)
    other_path_by place (Marked m.Minus) at o x y z w h = absurd (y refl)
    other_path_by place (Marked m.LBracket) at o x y z w h = absurd (z refl)
    other_path_by place (Marked m.LBrace) at o x y z w h = absurd (w refl)
    other_path_by place _ at o x y z w h = h

    pub other_path : (place : Place) (at : ℕ) (o : Outcome Pattern) → kind_at tokens at ≢ Marked m.Var → kind_at tokens at ≢ Marked m.Minus → kind_at tokens at ≢ Marked m.LBracket
        → kind_at tokens at ≢ Marked m.LBrace → path tokens free room place at o → other tokens free room place at o
    other_path place at o x y z w h = looks refl (other_path_by place (kind_at tokens at) at o x y z w h)

  -- ---- whole patterns

  module _ (room : ℕ) where
    free_other : (place : Place) (k : Kind) (at : ℕ) (o : Outcome Pattern) → other_by tokens true room place k at o
        → other_pattern_by tokens room (pattern tokens true (room - 1)) place k at o
    free_other place (Marked m.Var) at o h = h
    free_other place _ at o h = h

    bound_other : (place : Place) (k : Kind) (at : ℕ) (o : Outcome Pattern) → other_by tokens false room place k at o
        → unbound_other_by tokens room (pattern tokens false (room - 1)) place k at o
    bound_other place (Marked m.Var) at o h = h
    bound_other place _ at o h = h

    free_by : (place : Place) (value : Option Literal) (at : ℕ) (o : Outcome Pattern) → form_by tokens true room place value at o
        → pattern_by tokens room (pattern tokens true (room - 1)) place value at o
    free_by place (Some value) at o h = h
    free_by place None at o (looks {k} e h) = looks e (free_other place k at o h)

    bound_by : (place : Place) (value : Option Literal) (at : ℕ) (o : Outcome Pattern) → form_by tokens false room place value at o
        → unbound_by tokens room (pattern tokens false (room - 1)) place value at o
    bound_by place (Some value) at o h = h
    bound_by place None at o (looks {k} e h) = looks e (bound_other place k at o h)

    free_unfinished : (place : Place) (at : ℕ) (o : Outcome Pattern) → unfinished tokens true room place at o
        → Look (λ to. literal_of (kind_at tokens to)) (pattern_by tokens room (pattern tokens true (room - 1)) place) at o
    free_unfinished place at o (looks {k} e h) = looks e (free_by place k at o h)

    bound_unfinished : (place : Place) (at : ℕ) (o : Outcome Pattern) → unfinished tokens false room place at o
        → Look (λ to. literal_of (kind_at tokens to)) (unbound_by tokens room (pattern tokens false (room - 1)) place) at o
    bound_unfinished place at o (looks {k} e h) = looks e (bound_by place k at o h)

    free_form : (at : ℕ) (o : Outcome Pattern) → form tokens true room at o → pattern_form tokens room (pattern tokens true (room - 1)) at o
    free_form at o (goes h rest) = goes (free_unfinished _ at _ h) rest
    free_form at o (halts h) = halts (free_unfinished _ at _ h)

    bound_form : (at : ℕ) (o : Outcome Pattern) → form tokens false room at o → unbound_form tokens room (pattern tokens false (room - 1)) at o
    bound_form at o (goes h rest) = goes (bound_unfinished _ at _ h) rest
    bound_form at o (halts h) = halts (bound_unfinished _ at _ h)

  -- a pattern, where there is room for a level
  pub pattern_of : (free : Bool) (room at : ℕ) (o : Outcome Pattern) → 1 ≤ room → form tokens free room at o → pattern tokens free room at o
  pattern_of free zero at o some h = absurd (omega arith)
  pattern_of true (suc room) at o some h =
      let e : suc room - 1 ≡ room = omega arith in
      let P : ℕ → Type 0 = λ k. pattern_form tokens (suc room) (grammar.pattern tokens k) at o in
      pattern_is tokens room at o (subst P e (free_form (suc room) at o h))
  pattern_of false (suc room) at o some h =
      let e : suc room - 1 ≡ room = omega arith in
      let P : ℕ → Type 0 = λ k. unbound_form tokens (suc room) (unbound tokens k) at o in
      unbound_is tokens room at o (subst P e (bound_form (suc room) at o h))

  -- and where there is none
  pub full_of : (free : Bool) (at : ℕ) (o : Outcome Pattern) → full tokens free at o → pattern tokens free zero at o
  full_of true at o h = pattern_full tokens at o h
  full_of false at o h = unbound_full tokens at o h

-- `when` never follows a pattern
pub finished_when : (tokens : List Token) (room : ℕ) (inner : Reading Pattern) (tree : Pattern) (at : ℕ) → is_when (kind_at tokens at) ≡ true
    → finished tokens room inner tree at (Stops (fault_at tokens (Unsupported When) at))
finished_when tokens room inner tree at e = rw e
