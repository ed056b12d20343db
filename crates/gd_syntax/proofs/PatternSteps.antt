-- The alternatives of patterns where the next token begins no other, and the levels one by one.
use Rattle.std.proofs.Common.{◌≡◌, ◌≢◌, ℕ, zero, suc, List, Bool, false, Option, Some, None, refl}
use Rattle.gd_syntax.specs.declared.fault.Place.{Place}
use Rattle.gd_syntax.specs.declared.token.Token.{Token}
use Rattle.gd_syntax.specs.declared.token.Kind.{Kind}
use Rattle.gd_syntax.specs.declared.token.Kind.TheVariants.{Mark as Marked}
use Rattle.gd_syntax.specs.declared.token.Mark.{Mark}
use Rattle.gd_syntax.specs.declared.token.Mark.TheVariants as m
use Rattle.gd_syntax.specs.declared.tree.pattern.Pattern.{Pattern}
use Rattle.gd_syntax.specs.Reading.{Outcome, Read, Reading, Look, looks, Turn, Last}
use Rattle.gd_syntax.specs.TokenReading.{kind_at, mark_at}
use Rattle.gd_syntax.specs.PatternGrammar.{rest_by, names_by, value_by, path, other_pattern_by, pattern_form, full_pattern, pattern}

module _ (tokens : List Token) where
  rest_none_by : (k : Option Mark) (at : ℕ) (o : Outcome Bool) → k ≢ Some m.Comma → k ≢ Some m.DotDot → o ≡ Read false at → rest_by tokens k at o
  rest_none_by (Some m.Comma) at o x y h = absurd (x refl)
  rest_none_by (Some m.DotDot) at o x y h = absurd (y refl)
  rest_none_by _ at o x y h = h

  pub rest_none : (at : ℕ) → mark_at tokens at ≢ Some m.Comma → mark_at tokens at ≢ Some m.DotDot → Look (mark_at tokens) (rest_by tokens) at (Read false at)
  rest_none at x y = looks refl (rest_none_by (mark_at tokens at) at _ x y refl)

  module _ (room : ℕ) (inner : Reading Pattern) where
    names_none_by : (sofar : List (List ℕ)) (k : Option Mark) (at : ℕ) (o : Outcome (Turn (List (List ℕ)))) → k ≢ Some m.Dot → o ≡ Read (Last sofar) at → names_by tokens room inner sofar k at o
    names_none_by sofar (Some m.Dot) at o x h = absurd (x refl)
    names_none_by sofar _ at o x h = h

    pub names_none : (sofar : List (List ℕ)) (at : ℕ) → mark_at tokens at ≢ Some m.Dot → Look (mark_at tokens) (names_by tokens room inner sofar) at (Read (Last sofar) at)
    names_none sofar at x = looks refl (names_none_by sofar (mark_at tokens at) at _ x refl)

    value_none_by : (k : Option Mark) (at : ℕ) (o : Outcome (Option Pattern)) → k ≢ Some m.Colon → o ≡ Read None at → value_by tokens room inner k at o
    value_none_by (Some m.Colon) at o x h = absurd (x refl)
    value_none_by _ at o x h = h

    pub value_none : (at : ℕ) → mark_at tokens at ≢ Some m.Colon → Look (mark_at tokens) (value_by tokens room inner) at (Read None at)
    value_none at x = looks refl (value_none_by (mark_at tokens at) at _ x refl)

    path_pattern_none_by : (place : Place) (k : Kind) (at : ℕ) (o : Outcome Pattern) → k ≢ Marked m.Var → k ≢ Marked m.Minus → k ≢ Marked m.LBracket → k ≢ Marked m.LBrace
        → path tokens room inner place at o → other_pattern_by tokens room inner place k at o
    path_pattern_none_by place (Marked m.Var) at o x y z w h = absurd (x refl)
    path_pattern_none_by place (Marked m.Minus) at o x y z w h = absurd (y refl)
    path_pattern_none_by place (Marked m.LBracket) at o x y z w h = absurd (z refl)
    path_pattern_none_by place (Marked m.LBrace) at o x y z w h = absurd (w refl)
    path_pattern_none_by place _ at o x y z w h = h

    pub path_pattern_none : (place : Place) (at : ℕ) (o : Outcome Pattern) → kind_at tokens at ≢ Marked m.Var → kind_at tokens at ≢ Marked m.Minus → kind_at tokens at ≢ Marked m.LBracket
        → kind_at tokens at ≢ Marked m.LBrace → path tokens room inner place at o → Look (kind_at tokens) (other_pattern_by tokens room inner place) at o
    path_pattern_none place at o x y z w h = looks refl (path_pattern_none_by place (kind_at tokens at) at o x y z w h)

  -- a pattern, where there is room for a level
  pub pattern_is : (room at : ℕ) (o : Outcome Pattern) → pattern_form tokens (suc room) (pattern tokens room) at o → pattern tokens (suc room) at o
  unfolding pattern
  pattern_is room at o h = h

  pub pattern_gives : (room at : ℕ) (o : Outcome Pattern) → pattern tokens (suc room) at o → pattern_form tokens (suc room) (pattern tokens room) at o
  unfolding pattern
  pattern_gives room at o h = h

  -- and where there is none
  pub pattern_full : (at : ℕ) (o : Outcome Pattern) → full_pattern tokens at o → pattern tokens zero at o
  unfolding pattern
  pattern_full at o h = h
