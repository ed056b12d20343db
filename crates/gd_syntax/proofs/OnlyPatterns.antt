-- No reading of a pattern has two outcomes.
use Rattle.std.proofs.Common.{ℕ, zero, suc, Bool, true, false, List, [], ◌∷◌, Option, Some, None}
use Rattle.gd_syntax.specs.declared.fault.Place.{Place}
use Rattle.gd_syntax.specs.declared.token.Token.{Token}
use Rattle.gd_syntax.specs.declared.token.Kind.{Kind}
use Rattle.gd_syntax.specs.declared.token.Kind.TheVariants.{Mark as Marked}
use Rattle.gd_syntax.specs.declared.token.Mark.{Mark}
use Rattle.gd_syntax.specs.declared.token.Mark.TheVariants as m
use Rattle.gd_syntax.specs.declared.tree.expr.Literal.{Literal}
use Rattle.gd_syntax.specs.declared.tree.pattern.Pattern.{Pattern}
use Rattle.gd_syntax.specs.Reading.{Reading}
use Rattle.gd_syntax.specs.declared.stops.Sought.TheVariants.{Other}
use Rattle.gd_syntax.specs.TokenReading.{place_at, any_name, plain_name, literal_of}
use Rattle.gd_syntax.specs.PatternGrammar.{more, more_by, items_by, rest_by, open_list, names_by, path, key_by, value_by, entry_pattern, other_pattern_by, pattern_by, pattern_form, pattern}
use Rattle.gd_syntax.proofs.Only.{Only, only_is, only_then, only_look, only_loop, only_skip, only_due, only_one, only_identifier}

module _ (tokens : List Token) where
  module _ {A : Type 0} (item : Reading A) (i : Only item) where
    only_more_by : (sofar : List A) (b : Bool) → Only (more_by tokens item sofar b)
    only_more_by sofar true = only_then _ _ (only_skip tokens) (λ _. only_then _ _ i (λ x. only_is _))
    only_more_by sofar false = only_is _

    only_more : (sofar : List A) → Only (more tokens item sofar)
    only_more sofar = only_look _ _ (only_more_by sofar)

    only_items_by : (b : Bool) → Only (items_by tokens item b)
    only_items_by true = only_is _
    only_items_by false = only_then _ _ i (λ x. only_loop _ only_more (x ∷ []))

    only_rest_by : (k : Option Mark) → Only (rest_by tokens k)
    only_rest_by (Some m.Comma) = only_then _ _ (only_skip tokens) (λ _. only_then _ _ (only_due tokens Other m.DotDot) (λ _. only_is _))
    only_rest_by (Some m.DotDot) = only_then _ _ (only_skip tokens) (λ _. only_is _)
    only_rest_by _ = only_is _

    pub only_open_list : (closing : Mark) → Only (open_list tokens item closing)
    only_open_list closing = only_then _ _ (only_look _ _ only_items_by) (λ all. only_then _ _ (only_look _ _ only_rest_by)
        (λ unended. only_then _ _ (only_due tokens Other closing) (λ _. only_is _)))

  module _ (room : ℕ) (inner : Reading Pattern) (i : Only inner) where
    only_names_by : (sofar : List (List ℕ)) (k : Option Mark) → Only (names_by tokens room inner sofar k)
    only_names_by sofar (Some m.Dot) = only_then _ _ (only_skip tokens) (λ _. only_then _ _ (only_one tokens any_name Other) (λ name. only_is _))
    only_names_by sofar _ = only_is _

    only_path : (place : Place) → Only (path tokens room inner place)
    only_path place = only_then _ _ (only_one tokens plain_name Other)
        (λ first. only_then _ _ (only_loop _ (λ sofar. only_look _ _ (only_names_by sofar)) (first ∷ [])) (λ names. only_is _))

    only_key_by : (value : Option Literal) → Only (key_by tokens room inner value)
    only_key_by (Some value) = only_then _ _ (only_is _) (λ _. only_then _ _ (only_skip tokens) (λ _. only_is _))
    only_key_by None = only_is _

    only_value_by : (k : Option Mark) → Only (value_by tokens room inner k)
    only_value_by (Some m.Colon) = only_then _ _ (only_skip tokens) (λ _. only_then _ _ i (λ x. only_is _))
    only_value_by _ = only_is _

    only_entry : Only (entry_pattern tokens room inner)
    only_entry at = only_then _ _ (only_look _ _ only_key_by) (λ key. only_then _ _ (only_look _ _ only_value_by) (λ x. only_is _)) at

    pub only_other_by : (place : Place) (k : Kind) → Only (other_pattern_by tokens room inner place k)
    only_other_by place (Marked m.Var) = only_then _ _ (only_skip tokens) (λ _. only_then _ _ (only_identifier tokens) (λ name. only_is _))
    only_other_by place (Marked m.Minus) = only_then _ _ (only_skip tokens) (λ _. only_then _ _ (only_one tokens literal_of Other) (λ value. only_is _))
    only_other_by place (Marked m.LBracket) = only_then _ _ (only_skip tokens) (λ _. only_then _ _ (only_open_list inner i m.RBracket) (λ all. only_is _))
    only_other_by place (Marked m.LBrace) = only_then _ _ (only_skip tokens) (λ _. only_then _ _ (only_open_list _ only_entry m.RBrace) (λ all. only_is _))
    only_other_by place _ = only_path place

    only_pattern_by : (place : Place) (value : Option Literal) → Only (pattern_by tokens room inner place value)
    only_pattern_by place (Some value) = only_then _ _ (only_skip tokens) (λ _. only_is _)
    only_pattern_by place None = only_look _ _ (only_other_by place)

    only_form : Only (pattern_form tokens room inner)
    only_form at = only_then _ _ (only_look _ _ (only_pattern_by (place_at tokens at))) (λ tree. only_is _) at

  pub only_pattern : (room : ℕ) → Only (pattern tokens room)
  unfolding pattern
  only_pattern zero = only_is _
  only_pattern (suc room) = only_form (suc room) (pattern tokens room) (only_pattern room)
