-- The alternatives of types where the next token begins no other.
use Rattle.std.proofs.Common.{◌≡◌, ◌≢◌, ℕ, List, Option, Some, None, refl}
use Rattle.gd_syntax.specs.declared.fault.Place.{Place}
use Rattle.gd_syntax.specs.declared.token.Token.{Token}
use Rattle.gd_syntax.specs.declared.token.Mark.{Mark}
use Rattle.gd_syntax.specs.declared.token.Mark.TheVariants as m
use Rattle.gd_syntax.specs.declared.tree.type_name.TypeName.{TypeName}
use Rattle.gd_syntax.specs.Reading.{Outcome, Read, looks, Turn, Last}
use Rattle.gd_syntax.specs.declared.stops.Sought.TheVariants.{Other}
use Rattle.gd_syntax.specs.TokenReading.{mark_at, place_at}
use Rattle.gd_syntax.specs.TypeGrammar.{dotted, dotted_by, bracket_form, type_name, result_by, result_type}

pub no_bracket : (names : List (List ℕ)) (k : Option Mark) → k ≢ Some m.LBracket → bracket_form names k ≡ None
no_bracket names (Some m.LBracket) e = absurd (e refl)
no_bracket names _ e = refl

module _ (tokens : List Token) where
  dotted_none_by : (sofar : List (List ℕ)) (k : Option Mark) (at : ℕ) (o : Outcome (Turn (List (List ℕ)))) → k ≢ Some m.Dot → o ≡ Read (Last sofar) at → dotted_by tokens sofar k at o
  dotted_none_by sofar (Some m.Dot) at o e h = absurd (e refl)
  dotted_none_by sofar _ at o e h = h

  pub dotted_none : (sofar : List (List ℕ)) (at : ℕ) → mark_at tokens at ≢ Some m.Dot → dotted tokens sofar at (Read (Last sofar) at)
  dotted_none sofar at e = looks refl (dotted_none_by sofar (mark_at tokens at) at _ e refl)

  result_none_by : (place : Place) (k : Option Mark) (at : ℕ) (o : Outcome TypeName) → k ≢ Some m.Void → type_name tokens Other at o → result_by tokens place k at o
  result_none_by place (Some m.Void) at o e h = absurd (e refl)
  result_none_by place _ at o e h = h

  pub result_none : (at : ℕ) (o : Outcome TypeName) → mark_at tokens at ≢ Some m.Void → type_name tokens Other at o → result_type tokens at o
  result_none at o e h = looks refl (result_none_by (place_at tokens at) (mark_at tokens at) at o e h)
