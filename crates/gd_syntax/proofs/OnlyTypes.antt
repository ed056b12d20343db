-- No reading of a type has two outcomes.
use Rattle.std.proofs.Common.{ℕ, List, [], ◌∷◌, Option, Some, None}
use Rattle.gd_syntax.specs.declared.fault.Place.{Place}
use Rattle.gd_syntax.specs.declared.fault.Form.{Form}
use Rattle.gd_syntax.specs.declared.token.Token.{Token}
use Rattle.gd_syntax.specs.declared.token.Mark.{Mark}
use Rattle.gd_syntax.specs.declared.token.Mark.TheVariants as m
use Rattle.gd_syntax.specs.declared.stops.Sought.{Sought}
use Rattle.gd_syntax.specs.declared.stops.Sought.TheVariants.{Other}
use Rattle.gd_syntax.specs.TokenReading.{place_at, plain_name}
use Rattle.gd_syntax.specs.TypeGrammar.{dotted, dotted_by, typed_by, type_name, result_by, result_type}
use Rattle.gd_syntax.proofs.Only.{Only, only_is, only_then, only_look, only_loop, only_skip, only_one}

module _ (tokens : List Token) where
  only_dotted_by : (sofar : List (List ℕ)) (k : Option Mark) → Only (dotted_by tokens sofar k)
  only_dotted_by sofar (Some m.Dot) = only_then _ _ (only_skip tokens) (λ _. only_then _ _ (only_one tokens plain_name Other) (λ name. only_is _))
  only_dotted_by sofar _ = only_is _

  only_dotted : (sofar : List (List ℕ)) → Only (dotted tokens sofar)
  only_dotted sofar = only_look _ _ (only_dotted_by sofar)

  only_typed_by : (place : Place) (names : List (List ℕ)) (form : Option Form) → Only (typed_by tokens place names form)
  only_typed_by place names (Some form) = only_is _
  only_typed_by place names None = only_is _

  pub only_type_name : (sought : Sought) → Only (type_name tokens sought)
  only_type_name sought at = only_then _ _ (only_one tokens plain_name sought)
      (λ first. only_then _ _ (only_loop _ only_dotted (first ∷ [])) (λ names. only_look _ _ (only_typed_by (place_at tokens at) names))) at

  only_result_by : (place : Place) (k : Option Mark) → Only (result_by tokens place k)
  only_result_by place (Some m.Void) = only_then _ _ (only_skip tokens) (λ _. only_is _)
  only_result_by place _ = only_type_name Other

  pub only_result_type : Only (result_type tokens)
  only_result_type at = only_look _ _ (only_result_by (place_at tokens at)) at
