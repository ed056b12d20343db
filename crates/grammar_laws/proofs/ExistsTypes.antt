-- Each reading of a type has an outcome.
use Rattle.std.proofs.Common.{ℕ, List, [], ◌∷◌, Option, Some, None, refl}
use Rattle.gd_syntax.specs.declared.fault.Place.{Place}
use Rattle.gd_syntax.specs.declared.fault.Form.{Form as Taken}
use Rattle.gd_syntax.specs.declared.token.Token.{Token}
use Rattle.gd_syntax.specs.declared.token.Mark.{Mark}
use Rattle.gd_syntax.specs.declared.token.Mark.TheVariants as m
use Rattle.gd_syntax.specs.declared.stops.Sought.{Sought}
use Rattle.gd_syntax.specs.declared.stops.Sought.TheVariants.{Other}
use Rattle.gd_syntax.specs.Reading.{Then, Look, Loop}
use Rattle.gd_syntax.specs.TokenReading.{mark_of, mark_at, place_at, plain_name, OneOf}
use Rattle.gd_syntax.specs.TypeGrammar.{dotted, dotted_by, bracket_form, typed_by, type_name, result_by, result_type}
use Rattle.grammar_laws.proofs.Exists.{Reads, Takes, Moves, taken, reads_then, reads, sound_look, sound_stops, sound_at, reads_give, goes_on, ends, moves_look, Ends, ends_look, reads_loop, takes_skip, takes_one}

module _ (tokens : List Token) where
  moves_dotted_by : (sofar : List (List ℕ)) (k : Option Mark) → Moves (dotted_by tokens sofar k)
  moves_dotted_by sofar (Some m.Dot) = goes_on _ (taken _ _ (takes_skip tokens) (λ _. reads _ (taken _ _ (takes_one tokens plain_name Other) (λ name. reads_give _))))
  moves_dotted_by sofar _ = ends sofar

  ends_dotted : (sofar : List (List ℕ)) → Ends tokens (dotted tokens sofar)
  ends_dotted sofar = ends_look tokens (mark_at tokens) (dotted_by tokens sofar) (λ k at. mark_of k) (λ at. refl) (λ at next b i e. cc e)

  reads_dots : (names : List (List ℕ)) → Reads (Loop (dotted tokens) names)
  reads_dots names = reads_loop tokens (dotted tokens) (λ sofar. moves_look _ _ (moves_dotted_by sofar)) ends_dotted names

  reads_typed_by : (place : Place) (names : List (List ℕ)) (form : Option Taken) → Reads (typed_by tokens place names form)
  reads_typed_by place names (Some form) = sound_stops 0 _
  reads_typed_by place names None = reads_give _

  pub takes_type_name : (sought : Sought) → Takes (type_name tokens sought)
  takes_type_name sought = sound_at 1 (λ place. Then (OneOf tokens plain_name sought) (λ first. Then (Loop (dotted tokens) (first ∷ []))
      (λ names. Look (λ to. bracket_form names (mark_at tokens to)) (typed_by tokens (place_at tokens place) names))))
      (λ at. taken _ _ (takes_one tokens plain_name sought) (λ first. reads_then _ _ (reads_dots (first ∷ [])) (λ names. sound_look 0 _ _ (reads_typed_by (place_at tokens at) names))))

  takes_result_by : (place : Place) (k : Option Mark) → Takes (result_by tokens place k)
  takes_result_by place (Some m.Void) = taken _ _ (takes_skip tokens) (λ _. reads_give _)
  takes_result_by place _ = takes_type_name Other

  pub takes_result_type : Takes (result_type tokens)
  takes_result_type = sound_at 1 (λ place. Look (mark_at tokens) (result_by tokens (place_at tokens place))) (λ at. sound_look 1 _ _ (takes_result_by (place_at tokens at)))
