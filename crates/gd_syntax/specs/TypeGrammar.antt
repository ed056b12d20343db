-- The grammar of types.
use Rattle.std.specs.Prelude.{◌≡◌, ℕ, if◌then◌else◌, List, [], ◌∷◌, ◌++◌, codes, bytes_eq, Option, Some, None}
use Rattle.gd_syntax.specs.declared.fault.Place.{Place}
use Rattle.gd_syntax.specs.declared.fault.FaultKind.TheVariants.{Unsupported}
use Rattle.gd_syntax.specs.declared.fault.Form.{Form}
use Rattle.gd_syntax.specs.declared.fault.Form.TheVariants.{TypedArray, TypedDictionary}
use Rattle.gd_syntax.specs.declared.token.Token.{Token}
use Rattle.gd_syntax.specs.declared.token.Mark.{Mark}
use Rattle.gd_syntax.specs.declared.token.Mark.TheVariants as m
use Rattle.gd_syntax.specs.declared.tree.type_name.TypeName.{TypeName}
use Rattle.gd_syntax.specs.declared.tree.type_name.TypeName.TheVariants as t
use Rattle.gd_syntax.specs.Reading.{Stops, Reading, ◌>>=◌, ◌>>◌, give, Look, Turn, On, Last, Loop}
use Rattle.gd_syntax.specs.declared.stops.Sought.{Sought}
use Rattle.gd_syntax.specs.declared.stops.Sought.TheVariants.{Other}
use Rattle.gd_syntax.specs.TokenReading.{plain_name, mark_at, place_at, fault_at, skip, OneOf}

-- the types that no bracket may follow, as each would have the type of its elements
abbrev pub element_form : List (List ℕ) → Option Form
element_form (name ∷ []) = if bytes_eq name (codes "Array") then Some TypedArray else if bytes_eq name (codes "Dictionary") then Some TypedDictionary else None
element_form _ = None

-- the form that the token would make of the type
abbrev pub bracket_form : List (List ℕ) → Option Mark → Option Form
bracket_form names (Some m.LBracket) = element_form names
bracket_form names _ = None

module _ (tokens : List Token) where
  -- the names between dots: a dot goes on, and a name is due after it
  abbrev pub dotted_by : List (List ℕ) → Option Mark → Reading (Turn (List (List ℕ)))
  dotted_by sofar (Some m.Dot) = do skip tokens; name ← OneOf tokens plain_name Other; give (On (sofar ++ name ∷ []))
  dotted_by sofar _ = give (Last sofar)

  abbrev pub dotted : List (List ℕ) → Reading (Turn (List (List ℕ)))
  dotted sofar = Look (mark_at tokens) (dotted_by sofar)

  -- a type whose names are read
  abbrev pub typed_by : Place → List (List ℕ) → Option Form → Reading TypeName
  typed_by place names (Some form) = λ at o. o ≡ Stops (fault_at tokens (Unsupported form) at)
  typed_by place names None = give (t.Named place names None)

  -- a type
  abbrev pub type_name : Sought → Reading TypeName
  type_name sought = λ at. (do
    first ← OneOf tokens plain_name sought
    names ← Loop dotted (first ∷ [])
    Look (λ to. bracket_form names (mark_at tokens to)) (typed_by (place_at tokens at) names)) at

  -- the type of a result, which may be `void`
  abbrev pub result_by : Place → Option Mark → Reading TypeName
  result_by place (Some m.Void) = do skip tokens; give (t.Void place)
  result_by place _ = type_name Other

  abbrev pub result_type : Reading TypeName
  result_type = λ at. Look (mark_at tokens) (result_by (place_at tokens at)) at
