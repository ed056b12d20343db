-- The grammar of patterns.
use Rattle.std.specs.Prelude.{◌≡◌, ℕ, zero, suc, ◌+◌, Bool, true, false, if◌then◌else◌, List, [], ◌∷◌, ◌++◌, codes, bytes_eq, Option, Some, None}
use Rattle.gd_syntax.specs.declared.fault.Place.{Place}
use Rattle.gd_syntax.specs.declared.fault.FaultKind.TheVariants.{NestTooDeep, Unsupported}
use Rattle.gd_syntax.specs.declared.fault.Form.TheVariants.{When}
use Rattle.gd_syntax.specs.declared.token.Token.{Token}
use Rattle.gd_syntax.specs.declared.token.Kind.{Kind}
use Rattle.gd_syntax.specs.declared.token.Kind.TheVariants.{Mark as Marked, Name}
use Rattle.gd_syntax.specs.declared.token.Mark.{Mark}
use Rattle.gd_syntax.specs.declared.token.Mark.TheVariants as m
use Rattle.gd_syntax.specs.declared.tree.expr.Literal.{Literal}
use Rattle.gd_syntax.specs.declared.tree.pattern.Pattern.{Pattern}
use Rattle.gd_syntax.specs.declared.tree.pattern.Pattern.TheVariants as p
use Rattle.gd_syntax.specs.declared.tree.pattern.PatternEntry.{PatternEntry}
use Rattle.gd_syntax.specs.Reading.{Read, Stops, Reading, ◌>>=◌, ◌>>◌, give, Look, Turn, On, Last, Loop}
use Rattle.gd_syntax.specs.declared.stops.Sought.TheVariants.{Other}
use Rattle.gd_syntax.specs.TokenReading.{any_name, plain_name, is_plain, literal_of, kind_at, mark_at, place_at, fault_at, skip, refuse, refusal_at, Due, OneOf, identifier, fits}

-- whether a pattern begins with this token that is no literal
abbrev pub is_other_pattern : Kind → Bool
is_other_pattern (Name text) = is_plain text
is_other_pattern (Marked m.Var) = true
is_other_pattern (Marked m.Minus) = true
is_other_pattern (Marked m.LBracket) = true
is_other_pattern (Marked m.LBrace) = true
is_other_pattern _ = false

abbrev pub is_pattern_by : Kind → Option Literal → Bool
is_pattern_by kind (Some value) = true
is_pattern_by kind None = is_other_pattern kind

-- whether a pattern begins with this token
abbrev pub is_pattern : Kind → Bool
is_pattern kind = is_pattern_by kind (literal_of kind)

-- `when` is a keyword after a pattern
abbrev pub is_when : Kind → Bool
is_when (Name text) = bytes_eq text (codes "when")
is_when _ = false

-- whether no item begins with this token, after the bracket that opens a list
abbrev pub ends_items : Mark → Option Mark → Bool
ends_items closing (Some m.Comma) = true
ends_items closing (Some m.DotDot) = true
ends_items m.RBrace (Some m.RBrace) = true
ends_items m.RBracket (Some m.RBracket) = true
ends_items _ _ = false

-- whether an item follows a comma
abbrev pub goes_on : Option Mark → Option Mark → Bool
goes_on (Some m.Comma) (Some m.DotDot) = false
goes_on (Some m.Comma) _ = true
goes_on _ _ = false

-- `_` alone is the wildcard
abbrev pub path_pattern : Place → List (List ℕ) → Pattern
path_pattern place (name ∷ []) = if bytes_eq name (codes "_") then p.Wildcard place else p.Path place (name ∷ [])
path_pattern place names = p.Path place names

module _ (tokens : List Token) where
  -- ---- lists in brackets that may end with `..`, and whether they do

  abbrev pub more_by : {A : Type 0} → Reading A → List A → Bool → Reading (Turn (List A))
  more_by item sofar true = do skip tokens; x ← item; give (On (sofar ++ x ∷ []))
  more_by item sofar false = give (Last sofar)

  abbrev pub more : {A : Type 0} → Reading A → List A → Reading (Turn (List A))
  more item sofar = Look (λ at. goes_on (mark_at tokens at) (mark_at tokens (at + 1))) (more_by item sofar)

  abbrev pub items_by : {A : Type 0} → Reading A → Bool → Reading (List A)
  items_by item true = give []
  items_by item false = do x ← item; Loop (more item) (x ∷ [])

  abbrev pub items : {A : Type 0} → Reading A → Mark → Reading (List A)
  items item closing = Look (λ at. ends_items closing (mark_at tokens at)) (items_by item)

  abbrev pub rest_by : Option Mark → Reading Bool
  rest_by (Some m.Comma) = do skip tokens; Due tokens Other m.DotDot; give true
  rest_by (Some m.DotDot) = do skip tokens; give true
  rest_by _ = give false

  abbrev pub open_list : {A : Type 0} → Reading A → Mark → Reading (List A × Bool)
  open_list item closing = do
    all ← items item closing
    unended ← Look (mark_at tokens) rest_by
    Due tokens Other closing
    give (all, unended)

  -- ---- patterns

  -- A pattern is read where there is room for one level at least. `inner` reads a pattern inside the one that has begun.
  module _ (room : ℕ) (inner : Reading Pattern) where
    abbrev pub leaf_pattern : Pattern → Reading Pattern
    leaf_pattern tree = do skip tokens; give tree

    abbrev pub bind : Place → Reading Pattern
    bind place = do skip tokens; name ← identifier tokens; give (p.Bind place name)

    abbrev pub negative : Place → Reading Pattern
    negative place = do skip tokens; value ← OneOf tokens literal_of Other; give (p.Literal place true value)

    abbrev pub names_by : List (List ℕ) → Option Mark → Reading (Turn (List (List ℕ)))
    names_by sofar (Some m.Dot) = do skip tokens; name ← OneOf tokens any_name Other; give (On (sofar ++ name ∷ []))
    names_by sofar _ = give (Last sofar)

    abbrev pub path : Place → Reading Pattern
    path place = do
      first ← OneOf tokens plain_name Other
      names ← Loop (λ sofar. Look (mark_at tokens) (names_by sofar)) (first ∷ [])
      give (path_pattern place names)

    abbrev pub array_pattern : Place → Reading Pattern
    array_pattern place = do skip tokens; all ← open_list inner m.RBracket; give (p.Array place all.0 all.1)

    -- a key is a leaf
    abbrev pub key_by : Option Literal → Reading Literal
    key_by (Some value) = do fits tokens room 2; skip tokens; give value
    key_by None = refuse tokens Other

    abbrev pub value_by : Option Mark → Reading (Option Pattern)
    value_by (Some m.Colon) = do skip tokens; x ← inner; give (Some x)
    value_by _ = give None

    abbrev pub entry_at : Place → Reading PatternEntry
    entry_at place = do
      key ← Look (λ at. literal_of (kind_at tokens at)) key_by
      x ← Look (mark_at tokens) value_by
      give (record { place = place; key = key; value = x })

    abbrev pub entry_pattern : Reading PatternEntry
    entry_pattern = λ at. entry_at (place_at tokens at) at

    abbrev pub dict_pattern : Place → Reading Pattern
    dict_pattern place = do skip tokens; all ← open_list entry_pattern m.RBrace; give (p.Dict place all.0 all.1)

    -- a pattern that begins with no literal
    abbrev pub other_pattern_by : Place → Kind → Reading Pattern
    other_pattern_by place (Marked m.Var) = bind place
    other_pattern_by place (Marked m.Minus) = negative place
    other_pattern_by place (Marked m.LBracket) = array_pattern place
    other_pattern_by place (Marked m.LBrace) = dict_pattern place
    other_pattern_by place _ = path place

    abbrev pub pattern_by : Place → Option Literal → Reading Pattern
    pattern_by place (Some value) = leaf_pattern (p.Literal place false value)
    pattern_by place None = Look (kind_at tokens) (other_pattern_by place)

    -- `when` never follows a pattern
    abbrev pub finished : Pattern → Reading Pattern
    finished tree = λ at o. o ≡ (if is_when (kind_at tokens at) then Stops (fault_at tokens (Unsupported When) at) else Read tree at)

    abbrev pub pattern_form : Reading Pattern
    pattern_form = λ at. (do tree ← Look (λ to. literal_of (kind_at tokens to)) (pattern_by (place_at tokens at)); finished tree) at

  -- Where no pattern may begin any more, a token that could begin one is too deep.
  abbrev pub full_pattern : Reading Pattern
  full_pattern = λ at o. o ≡ Stops (if is_pattern (kind_at tokens at) then fault_at tokens NestTooDeep at else refusal_at tokens Other at)

  -- a pattern, where there is room for so many levels
  unfoldable pub pattern : ℕ → Reading Pattern
  pattern zero = full_pattern
  pattern (suc room) = pattern_form (suc room) (pattern room)
