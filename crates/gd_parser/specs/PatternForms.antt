-- The readings of patterns, where a part is a pattern with one form more open round it. In one that is free a `var` may
-- stand.
use Rattle.std.specs.Prelude.{ℕ, ◌-◌, Bool, true, false, List, [], ◌∷◌, codes, bytes_eq, Option, Some, None}
use Rattle.gd_syntax.specs.declared.fault.Place.{Place}
use Rattle.gd_syntax.specs.declared.token.Token.{Token}
use Rattle.gd_syntax.specs.declared.token.Kind.{Kind}
use Rattle.gd_syntax.specs.declared.token.Kind.TheVariants.{Mark as Marked}
use Rattle.gd_syntax.specs.declared.token.Mark.TheVariants as m
use Rattle.gd_syntax.specs.declared.tree.expr.Literal.{Literal}
use Rattle.gd_syntax.specs.declared.tree.pattern.Pattern.{Pattern}
use Rattle.gd_syntax.specs.declared.tree.pattern.Pattern.TheVariants as p
use Rattle.gd_syntax.specs.declared.tree.pattern.PatternEntry.{PatternEntry}
use Rattle.gd_syntax.specs.Reading.{Reading, ◌>>=◌, either, Turn, Look}
use Rattle.gd_syntax.specs.declared.stops.Sought.TheVariants.{Other}
use Rattle.gd_syntax.specs.TokenReading.{kind_at, mark_at, place_at, literal_of, refuse}
use Rattle.gd_syntax.specs.PatternGrammar as grammar
use Rattle.gd_syntax.specs.StatementGrammar as branches

-- whether a pattern begins with this token
abbrev pub begins : Bool → Kind → Bool
begins true kind = grammar.is_pattern kind
begins false kind = branches.is_unbound kind

-- `_` alone
abbrev pub is_wildcard : List (List ℕ) → Bool
is_wildcard (name ∷ []) = bytes_eq name (codes "_")
is_wildcard names = false

module _ (tokens : List Token) (free : Bool) where
  -- a pattern, where there is room for so many levels
  abbrev pub pattern : ℕ → Reading Pattern
  pattern room = either free (grammar.pattern tokens room) (branches.unbound tokens room)

  -- where no pattern may begin any more
  abbrev pub full : Reading Pattern
  full = either free (grammar.full_pattern tokens) (branches.full_unbound tokens)

  module _ (room : ℕ) where
    abbrev pub inner : Reading Pattern
    inner = pattern (room - 1)

    abbrev pub bind : Place → Reading Pattern
    bind place = either free (grammar.bind tokens room inner place) (refuse tokens Other)

    abbrev pub negative : Place → Reading Pattern
    negative = grammar.negative tokens room inner

    abbrev pub leaf : Pattern → Reading Pattern
    leaf = grammar.leaf_pattern tokens room inner

    abbrev pub path_step : List (List ℕ) → Reading (Turn (List (List ℕ)))
    path_step sofar = Look (mark_at tokens) (grammar.names_by tokens room inner sofar)

    abbrev pub path : Place → Reading Pattern
    path = grammar.path tokens room inner

    -- ---- lists in brackets

    abbrev pub more : List Pattern → Reading (Turn (List Pattern))
    more = grammar.more tokens inner

    abbrev pub items : Reading (List Pattern)
    items = grammar.items tokens inner m.RBracket

    abbrev pub array : Place → Reading Pattern
    array = grammar.array_pattern tokens room inner

    abbrev pub key : Reading Literal
    key = Look (λ at. literal_of (kind_at tokens at)) (grammar.key_by tokens room inner)

    abbrev pub entry : Reading PatternEntry
    entry = grammar.entry_pattern tokens room inner

    abbrev pub more_entries : List PatternEntry → Reading (Turn (List PatternEntry))
    more_entries = grammar.more tokens entry

    abbrev pub entries : Reading (List PatternEntry)
    entries = grammar.items tokens entry m.RBrace

    abbrev pub dict : Place → Reading Pattern
    dict = grammar.dict_pattern tokens room inner

    -- ---- whole patterns

    abbrev pub other_by : Place → Kind → Reading Pattern
    other_by place (Marked m.Var) = bind place
    other_by place kind = grammar.other_pattern_by tokens room inner place kind

    -- a pattern that begins with no literal
    abbrev pub other : Place → Reading Pattern
    other place = Look (kind_at tokens) (other_by place)

    abbrev pub form_by : Place → Option Literal → Reading Pattern
    form_by place (Some value) = leaf (p.Literal place false value)
    form_by place None = other place

    -- all but what may not follow it
    abbrev pub unfinished : Place → Reading Pattern
    unfinished place = Look (λ to. literal_of (kind_at tokens to)) (form_by place)

    abbrev pub form : Reading Pattern
    form = λ at. (do tree ← unfinished (place_at tokens at); grammar.finished tokens room inner tree) at
