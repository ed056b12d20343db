-- Which values patterns match, and what they bind.
use Rattle.std.specs.Prelude.{ℕ, Bool, true, false, nat_le, ◌==◌, if◌then◌else◌, List, [], ◌∷◌, ◌++◌, length, Option, Some, None, Result, Ok, Err}
use Rattle.std.specs.List.{list_any, list_all}
use Rattle.std.specs.Map.{lookup}
use Rattle.folder_meaning.specs.declared.script_type.ScriptType.TheVariants.{Variant}
use Rattle.gd_syntax.specs.declared.fault.Place.{Place}
use Rattle.gd_syntax.specs.declared.tree.expr.Literal.{Literal}
use Rattle.gd_syntax.specs.declared.tree.pattern.Pattern.{Pattern}
use Rattle.gd_syntax.specs.declared.tree.pattern.Pattern.TheOpen.{Pattern-F, PatternEntry-F}
use Rattle.gd_syntax.specs.declared.tree.pattern.Pattern.TheFolds.{fold-Pattern}
use Rattle.variant_values.specs.declared.faults.RunFault.{RunFault}
use Rattle.variant_values.specs.declared.operators.UnaryOp.TheVariants as unary
use Rattle.variant_values.specs.declared.values.Key.{Key}
use Rattle.variant_values.specs.declared.values.Value.{Value}
use Rattle.variant_values.specs.declared.values.Value.TheVariants.{Array, Dict}
use Rattle.variant_values.specs.Comparisons.{same_value}
use Rattle.variant_values.specs.Heaps.{cell_at, items_of, entries_of}
use Rattle.variant_values.specs.Keys.{same_key}
use Rattle.variant_values.specs.Operators.{key_of, unary_of}
use Rattle.script_meaning.specs.State.{Local, opens, ◌>>=◌}
use Rattle.script_meaning.specs.Projects.{Project}
use Rattle.script_meaning.specs.Meanings.{Given-to, Means, site_of, gives_by, fails}
use Rattle.script_meaning.specs.Exprs.{literal_value, name_means, member_means}

-- what is bound, or that the value does not match
abbrev pub Matched : Type 0
Matched = Option (List Local)

-- what a pattern makes of a value
abbrev pub Matches : Type 0
Matches = Value → Given-to Matched

-- an entry of a dictionary pattern: its key, where its literal can be one, and the pattern of the value
pub record KeyMatches : Type 0 where
  pub key : Result Key RunFault
  pub value : Option Matches

-- what more is bound, where the rest matched
abbrev pub bound_before : List Local → Matched → Matched
bound_before ls None = None
bound_before ls (Some more) = Some (ls ++ more)

-- where the first part matched, the others are tried
abbrev pub and_match : Matched → Given-to Matched → Given-to Matched
and_match None rest h m = Ok (None, m)
and_match (Some ls) rest h m = do
  x ← rest h m
  Ok (bound_before ls x.0, x.1)

-- a match that binds nothing
abbrev pub test : Bool → Given-to Matched
test b h m = Ok ((if b then Some [] else None), m)

-- the same of a comparison, which may have a fault
abbrev pub test_by : Result Bool RunFault → Given-to Matched
test_by (Ok b) h m = test b h m
test_by (Err kind) h m = fails kind (site_of h) m

-- of the same kind, and equal
abbrev pub equals : Value → Matches
equals p v h m = test_by (same_value m.world.cells v p) h m

-- an array pattern needs the same length, or at least so many items where more may follow
abbrev pub fits_length : Bool → ℕ → ℕ → Bool
fits_length unended wanted found = if unended then nat_le wanted found else wanted == found

-- the items, one after the other
abbrev pub items_match : List Matches → List Value → Given-to Matched
items_match [] vs h m = Ok (Some [], m)
items_match (p ∷ ps) [] h m = Ok (None, m)
items_match (p ∷ ps) (v ∷ vs) h m = do
  x ← p v h m
  and_match x.0 (items_match ps vs) h x.1

-- the length is asked first, and then each item in order
abbrev pub array_matches : List Matches → Bool → Matches
array_matches ps unended (Array s) h m =
    let vs : List Value = items_of (cell_at m.world.cells s.0) in
    and_match (if fits_length unended (length ps) (length vs) then Some [] else None) (items_match ps vs) h m
array_matches ps unended v h m = Ok (None, m)

-- the value of a key, where the dictionary has it; without a pattern any value matches
abbrev pub value_matches : Option Matches → Option Value → Given-to Matched
value_matches p None h m = Ok (None, m)
value_matches None (Some v) h m = Ok (Some [], m)
value_matches (Some p) (Some v) h m = p v h m

-- the value of a key in a dictionary
abbrev pub found_by : List (Key × Value) → Result Key RunFault → Option Value
found_by es (Ok k) = lookup (same_key k) es
found_by es (Err kind) = None

-- each key of the pattern, one after the other
abbrev pub entries_match : List KeyMatches → List (Key × Value) → Given-to Matched
entries_match [] es h m = Ok (Some [], m)
entries_match (p ∷ ps) es h m = do
  x ← value_matches p.value (found_by es p.key) h m
  and_match x.0 (entries_match ps es) h x.1

-- whether a key is that of an entry of the pattern
abbrev pub is_its_key : Key → Result Key RunFault → Bool
is_its_key k (Ok key) = same_key key k
is_its_key k (Err kind) = false

-- whether the pattern has each key of the dictionary
abbrev pub no_others : List KeyMatches → List (Key × Value) → Bool
no_others ps es = list_all (λ e. list_any (λ p. is_its_key e.0 p.key) ps) es

-- a dictionary pattern takes no other keys, unless there may be more
abbrev pub fits_keys : Bool → List KeyMatches → List (Key × Value) → Bool
fits_keys unended ps es = if unended then true else no_others ps es

-- that there are no other keys is asked first, and then each entry of the pattern in order
abbrev pub dict_matches : List KeyMatches → Bool → Matches
dict_matches ps unended (Dict s) h m =
    let es : List (Key × Value) = entries_of (cell_at m.world.cells s.0) in
    and_match (if fits_keys unended ps es then Some [] else None) (entries_match ps es) h m
dict_matches ps unended v h m = Ok (None, m)

-- a literal, and with `-` before it the number turned round
abbrev pub literal_matches : Bool → Literal → Matches
literal_matches false value v h m = equals (literal_value value) v h m
literal_matches true value v h m = do
  x ← gives_by (unary_of unary.Neg (literal_value value)) (site_of h) m
  equals x.0 v h x.1

-- the first of the patterns of a branch that matches
abbrev pub or_match : Matched → Given-to Matched → Given-to Matched
or_match (Some ls) rest h m = Ok (Some ls, m)
or_match None rest h m = rest h m

-- the patterns of a branch, one after the other
abbrev pub any_matches : List Matches → Matches
any_matches [] v h m = Ok (None, m)
any_matches (p ∷ ps) v h m = do
  x ← p v h m
  or_match x.0 (any_matches ps v) h x.1

-- the key of an entry, which null cannot be
abbrev pub key_of_entry : Literal → Result Key RunFault
key_of_entry key = key_of (literal_value key)

-- one layer of an entry
abbrev pub entry_step : PatternEntry-F Matches KeyMatches → KeyMatches
entry_step e = record { key = key_of_entry e.key; value = e.value }

module _ (project : Project) where
  -- the names behind the first, one after the other
  abbrev pub members_means : Place → Means → List (List ℕ) → Means
  members_means place a [] = a
  members_means place a (name ∷ names) = members_means place (member_means project place a name) names

  -- names between dots are read as in an expression
  abbrev pub path_matches : Place → List (List ℕ) → Matches
  path_matches place [] v h m = Ok (None, m)
  path_matches place (name ∷ names) v h m = do
    x ← (members_means place (name_means project place name) names).value h m
    equals x.0 v h x.1

  -- one layer of a pattern, over the meanings of its parts
  abbrev pub pattern_step : Pattern-F Matches KeyMatches → Matches
  pattern_step (Pattern-F.Wildcard place) v h m = Ok (Some [], m)
  pattern_step (Pattern-F.Bind place name) v h m = Ok (Some (opens name.name Variant v), m)
  pattern_step (Pattern-F.Literal place minus value) v h m = literal_matches minus value v h m
  pattern_step (Pattern-F.Path place names) v h m = path_matches place names v h m
  pattern_step (Pattern-F.Array place all unended) v h m = array_matches all unended v h m
  pattern_step (Pattern-F.Dict place all unended) v h m = dict_matches all unended v h m

  -- what a pattern matches and binds
  unfoldable pub pattern : Pattern → Matches
  pattern = fold-Pattern Matches KeyMatches pattern_step entry_step
