-- What is found among known entries is known.
use Rattle.std.proofs.Common.{◌≡◌, Bool, true, false, cond, List, [], ◌∷◌, Option, Some, None, subst}
use Rattle.std.specs.Map.{lookup}
use Rattle.std.proofs.lemmas.List.Elements.{All-head, All-tail}
use Rattle.variant_values.specs.declared.cells.Cell.{Cell}
use Rattle.variant_values.specs.declared.values.Key.{Key}
use Rattle.variant_values.specs.declared.values.Value.{Value}
use Rattle.variant_values.specs.Heaps.{knows, knows_key, KnowsEntries}

IsKnown : List (Option Cell) → Option Value → Type 0
IsKnown cells None = Unit {0}
IsKnown cells (Some v) = knows cells v ≡ true

abbrev IsEntryKnown : List (Option Cell) → Key × Value → Type 0
IsEntryKnown cells e = (knows_key cells e.0 ≡ true) × (knows cells e.1 ≡ true)

found : (cells : List (Option Cell)) (test : Key → Bool) (es : List (Key × Value)) → KnowsEntries cells es → IsKnown cells (lookup test es)
unfolding IsKnown
found cells test [] h = tt
found cells test (e ∷ es) h = by (test e.0) (found cells test es (All-tail (IsEntryKnown cells) e es h))
  where
    by : (b : Bool) → IsKnown cells (lookup test es) → IsKnown cells (cond b (Some e.1) (lookup test es))
    by true later = (All-head (IsEntryKnown cells) e es h).1
    by false later = later

pub found_known : (cells : List (Option Cell)) (test : Key → Bool) (es : List (Key × Value)) (v : Value) → KnowsEntries cells es → lookup test es ≡ Some v → knows cells v ≡ true
unfolding IsKnown
found_known cells test es v h is = subst (λ o. IsKnown cells o) is (found cells test es h)
