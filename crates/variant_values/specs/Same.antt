-- When two values are equal, by what they contain.
use Rattle.std.specs.Prelude.{◌≡◌, ℕ, ◌<◌, List, length, slice_index_or, Option, Some, is_some}
use Rattle.std.specs.Map.{lookup}
use Rattle.variant_values.specs.declared.cells.Cell.{Cell}
use Rattle.variant_values.specs.declared.values.Key.{Key}
use Rattle.variant_values.specs.declared.values.Serial.{Serial}
use Rattle.variant_values.specs.declared.values.Value.{Value}
use Rattle.variant_values.specs.declared.values.Value.TheVariants.{Null, Array, Dict}
use Rattle.variant_values.specs.Heaps.{cell_at, entries_of, items_of}
use Rattle.variant_values.specs.Keys.{same_key, HasKeysOnce}

abbrev pub items_in : List (Option Cell) → Serial → List Value
items_in cells s = items_of (cell_at cells s.0)

-- what a dictionary has under a key
abbrev pub value_under : List (Option Cell) → Serial → Key → Option Value
value_under cells s k = lookup (same_key k) (entries_of (cell_at cells s.0))

-- Two values are equal where they are one value, or two arrays of equal items in the same order, or two dictionaries of the
-- same keys with equal values under them, in whatever order. The least such relation: each two are equal by a proof of
-- finitely many steps.
pub data IsSame (cells : List (Option Cell)) : Value → Value → Type 0 where
  itself : (v : Value) → IsSame cells v v
  arrays : (a b : Serial) → length (items_in cells a) ≡ length (items_in cells b) → ((i : ℕ) → i < length (items_in cells a) → IsSame cells (slice_index_or (items_in cells a) i Null) (slice_index_or (items_in cells b) i Null)) → IsSame cells (Array a) (Array b)
  dicts : (a b : Serial) → ((k : Key) → is_some (value_under cells a k) ≡ is_some (value_under cells b k)) → ((k : Key) (v w : Value) → value_under cells a k ≡ Some v → value_under cells b k ≡ Some w → IsSame cells v w) → IsSame cells (Dict a) (Dict b)

-- no key stands twice in a dictionary
abbrev pub HaveKeysOnce : List (Option Cell) → Type 0
HaveKeysOnce cells = (x : ℕ) → HasKeysOnce (entries_of (cell_at cells x))
