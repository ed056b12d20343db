-- Tests of the part of a value that is under a match.
use Rattle.std.specs.Prelude.{ℕ, Bool, true, false, List, [], map, length, slice_get, Option, Some, None}
use Rattle.std.specs.List.{list_any, list_all}
use Rattle.folder_meaning.specs.declared.const_value.ConstValue.{ConstValue}
use Rattle.folder_meaning.specs.declared.const_value.ConstValue.TheOpen.{ConstValue-F}
use Rattle.folder_meaning.specs.declared.const_value.ConstValue.TheFolds.{fold-ConstValue}
use Rattle.variant_values.specs.declared.cells.Cell.{Cell}
use Rattle.variant_values.specs.declared.values.Key.{Key}
use Rattle.variant_values.specs.declared.values.Value.{Value}
use Rattle.variant_values.specs.declared.values.Value.TheVariants.{Null, Bool as Truth, Int, Str, Array, Dict, Class, Scene}
use Rattle.variant_values.specs.Heaps.{cell_at, items_of, entries_of}
use Rattle.variant_values.specs.Operators.{key_of}
use Rattle.script_meaning.specs.Patterns.{fits_length, found_by, is_its_key}

-- A constant as a pattern has it: a value that stands in no cell, and the items of an array.
pub record Plain : Type 0 where
  pub value : Value
  pub items : List Value

abbrev pub alone : Value → Plain
alone v = record { value = v; items = [] }

abbrev pub plain_step : ConstValue-F Plain → Plain
plain_step ConstValue-F.Null = alone Null
plain_step (ConstValue-F.Bool b) = alone (Truth b)
plain_step (ConstValue-F.Int n) = alone (Int n)
plain_step (ConstValue-F.Str text) = alone (Str text)
plain_step (ConstValue-F.Array all) = record { value = Null; items = map (λ p. p.value) all }
plain_step (ConstValue-F.Dict all) = alone Null
plain_step (ConstValue-F.Class class) = alone (Class class)
plain_step (ConstValue-F.Scene file path) = alone (Scene file path)

unfoldable pub plain : ConstValue → Plain
plain = fold-ConstValue Plain plain_step

abbrev pub plain_at : List ConstValue → ℕ → Plain
plain_at constants k = elim (slice_get constants k) [ Some c ↦ plain c | None ↦ alone Null ]

-- an array with so many items, or more
abbrev pub is_array_of : List (Option Cell) → ℕ → Bool → Option Value → Bool
is_array_of cells count or_more (Some (Array a)) = fits_length or_more count (length (items_of (cell_at cells a.0)))
is_array_of cells count or_more v = false

abbrev pub is_dict : Option Value → Bool
is_dict (Some (Dict d)) = true
is_dict v = false

-- each key of the dictionary is one of these
abbrev pub has_only : List Value → List (Key × Value) → Bool
has_only keys es = list_all (λ e. list_any (λ k. is_its_key e.0 (key_of k)) keys) es

abbrev pub is_dict_of : List (Option Cell) → List Value → Option Value → Bool
is_dict_of cells keys (Some (Dict d)) = has_only keys (entries_of (cell_at cells d.0))
is_dict_of cells keys v = false

abbrev pub item_in : List (Option Cell) → ℕ → Option Value → Option Value
item_in cells place (Some (Array a)) = slice_get (items_of (cell_at cells a.0)) place
item_in cells place v = None

abbrev pub entry_in : List (Option Cell) → Value → Option Value → Option Value
entry_in cells key (Some (Dict d)) = found_by (entries_of (cell_at cells d.0)) (key_of key)
entry_in cells key v = None
