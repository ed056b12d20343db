-- What a deep copy is, however it is made, after the Godot manual's pages of Array and Dictionary (`duplicate`).
use Rattle.std.specs.Prelude.{◌≡◌, ◌≤◌, Bool, true, false, List, [], ◌∷◌, length, map, Option, Some}
use Rattle.variant_values.specs.declared.cells.Cell.{Cell}
use Rattle.variant_values.specs.declared.cells.Cell.TheVariants.{Array as ArrayCell, Dict as DictCell}
use Rattle.variant_values.specs.declared.values.Key.{Key}
use Rattle.variant_values.specs.declared.values.Serial.{Serial}
use Rattle.variant_values.specs.declared.values.Value.{Value}
use Rattle.variant_values.specs.declared.values.Value.TheVariants.{Null, Bool as Truth, Int, Str, Array, Dict, Object, Callable, Signal, Class, Scene, Weak}
use Rattle.variant_values.specs.ElementTypes.{element_of}
use Rattle.variant_values.specs.Heaps.{cell_at, items_of, entries_of}

abbrev pub is_container : Value → Bool
is_container Null = false
is_container (Truth b) = false
is_container (Int n) = false
is_container (Str s) = false
is_container (Array s) = true
is_container (Dict s) = true
is_container (Object s) = false
is_container (Callable s m) = false
is_container (Signal s m) = false
is_container (Class c) = false
is_container (Scene f p) = false
is_container (Weak s) = false

abbrev pub keys_of : List (Key × Value) → List Key
keys_of es = map (λ e. e.0) es

abbrev pub values_of : List (Key × Value) → List Value
values_of es = map (λ e. e.1) es

-- Values, and their copies one by one. An array or a dictionary among the cells `old` has a copy among the cells `new` that
-- did not stand in `old`: an array of the same element type, with the copies of the items in their order, or a dictionary
-- with the copies of the values under the same keys in the same order. Any other value is its own copy.
pub data AreCopies (old new : List (Option Cell)) : List Value → List Value → Type 0 where
  none : AreCopies old new [] []
  shared : (v : Value) (vs ws : List Value) → is_container v ≡ false → AreCopies old new vs ws → AreCopies old new (v ∷ vs) (v ∷ ws)
  array : (s t : Serial) (items vs ws : List Value) → length old ≤ t.0 → cell_at new t.0 ≡ Some (ArrayCell items (element_of (cell_at old s.0))) → AreCopies old new (items_of (cell_at old s.0)) items → AreCopies old new vs ws → AreCopies old new (Array s ∷ vs) (Array t ∷ ws)
  dict : (s t : Serial) (entries : List (Key × Value)) (vs ws : List Value) → length old ≤ t.0 → cell_at new t.0 ≡ Some (DictCell entries) → keys_of entries ≡ keys_of (entries_of (cell_at old s.0)) → AreCopies old new (values_of (entries_of (cell_at old s.0))) (values_of entries) → AreCopies old new vs ws → AreCopies old new (Dict s ∷ vs) (Dict t ∷ ws)

-- w is a deep copy of v
abbrev pub IsDeepCopy : List (Option Cell) → List (Option Cell) → Value → Value → Type 0
IsDeepCopy old new v w = AreCopies old new (v ∷ []) (w ∷ [])
