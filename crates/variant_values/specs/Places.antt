-- Where a cell is held, what it weighs, and whether a sweep may take it.
use Rattle.std.specs.Prelude.{nat_le, ◌-◌, not, is_some, ◌&&◌, ℕ, ◌+◌, Bool, true, false, cond, nat_eq, List, length, Option, Some, None}
use Rattle.std.specs.List.{sum_by, list_any}
use Rattle.variant_values.specs.declared.values.Value.{Value}
use Rattle.variant_values.specs.declared.values.Value.TheVariants.{Null, Bool as Truth, Int, Str, Array, Dict, Object, Callable, Signal, Class, Scene, Weak}
use Rattle.variant_values.specs.declared.values.Key.{Key}
use Rattle.variant_values.specs.declared.values.Key.TheVariants.{Bool as KeyTruth, Int as KeyInt, Str as KeyStr, Object as KeyObject}
use Rattle.variant_values.specs.Classes.{is_ref_counted}
use Rattle.variant_values.specs.declared.cells.Cell.{Cell}
use Rattle.variant_values.specs.declared.cells.Cell.TheVariants.{Array as ArrayCell, Dict as DictCell, Object as ObjectCell}

-- the serial of the cell that a value holds, or 0: callables, signals and weak references hold none
abbrev pub place_of : Value → ℕ
place_of Null = 0
place_of (Truth b) = 0
place_of (Int n) = 0
place_of (Str s) = 0
place_of (Array s) = s.0
place_of (Dict s) = s.0
place_of (Object s) = s.0
place_of (Callable s m) = 0
place_of (Signal s m) = 0
place_of (Class c) = 0
place_of (Scene f p) = 0
place_of (Weak s) = 0

abbrev pub key_place : Key → ℕ
key_place (KeyTruth b) = 0
key_place (KeyInt n) = 0
key_place (KeyStr s) = 0
key_place (KeyObject s) = s.0

-- 1 where the serial that a place holds is x, else 0
abbrev pub one_at : ℕ → ℕ → ℕ
one_at x place = cond (nat_eq place x) 1 0

-- how many places of the cell x a value is
abbrev pub in_value : ℕ → Value → ℕ
in_value x v = one_at x (place_of v)

abbrev pub in_key : ℕ → Key → ℕ
in_key x k = one_at x (key_place k)

abbrev pub in_entry : ℕ → Key × Value → ℕ
in_entry x e = in_key x e.0 + in_value x e.1

abbrev pub in_values : ℕ → List Value → ℕ
in_values x vs = sum_by (in_value x) vs

abbrev pub in_entries : ℕ → List (Key × Value) → ℕ
in_entries x es = sum_by (in_entry x) es

-- how many places of the cell x a cell has
abbrev pub in_cell : ℕ → Cell → ℕ
in_cell x (ArrayCell vs of) = in_values x vs
in_cell x (DictCell es) = in_entries x es
in_cell x (ObjectCell o) = in_values x o.fields

abbrev pub in_slot : ℕ → Option Cell → ℕ
in_slot x None = 0
in_slot x (Some c) = in_cell x c

-- how many places of the cell x all cells have
abbrev pub in_cells : ℕ → List (Option Cell) → ℕ
in_cells x cells = sum_by (in_slot x) cells

-- what a value adds to the weight of an item, a field or an entry
abbrev pub text_weight : Value → ℕ
text_weight Null = 0
text_weight (Truth b) = 0
text_weight (Int n) = 0
text_weight (Str s) = length s
text_weight (Array s) = 0
text_weight (Dict s) = 0
text_weight (Object s) = 0
text_weight (Callable s m) = 0
text_weight (Signal s m) = 0
text_weight (Class c) = 0
text_weight (Scene f p) = 0
text_weight (Weak s) = 0

abbrev pub item_weight : Value → ℕ
item_weight v = 2 + text_weight v

abbrev pub key_weight : Key → ℕ
key_weight (KeyTruth b) = 0
key_weight (KeyInt n) = 0
key_weight (KeyStr s) = length s
key_weight (KeyObject s) = 0

abbrev pub entry_weight : Key × Value → ℕ
entry_weight e = 4 + (key_weight e.0 + text_weight e.1)

abbrev pub cell_weight : Cell → ℕ
cell_weight (ArrayCell vs of) = 16 + sum_by item_weight vs
cell_weight (DictCell es) = 16 + sum_by entry_weight es
cell_weight (ObjectCell o) = 16 + sum_by item_weight o.fields

-- what a weight leaves of so much room, where it has it
abbrev pub room_left : ℕ → ℕ → Option ℕ
room_left room weight = cond (nat_le weight room) (Some (room - weight)) None

abbrev pub slot_weight : Option Cell → ℕ
slot_weight None = 0
slot_weight (Some c) = cell_weight c

-- the weight of all cells
abbrev pub weight : List (Option Cell) → ℕ
weight cells = sum_by slot_weight cells

-- arrays, dictionaries and objects of RefCounted are counted; nodes are not
abbrev pub is_counted_cell : Cell → Bool
is_counted_cell (ArrayCell vs of) = true
is_counted_cell (DictCell es) = true
is_counted_cell (ObjectCell o) = list_any is_ref_counted o.lineage && not (is_some o.node)

abbrev pub is_counted : Option Cell → Bool
is_counted None = false
is_counted (Some c) = is_counted_cell c
