-- What takes items out of an array makes no heap heavier.
use Rattle.std.proofs.Common.{◌≡◌, ℕ, ◌+◌, ◌≤◌, true, List, [], ◌∷◌, ◌++◌, take, drop, length, set, ap, Option, Some, None, arith}
use Rattle.std.specs.List.{sum_by}
use Rattle.std.proofs.lemmas.List.{drop-drop}
use Rattle.std.proofs.lemmas.List.Sums.{sum_by-append, sum_by-set, sum_by-take-drop}
use Rattle.variant_values.specs.declared.values.Value.{Value}
use Rattle.variant_values.specs.declared.cells.Cell.{Cell}
use Rattle.variant_values.specs.declared.cells.Cell.TheVariants.{Array as ArrayCell, Dict as DictCell, Object as ObjectCell}
use Rattle.variant_values.specs.Places.{item_weight, slot_weight, weight}
use Rattle.variant_values.specs.Heaps.{cell_at, is_array, items_of, items_put, spliced}
use Rattle.variant_values.proofs.Knowing.{array_within}

part_lighter : (vs : List Value) (at out : ℕ) → sum_by item_weight (spliced vs at out []) ≤ sum_by item_weight vs
part_lighter vs at out = omega (arith, sum_by-append item_weight (take at vs ++ []) (drop (at + out) vs), sum_by-append item_weight (take at vs) [], sum_by-take-drop item_weight vs at, sum_by-take-drop item_weight (drop at vs) out, ap (sum_by item_weight) (drop-drop out at vs))

slot_lighter : (s : Option Cell) (at out : ℕ) → slot_weight (items_put (spliced (items_of s) at out []) s) ≤ slot_weight s
slot_lighter None at out = omega arith
slot_lighter (Some (ArrayCell vs of)) at out = omega (arith, part_lighter vs at out)
slot_lighter (Some (DictCell es)) at out = omega arith
slot_lighter (Some (ObjectCell o)) at out = omega arith

pub removal_lighter : (cells : List (Option Cell)) (x at out : ℕ) → is_array (cell_at cells x) ≡ true → weight (set cells x (items_put (spliced (items_of (cell_at cells x)) at out []) (cell_at cells x))) ≤ weight cells
removal_lighter cells x at out a = omega (arith, sum_by-set slot_weight cells x (items_put (spliced (items_of (cell_at cells x)) at out []) (cell_at cells x)) None (array_within cells x a), slot_lighter (cell_at cells x) at out)
