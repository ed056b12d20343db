-- What a deep copy adds to a heap: weight, and cells.
use Rattle.std.specs.Prelude.{ℕ, zero, suc, ◌+◌, ◌≤◌, ◌^◌, Bool, ◌&&◌, nat_le, List, [], ◌∷◌, length, Option}
use Rattle.variant_values.specs.declared.cells.Cell.{Cell}
use Rattle.variant_values.specs.declared.values.Key.{Key}
use Rattle.variant_values.specs.declared.values.Serial.{Serial}
use Rattle.variant_values.specs.declared.values.Value.{Value}
use Rattle.variant_values.specs.declared.values.Value.TheVariants.{Array, Dict}
use Rattle.variant_values.specs.Copies.{copied, copied_items, copied_entries, new_array_of, new_dict_of}
use Rattle.variant_values.specs.ElementTypes.{element_of}
use Rattle.variant_values.specs.Heaps.{Heap, cell_at, items_of, entries_of}
use Rattle.variant_values.specs.Places.{entry_weight, item_weight, weight}
use Rattle.variant_values.specs.ValueTexts.{most_levels}
use Rattle.deep_copies.specs.declared.rooms.Measure.{Measure}
use Rattle.deep_copies.specs.declared.rooms.Measure.TheVariants.{Weight, Cells}

-- a copy of an array, and of a dictionary, with so many levels inside
abbrev pub array_copy : ℕ → Heap → Serial → Value × Heap
array_copy levels h s = new_array_of (element_of (cell_at h.cells s.0)) (copied_items (copied levels) h (items_of (cell_at h.cells s.0)))

abbrev pub dict_copy : ℕ → Heap → Serial → Value × Heap
dict_copy levels h s = new_dict_of (copied_entries (copied levels) h (entries_of (cell_at h.cells s.0)))

abbrev pub total : {A : Type 0} → (A → ℕ) → List A → ℕ
total f [] = 0
total f (x ∷ xs) = f x + total f xs

abbrev pub weight_with : (Serial → ℕ) → (Serial → ℕ) → Value → ℕ
weight_with arrays dicts (Array s) = arrays s
weight_with arrays dicts (Dict s) = dicts s
weight_with arrays dicts v = 0

-- what a cell costs beside its items or entries, and what these cost
abbrev pub cell_cost : Measure → ℕ
cell_cost Weight = 16
cell_cost Cells = 1

abbrev pub item_cost : Measure → Value → ℕ
item_cost Weight v = item_weight v
item_cost Cells v = 0

abbrev pub entry_cost : Measure → Key × Value → ℕ
entry_cost Weight e = entry_weight e
entry_cost Cells e = 0

-- What the cells cost that a copy of a value with so many levels makes: each container as often as the copy comes to it.
unfoldable pub copy_cost : Measure → ℕ → List (Option Cell) → Value → ℕ
copy_cost m zero cells v = 0
copy_cost m (suc n) cells v = weight_with (λ s. cell_cost m + total (λ w. item_cost m w + copy_cost m n cells w) (items_of (cell_at cells s.0))) (λ s. cell_cost m + total (λ e. entry_cost m e + copy_cost m n cells e.1) (entries_of (cell_at cells s.0))) v

-- what all cells cost
abbrev pub size : Measure → List (Option Cell) → ℕ
size Weight cells = weight cells
size Cells cells = length cells

-- the cells are not too heavy, and each has a serial
pub record Fits (cells : List (Option Cell)) : Type 0 where
  pub light : weight cells ≤ 67108864
  pub few : length cells ≤ 2 ^ 64

-- whether the heap takes a deep copy
abbrev pub takes_copy : Heap → Value → Bool
takes_copy h v = nat_le (weight (copied most_levels h v).1.cells) 67108864 && nat_le (length (copied most_levels h v).1.cells) (2 ^ 64)
