-- How few entries a dictionary of a heap has.
use Rattle.std.proofs.Common.{ℕ, ◌≤◌, ap, List, [], ◌∷◌, length, Option, Some, None, arith, inl, inr}
use Rattle.std.specs.List.{sum_by}
use Rattle.std.proofs.lemmas.Bool.{cases_lt}
use Rattle.std.proofs.lemmas.List.{get_or_past}
use Rattle.std.proofs.lemmas.List.Sums.{sum_by-cons, get_or-le-sum_by}
use Rattle.variant_values.specs.declared.cells.Cell.{Cell}
use Rattle.variant_values.specs.declared.cells.Cell.TheVariants.{Array as ArrayCell, Dict as DictCell, Object as ObjectCell}
use Rattle.variant_values.specs.declared.values.Key.{Key}
use Rattle.variant_values.specs.declared.values.Value.{Value}
use Rattle.variant_values.specs.Heaps.{Heap, cell_at, entries_of}
use Rattle.variant_values.specs.Places.{entry_weight, slot_weight}
use Rattle.variant_values.specs.Sound.{IsSound}
use Rattle.variant_values.specs.DictMethods.{entries_in}

few_in : (es : List (Key × Value)) → length es ≤ sum_by entry_weight es
few_in [] = omega arith
few_in (e ∷ es) = omega (arith, few_in es, sum_by-cons entry_weight e es)

few_of : (c : Option Cell) → length (entries_of c) ≤ slot_weight c
few_of None = omega arith
few_of (Some (ArrayCell vs of)) = omega arith
few_of (Some (DictCell es)) = omega (arith, few_in es)
few_of (Some (ObjectCell o)) = omega arith

pub few_entries : (h : Heap) → IsSound h → (x : ℕ) → length (entries_in h x) ≤ 67108864
few_entries h s x = elim (cases_lt x (length h.cells)) [
  | inl l ↦ omega (arith, few_of (cell_at h.cells x), get_or-le-sum_by slot_weight h.cells x None l, s.light)
  | inr l ↦ omega (arith, ap (λ c. length (entries_of c)) (get_or_past h.cells x None l))
]
