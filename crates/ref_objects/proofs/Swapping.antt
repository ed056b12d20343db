-- A cell is replaced by another of its kind.
use Rattle.std.proofs.Common.{◌≡◌, ℕ, ◌+◌, ◌<◌, ◌≤◌, Bool, true, false, List, length, get_or, set, sym, ◌∙◌, ap, subst, Option, None, is_some, arith, inl, inr}
use Rattle.std.proofs.lemmas.List.{get_or-set_same, get_or-set_other, length-set, length-map}
use Rattle.std.proofs.lemmas.List.Sums.{sum_by-set}
use Rattle.std.proofs.lemmas.Bool.{cases_eq}
use Rattle.variant_values.specs.declared.cells.Cell.{Cell}
use Rattle.variant_values.specs.Places.{in_slot, slot_weight, weight}
use Rattle.variant_values.proofs.Knowing.{IsAlike, slot_alike}
use Rattle.variant_values.specs.Heaps.{cell_at, is_array, is_dict, is_no_container, KnowsSlot}
use Rattle.ref_objects.specs.declared.slots.Slot.{Slot}
use Rattle.ref_objects.specs.Slots.{count_at, cells_of, lives, held_of, IsKept}
use Rattle.ref_objects.proofs.Raising.{lives-cells}
use Rattle.ref_objects.proofs.Following.{IsFollowed, followed_held, followed_kept}

pub record IsSameKind (s t : Option Cell) : Type 0 where
  pub array : is_array t ≡ is_array s
  pub dict : is_dict t ≡ is_dict s
  pub object : is_no_container t ≡ is_no_container s
  pub alive : is_some t ≡ is_some s

-- what is true of a cell is true after one of its kind has taken a place
pub kind_kept : (f : Option Cell → Bool) (cells : List (Option Cell)) (x y : ℕ) (t : Option Cell) → x < length cells → f t ≡ f (cell_at cells x) → f (cell_at (set cells x t) y) ≡ f (cell_at cells y)
kind_kept f cells x y t h e = elim (cases_eq x y) [
  | inl same ↦ subst (λ z. f (cell_at (set cells x t) z) ≡ f (cell_at cells z)) same (ap f (get_or-set_same cells x t None h) ∙ e)
  | inr ne ↦ ap f (get_or-set_other cells x y t None (λ e. ne (sym e)))
]

-- the cell x of a is t in c, of the same kind, and the counts follow
pub record IsSwapped (a c : List Slot) (x : ℕ) (t : Option Cell) : Type 0 where
  pub within : x < length a
  pub cells : cells_of c ≡ set (cells_of a) x t
  pub kind : IsSameKind (cell_at (cells_of a) x) t
  pub counts : (y : ℕ) → lives a y ≡ true → count_at c y + in_slot y (cell_at (cells_of a) x) ≡ count_at a y + in_slot y t
  pub gone : (y : ℕ) → lives a y ≡ false → count_at c y ≡ count_at a y

module _ (a c : List Slot) (x : ℕ) (t : Option Cell) (s : IsSwapped a c x t) where
  within : x < length (cells_of a)
  within = rw (length-map a (λ s. s.cell)) s.within

  pub swapped_length : length c ≡ length a
  swapped_length = sym (length-map c (λ s. s.cell)) ∙ ap length s.cells ∙ length-set (cells_of a) x t ∙ length-map a (λ s. s.cell)

  pub swapped_lives : (y : ℕ) → lives c y ≡ lives a y
  swapped_lives y = sym (lives-cells c y) ∙ ap (λ cells. is_some (get_or cells y None)) s.cells ∙ kind_kept is_some (cells_of a) x y t within s.kind.alive ∙ lives-cells a y

  pub swapped_followed : (total : ℕ) → IsKept a total → IsFollowed a c
  swapped_followed total k = record {
    same = swapped_length;
    living = λ y l. sym (swapped_lives y) ∙ l;
    counts = λ y l. rw s.cells (omega (arith, s.counts y (sym (swapped_lives y) ∙ l), sum_by-set (in_slot y) (cells_of a) x t None within));
    gone = λ y l. s.gone y (sym (swapped_lives y) ∙ l) ∙ k.gone y (sym (swapped_lives y) ∙ l);
  }

  pub swapped_alike : IsAlike (cells_of a) (cells_of c)
  swapped_alike = rw s.cells (record {
    same = length-set (cells_of a) x t;
    array = λ y. kind_kept is_array (cells_of a) x y t within s.kind.array;
    dict = λ y. kind_kept is_dict (cells_of a) x y t within s.kind.dict;
    object = λ y. kind_kept is_no_container (cells_of a) x y t within s.kind.object;
  })

  pub swapped_weight : weight (cells_of c) + slot_weight (cell_at (cells_of a) x) ≡ weight (cells_of a) + slot_weight t
  swapped_weight = rw s.cells (sum_by-set slot_weight (cells_of a) x t None within)

  pub swapped_known : (total : ℕ) → IsKept a total → KnowsSlot (cells_of a) t → (y : ℕ) → KnowsSlot (cells_of c) (cell_at (cells_of c) y)
  swapped_known total k n y =
      let P : Option Cell → Type 0 = λ w. KnowsSlot (cells_of c) w in
      let at : cell_at (cells_of c) y ≡ cell_at (set (cells_of a) x t) y = ap (λ cells. cell_at cells y) s.cells in
      subst P (sym at) (elim (cases_eq x y) [
        | inl e ↦ subst (λ z. KnowsSlot (cells_of c) (cell_at (set (cells_of a) x t) z)) e (subst P (sym (get_or-set_same (cells_of a) x t None within)) (slot_alike (cells_of a) (cells_of c) t swapped_alike n))
        | inr ne ↦ subst P (sym (get_or-set_other (cells_of a) x y t None (λ e. ne (sym e)))) (slot_alike (cells_of a) (cells_of c) (cell_at (cells_of a) y) swapped_alike (k.known y))
      ])

  pub swapped_held : (total : ℕ) → IsKept a total → held_of c ≡ held_of a
  swapped_held total k = followed_held a c total k (swapped_followed total k) (λ y l. omega (arith, k.gone y (sym (swapped_lives y) ∙ l)))

  pub swapped_kept : (total total' : ℕ) → IsKept a total → KnowsSlot (cells_of a) t → total' + slot_weight (cell_at (cells_of a) x) ≡ total + slot_weight t → total' ≤ 67108864 → IsKept c total'
  swapped_kept total total' k n w light = followed_kept a c total total' k (swapped_followed total k) (omega (arith, w, swapped_weight, k.weighed)) light (swapped_known total k n)
