-- What is known stays known over a sweep.
use Rattle.std.proofs.Common.{◌≡◌, ℕ, ◌<◌, true, List, ◌∙◌, ap, Option, Some, None, arith, inl, inr, refl, Bool, nat_lt, length}
use Rattle.std.proofs.lemmas.Bool.{and_parts, and_from}
use Rattle.std.specs.Prelude.{slice_index_or}
use Rattle.variant_values.specs.declared.values.Serial.{Serial}
use Rattle.variant_values.specs.declared.values.Value.{Value}
use Rattle.variant_values.specs.declared.values.Value.TheVariants.{Null, Bool as Truth, Int, Str, Array, Dict, Object, Callable, Signal, Class, Scene, Weak}
use Rattle.variant_values.specs.declared.cells.Cell.{Cell}
use Rattle.variant_values.specs.declared.cells.Cell.TheVariants.{Array as ArrayCell, Dict as DictCell, Object as ObjectCell}
use Rattle.variant_values.specs.Places.{place_of, in_slot}
use Rattle.variant_values.specs.Heaps.{Heap, cell_at, is_living, is_array, is_dict, is_no_container, knows, knows_object}
use Rattle.variant_values.specs.Sweeps.{Goes, goes, cut_slot, IsSwept}

-- what a caller holds stays
pub held_stays : (cells : List (Option Cell)) (held : List ℕ) (x : ℕ) → 0 < slice_index_or held x 0 → Goes cells held x → ⊥
held_stays cells held w some (goes x counted unheld places) = absurd (omega (arith, some, unheld))

-- what a cell that stays holds stays
pub named_stays : (cells : List (Option Cell)) (held : List ℕ) (x y : ℕ) → 0 < in_slot x (cell_at cells y) → (Goes cells held y → ⊥) → Goes cells held x → ⊥
named_stays cells held w y some stays (goes x counted unheld places) = stays (places y some)

pub cut_array : (p : ℕ → Bool) (s : Option Cell) → is_array (cut_slot p s) ≡ is_array s
cut_array p None = refl
cut_array p (Some (ArrayCell vs of)) = refl
cut_array p (Some (DictCell es)) = refl
cut_array p (Some (ObjectCell o)) = refl

pub cut_dict : (p : ℕ → Bool) (s : Option Cell) → is_dict (cut_slot p s) ≡ is_dict s
cut_dict p None = refl
cut_dict p (Some (ArrayCell vs of)) = refl
cut_dict p (Some (DictCell es)) = refl
cut_dict p (Some (ObjectCell o)) = refl

pub cut_single : (p : ℕ → Bool) (s : Option Cell) → is_no_container (cut_slot p s) ≡ is_no_container s
cut_single p None = refl
cut_single p (Some (ArrayCell vs of)) = refl
cut_single p (Some (DictCell es)) = refl
cut_single p (Some (ObjectCell o)) = refl

module _ (h new : Heap) (w : IsSwept h new) where
  stayed : (x : ℕ) → (Goes h.cells h.held x → ⊥) → cell_at new.cells x ≡ cut_slot (is_living new.cells) (cell_at h.cells x)
  stayed x n = elim (w.cells x) [ inl went ↦ absurd (n went.0) | inr left ↦ left.1 ]

  object_lasts : (s : Serial) → knows_object h.cells s ≡ true → knows_object new.cells s ≡ true
  object_lasts s k =
      let parts = and_parts (nat_lt 0 s.0) _ k in
      let later = and_parts (nat_lt s.0 (length h.cells)) _ parts.1 in
      and_from (nat_lt 0 s.0) _ parts.0 (and_from (nat_lt s.0 (length new.cells)) _ (ap (nat_lt s.0) w.serials ∙ later.0) (elim (w.cells s.0) [
        | inl went ↦ ap is_no_container went.1
        | inr left ↦ ap is_no_container left.1 ∙ cut_single (is_living new.cells) (cell_at h.cells s.0) ∙ later.1
      ]))

  -- a value of a cell that stays is known after the sweep
  pub value_lasts : (v : Value) → (Goes h.cells h.held (place_of v) → ⊥) → knows h.cells v ≡ true → knows new.cells v ≡ true
  value_lasts Null n k = refl
  value_lasts (Truth b) n k = refl
  value_lasts (Int i) n k = refl
  value_lasts (Str s) n k = refl
  value_lasts (Array s) n k = ap is_array (stayed s.0 n) ∙ cut_array (is_living new.cells) (cell_at h.cells s.0) ∙ k
  value_lasts (Dict s) n k = ap is_dict (stayed s.0 n) ∙ cut_dict (is_living new.cells) (cell_at h.cells s.0) ∙ k
  value_lasts (Object s) n k = object_lasts s k
  value_lasts (Callable s m) n k = object_lasts s k
  value_lasts (Signal s m) n k = object_lasts s k
  value_lasts (Class c) n k = refl
  value_lasts (Scene f p) n k = refl
  value_lasts (Weak s) n k = object_lasts s k
