-- What is known stays known over a change of one cell.
use Rattle.std.proofs.Common.{◌≡◌, ℕ, ◌<◌, ◌∙◌, ap, sym, subst, refl, true, List, [], ◌∷◌, ◌++◌, length, set, Option, Some, None, inl, inr}
use Rattle.std.proofs.lemmas.List.{length-set, get_or-set_same, get_or-set_other}
use Rattle.std.proofs.lemmas.Bool.{cases_eq}
use Rattle.variant_values.specs.declared.cells.Cell.{Cell}
use Rattle.variant_values.specs.declared.cells.Cell.TheVariants.{Array as ArrayCell, Dict as DictCell, Object as ObjectCell}
use Rattle.variant_values.specs.declared.values.Key.{Key}
use Rattle.variant_values.specs.declared.values.Value.{Value}
use Rattle.variant_values.specs.Heaps.{cell_at, is_array, is_dict, is_no_container, items_put, entries_put, knows}
use Rattle.variant_values.proofs.Knowing.{value_alike, value_grows, array_within, dict_within}
use Rattle.variant_values.specs.Changes.{Keeps}

array_alike : (vs : List Value) (c : Option Cell) → is_array (items_put vs c) ≡ is_array c
array_alike vs None = refl
array_alike vs (Some (ArrayCell ws of)) = refl
array_alike vs (Some (DictCell es)) = refl
array_alike vs (Some (ObjectCell o)) = refl

array_dict : (vs : List Value) (c : Option Cell) → is_dict (items_put vs c) ≡ is_dict c
array_dict vs None = refl
array_dict vs (Some (ArrayCell ws of)) = refl
array_dict vs (Some (DictCell es)) = refl
array_dict vs (Some (ObjectCell o)) = refl

array_single : (vs : List Value) (c : Option Cell) → is_no_container (items_put vs c) ≡ is_no_container c
array_single vs None = refl
array_single vs (Some (ArrayCell ws of)) = refl
array_single vs (Some (DictCell es)) = refl
array_single vs (Some (ObjectCell o)) = refl

dict_array : (es : List (Key × Value)) (c : Option Cell) → is_array (entries_put es c) ≡ is_array c
dict_array es None = refl
dict_array es (Some (ArrayCell ws of)) = refl
dict_array es (Some (DictCell fs)) = refl
dict_array es (Some (ObjectCell o)) = refl

dict_alike : (es : List (Key × Value)) (c : Option Cell) → is_dict (entries_put es c) ≡ is_dict c
dict_alike es None = refl
dict_alike es (Some (ArrayCell ws of)) = refl
dict_alike es (Some (DictCell fs)) = refl
dict_alike es (Some (ObjectCell o)) = refl

dict_single : (es : List (Key × Value)) (c : Option Cell) → is_no_container (entries_put es c) ≡ is_no_container c
dict_single es None = refl
dict_single es (Some (ArrayCell ws of)) = refl
dict_single es (Some (DictCell fs)) = refl
dict_single es (Some (ObjectCell o)) = refl

-- a test of one cell, where the cell x gave way to one with the same answer
at_each : {B : Type 0} (f : Option Cell → B) (cells : List (Option Cell)) (x : ℕ) (c : Option Cell) → x < length cells → f c ≡ f (cell_at cells x) → (y : ℕ) → f (cell_at (set cells x c) y) ≡ f (cell_at cells y)
at_each f cells x c l e y = elim (cases_eq x y) [
  | inl same ↦ subst (λ z. f (cell_at (set cells x c) z) ≡ f (cell_at cells z)) same (ap f (get_or-set_same cells x c None l) ∙ e)
  | inr other ↦ ap f (get_or-set_other cells x y c None (λ g. other (sym g)))
]

pub items_keep : (cells new : List (Option Cell)) (x : ℕ) (vs : List Value) → is_array (cell_at cells x) ≡ true → new ≡ set cells x (items_put vs (cell_at cells x)) → Keeps cells new
items_keep cells new x vs a e = λ v k.
    let l = array_within cells x a in
    let c = items_put vs (cell_at cells x) in
    subst (λ (n : List (Option Cell)). knows n v ≡ true) (sym e) (value_alike cells (set cells x c) v (record {
      same = length-set cells x c;
      array = at_each is_array cells x c l (array_alike vs (cell_at cells x));
      dict = at_each is_dict cells x c l (array_dict vs (cell_at cells x));
      object = at_each is_no_container cells x c l (array_single vs (cell_at cells x));
    }) ∙ k)

pub entries_keep : (cells new : List (Option Cell)) (x : ℕ) (es : List (Key × Value)) → is_dict (cell_at cells x) ≡ true → new ≡ set cells x (entries_put es (cell_at cells x)) → Keeps cells new
entries_keep cells new x es a e = λ v k.
    let l = dict_within cells x a in
    let c = entries_put es (cell_at cells x) in
    subst (λ (n : List (Option Cell)). knows n v ≡ true) (sym e) (value_alike cells (set cells x c) v (record {
      same = length-set cells x c;
      array = at_each is_array cells x c l (dict_array es (cell_at cells x));
      dict = at_each is_dict cells x c l (dict_alike es (cell_at cells x));
      object = at_each is_no_container cells x c l (dict_single es (cell_at cells x));
    }) ∙ k)

pub new_keeps : (cells new : List (Option Cell)) (c : Option Cell) → new ≡ cells ++ c ∷ [] → Keeps cells new
new_keeps cells new c e = λ v k. subst (λ (n : List (Option Cell)). knows n v ≡ true) (sym e) (value_grows cells c v k)

pub same_keeps : (cells new : List (Option Cell)) → new ≡ cells → Keeps cells new
same_keeps cells new e = λ v k. subst (λ (n : List (Option Cell)). knows n v ≡ true) (sym e) k
