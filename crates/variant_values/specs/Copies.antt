-- The copies that `duplicate` makes, after the Godot manual's pages of Array and Dictionary.
use Rattle.std.specs.Prelude.{ℕ, zero, suc, Bool, if◌then◌else◌, List, [], ◌∷◌, Option, Err}
use Rattle.variant_values.specs.declared.cells.Cell.TheVariants.{Array as ArrayCell, Dict as DictCell}
use Rattle.variant_values.specs.declared.classes.ElementTag.{ElementTag}
use Rattle.variant_values.specs.declared.faults.RunFault.TheVariants.{TooDeep}
use Rattle.variant_values.specs.declared.values.Key.{Key}
use Rattle.variant_values.specs.declared.values.Serial.{Serial}
use Rattle.variant_values.specs.declared.values.Value.{Value}
use Rattle.variant_values.specs.declared.values.Value.TheVariants.{Array, Dict}
use Rattle.variant_values.specs.Heaps.{Heap, cell_at, items_of, entries_of, with_new}
use Rattle.variant_values.specs.Changes.{Given, next_serial, placed}
use Rattle.variant_values.specs.ElementTypes.{element_of}
use Rattle.variant_values.specs.ArrayMethods.{shallow_of}
use Rattle.variant_values.specs.DictMethods.{dict_shallow_of}
use Rattle.variant_values.specs.ValueTexts.{is_within, items_in, most_levels}

-- the items of an array, each copied, and the heap then
abbrev pub copied_items : (Heap → Value → Value × Heap) → Heap → List Value → List Value × Heap
copied_items copy h [] = ([], h)
copied_items copy h (v ∷ vs) =
    let first = copy h v in
    let others = copied_items copy first.1 vs in
    (first.0 ∷ others.0, others.1)

-- the entries of a dictionary, each with its value copied
abbrev pub copied_entries : (Heap → Value → Value × Heap) → Heap → List (Key × Value) → List (Key × Value) × Heap
copied_entries copy h [] = ([], h)
copied_entries copy h (e ∷ es) =
    let first = copy h e.1 in
    let others = copied_entries copy first.1 es in
    ((e.0, first.0) ∷ others.0, others.1)

abbrev pub new_array_of : Option ElementTag → List Value × Heap → Value × Heap
new_array_of of copied = (Array (next_serial copied.1), with_new copied.1 (ArrayCell copied.0 of))

abbrev pub new_dict_of : List (Key × Value) × Heap → Value × Heap
new_dict_of copied = (Dict (next_serial copied.1), with_new copied.1 (DictCell copied.0))

-- a value copied, where `arrays` and `dicts` copy a container; what is none stays
abbrev pub copied_with : (Serial → Value × Heap) → (Serial → Value × Heap) → Heap → Value → Value × Heap
copied_with arrays dicts h (Array s) = arrays s
copied_with arrays dicts h (Dict s) = dicts s
copied_with arrays dicts h v = (v, h)

-- A value copied with so many levels of containers, and the heap then: a container is a new one each time the walk comes to
-- it, made after those inside it, and of the same element type. A container that stands deeper stays as it is; a copy of a
-- value that has such a one is refused.
unfoldable pub copied : ℕ → Heap → Value → Value × Heap
copied zero h v = (v, h)
copied (suc levels) h v = copied_with (λ s. new_array_of (element_of (cell_at h.cells s.0)) (copied_items (λ g w. copied levels g w) h (items_of (cell_at h.cells s.0)))) (λ s. new_dict_of (copied_entries (λ g w. copied levels g w) h (entries_of (cell_at h.cells s.0)))) h v

-- a deep copy, decided on the whole of it: `TooDeep` where the walk passes a limit, and then `HeapFull`
abbrev pub deep_copy_of : Heap → Value → Given
deep_copy_of h v =
    let copy = copied most_levels h v in
    if is_within (items_in most_levels h.cells v) then placed copy.1 copy.0 else Err TooDeep

-- `duplicate`
abbrev pub array_duplicate_of : Heap → Serial → Bool → Given
array_duplicate_of h s deep = if deep then deep_copy_of h (Array s) else shallow_of h s.0

abbrev pub dict_duplicate_of : Heap → Serial → Bool → Given
dict_duplicate_of h s deep = if deep then deep_copy_of h (Dict s) else dict_shallow_of h s.0
