-- `resize`, after the Godot manual's page of Array.
use Rattle.std.specs.Prelude.{ℕ, zero, suc, ◌+◌, ◌-◌, ℤ, pos, false, nat_le, if◌then◌else◌, List, [], ◌∷◌, length, replicate, Option, Some, None, Ok, Err}
use Rattle.std.specs.Int.RustNames.{int_lt, unsigned_abs}
use Rattle.variant_values.specs.declared.cells.Cell.{Cell}
use Rattle.variant_values.specs.declared.cells.Cell.TheVariants.{Array as ArrayCell, Dict as DictCell}
use Rattle.variant_values.specs.declared.classes.ElementTag.{ElementTag}
use Rattle.variant_values.specs.declared.classes.ElementTag.TheVariants.{Bool as OfTruths, Int as OfInts, Str as OfStrs, Array as OfArrays, Dict as OfDicts}
use Rattle.variant_values.specs.declared.faults.RunFault.TheVariants.{BadArgs}
use Rattle.variant_values.specs.declared.values.Serial.{Serial}
use Rattle.variant_values.specs.declared.values.Value.{Value}
use Rattle.variant_values.specs.declared.values.Value.TheVariants.{Null, Bool as Truth, Int, Str, Array, Dict}
use Rattle.variant_values.specs.Heaps.{Heap, cell_at, with_new, with_splice}
use Rattle.variant_values.specs.Changes.{Given, counted, placed}
use Rattle.variant_values.specs.ElementTypes.{element_of}
use Rattle.variant_values.specs.ArrayMethods.{items_at}

-- the heap with so many cells more
abbrev pub with_more : Heap → Cell → ℕ → Heap
with_more h c zero = h
with_more h c (suc n) = with_more (with_new h c) c n

-- so many values, of the serials from one on
abbrev pub in_a_row : (Serial → Value) → ℕ → ℕ → List Value
in_a_row value first zero = []
in_a_row value first (suc n) = value (record { 0 = first }) ∷ in_a_row value (first + 1) n

-- the value that an item has at first, but in an array of containers
abbrev pub default_of : Option ElementTag → Value
default_of (Some OfTruths) = Truth false
default_of (Some OfInts) = Int (pos 0)
default_of (Some OfStrs) = Str []
default_of of = Null

-- so many items at first, and the heap with them: in an array of containers each is a new one
abbrev pub defaults : Heap → Option ElementTag → ℕ → List Value × Heap
defaults h (Some OfArrays) n = (in_a_row (λ s. Array s) (length h.cells) n, with_more h (ArrayCell [] None) n)
defaults h (Some OfDicts) n = (in_a_row (λ s. Dict s) (length h.cells) n, with_more h (DictCell []) n)
defaults h of n = (replicate n (default_of of), h)

-- values put last, in a heap that may have cells more
abbrev pub put_last : List Value × Heap → ℕ → Given
put_last new x = placed (with_splice new.1 x (length (items_at new.1 x)) 0 new.0) (Int (pos 0))

-- the array with so many items; the last ones are taken out, or others put last
abbrev pub sized : Heap → ℕ → ℕ → Given
sized h x n =
    let len = length (items_at h x) in
    if nat_le n len then Ok (Int (pos 0), with_splice h x n (len - n) []) else put_last (defaults h (element_of (cell_at h.cells x)) (n - len)) x

abbrev pub resize_of : Heap → ℕ → ℤ → Given
resize_of h x n = if int_lt n (pos 0) then Err BadArgs else counted (unsigned_abs n) (sized h x (unsigned_abs n))
