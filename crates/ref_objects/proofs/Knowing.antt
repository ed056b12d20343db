-- The places of a known cell are serials that were given.
use Rattle.std.proofs.Common.{◌≡◌, ℕ, ◌<◌, List, length, get_or, Option}
use Rattle.variant_values.specs.declared.cells.Cell.{Cell}
use Rattle.variant_values.specs.declared.cells.Cell.TheVariants.{Array as ArrayCell, Dict as DictCell, Object as ObjectCell}
use Rattle.variant_values.specs.Heaps.{KnowsCell}
use Rattle.variant_values.proofs.Knowing.{value_within, key_within}
use Rattle.ref_objects.specs.Slots.{IsCellWithin}

pub cell_within : (cells : List (Option Cell)) (n : ℕ) (c : Cell) → n ≡ length cells → 0 < length cells → KnowsCell cells c → IsCellWithin n c
cell_within cells n (ArrayCell vs of) e h k = λ i d l. rw e (value_within cells (get_or vs i d) h (k i d l))
cell_within cells n (DictCell es) e h k = λ i d l. rw e (key_within cells (get_or es i d).0 h (k i d l).0, value_within cells (get_or es i d).1 h (k i d l).1)
cell_within cells n (ObjectCell o) e h k = λ i d l. rw e (value_within cells (get_or o.fields i d) h (k.0 i d l))
