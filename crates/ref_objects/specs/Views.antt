-- What contracts see of a heap.
use Rattle.variant_values.specs.declared.values.Serial.{Serial}
use Rattle.variant_values.specs.Heaps.{Heap}
use Rattle.ref_objects.specs.declared.slots.Slot.{Slot}
use Rattle.ref_objects.specs.Slots.{heap_of}
use Rattle.std.specs.Prelude.{List}

-- the heap, and room beside it for what is no part of it
pub record HeapView : Type 0 where
  pub state : Heap

abbrev pub seen_of : List Slot → List Serial → HeapView
seen_of slots queued = record { state = heap_of slots queued }
