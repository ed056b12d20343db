-- What a caller retains over a change.
use Rattle.std.specs.Prelude.{◌≡◌, ℕ}
use Rattle.variant_values.specs.Heaps.{Heap, held_at}

-- as much is retained of each cell
abbrev pub RetainsAsMuch : Heap → Heap → Type 0
RetainsAsMuch before after = (x : ℕ) → held_at after x ≡ held_at before x
