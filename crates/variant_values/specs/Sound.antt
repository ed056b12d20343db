-- What is true of every heap.
use Rattle.std.specs.Prelude.{◌≢◌, ℕ, ◌≤◌, ◌<◌, ◌^◌, true, false, List, [], length, Option, Some, None, is_some, All, ◌≡◌}
use Rattle.std.specs.List.{list_any}
use Rattle.variant_values.specs.declared.values.Serial.{Serial}
use Rattle.variant_values.specs.declared.cells.Cell.{Cell}
use Rattle.variant_values.specs.declared.cells.Cell.TheVariants.{Array as ArrayCell, Dict as DictCell, Object as ObjectCell}
use Rattle.variant_values.specs.Classes.{is_node_class}
use Rattle.variant_values.specs.Places.{is_counted, weight}
use Rattle.variant_values.specs.Heaps.{Heap, cell_at, held_at, is_living, knows_object, KnowsSlot}
use Rattle.variant_values.specs.Links.{connections_in, connections_of, times_linked}
use Rattle.variant_values.specs.Trees.{IsFamily, IsGrounded, IsRooted}

-- an object has a class, and a node part exactly where it is a Node
abbrev pub IsClassed : Option Cell → Type 0
IsClassed None = Unit {0}
IsClassed (Some (ArrayCell vs of)) = Unit {0}
IsClassed (Some (DictCell es)) = Unit {0}
IsClassed (Some (ObjectCell o)) = (o.lineage ≢ []) × (is_some o.node ≡ list_any is_node_class o.lineage)

-- How cells stand to one another, whatever is in their fields, items and entries: parents and children agree, no node is
-- below itself, a connection leads to what lives, and none stands twice in a cell.
pub record IsShaped (cells : List (Option Cell)) : Type 0 where
  pub family : IsFamily cells
  pub grounded : (x : ℕ) → IsGrounded cells x
  pub targets : (x : ℕ) → All (λ c. is_living cells c.target.0 ≡ true) (connections_of (cell_at cells x))
  pub once : (x : ℕ) (signal : List ℕ) (to : Serial) (method : List ℕ) → times_linked signal to method (connections_of (cell_at cells x)) ≤ 1
  pub classed : (x : ℕ) → IsClassed (cell_at cells x)

-- what was asked to be freed was given, and is not counted
abbrev pub IsQueue : List (Option Cell) → List Serial → Type 0
IsQueue cells queued = All (λ s. (knows_object cells s ≡ true) × (is_counted (cell_at cells s.0) ≡ false)) queued

pub record IsSound (h : Heap) : Type 0 where
  pub places : length h.held ≡ length h.cells
  pub some : 0 < length h.cells
  pub few : length h.cells ≤ 2 ^ 64
  pub first : is_living h.cells 0 ≡ false
  pub gone : (x : ℕ) → is_living h.cells x ≡ false → held_at h x ≡ 0
  pub known : (x : ℕ) → KnowsSlot h.cells (cell_at h.cells x)
  pub light : weight h.cells ≤ 67108864
  pub rooted : IsRooted h.cells
  pub few_links : connections_in h.cells < 2 ^ 32
  pub shaped : IsShaped h.cells
  pub queue : IsQueue h.cells h.queued
