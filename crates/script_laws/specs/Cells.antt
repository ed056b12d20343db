-- How the cells of a run go on.
use Rattle.std.specs.Prelude.{◌≡◌, ℕ, ◌≤◌, ◌<◌, true, List, length, Option, Some, None, Result, Ok, Err}
use Rattle.variant_values.specs.declared.cells.Cell.{Cell}
use Rattle.variant_values.specs.declared.cells.Cell.TheVariants.{Array as ArrayCell, Dict as DictCell, Object as ObjectCell}
use Rattle.variant_values.specs.declared.faults.RunFault.{RunFault}
use Rattle.variant_values.specs.declared.values.Value.{Value}
use Rattle.variant_values.specs.Heaps.{Heap, cell_at, is_array, is_dict, is_no_container, knows, KnowsSlot}

-- what may stand where a cell was, while no sweep is made
abbrev pub Follows : Option Cell → Option Cell → Type 0
Follows None next = next ≡ None
Follows (Some (ArrayCell vs of)) next = is_array next ≡ true
Follows (Some (DictCell es)) next = is_dict next ≡ true
Follows (Some (ObjectCell o)) next = is_no_container next ≡ true

-- While no sweep is made: no serial is given twice, containers stay what they are, and an object lives or has gone.
pub record IsGrown (old new : List (Option Cell)) : Type 0 where
  pub serials : length old ≤ length new
  pub each : (x : ℕ) → x < length old → Follows (cell_at old x) (cell_at new x)

-- there is no cell at 0, and what a cell names is known
pub record AreKnown (cells : List (Option Cell)) : Type 0 where
  pub first : cell_at cells 0 ≡ None
  pub some : 0 < length cells
  pub each : (x : ℕ) → KnowsSlot cells (cell_at cells x)

abbrev pub IsFit : {A : Type 0} → (List (Option Cell) → A → Type 0) → Heap → Result (A × Heap) RunFault → Type 0
IsFit K h (Ok (v, g)) = IsGrown h.cells g.cells × AreKnown g.cells × K g.cells v
IsFit K h (Err fault) = Unit {0}

-- A call of values goes on from the cells of a heap, and what it gives is known.
pub record Fits {A : Type 0} (K : List (Option Cell) → A → Type 0) (h : Heap) (given : Result (A × Heap) RunFault) : Type 0 where
  pub fits : IsFit K h given

abbrev pub Knows : List (Option Cell) → Value → Type 0
Knows cells v = knows cells v ≡ true

abbrev pub KnowsDone : List (Option Cell) → Unit {0} → Type 0
KnowsDone cells done = Unit {0}

abbrev pub KnowsOutcome : List (Option Cell) → Result Value RunFault → Type 0
KnowsOutcome cells (Ok v) = knows cells v ≡ true
KnowsOutcome cells (Err fault) = Unit {0}

-- a value that is given is known
pub record Tells (cells : List (Option Cell)) (outcome : Result Value RunFault) : Type 0 where
  pub known : KnowsOutcome cells outcome
