-- What a call on a heap gives: a value and the heap then, or a fault, which changes nothing.
use Rattle.std.specs.Prelude.{◌≡◌, ℕ, ◌+◌, ◌^◌, Bool, true, not, ◌&&◌, nat_eq, nat_le, if◌then◌else◌, List, length, Option, Result, Ok, Err}
use Rattle.variant_values.specs.declared.cells.Cell.{Cell}
use Rattle.variant_values.specs.declared.cells.Cell.TheVariants.{Array as ArrayCell, Dict as DictCell}
use Rattle.variant_values.specs.declared.classes.ElementTag.{ElementTag}
use Rattle.variant_values.specs.declared.faults.RunFault.{RunFault}
use Rattle.variant_values.specs.declared.faults.RunFault.TheVariants.{TooLong, HeapFull}
use Rattle.variant_values.specs.declared.faults.Trouble.{Trouble}
use Rattle.variant_values.specs.declared.faults.Trouble.TheVariants.{Fault, NoMemory}
use Rattle.variant_values.specs.declared.values.Key.{Key}
use Rattle.variant_values.specs.declared.values.Serial.{Serial}
use Rattle.variant_values.specs.declared.values.Value.{Value}
use Rattle.variant_values.specs.declared.values.Value.TheVariants.{Array, Dict}
use Rattle.variant_values.specs.Heaps.{Heap, knows, with_new}
use Rattle.variant_values.specs.Operators.{most_items}
use Rattle.variant_values.specs.Places.{weight, cell_weight}

abbrev pub Given : Type 0
Given = Result (Value × Heap) RunFault

-- the same of a call that gives no value
abbrev pub Done : Type 0
Done = Result (Unit {0} × Heap) RunFault

-- A call's answer and the heap after it are what is given. Where memory ran out, nothing is said.
abbrev pub HasGiven : {A : Type 0} → Result A Trouble → Heap → Heap → Result (A × Heap) RunFault → Type 0
HasGiven (Ok v) old new given = given ≡ Ok (v, new)
HasGiven (Err (Fault fault)) old new given = (given ≡ Err fault) × (new ≡ old)
HasGiven (Err NoMemory) old new given = Unit {0}

-- what was known stays known
abbrev pub Keeps : List (Option Cell) → List (Option Cell) → Type 0
Keeps old new = (v : Value) → knows old v ≡ true → knows new v ≡ true

-- a look at the heap, which it leaves as it is
abbrev pub looked : Heap → Result Value RunFault → Given
looked h (Ok v) = Ok (v, h)
looked h (Err fault) = Err fault

-- a value, and the heap after a change, where it is not too heavy then
abbrev pub weighed : {A : Type 0} → Heap → A → Result (A × Heap) RunFault
weighed h v = if nat_le (weight h.cells) 67108864 then Ok (v, h) else Err HeapFull

-- the same, where new cells may take serials too
abbrev pub placed : {A : Type 0} → Heap → A → Result (A × Heap) RunFault
placed h v = if nat_le (weight h.cells) 67108864 && nat_le (length h.cells) (2 ^ 64) then Ok (v, h) else Err HeapFull

-- what is given, where a container has no more than the most items
abbrev pub counted : {A : Type 0} → ℕ → Result (A × Heap) RunFault → Result (A × Heap) RunFault
counted n given = if nat_le n most_items then given else Err TooLong

abbrev pub next_serial : Heap → Serial
next_serial h = record { 0 = length h.cells }

-- whether the heap takes another cell
abbrev pub takes : Heap → Cell → Bool
takes h c = nat_le (weight h.cells + cell_weight c) 67108864 && not (nat_eq (length h.cells) (2 ^ 64))

-- a new array
abbrev pub new_array : Heap → List Value → Option ElementTag → Given
new_array h vs of = if takes h (ArrayCell vs of) then Ok (Array (next_serial h), with_new h (ArrayCell vs of)) else Err HeapFull

-- a new dictionary
abbrev pub new_dict : Heap → List (Key × Value) → Given
new_dict h es = if takes h (DictCell es) then Ok (Dict (next_serial h), with_new h (DictCell es)) else Err HeapFull
