-- What a run keeps, and how its parts stop.
use Rattle.std.specs.Prelude.{ℕ, zero, suc, cond, nat_eq, List, [], ◌∷◌, ◌++◌, Option, Some, None, Result, Ok, Err}
use Rattle.std.specs.List.{flat_map}
use Rattle.folder_meaning.specs.declared.script_type.ScriptType.{ScriptType}
use Rattle.folder_meaning.specs.declared.script_type.ScriptType.TheVariants.{Variant}
use Rattle.variant_values.specs.declared.cells.Cell.{Cell}
use Rattle.variant_values.specs.declared.faults.RunFault.{RunFault}
use Rattle.variant_values.specs.declared.values.Serial.{Serial}
use Rattle.variant_values.specs.declared.values.Value.{Value}
use Rattle.variant_values.specs.declared.values.Value.TheVariants.{Null}
use Rattle.variant_values.specs.Changes.{Given}
use Rattle.variant_values.specs.Heaps.{Heap, held_for}
use Rattle.variant_values.specs.Places.{place_of}
use Rattle.variant_values.specs.Sweeps.{swept}

-- What a read of a constant gives: its value, and the heap in which its containers are made anew.
abbrev pub Making : Type 0
Making = Heap → Given

-- A local: its name, its type, what a read of it gives where it is a constant, and else its value. The hidden locals of `for`
-- and `match` have the empty name.
pub record Local : Type 0 where
  pub name : List ℕ
  pub type : ScriptType
  pub constant : Option Making
  pub value : Value

abbrev pub opens : List ℕ → ScriptType → Value → List Local
opens name type v = record { name = name; type = type; constant = None; value = v } ∷ []

-- a local constant holds nothing
abbrev pub opens_constant : List ℕ → Making → List Local
opens_constant name making = record { name = name; type = Variant; constant = Some making; value = Null } ∷ []

-- An active frame as the others see it: its `self`, and the values of its places that hold a cell, each as often as one does.
pub record Frame : Type 0 where
  pub self : Value
  pub holds : List Value

-- What all frames share: the cells, the nodes to be freed at the end, the bytes that were printed, the steps that are left.
pub record World : Type 0 where
  pub cells : List (Option Cell)
  pub queued : List Serial
  pub printed : List ℕ
  pub left : ℕ

-- a line of a file
pub record Spot : Type 0 where
  pub file : ℕ
  pub line : ℕ

-- a fault, or a step past the allowance
pub data Stop : Type 0 where
  Failed : (kind : RunFault) (spot : Spot) (world : World) → Stop
  Spent : (spot : Spot) (world : World) → Stop

abbrev pub and_then : {A B : Type 0} → Result A Stop → (A → Result B Stop) → Result B Stop
and_then (Ok x) go = go x
and_then (Err e) go = Err e

infixl 10 ◌>>=◌
abbrev pub ◌>>=◌ : {A B : Type 0} → Result A Stop → (A → Result B Stop) → Result B Stop
first >>= rest = and_then first rest

-- ---- steps

abbrev pub step_from : ℕ → Spot → World → Result World Stop
step_from zero spot w = Err (Spent spot w)
step_from (suc n) spot w = Ok (record w { left = n })

-- a step is taken where one is left
abbrev pub step : Spot → World → Result World Stop
step spot w = step_from w.left spot w

-- ---- the heap that frames hold

-- the value, where it holds a cell: an array, a dictionary or an object
abbrev pub cells_held : Value → List Value
cells_held v = cond (nat_eq (place_of v) 0) [] (v ∷ [])

-- the values of `self` and of locals that hold a cell
abbrev pub placed_in : Value → List Local → List Value
placed_in self locals = cells_held self ++ flat_map (λ l. cells_held l.value) locals

-- the frame with these locals, which holds these values beside
abbrev pub frame_with : Value → List Local → List Value → Frame
frame_with self locals held = record { self = self; holds = placed_in self locals ++ held }

-- the values that hold a cell in all frames
abbrev pub holds_of : List Frame → List Value
holds_of frames = flat_map (λ f. f.holds) frames

-- the heap of one who retains what the frames hold
abbrev pub heap_of : List Frame → World → Heap
heap_of frames w = held_for (record { cells = w.cells; held = []; queued = w.queued }) (holds_of frames)

abbrev pub with_heap : World → Heap → World
with_heap w h = record w { cells = h.cells; queued = h.queued }

abbrev pub sweep : List Frame → World → World
sweep frames w = with_heap w (swept (heap_of frames w))

-- a value that was computed is held too
abbrev pub joined : Value → List Value → List Value
joined v held = held ++ cells_held v

abbrev pub holds_too : Value → Frame → Frame
holds_too v f = record f { holds = joined v f.holds }

-- a returned value is held by the calling frame, which stands last
abbrev pub received : Value → List Frame → List Frame
received v [] = []
received v (f ∷ []) = holds_too v f ∷ []
received v (f ∷ g ∷ fs) = f ∷ received v (g ∷ fs)
