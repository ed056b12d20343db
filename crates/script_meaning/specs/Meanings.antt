-- What the parts of a frame's code mean: what they are given, and what they give.
use Rattle.std.specs.Prelude.{ℕ, ℤ, List, [], ◌∷◌, ◌++◌, Option, Result, Ok, Err}
use Rattle.folder_meaning.specs.declared.script_type.ScriptType.{ScriptType}
use Rattle.gd_syntax.specs.declared.fault.Place.{Place}
use Rattle.native_calls.specs.Globals.{Span}
use Rattle.variant_values.specs.declared.classes.ClassTag.{ClassTag}
use Rattle.variant_values.specs.declared.faults.RunFault.{RunFault}
use Rattle.variant_values.specs.declared.values.Serial.{Serial}
use Rattle.variant_values.specs.declared.values.Value.{Value}
use Rattle.variant_values.specs.Changes.{Given}
use Rattle.variant_values.specs.Heaps.{Heap}
use Rattle.variant_values.specs.Operators.{Outcome}
use Rattle.script_meaning.specs.State.{Local, World, Frame, placed_in, Spot, Stop, Failed, heap_of, with_heap, joined}
use Rattle.script_meaning.specs.Projects.{Calls}

-- What does not change while a frame is active: what calls mean, the frames below, `self`, the class in whose code it is, the
-- function that it runs (the empty name for initialisers), and the type of that function's result.
pub record Around : Type 0 where
  pub call : Calls
  pub outer : List Frame
  pub self : Value
  pub class : ClassTag
  pub function : List ℕ
  pub result : ScriptType

-- What does not change in a unit.
pub record Here : Type 0 where
  pub around : Around
  pub spot : Spot
  pub locals : List Local

-- What does: the values that the frame holds beside its locals, and the world.
pub record Moment : Type 0 where
  pub held : List Value
  pub world : World

-- What a part of a unit gives, or how it stops.
abbrev pub Given-to : Type 0 → Type 0
Given-to A = Here → Moment → Result (A × Moment) Stop

-- The frame as calls and operations on values see it, which look up no name: beside what is around, the values of `self` and the
-- locals that hold a cell, and the line of the unit.
pub record Site : Type 0 where
  pub call : Calls
  pub outer : List Frame
  pub self : Value
  pub class : ClassTag
  pub placed : List Value
  pub spot : Spot

-- what a call or an operation on values gives, or how it stops
abbrev pub At-site : Type 0 → Type 0
At-site A = Site → Moment → Result (A × Moment) Stop

abbrev pub Valued : Type 0
Valued = Result (Value × Moment) Stop

-- What has members: a value, or an enum, which is none.
pub data Holder : Type 0 where
  OfValue : (value : Value) → Holder
  OfEnum : (items : List (List ℕ × ℤ)) → Holder

-- What is called: a global function, a method of a value by its name, a static function, or a value.
pub data Callee : Type 0 where
  Global : (name : List ℕ) → Callee
  Method : (of : Value) (name : List ℕ) → Callee
  Static : (class : ClassTag) (name : List ℕ) → Callee
  Plain : (value : Value) → Callee

-- what is assigned to
pub data Target : Type 0 where
  ToName : (name : List ℕ) → Target
  ToMember : (of : Value) (name : List ℕ) → Target
  ToIndex : (of index : Value) → Target

-- What a `for` has still to give: whole numbers, the items of an array from a place on, or characters.
pub data Walk : Type 0 where
  Numbers : (span : Span) → Walk
  Items : (of : Serial) (place : ℕ) → Walk
  Characters : (left : List ℕ) → Walk

-- a walk, and the values that hidden locals hold meanwhile
abbrev pub Walked : Type 0
Walked = Walk × List Value

-- What an expression is: its value, what members it has, what it calls, what it assigns to, what a `for` over it walks; its
-- name where it is one.
pub record Means : Type 0 where
  pub place : Place
  pub name : Option (List ℕ)
  pub value : Given-to Value
  pub holder : Given-to Holder
  pub callee : Given-to Callee
  pub target : Given-to Target
  pub walk : Given-to Walked

-- ---- values and faults

abbrev pub site_of : Here → Site
site_of h = record { call = h.around.call; outer = h.around.outer; self = h.around.self; class = h.around.class; placed = placed_in h.around.self h.locals; spot = h.spot }

abbrev pub frame_of : Site → Moment → Frame
frame_of s m = record { self = s.self; holds = s.placed ++ m.held }

-- the active frames, the innermost last
abbrev pub frames_of : Site → Moment → List Frame
frames_of s m = s.outer ++ frame_of s m ∷ []

abbrev pub heap_at : Site → Moment → Heap
heap_at s m = heap_of (frames_of s m) m.world

-- a value that was computed is held
abbrev pub gives : Value → Moment → Valued
gives v m = Ok (v, record m { held = joined v m.held })

abbrev pub fails : {A : Type 0} → RunFault → Site → Moment → Result A Stop
fails kind s m = Err (Failed kind s.spot m.world)

abbrev pub gives_by : Outcome → At-site Value
gives_by (Ok v) s m = gives v m
gives_by (Err kind) s m = fails kind s m

abbrev pub changed : Moment → Heap → Moment
changed m heap = record m { world = with_heap m.world heap }

-- a value and the heap then, of a call of values
abbrev pub gives_then : Given → At-site Value
gives_then (Ok (v, heap)) s m = gives v (changed m heap)
gives_then (Err kind) s m = fails kind s m
