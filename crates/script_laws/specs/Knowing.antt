-- What is known in the states of a run, and how its cells go on.
use Rattle.std.specs.Prelude.{◌≡◌, ℕ, suc, ◌≤◌, ◌<◌, true, List, [], ◌∷◌, ◌++◌, length, Option, Some, None, Result, Ok, Err}
use Rattle.std.specs.List.{AllByRecursion}
use Rattle.folder_meaning.specs.declared.const_value.ConstValue.{ConstValue}
use Rattle.gd_syntax.specs.declared.fault.Place.{Place}
use Rattle.variant_values.specs.declared.cells.Cell.{Cell}
use Rattle.variant_values.specs.declared.classes.ClassTag.{ClassTag}
use Rattle.variant_values.specs.declared.values.Value.{Value}
use Rattle.variant_values.specs.declared.values.Value.TheVariants.{Null, Bool as Truth, Int, Str, Array, Dict, Class, Scene}
use Rattle.variant_values.specs.Changes.{Given}
use Rattle.variant_values.specs.Heaps.{cell_at, knows}
use Rattle.variant_values.specs.Places.{in_values}
use Rattle.script_meaning.specs.State.{Making, Local, World, Frame, Stop, Failed, Spent, cells_held, heap_of, holds_of}
use Rattle.script_meaning.specs.Projects.{Project, Ending, Meant, AConstant}
use Rattle.script_meaning.specs.Constants.{made}
use Rattle.script_meaning.specs.Functions.{Bodies, script_calls}
use Rattle.script_meaning.specs.Meanings.{Around, Here, Moment, frames_of, site_of}
use Rattle.script_meaning.specs.Statements.{Now, Flow, Next, Broke, Continued, Returned}
use Rattle.script_laws.specs.Cells.{AreKnown}

-- ---- what is held

-- each cell that the first values hold, the second do too
abbrev pub Covers : List Value → List Value → Type 0
Covers few many = (x : ℕ) → in_values (suc x) many ≡ 0 → in_values (suc x) few ≡ 0

-- A value that is a container is held. Others stay known whatever is held, since an object that has gone was one.
abbrev pub Stays : List Value → Value → Type 0
Stays held (Array s) = Covers (cells_held (Array s)) held
Stays held (Dict s) = Covers (cells_held (Dict s)) held
Stays held v = Unit {0}

-- How cells go on while values are held, over any number of sweeps: no serial is given twice, what has gone stays gone, and what
-- is known and held stays known.
pub record IsLater (held : List Value) (old new : List (Option Cell)) : Type 0 where
  pub serials : length old ≤ length new
  pub gone : (x : ℕ) → x < length old → cell_at old x ≡ None → cell_at new x ≡ None
  pub stays : (v : Value) → Stays held v → knows old v ≡ true → knows new v ≡ true

-- ---- what a project has

-- a read makes the value of a constant
abbrev pub IsOfConstant : Making → Type 0
IsOfConstant making = (c : ConstValue) × (making ≡ made c)

abbrev pub IsConstantMeant : Option Meant → Type 0
IsConstantMeant (Some (AConstant making)) = IsOfConstant making
IsConstantMeant found = Unit {0}

-- a value that names no cell
abbrev pub IsPlain : Value → Type 0
IsPlain Null = Unit {0}
IsPlain (Truth b) = Unit {0}
IsPlain (Int n) = Unit {0}
IsPlain (Str s) = Unit {0}
IsPlain (Class c) = Unit {0}
IsPlain (Scene f p) = Unit {0}
IsPlain v = ⊥

abbrev pub IsResource : Option Value → Type 0
IsResource None = Unit {0}
IsResource (Some v) = IsPlain v

-- Reads of a project's constants make values of constants, and its files are classes or scenes.
pub record HasConstants (project : Project) : Type 0 where
  pub members : (class : ClassTag) (name : List ℕ) → IsConstantMeant (project.member class name)
  pub locals : (class : ClassTag) (place : Place) → IsOfConstant (project.constant_at class place)
  pub resources : (class : ClassTag) (path : List ℕ) → IsResource (project.resource class path)

-- ---- calls

-- a returned value is known where a frame receives it
abbrev pub KnowsReturned : List Frame → List (Option Cell) → Value → Type 0
KnowsReturned [] cells v = Unit {0}
KnowsReturned (f ∷ fs) cells v = knows cells v ≡ true

-- all that the cells of a later world name is known, and what was held is
abbrev pub KeepsKnown : List Value → World → World → Type 0
KeepsKnown held w u = AreKnown u.cells × IsLater held w.cells u.cells

abbrev pub StopsKnown : List Value → World → Stop → Type 0
StopsKnown held w (Failed kind spot u) = KeepsKnown held w u
StopsKnown held w (Spent spot u) = KeepsKnown held w u

-- what a call comes to
abbrev pub EndsKnown : List Frame → World → Ending → Type 0
EndsKnown frames w (Ok (v, u)) = KeepsKnown (holds_of frames) w u × KnowsReturned frames u.cells v
EndsKnown frames w (Err e) = StopsKnown (holds_of frames) w e

-- what `new` comes to: the object, and what `_init` returned
abbrev pub MakesKnown : List Frame → World → Result (Value × Value × World) Stop → Type 0
MakesKnown frames w (Ok (o, v, u)) = KeepsKnown (holds_of frames) w u × (knows u.cells o ≡ true) × KnowsReturned frames u.cells v
MakesKnown frames w (Err e) = StopsKnown (holds_of frames) w e

-- ---- states of a frame

-- how cells go on where no code runs: all that is known stays known
pub record IsCalm (old new : List (Option Cell)) : Type 0 where
  pub serials : length old ≤ length new
  pub gone : (x : ℕ) → x < length old → cell_at old x ≡ None → cell_at new x ≡ None
  pub stays : (v : Value) → knows old v ≡ true → knows new v ≡ true

abbrev pub MakesValue : World → Given → Type 0
MakesValue w (Ok (v, g)) = AreKnown g.cells × IsCalm w.cells g.cells × (knows g.cells v ≡ true)
MakesValue w (Err kind) = Unit {0}

-- a read makes what is known
pub record IsKnownMaking (making : Making) : Type 0 where
  pub makes : (frames : List Frame) (w : World) → AreKnown w.cells → MakesValue w (making (heap_of frames w))

abbrev pub KnowsConstant : Option Making → Type 0
KnowsConstant None = Unit {0}
KnowsConstant (Some making) = IsKnownMaking making

abbrev pub KnowsLocals : List (Option Cell) → List Local → Type 0
KnowsLocals cells locals = AllByRecursion (λ l. (knows cells l.value ≡ true) × KnowsConstant l.constant) locals

-- the frame of a script, above which so many frames more may be active, whose `self` and locals are known
pub record IsFrame (project : Project) (bodies : Bodies) (depth : ℕ) (a : Around) (locals : List Local) (w : World) : Type 0 where
  pub call : a.call ≡ script_calls project bodies depth
  pub cells : AreKnown w.cells
  pub self : knows w.cells a.self ≡ true
  pub known : KnowsLocals w.cells locals

-- what the frames below hold, and `self`
abbrev pub held_below : Around → List Value
held_below a = holds_of a.outer ++ cells_held a.self

module _ (project : Project) (bodies : Bodies) (depth : ℕ) where
  -- what an expression comes to: a value that is known and held by its frame, which is as before
  abbrev pub GivesKnown : Here → Moment → Result (Value × Moment) Stop → Type 0
  GivesKnown h m (Ok (v, n)) = IsFrame project bodies depth h.around h.locals n.world × IsLater (holds_of (frames_of (site_of h) m)) m.world.cells n.world.cells × (knows n.world.cells v ≡ true) × Stays (holds_of (frames_of (site_of h) n)) v
  GivesKnown h m (Err e) = StopsKnown (holds_of (frames_of (site_of h) m)) m.world e

  abbrev pub GoesKnown : Around → World → Flow → Type 0
  GoesKnown a w (Next s) = IsFrame project bodies depth a s.locals s.world × IsLater (held_below a) w.cells s.world.cells
  GoesKnown a w (Broke s) = IsFrame project bodies depth a s.locals s.world × IsLater (held_below a) w.cells s.world.cells
  GoesKnown a w (Continued s) = IsFrame project bodies depth a s.locals s.world × IsLater (held_below a) w.cells s.world.cells
  GoesKnown a w (Returned v s) = IsFrame project bodies depth a s.locals s.world × IsLater (held_below a) w.cells s.world.cells × KnowsReturned a.outer s.world.cells v

  -- what a statement comes to: the frame goes on, and what it returns is known where it is received
  abbrev pub LeadsKnown : Around → Now → Result Flow Stop → Type 0
  LeadsKnown a s (Ok flow) = GoesKnown a s.world flow
  LeadsKnown a s (Err e) = StopsKnown (held_below a) s.world e
