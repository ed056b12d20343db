-- What code does: a walk over its instructions that goes forward, but for jumps back to an instruction that takes a step.
use Rattle.std.specs.Prelude.{ℕ, zero, suc, ◌-◌, ◌&&◌, Bool, true, false, nat_le, if◌then◌else◌, List, [], ◌∷◌, ◌++◌, length, Option, Some, None, option_map, Result, Ok, Err}
use Rattle.variant_values.specs.declared.cells.Cell.{Cell}
use Rattle.variant_values.specs.declared.classes.ClassTag.{ClassTag}
use Rattle.variant_values.specs.declared.faults.RunFault.{RunFault}
use Rattle.variant_values.specs.declared.faults.RunFault.TheVariants.{BadArgs, BadType}
use Rattle.variant_values.specs.declared.values.Value.{Value}
use Rattle.variant_values.specs.declared.values.Value.TheVariants.{Null}
use Rattle.script_meaning.specs.State.{World, Frame, Stop, Spent, ◌>>=◌, and_then, sweep, cells_held, received}
use Rattle.script_meaning.specs.Projects.{Project, Field, Function, Initialisers, Routine, Argument, Calls, Ending, Entry, calls, nowhere}
use Rattle.script_meaning.specs.Objects.{is_with_new}
use Rattle.script_meaning.specs.Functions.{admits_argument, self_in}
use Rattle.gd_bytecode.specs.declared.file_code.Code.{Code}
use Rattle.gd_bytecode.specs.declared.file_code.FunctionCode.{FunctionCode}
use Rattle.gd_bytecode.specs.declared.file_code.Parameter.{Parameter}
use Rattle.gd_bytecode.specs.declared.instructions.Instr.{Instr}
use Rattle.gd_bytecode.specs.declared.instructions.Instr.TheVariants.{JumpBack, Return}
use Rattle.gd_bytecode.specs.declared.instructions.Op.{Op}
use Rattle.gd_bytecode.specs.declared.instructions.Reg.{Reg}
use Rattle.gd_bytecode.specs.Checks.{step_at}
use Rattle.gd_bytecode.specs.FrameState.{Running, Setting, read, self_of}
use Rattle.gd_bytecode.specs.Effects.{effect}

-- where a frame goes on, by how many instructions are passed, or by how many it goes back
abbrev pub Goes : Type 0
Goes = ℕ → Running → Ending

-- A returned value is held by the calling frame, the registers of the frame go, but for `self`, and the heap is swept.
abbrev pub leaves : Setting → Value → Running → Ending
leaves a v s = Ok (v, sweep (received v a.outer ++ record { self = self_of s; holds = cells_held (self_of s) ++ [] } ∷ []) s.world)

-- where an instruction leads: forward, so many instructions back, or out of the frame
pub data Lead : Type 0 where
  Forward : Lead
  GoesBack : (back : ℕ) → Lead
  Leaves : (value : Reg) → Lead

abbrev pub lead_of : Instr → Lead
lead_of (JumpBack back) = GoesBack back
lead_of (Return value) = Leaves value
lead_of instr = Forward

abbrev pub act_by : Lead → Setting → ℕ → Instr → Goes → Goes → Running → Ending
act_by Forward a line instr next again s = and_then (effect a line instr s) (λ x. next x.0 x.1)
act_by (GoesBack back) a line instr next again s = again back s
act_by (Leaves value) a line instr next again s = leaves a (read s value) s

abbrev pub act : Setting → ℕ → Instr → Goes → Goes → Running → Ending
act a line instr next again s = act_by (lead_of instr) a line instr next again s

-- The instructions from the place `at` on, of which so many are passed; a function whose instructions are over gives null.
abbrev pub forward : Setting → Goes → ℕ → List Op → ℕ → Running → Ending
forward a again at [] skip s = leaves a Null s
forward a again at (op ∷ ops) (suc skip) s = forward a again (suc at) ops skip s
forward a again at (op ∷ ops) zero s = act a op.line op.instr (forward a again (suc at) ops) (λ back. again (at - back)) s

-- only an instruction that takes a step is gone back to
abbrev pub where_step : Bool → Ending → Running → Ending
where_step true there s = there
where_step false there s = Err (Spent nowhere s.world)

-- Back to a place, where so many goings back are left. Each takes a step, so as many as there are steps, and one more, are
-- enough for all.
abbrev pub back : Setting → List Op → ℕ → Goes
back a ops zero place s = Err (Spent nowhere s.world)
back a ops (suc more) place s = where_step (step_at ops place) (forward a (back a ops more) 0 ops place s) s

-- the instructions from a place on, with as many goings back as there may be
abbrev pub runs_from : Setting → List Op → ℕ → Running → Ending
runs_from a ops place s = forward a (back a ops (suc s.world.left)) 0 ops place s

-- ---- frames of functions

-- `self` and the arguments are open as a frame begins
abbrev pub entered_with : Value → List Value → World → Running
entered_with self vs w = record { registers = self ∷ vs; opened = suc (length vs); held = []; parts = []; callees = []; matched = []; bound = []; world = w }

abbrev pub code_body : Project → ClassTag → Code → FunctionCode → Calls → List Frame → Value → List Value → World → Ending
code_body project class code f call outer self vs w = runs_from (record { call = call; outer = outer; class = class; code = code; project = project }) f.ops 0 (entered_with (self_in f.is_static self) vs w)

-- how many arguments there have to be
abbrev pub required : List Parameter → ℕ
required [] = 0
required (p ∷ ps) = if p.has_default then 0 else suc (required ps)

abbrev pub takes_so_many : List Parameter → ℕ → Bool
takes_so_many ps n = nat_le (required ps) n && nat_le n (length ps)

abbrev pub admits_all : List (Option Cell) → List Parameter → List Argument → Bool
admits_all cells [] args = true
admits_all cells (p ∷ ps) [] = true
admits_all cells (p ∷ ps) (arg ∷ args) = admits_argument cells p.type_of arg && admits_all cells ps args

-- a wrong number of arguments comes before one of a wrong type
abbrev pub refusal_of : List Parameter → List Argument → World → Option RunFault
refusal_of ps args w = if takes_so_many ps (length args) then (if admits_all w.cells ps args then None else Some BadType) else Some BadArgs

-- ---- what there is to call

-- the code of a function, with that of its file
pub record Found : Type 0 where
  pub code : Code
  pub function : FunctionCode

-- The code of a project: a function that this very class declares, and the initialiser of a field that it declares.
pub record CodeBodies : Type 0 where
  pub function : ClassTag → List ℕ → Option Found
  pub start : ClassTag → List ℕ → Option Found

module _ (project : Project) where
  abbrev pub code_entry : ClassTag → Found → Entry
  code_entry class found = record {
    spot = record { file = found.code.file; line = found.function.line };
    refusal = refusal_of found.function.parameters;
    takes_step = true;
    body = code_body project class found.code found.function;
  }

  -- an initialiser that runs with `new`
  abbrev pub initialise_by : Bool → Option Found → ClassTag → Calls → List Frame → Value → World → Result World Stop
  initialise_by true (Some found) class call outer self w = do
    x ← code_body project class found.code found.function call outer self [] w
    Ok x.1
  initialise_by runs found class call outer self w = Ok w

  -- base class first, in order of declaration
  abbrev pub initialise_all : CodeBodies → Calls → List Frame → Value → List Field → World → Result World Stop
  initialise_all bodies call outer self [] w = Ok w
  initialise_all bodies call outer self (f ∷ fs) w = do
    next ← initialise_by (is_with_new f.starts) (bodies.start f.class f.name) f.class call outer self w
    initialise_all bodies call outer self fs next

  abbrev pub fields_body : CodeBodies → ClassTag → Calls → List Frame → Value → List Value → World → Ending
  fields_body bodies class call outer self vs w = do
    next ← initialise_all bodies call outer self (project.fields class) w
    Ok (Null, next)

  abbrev pub fields_entry : CodeBodies → ClassTag → Entry
  fields_entry bodies class = record { spot = nowhere; refusal = λ args w. None; takes_step = false; body = fields_body bodies class }

  abbrev pub entry_of : CodeBodies → Routine → Option Entry
  entry_of bodies (Function class name) = option_map (code_entry class) (bodies.function class name)
  entry_of bodies (Initialisers class) = Some (fields_entry bodies class)

  -- what a call of a script function does by its code, where so many frames more may be active
  abbrev pub code_calls : CodeBodies → ℕ → Calls
  code_calls bodies frames = calls (entry_of bodies) frames
