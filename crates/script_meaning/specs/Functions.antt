-- What calls of functions and of initialisers do.
use Rattle.std.specs.Prelude.{ℕ, suc, Bool, true, false, ◌&&◌, nat_le, if◌then◌else◌, List, [], ◌∷◌, ◌++◌, map, length, Option, Some, None, is_some, option_map, Result, Ok}
use Rattle.folder_meaning.specs.declared.script_type.ScriptType.{ScriptType}
use Rattle.folder_meaning.specs.declared.script_type.ScriptType.TheVariants.{Variant}
use Rattle.gd_syntax.specs.declared.tree.member.Func.{Func}
use Rattle.gd_syntax.specs.declared.tree.member.Param.{Param}
use Rattle.variant_values.specs.declared.cells.Cell.{Cell}
use Rattle.variant_values.specs.declared.classes.ClassTag.{ClassTag}
use Rattle.variant_values.specs.declared.faults.RunFault.{RunFault}
use Rattle.variant_values.specs.declared.faults.RunFault.TheVariants.{BadArgs, BadType}
use Rattle.variant_values.specs.declared.values.Value.{Value}
use Rattle.variant_values.specs.declared.values.Value.TheVariants.{Null}
use Rattle.script_meaning.specs.State.{opens, World, Frame, Stop, ◌>>=◌, and_then}
use Rattle.script_meaning.specs.Projects.{Project, Field, Starts, Never, WithNew, WhenReady, Routine, Function, Initialisers, Argument, Calls, Ending, Entry, calls, nowhere}
use Rattle.script_meaning.specs.Types.{fits_at_run}
use Rattle.script_meaning.specs.Meanings.{Around, Means, site_of}
use Rattle.script_meaning.specs.Exprs.{expr}
use Rattle.script_meaning.specs.Statements.{Runs, Now, Flow, Next, Broke, Continued, Returned, settled, close, sequence, initial, unit_at, start, begun, received_value, put_field, stmt}

-- A parameter: its name, its type, and its default.
pub record ParamMeans : Type 0 where
  pub name : List ℕ
  pub type : ScriptType
  pub default : Option Means

-- A function: its name and the line of it, whether it is static, its parameters, the type of its result, and its statements.
pub record FunctionMeans : Type 0 where
  pub name : List ℕ
  pub line : ℕ
  pub is_static : Bool
  pub params : List ParamMeans
  pub result : ScriptType
  pub body : List Runs

-- What the functions and the initialisers of a project do: a function that this very class declares, and the initialiser of
-- a field that it declares.
pub record Bodies : Type 0 where
  pub function : ClassTag → List ℕ → Option FunctionMeans
  pub start : ClassTag → List ℕ → Option Means

-- ---- why arguments are refused

-- how many arguments there have to be
abbrev pub required : List ParamMeans → ℕ
required [] = 0
required (p ∷ ps) = if is_some p.default then 0 else suc (required ps)

-- no fewer arguments than are required, and no more than there are parameters
abbrev pub takes_so_many : List ParamMeans → ℕ → Bool
takes_so_many params n = nat_le (required params) n && nat_le n (length params)

-- an argument is checked, unless it surely fits
abbrev pub admits_argument : List (Option Cell) → ScriptType → Argument → Bool
admits_argument cells type a = if a.fits then true else fits_at_run cells type a.value

-- each argument that was given is checked against its parameter
abbrev pub admits_arguments : List (Option Cell) → List ParamMeans → List Argument → Bool
admits_arguments cells [] args = true
admits_arguments cells (p ∷ ps) [] = true
admits_arguments cells (p ∷ ps) (a ∷ rest) = admits_argument cells p.type a && admits_arguments cells ps rest

-- a wrong number of arguments comes before one of a wrong type
abbrev pub argument_refusal : List ParamMeans → List Argument → World → Option RunFault
argument_refusal params args w = if takes_so_many params (length args) then (if admits_arguments w.cells params args then None else Some BadType) else Some BadArgs

-- ---- frames

-- a static function has no `self`
abbrev pub self_in : Bool → Value → Value
self_in true self = Null
self_in false self = self

-- the initialiser that runs with `new`, where there is one
abbrev pub start_with_new : Starts → Option Means → Option Means
start_with_new Never start = None
start_with_new WithNew start = start
start_with_new WhenReady start = None

-- a function that ends without `return` gives null
abbrev pub over : Flow → Ending
over (Next s) = Ok (Null, s.world)
over (Broke s) = Ok (Null, s.world)
over (Continued s) = Ok (Null, s.world)
over (Returned v s) = Ok (v, s.world)

module _ (project : Project) where
  -- ---- functions

  -- A default is a unit of the callee without a step, at the line of its expression.
  abbrev pub default : ParamMeans → Option Means → Around → Now → Result Now Stop
  default p None a s = Ok (record s { locals = s.locals ++ opens p.name p.type Null })
  default p (Some e) a s = do
    x ← received_value project p.type e (unit_at project a e.place.line s) (start s)
    Ok (settled a.outer a (s.locals ++ opens p.name p.type x.0) x.1.world)

  -- parameters open one after the other, so a default sees those before it
  abbrev pub opened : List ParamMeans → List Value → Around → Now → Result Now Stop
  opened [] vs a s = Ok s
  opened (p ∷ ps) (v ∷ vs) a s = opened ps vs a (record s { locals = s.locals ++ opens p.name p.type v })
  opened (p ∷ ps) [] a s = do
    next ← default p p.default a s
    opened ps [] a next

  -- parameters stand in the function's block
  abbrev pub function_body : ClassTag → FunctionMeans → Calls → List Frame → Value → List Value → World → Ending
  function_body class f call outer self vs w =
      let a : Around = record { call = call; outer = outer; self = self_in f.is_static self; class = class; function = f.name; result = f.result } in
      and_then (opened f.params vs a (record { locals = []; world = w })) (λ s. and_then (sequence f.body a s) (λ flow. over (close a 0 flow)))

  -- a function as an entry of the table of calls: entering it takes a step
  abbrev pub function_entry : ClassTag → FunctionMeans → Entry
  function_entry class f = record {
    spot = record { file = project.file class; line = f.line };
    refusal = argument_refusal f.params;
    takes_step = true;
    body = function_body class f;
  }

  -- ---- initialisers

  -- An initialiser is a statement, and a unit of the one frame of all of them, at the line of the variable's name.
  abbrev pub initialise : Around → ℕ → Field → Option Means → World → Result World Stop
  initialise a place f None w = Ok w
  initialise a place f (Some e) w = begun project a f.line (record { locals = []; world = w }) λ h m. do
    x ← e.value h m
    y ← put_field project a.self (Some (place, f.type)) (project.fits_at a.class e.place) x.0 (site_of h) x.1
    Ok (settled a.outer a [] y).world

  -- base class first, in order of declaration
  abbrev pub initialise_all : Bodies → Calls → List Frame → Value → ℕ → List Field → World → Result World Stop
  initialise_all bodies call outer self place [] w = Ok w
  initialise_all bodies call outer self place (f ∷ fs) w = do
    next ← initialise (record { call = call; outer = outer; self = self; class = f.class; function = []; result = Variant }) place f (start_with_new f.starts (bodies.start f.class f.name)) w
    initialise_all bodies call outer self (suc place) fs next

  -- what the frame of the initialisers does
  abbrev pub fields_body : Bodies → ClassTag → Calls → List Frame → Value → List Value → World → Ending
  fields_body bodies class call outer self vs w = do
    next ← initialise_all bodies call outer self 0 (project.fields class) w
    Ok (Null, next)

  -- They are never refused for arguments. Their frame counts among those that are active, and entering it takes no step.
  abbrev pub fields_entry : Bodies → ClassTag → Entry
  fields_entry bodies class = record { spot = nowhere; refusal = λ args w. None; takes_step = false; body = fields_body bodies class }

  -- ---- all calls

  -- what code there is: code of another kind may fill the same table
  abbrev pub entry_of : Bodies → Routine → Option Entry
  entry_of bodies (Function class name) = option_map (function_entry class) (bodies.function class name)
  entry_of bodies (Initialisers class) = Some (fields_entry bodies class)

  -- what a call does where so many frames more may be active
  abbrev pub script_calls : Bodies → ℕ → Calls
  script_calls bodies frames = calls (entry_of bodies) frames

  -- ---- trees, in the code of a class

  -- a parameter, whose type the analysis knows by the place of its name
  abbrev pub param_means : ClassTag → Param → ParamMeans
  param_means class p = record { name = p.name.name; type = project.type_at class p.name.place; default = option_map (expr project) (initial p.declared) }

  -- a function, whose result's type the analysis knows by the place of its name
  abbrev pub function_means : ClassTag → Func → FunctionMeans
  function_means class f = record {
    name = f.name.name;
    line = f.name.place.line;
    is_static = f.is_static;
    params = map (param_means class) f.params;
    result = project.type_at class f.name.place;
    body = map (stmt project) f.body;
  }
