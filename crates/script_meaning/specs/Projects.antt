-- What a run knows of the classes of a project, what names mean, and what a call is.
use Rattle.std.specs.Prelude.{ℕ, zero, suc, ℤ, Bool, true, false, if◌then◌else◌, List, [], ◌∷◌, map, codes, bytes_eq, Option, Some, None, is_some, Result, Ok, Err}
use Rattle.std.specs.List.{list_any}
use Rattle.std.specs.Option.{option_or}
use Rattle.folder_meaning.specs.declared.script_type.ScriptType.{ScriptType}
use Rattle.gd_syntax.specs.declared.fault.Place.{Place}
use Rattle.native_calls.specs.Table.{is_global}
use Rattle.native_calls.specs.Natives.{object_kinds, row_among}
use Rattle.variant_values.specs.declared.classes.ClassTag.{ClassTag}
use Rattle.variant_values.specs.declared.classes.ClassTag.TheVariants as class_of
use Rattle.variant_values.specs.declared.classes.ElementTag.{ElementTag}
use Rattle.variant_values.specs.declared.faults.RunFault.{RunFault}
use Rattle.variant_values.specs.declared.faults.RunFault.TheVariants.{NoMethod, CallTooDeep}
use Rattle.variant_values.specs.declared.values.Value.{Value}
use Rattle.variant_values.specs.Classes.{is_node_class}
use Rattle.variant_values.specs.ValueTexts.{Names}
use Rattle.script_meaning.specs.State.{Making, World, Frame, Spot, Stop, Failed, ◌>>=◌, step}

-- ---- what the analysis knows

-- What a name means, as a member of a class or as a plain name in its code.
pub data Meant : Type 0 where
  -- a field, by its place among all fields of the object
  AField : (place : ℕ) → Meant
  -- a function, the class that declares it, and whether it is static
  AFunction : (owner : ClassTag) (is_static : Bool) → Meant
  -- a method that the native ancestor has
  ANativeMethod : Meant
  ASignal : Meant
  -- a constant, or an item of an enum without a name, by what a read of it gives
  AConstant : (value : Making) → Meant
  -- an enum, by its items; it is no value
  AnEnum : (items : List (List ℕ × ℤ)) → Meant
  AClass : (class : ClassTag) → Meant
  -- a static function of an enclosing class, and the class that declares it
  AnOuterFunction : (owner : ClassTag) → Meant
  AGlobalFunction : Meant
  Unknown : Meant

-- When the initialiser of a field runs.
pub data Starts : Type 0 where
  -- it has none
  Never : Starts
  WithNew : Starts
  -- when the node is ready
  WhenReady : Starts

-- A field: its name, the class that declares it, the line of its name, its type, and when its initialiser runs.
pub record Field : Type 0 where
  pub name : List ℕ
  pub class : ClassTag
  pub line : ℕ
  pub type : ScriptType
  pub starts : Starts

-- What the analysis knows of a project. Places are those of the file of the class in whose code they stand.
pub record Project : Type 0 where
  -- the file in which a class stands
  pub file : ClassTag → ℕ
  -- a class and its ancestors, nearest first
  pub lineage : ClassTag → List ClassTag
  -- the classes round a class, from the nearest outwards
  pub enclosing : ClassTag → List ClassTag
  -- what a script declares by a name in a class or in its nearest ancestor that has it
  pub member : ClassTag → List ℕ → Option Meant
  -- the global class of a name
  pub global_class : List ℕ → Option ClassTag
  -- all fields of an object of a class, base first, in order of declaration
  pub fields : ClassTag → List Field
  -- the names of classes in texts
  pub names : Names
  -- the type that a type name at this place means, or that the variable, parameter or function has whose name is declared there
  pub type_at : ClassTag → Place → ScriptType
  -- what a read of the local constant gives whose name is declared at this place
  pub constant_at : ClassTag → Place → Making
  -- whether the value of the expression at this place surely fits the variable, the parameter or the result that receives it; for
  -- an operator with `=` what it gives, by the place of its right side; for the variable of a `for` what is walked, by the place
  -- of its subject
  pub fits_at : ClassTag → Place → Bool
  -- the element type of the array that the literal at this place makes
  pub element_at : ClassTag → Place → Option ElementTag
  -- whether the class is known of which the expression at this place names an enum, as in `C.E.A`
  pub knows_enum_at : ClassTag → Place → Bool
  -- the class, or the scene, of the file that a path in the code of a class names
  pub resource : ClassTag → List ℕ → Option Value

-- ---- what names mean

-- the native classes
abbrev pub native_classes : List (List ℕ × ClassTag)
native_classes = (codes "Object", class_of.Object) ∷ (codes "RefCounted", class_of.RefCounted) ∷ (codes "Node", class_of.Node) ∷ []

abbrev pub native_class : List (List ℕ × ClassTag) → List ℕ → Option ClassTag
native_class [] name = None
native_class (row ∷ rows) name = if bytes_eq row.0 name then Some row.1 else native_class rows name

abbrev pub as_class : Option ClassTag → Option Meant
as_class None = None
as_class (Some class) = Some (AClass class)

abbrev pub where_so : Bool → Meant → Option Meant
where_so true meant = Some meant
where_so false meant = None

-- what inner classes see of a member by its plain name: constants, enums, classes and static functions
abbrev pub seen_within : Option Meant → Option Meant
seen_within (Some (AConstant value)) = Some (AConstant value)
seen_within (Some (AnEnum items)) = Some (AnEnum items)
seen_within (Some (AClass class)) = Some (AClass class)
seen_within (Some (AFunction owner true)) = Some (AnOuterFunction owner)
seen_within found = None

abbrev pub or_unknown : Option Meant → Meant
or_unknown None = Unknown
or_unknown (Some meant) = meant

-- whether objects with these classes have a native method of that name
abbrev pub has_native : List ClassTag → List ℕ → Bool
has_native classes name = is_some (row_among (object_kinds (list_any is_node_class classes)) name)

-- the function that a name means
abbrev pub function_owner : Option Meant → Option ClassTag
function_owner (Some (AFunction owner is_static)) = Some owner
function_owner found = None

module _ (project : Project) where
  -- a member of a class: what a script declares in the class or in its nearest ancestor that has the name, or a native method
  abbrev pub member_meant : ClassTag → List ℕ → Option Meant
  member_meant class name = option_or (project.member class name) (where_so (has_native (project.lineage class) name) ANativeMethod)

  abbrev pub outer_meant : List ClassTag → List ℕ → Option Meant
  outer_meant [] name = None
  outer_meant (class ∷ classes) name = option_or (seen_within (project.member class name)) (outer_meant classes name)

  -- A plain name that is no local is the first of these that has it: a member of the class, a constant, enum, inner class or
  -- static function of an enclosing class, a native class, a global class, a global function.
  abbrev pub plain_meant : ClassTag → List ℕ → Meant
  plain_meant class name = or_unknown (option_or (member_meant class name) (option_or (outer_meant (project.enclosing class) name)
      (option_or (as_class (native_class native_classes name)) (option_or (as_class (project.global_class name)) (where_so (is_global name) AGlobalFunction)))))

  -- the nearest class that declares a function
  abbrev pub owner : ClassTag → List ℕ → Option ClassTag
  owner class name = function_owner (project.member class name)

-- ---- calls, whatever the bodies are

-- What has a frame: a function that a class declares, or the initialisers of all fields of an object.
pub data Routine : Type 0 where
  Function : (class : ClassTag) (name : List ℕ) → Routine
  Initialisers : (class : ClassTag) → Routine

-- An argument: its value, and whether it surely fits the parameter, since the function and the types are known.
pub record Argument : Type 0 where
  pub value : Value
  pub fits : Bool

-- arguments of a call whose function is not known
abbrev pub unsure : List Value → List Argument
unsure vs = map (λ v. record { value = v; fits = false }) vs

abbrev pub values_of : List Argument → List Value
values_of args = map (λ a. a.value) args

abbrev pub Ending : Type 0
Ending = Result (Value × World) Stop

-- What a call does: the active frames, the line of the unit that makes it if one does, what is called, `self`, the arguments.
abbrev pub Calls : Type 0
Calls = List Frame → Option Spot → Routine → Value → List Argument → World → Ending

-- A routine: the line of its name, why arguments are refused, whether entering takes a step, and what its frame does.
pub record Entry : Type 0 where
  pub spot : Spot
  pub refusal : List Argument → World → Option RunFault
  pub takes_step : Bool
  pub body : Calls → List Frame → Value → List Value → World → Ending

-- a call that no unit makes has the line of the function
abbrev pub made_at : Option Spot → Spot → Spot
made_at (Some unit) own = unit
made_at None own = own

abbrev pub nowhere : Spot
nowhere = record { file = 0; line = 1 }

abbrev pub entered : Bool → Spot → World → Result World Stop
entered true spot w = step spot w
entered false spot w = Ok w

-- a refused call takes no step and makes no frame
abbrev pub admitted_by : Option RunFault → Spot → World → (World → Ending) → Ending
admitted_by (Some kind) spot w go = Err (Failed kind spot w)
admitted_by None spot w go = go w

abbrev pub admitted : Option Entry → Option Spot → List Argument → World → (Entry → Spot → World → Ending) → Ending
admitted None unit args w go = Err (Failed NoMethod (made_at unit nowhere) w)
admitted (Some e) unit args w go = admitted_by (e.refusal args w) (made_at unit e.spot) w (go e (made_at unit e.spot))

-- What a call does where so many frames more may be active: it is refused for its arguments, then for its depth, then takes
-- its step, and then has its frame.
abbrev pub calls : (Routine → Option Entry) → ℕ → Calls
calls find zero frames unit r self args w = admitted (find r) unit args w (λ e spot now. Err (Failed CallTooDeep spot now))
calls find (suc d) frames unit r self args w = admitted (find r) unit args w λ e spot now. do
  begun ← entered e.takes_step spot now
  e.body (calls find d) frames self (values_of args) begun

-- the frames that may be active at once
abbrev pub most_frames : ℕ
most_frames = 1024
