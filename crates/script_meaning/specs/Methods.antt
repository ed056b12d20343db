-- What calls give: of functions of scripts and of values, native ones, and of classes.
use Rattle.std.specs.Prelude.{ℕ, ◌+◌, Bool, true, false, nat_le, if◌then◌else◌, List, [], ◌∷◌, ◌++◌, length, codes, bytes_eq, chars, Option, Some, None, is_some, Ok, Err}
use Rattle.native_calls.specs.Natives.{Gives, Prints, GoesOn, Emits, Native, HasFunction, global_native, method_native}
use Rattle.variant_values.specs.declared.classes.ClassTag.{ClassTag}
use Rattle.variant_values.specs.declared.faults.RunFault.TheVariants.{NullAccess, FreedAccess, NotCallable, NoMethod, OutputFull}
use Rattle.variant_values.specs.declared.values.Serial.{Serial}
use Rattle.variant_values.specs.declared.values.Value.{Value}
use Rattle.variant_values.specs.declared.values.Value.TheVariants.{Null, Object, Callable, Class}
use Rattle.variant_values.specs.ElementTypes.{lineage_of}
use Rattle.script_meaning.specs.State.{◌>>=◌, joined}
use Rattle.script_meaning.specs.Projects.{Project, Meant, AFunction, Argument, unsure, values_of, Function, owner, member_meant}
use Rattle.script_meaning.specs.Objects.{make}
use Rattle.script_meaning.specs.Meanings.{At-site, Callee, Global, Method, Static, Plain, frames_of, heap_at, gives, fails, changed}
use Rattle.script_meaning.specs.Members.{head_of, class_in}
use Rattle.script_meaning.specs.Emission.{emission}

-- the function of a class, with this `self`; the frame holds what it returns
abbrev pub called : ClassTag → List ℕ → Value → List Argument → At-site Value
called class name self args s m = do
  r ← s.call (frames_of s m) (Some s.spot) (Function class name) self args m.world
  gives r.0 (record m { world = r.1 })

-- the most bytes that a run may print
abbrev pub most_printed : ℕ
most_printed = 67108864

-- a text that would pass the limit is not printed at all
abbrev pub prints : List ℕ → At-site Value
prints text s m = if nat_le (length m.world.printed + length text) most_printed then gives Null (record m { world = record m.world { printed = m.world.printed ++ text } }) else fails OutputFull s m

-- What a native call gives that calls no function. The calls of signals, nodes and scenes that the table has without a clause
-- have none here either, until theirs come.
abbrev pub finished : Option Native → At-site Value
finished (Some (Ok (Gives v heap))) s m = gives v (changed m heap)
finished (Some (Ok (Prints text))) s m = prints text s m
finished (Some (Err kind)) s m = fails kind s m
finished native s m = fails NoMethod s m

-- the function of a class that needs no object
abbrev pub static_owner : Option Meant → Option ClassTag
static_owner (Some (AFunction class true)) = Some class
static_owner found = None

-- the class above the one in whose code a frame is
abbrev pub parent_of : List ClassTag → Option ClassTag
parent_of [] = None
parent_of (class ∷ above) = head_of above

module _ (project : Project) where
  abbrev pub owner_in : Option ClassTag → List ℕ → Option ClassTag
  owner_in None name = None
  owner_in (Some class) name = owner project class name

  -- whether a script gives an object that function
  abbrev pub has_function : HasFunction
  has_function cell name = is_some (owner_in (head_of (lineage_of (Some cell))) name)

  abbrev pub native_call : Value → List ℕ → List Argument → At-site Value
  native_call v name args s m = finished (method_native has_function (heap_at s m) v name (values_of args)) s m

  -- the function that a class declares, or else a native method
  abbrev pub function_by : Option ClassTag → Value → List ℕ → List Argument → At-site Value
  function_by (Some class) self name args s m = called class name self args s m
  function_by None self name args s m = native_call self name args s m

  abbrev pub function_in : Option ClassTag → Value → List ℕ → List Argument → At-site Value
  function_in None self name args s m = fails FreedAccess s m
  function_in (Some class) self name args s m = function_by (owner project class name) self name args s m

  -- `o.name(..)`: the function that the class of the object has or inherits
  abbrev pub function_of : Value → List ℕ → List Argument → At-site Value
  function_of v name args s m = function_in (class_in m v) v name args s m

  -- a target of a signal is called by the name of its method
  abbrev pub target_called : Serial → List ℕ → List Value → At-site Value
  target_called o name vs s m = function_of (Object o) name (unsure vs) s m

  -- What a native call gives: a Callable's `call` goes on with the function of its object, and a signal's emission with those of
  -- its targets.
  abbrev pub answered : Option Native → At-site Value
  answered (Some (Ok (GoesOn of name vs))) s m = function_of of name (unsure vs) s m
  answered (Some (Ok (Emits targets vs))) s m = emission target_called targets vs s m
  answered native s m = finished native s m

  -- `v(..)`, where the function is not known
  abbrev pub value_call : Value → List Argument → At-site Value
  value_call Null args s m = fails NullAccess s m
  value_call (Callable o name) args s m = function_of (Object o) (chars name) (unsure (values_of args)) s m
  value_call v args s m = fails NotCallable s m

  -- `C.new(..)`; the frame holds what `_init` returned too
  abbrev pub made_object : ClassTag → List Argument → At-site Value
  made_object class args s m = do
    r ← make project s.call (frames_of s m) (Some s.spot) class args m.world
    gives r.0 (record { held = joined r.1 m.held; world = r.2 })

  abbrev pub static_by : Option ClassTag → List ℕ → List Argument → At-site Value
  static_by (Some class) name args s m = called class name Null args s m
  static_by None name args s m = fails NoMethod s m

  -- a class makes an object, and has static functions
  abbrev pub class_method : Bool → ClassTag → List ℕ → List Argument → At-site Value
  class_method true class name args s m = made_object class args s m
  class_method false class name args s m = static_by (static_owner (member_meant project class name)) name args s m

  -- `v.name(..)`
  abbrev pub method_call : Value → List ℕ → List Argument → At-site Value
  method_call (Object o) name args s m = function_of (Object o) name args s m
  method_call (Class class) name args s m = class_method (bytes_eq name (codes "new")) class name args s m
  method_call v name args s m = answered (method_native has_function (heap_at s m) v name (values_of args)) s m

  -- a call of what was named, with arguments that were evaluated
  abbrev pub invoked : Callee → List Argument → At-site Value
  invoked (Global name) args s m = finished (global_native project.names (heap_at s m) name (values_of args)) s m
  invoked (Method v name) args s m = method_call v name args s m
  invoked (Static class name) args s m = called class name Null args s m
  invoked (Plain v) args s m = value_call v args s m

  -- `super.name(..)`: the function that the class above has or inherits, with the same `self`
  abbrev pub super_called : List ℕ → List Argument → At-site Value
  super_called name args s m = function_by (owner_in (parent_of (project.lineage s.class)) name) s.self name args s m
