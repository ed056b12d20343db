-- What plain names and members give: as values, as what has members, as what is called, as targets.
use Rattle.std.specs.Prelude.{ℕ, ℤ, Bool, true, false, if◌then◌else◌, List, [], ◌∷◌, bytes_eq, encode_utf8_all, Option, Some, None, Result, Ok, Err}
use Rattle.gd_syntax.specs.declared.fault.Place.{Place}
use Rattle.variant_values.specs.declared.classes.ClassTag.{ClassTag}
use Rattle.variant_values.specs.declared.faults.RunFault.TheVariants.{NullAccess, FreedAccess, NoMember}
use Rattle.variant_values.specs.declared.values.Serial.{Serial}
use Rattle.variant_values.specs.declared.values.Value.{Value}
use Rattle.variant_values.specs.declared.values.Value.TheVariants.{Null, Int, Str, Dict, Object, Callable, Signal, Class}
use Rattle.variant_values.specs.ElementTypes.{lineage_of}
use Rattle.variant_values.specs.Heaps.{cell_at, field_in}
use Rattle.variant_values.specs.Indexing.{index_of}
use Rattle.variant_values.specs.Operators.{Outcome}
use Rattle.script_meaning.specs.State.{Making, Local, Stop, ◌>>=◌}
use Rattle.script_meaning.specs.Projects.{Project, Meant, AField, AFunction, ANativeMethod, ASignal, AConstant, AnEnum, AClass, AnOuterFunction, AGlobalFunction, or_unknown, member_meant, plain_meant}
use Rattle.script_meaning.specs.Meanings.{Here, Moment, Given-to, Valued, site_of, At-site, Holder, OfValue, OfEnum, Callee, Global, Method, Static, Plain, Target, ToMember, heap_at, gives, gives_by, gives_then, fails}

abbrev pub head_of : {A : Type 0} → List A → Option A
head_of [] = None
head_of (x ∷ xs) = Some x

-- ---- readings of a value

-- a value that has members
abbrev pub as_holder : Valued → Result (Holder × Moment) Stop
as_holder value = do
  x ← value
  Ok (OfValue x.0, x.1)

-- a value that is called
abbrev pub as_callee : Valued → Result (Callee × Moment) Stop
as_callee value = do
  x ← value
  Ok (Plain x.0, x.1)

-- ---- locals

abbrev pub local_of : List Local → List ℕ → Option Local
local_of [] name = None
local_of (l ∷ ls) name = if bytes_eq l.name name then Some l else local_of ls name

abbrev pub constant_read : Making → At-site Value
constant_read making s m = gives_then (making (heap_at s m)) s m

-- a constant is made anew at each read
abbrev pub read_by : Option Making → Value → At-site Value
read_by (Some making) v s m = constant_read making s m
read_by None v s m = gives v m

abbrev pub local_value : Local → At-site Value
local_value l s m = read_by l.constant l.value s m

-- ---- what is meant, as a value

-- without an object there are constants and classes alone
abbrev pub without_object : Meant → At-site Value
without_object (AConstant making) s m = constant_read making s m
without_object (AClass class) s m = gives (Class class) m
without_object meant s m = fails NoMember s m

abbrev pub or_member : Option Value → Outcome
or_member (Some v) = Ok v
or_member None = Err NoMember

-- of an object: its fields, and its functions and signals, which are named with it
abbrev pub of_object : Serial → List ℕ → Meant → At-site Value
of_object o name (AField i) s m = gives_by (or_member (field_in (cell_at m.world.cells o.0) i)) s m
of_object o name (AFunction owner is_static) s m = gives (Callable o (encode_utf8_all name)) m
of_object o name ANativeMethod s m = gives (Callable o (encode_utf8_all name)) m
of_object o name ASignal s m = gives (Signal o (encode_utf8_all name)) m
of_object o name meant s m = without_object meant s m

-- a plain name, in code with this `self`
abbrev pub meant_value : Value → List ℕ → Meant → At-site Value
meant_value (Object o) name meant s m = of_object o name meant s m
meant_value self name meant s m = without_object meant s m

abbrev pub meant_holder : Value → List ℕ → Meant → At-site Holder
meant_holder self name (AnEnum items) s m = Ok (OfEnum items, m)
meant_holder self name meant s m = as_holder (meant_value self name meant s m)

-- a function of `self`, and in static code one without an object
abbrev pub function_callee : Value → ClassTag → List ℕ → Callee
function_callee (Object o) class name = Method (Object o) name
function_callee self class name = Static class name

abbrev pub meant_callee : Value → List ℕ → Meant → At-site Callee
meant_callee self name (AFunction owner is_static) s m = Ok (function_callee self owner name, m)
meant_callee self name ANativeMethod s m = Ok (Method self name, m)
meant_callee self name (AnOuterFunction owner) s m = Ok (Static owner name, m)
meant_callee self name AGlobalFunction s m = Ok (Global name, m)
meant_callee self name meant s m = as_callee (meant_value self name meant s m)

-- ---- enums

abbrev pub item_of : List (List ℕ × ℤ) → List ℕ → Outcome
item_of [] name = Err NoMember
item_of (item ∷ items) name = if bytes_eq item.0 name then Ok (Int item.1) else item_of items name

abbrev pub items_of_enum : Option Meant → Option (List (List ℕ × ℤ))
items_of_enum (Some (AnEnum items)) = Some items
items_of_enum found = None

-- ---- classes of values

-- the class of an object that lives
abbrev pub class_in : Moment → Value → Option ClassTag
class_in m (Object s) = head_of (lineage_of (cell_at m.world.cells s.0))
class_in m v = None

-- the class of which a value has the members
abbrev pub class_behind : Moment → Value → Option ClassTag
class_behind m (Class class) = Some class
class_behind m v = class_in m v

-- Whether `v.name(..)` reads a value and calls that: a field, a constant, a signal or a class.
abbrev pub is_read_first : Value → Option Meant → Bool
is_read_first (Object s) (Some (AField i)) = true
is_read_first (Object s) (Some ASignal) = true
is_read_first v (Some (AConstant making)) = true
is_read_first v (Some (AClass class)) = true
is_read_first v found = false

module _ (project : Project) where
  -- ---- plain names

  abbrev pub meant_by : Here → List ℕ → Meant
  meant_by h name = plain_meant project h.around.class name

  abbrev pub named_value : Option Local → List ℕ → Given-to Value
  named_value (Some l) name h m = local_value l (site_of h) m
  named_value None name h m = meant_value h.around.self name (meant_by h name) (site_of h) m

  -- `name`
  abbrev pub name_value : List ℕ → Given-to Value
  name_value name h m = named_value (local_of h.locals name) name h m

  abbrev pub named_holder : Option Local → List ℕ → Given-to Holder
  named_holder (Some l) name h m = as_holder (local_value l (site_of h) m)
  named_holder None name h m = meant_holder h.around.self name (meant_by h name) (site_of h) m

  -- `name` where a member of it is read
  abbrev pub name_holder : List ℕ → Given-to Holder
  name_holder name h m = named_holder (local_of h.locals name) name h m

  abbrev pub named_callee : Option Local → List ℕ → Given-to Callee
  named_callee (Some l) name h m = as_callee (local_value l (site_of h) m)
  named_callee None name h m = meant_callee h.around.self name (meant_by h name) (site_of h) m

  -- `name` where it is called
  abbrev pub name_callee : List ℕ → Given-to Callee
  name_callee name h m = named_callee (local_of h.locals name) name h m

  -- ---- members

  abbrev pub meant_behind : Option ClassTag → List ℕ → Option Meant
  meant_behind None name = None
  meant_behind (Some class) name = member_meant project class name

  -- a member of an object that lives, or has gone
  abbrev pub object_member : Option ClassTag → Serial → List ℕ → At-site Value
  object_member None o name s m = fails FreedAccess s m
  object_member (Some class) o name s m = of_object o name (or_unknown (member_meant project class name)) s m

  -- `v.name`, which of a dictionary is the value of a key
  abbrev pub member_of : Value → List ℕ → At-site Value
  member_of Null name s m = fails NullAccess s m
  member_of (Dict d) name s m = gives_by (index_of m.world.cells (Dict d) (Str (encode_utf8_all name))) s m
  member_of (Object o) name s m = object_member (class_in m (Object o)) o name s m
  member_of (Class class) name s m = without_object (or_unknown (member_meant project class name)) s m
  member_of v name s m = fails NoMember s m

  abbrev pub member_in : Holder → List ℕ → At-site Value
  member_in (OfEnum items) name s m = gives_by (item_of items name) s m
  member_in (OfValue v) name s m = member_of v name s m

  -- the enum that a member is, where the type of what has it is known
  abbrev pub enum_in : Bool → Moment → Holder → List ℕ → Option (List (List ℕ × ℤ))
  enum_in true m (OfValue v) name = items_of_enum (meant_behind (class_behind m v) name)
  enum_in true m (OfEnum items) name = None
  enum_in false m of name = None

  abbrev pub holder_by : Option (List (List ℕ × ℤ)) → Holder → List ℕ → At-site Holder
  holder_by (Some items) of name s m = Ok (OfEnum items, m)
  holder_by None of name s m = as_holder (member_in of name s m)

  -- `e.name` where a member of it is read
  abbrev pub member_holder : Place → Given-to Holder → List ℕ → Given-to Holder
  member_holder place of name h m = do
    x ← of h m
    holder_by (enum_in (project.knows_enum_at h.around.class place) x.1 x.0 name) x.0 name (site_of h) x.1

  -- `e.name`
  abbrev pub member_value : Given-to Holder → List ℕ → Given-to Value
  member_value of name h m = do
    x ← of h m
    member_in x.0 name (site_of h) x.1

  -- a value is read before the arguments, and a function is looked for behind them
  abbrev pub callee_by : Bool → Value → List ℕ → At-site Callee
  callee_by true v name s m = as_callee (member_of v name s m)
  callee_by false v name s m = Ok (Method v name, m)

  abbrev pub callee_in : Holder → List ℕ → At-site Callee
  callee_in (OfEnum items) name s m = as_callee (member_in (OfEnum items) name s m)
  callee_in (OfValue v) name s m = callee_by (is_read_first v (meant_behind (class_behind m v) name)) v name s m

  -- `e.name` where it is called
  abbrev pub member_callee : Given-to Holder → List ℕ → Given-to Callee
  member_callee of name h m = do
    x ← of h m
    callee_in x.0 name (site_of h) x.1

  -- `e.name` where it is assigned to
  abbrev pub member_target : Given-to Value → List ℕ → Given-to Target
  member_target of name h m = do
    x ← of h m
    Ok (ToMember x.0 name, x.1)
