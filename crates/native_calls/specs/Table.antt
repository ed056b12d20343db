-- The table of native calls, after the Godot manual's "@GlobalScope", "@GDScript", "String", "Array", "Dictionary",
-- "Callable", "Signal", "WeakRef", "PackedScene", "Object" and "Node": those that the language has.
use Rattle.std.specs.Prelude.{ℕ, ◌+◌, Bool, true, false, ◌&&◌, nat_le, if◌then◌else◌, List, [], ◌∷◌, length, codes, bytes_eq, Option, Some, None, is_some}
use Rattle.std.specs.List.{list_all, list_any}
use Rattle.variant_values.specs.declared.cells.Cell.{Cell}
use Rattle.variant_values.specs.declared.container_methods.ArrayMethod.{ArrayMethod}
use Rattle.variant_values.specs.declared.container_methods.ArrayMethod.TheVariants as array
use Rattle.variant_values.specs.declared.container_methods.DictMethod.{DictMethod}
use Rattle.variant_values.specs.declared.container_methods.DictMethod.TheVariants as dict
use Rattle.variant_values.specs.declared.string_methods.StrMethod.{StrMethod}
use Rattle.variant_values.specs.declared.string_methods.StrMethod.TheVariants as text
use Rattle.variant_values.specs.declared.values.Value.{Value}
use Rattle.variant_values.specs.declared.values.Value.TheVariants.{Bool as Truth, Int, Str, Array, Dict, Object, Callable}
use Rattle.variant_values.specs.Classes.{is_node_class}
use Rattle.variant_values.specs.ElementTypes.{lineage_of}
use Rattle.variant_values.specs.Heaps.{cell_at, is_living}

-- what a native call is received by: nothing, or a value of this kind
pub data Kind : Type 0 where
  GlobalFunctions : Kind
  StringMethods : Kind
  ArrayMethods : Kind
  DictionaryMethods : Kind
  CallableMethods : Kind
  SignalMethods : Kind
  WeakRefMethods : Kind
  SceneMethods : Kind
  ClassMethods : Kind
  -- of every object
  ObjectMethods : Kind
  -- of an object that is a Node, beside those of every object
  NodeMethods : Kind

abbrev pub kinds : List Kind
kinds = GlobalFunctions ∷ StringMethods ∷ ArrayMethods ∷ DictionaryMethods ∷ CallableMethods ∷ SignalMethods ∷ WeakRefMethods ∷ SceneMethods ∷ ClassMethods ∷ ObjectMethods ∷ NodeMethods ∷ []

-- the type of a parameter or of a result
pub data NativeType : Type 0 where
  -- a Variant
  AnyValue : NativeType
  -- no value, of results alone
  NoValue : NativeType
  ABool : NativeType
  AnInt : NativeType
  AString : NativeType
  AnArray : NativeType
  ADictionary : NativeType
  ACallable : NativeType
  AWeakRef : NativeType
  -- a String, an Array or a Dictionary, of parameters alone
  Sized : NativeType
  -- an object, and not null
  AnObject : NativeType
  ANode : NativeType
  -- an instance of the class that receives the call, of results alone
  ItsInstance : NativeType

-- Parameters: those that every call has to give, those that it may give, and the type of any further ones, where there may be some.
pub record Params : Type 0 where
  pub required : List NativeType
  pub optional : List NativeType
  pub further : Option NativeType

pub data GlobalFunction : Type 0 where
  Print : GlobalFunction
  Text : GlobalFunction
  Len : GlobalFunction
  Range : GlobalFunction
  Abs : GlobalFunction
  Min : GlobalFunction
  Max : GlobalFunction
  Clamp : GlobalFunction
  MinOfTwo : GlobalFunction
  MaxOfTwo : GlobalFunction
  PosMod : GlobalFunction
  WeakRef : GlobalFunction
  IsInstanceValid : GlobalFunction

-- what a native call does
pub data NativeCall : Type 0 where
  CallsGlobal : (function : GlobalFunction) → NativeCall
  CallsString : (method : StrMethod) → NativeCall
  CallsArray : (method : ArrayMethod) → NativeCall
  CallsDict : (method : DictMethod) → NativeCall
  CallsCallable : NativeCall
  AsksValid : NativeCall
  EmitsSignal : NativeCall
  GetsRef : NativeCall
  FreesObject : NativeCall

-- A row: a name, the parameters, the type of the result, and what the call does. Where that is not told (`None`), the meaning has
-- no clause yet: so it is of the connections of signals, of scenes, of `new`, and of nodes.
pub record Row : Type 0 where
  pub name : List ℕ
  pub params : Params
  pub result : NativeType
  pub call : Option NativeCall

-- ---- the rows

abbrev pub no_params : Params
no_params = record { required = []; optional = []; further = None }

abbrev pub one : NativeType → Params
one a = record { required = a ∷ []; optional = []; further = None }

abbrev pub two : NativeType → NativeType → Params
two a b = record { required = a ∷ b ∷ []; optional = []; further = None }

abbrev pub three : NativeType → NativeType → NativeType → Params
three a b c = record { required = a ∷ b ∷ c ∷ []; optional = []; further = None }

-- the second may be left out
abbrev pub one_or_two : NativeType → NativeType → Params
one_or_two a b = record { required = a ∷ []; optional = b ∷ []; further = None }

-- one that may be left out
abbrev pub none_or_one : NativeType → Params
none_or_one a = record { required = []; optional = a ∷ []; further = None }

-- any values
abbrev pub any_values : Params
any_values = record { required = []; optional = []; further = Some AnyValue }

abbrev pub two_or_more : NativeType → Params
two_or_more a = record { required = a ∷ a ∷ []; optional = []; further = Some a }

-- of `range`: an end, or a start and an end, or a step beside
abbrev pub range_params : Params
range_params = record { required = AnInt ∷ []; optional = AnInt ∷ AnInt ∷ []; further = None }

abbrev pub global_row : List ℕ → GlobalFunction → Params → NativeType → Row
global_row name function params result = record { name = name; params = params; result = result; call = Some (CallsGlobal function) }

abbrev pub global_rows : List Row
global_rows =
    global_row (codes "print") Print any_values NoValue
    ∷ global_row (codes "str") Text any_values AString
    ∷ global_row (codes "len") Len (one Sized) AnInt
    ∷ global_row (codes "range") Range range_params AnArray
    ∷ global_row (codes "abs") Abs (one AnInt) AnInt
    ∷ global_row (codes "min") Min (two_or_more AnInt) AnInt
    ∷ global_row (codes "max") Max (two_or_more AnInt) AnInt
    ∷ global_row (codes "clamp") Clamp (three AnInt AnInt AnInt) AnInt
    ∷ global_row (codes "absi") Abs (one AnInt) AnInt
    ∷ global_row (codes "mini") MinOfTwo (two AnInt AnInt) AnInt
    ∷ global_row (codes "maxi") MaxOfTwo (two AnInt AnInt) AnInt
    ∷ global_row (codes "clampi") Clamp (three AnInt AnInt AnInt) AnInt
    ∷ global_row (codes "posmod") PosMod (two AnInt AnInt) AnInt
    ∷ global_row (codes "weakref") WeakRef (one AnObject) AWeakRef
    ∷ global_row (codes "is_instance_valid") IsInstanceValid (one AnyValue) ABool
    ∷ []

abbrev pub string_row : List ℕ → StrMethod → Params → NativeType → Row
string_row name method params result = record { name = name; params = params; result = result; call = Some (CallsString method) }

abbrev pub string_rows : List Row
string_rows =
    string_row (codes "length") text.Length no_params AnInt
    ∷ string_row (codes "is_empty") text.IsEmpty no_params ABool
    ∷ string_row (codes "substr") text.Substr (one_or_two AnInt AnInt) AString
    ∷ string_row (codes "left") text.Left (one AnInt) AString
    ∷ string_row (codes "right") text.Right (one AnInt) AString
    ∷ string_row (codes "find") text.Find (one_or_two AString AnInt) AnInt
    ∷ string_row (codes "contains") text.Contains (one AString) ABool
    ∷ string_row (codes "begins_with") text.BeginsWith (one AString) ABool
    ∷ string_row (codes "ends_with") text.EndsWith (one AString) ABool
    ∷ string_row (codes "replace") text.Replace (two AString AString) AString
    ∷ string_row (codes "split") text.Split (one AString) AnArray
    ∷ string_row (codes "join") text.Join (one AnArray) AString
    ∷ string_row (codes "repeat") text.Repeat (one AnInt) AString
    ∷ string_row (codes "to_upper") text.ToUpper no_params AString
    ∷ string_row (codes "to_lower") text.ToLower no_params AString
    ∷ string_row (codes "strip_edges") text.StripEdges no_params AString
    ∷ string_row (codes "is_valid_int") text.IsValidInt no_params ABool
    ∷ string_row (codes "to_int") text.ToInt no_params AnInt
    ∷ string_row (codes "unicode_at") text.UnicodeAt (one AnInt) AnInt
    ∷ []

abbrev pub array_row : List ℕ → ArrayMethod → Params → NativeType → Row
array_row name method params result = record { name = name; params = params; result = result; call = Some (CallsArray method) }

abbrev pub array_rows : List Row
array_rows =
    array_row (codes "size") array.Size no_params AnInt
    ∷ array_row (codes "is_empty") array.IsEmpty no_params ABool
    ∷ array_row (codes "append") array.Append (one AnyValue) NoValue
    ∷ array_row (codes "push_back") array.PushBack (one AnyValue) NoValue
    ∷ array_row (codes "push_front") array.PushFront (one AnyValue) NoValue
    ∷ array_row (codes "pop_back") array.PopBack no_params AnyValue
    ∷ array_row (codes "pop_front") array.PopFront no_params AnyValue
    ∷ array_row (codes "front") array.Front no_params AnyValue
    ∷ array_row (codes "back") array.Back no_params AnyValue
    ∷ array_row (codes "insert") array.Insert (two AnInt AnyValue) AnInt
    ∷ array_row (codes "remove_at") array.RemoveAt (one AnInt) NoValue
    ∷ array_row (codes "erase") array.Erase (one AnyValue) NoValue
    ∷ array_row (codes "clear") array.Clear no_params NoValue
    ∷ array_row (codes "has") array.Has (one AnyValue) ABool
    ∷ array_row (codes "find") array.Find (one AnyValue) AnInt
    ∷ array_row (codes "count") array.Count (one AnyValue) AnInt
    ∷ array_row (codes "slice") array.Slice (one_or_two AnInt AnInt) AnArray
    ∷ array_row (codes "reverse") array.Reverse no_params NoValue
    ∷ array_row (codes "sort") array.Sort no_params NoValue
    ∷ array_row (codes "duplicate") array.Duplicate (none_or_one ABool) AnArray
    ∷ array_row (codes "append_array") array.AppendArray (one AnArray) NoValue
    ∷ array_row (codes "resize") array.Resize (one AnInt) AnInt
    ∷ array_row (codes "fill") array.Fill (one AnyValue) NoValue
    ∷ []

abbrev pub dict_row : List ℕ → DictMethod → Params → NativeType → Row
dict_row name method params result = record { name = name; params = params; result = result; call = Some (CallsDict method) }

abbrev pub dict_rows : List Row
dict_rows =
    dict_row (codes "size") dict.Size no_params AnInt
    ∷ dict_row (codes "is_empty") dict.IsEmpty no_params ABool
    ∷ dict_row (codes "has") dict.Has (one AnyValue) ABool
    ∷ dict_row (codes "get") dict.Get (one_or_two AnyValue AnyValue) AnyValue
    ∷ dict_row (codes "keys") dict.Keys no_params AnArray
    ∷ dict_row (codes "values") dict.Values no_params AnArray
    ∷ dict_row (codes "erase") dict.Erase (one AnyValue) ABool
    ∷ dict_row (codes "clear") dict.Clear no_params NoValue
    ∷ dict_row (codes "duplicate") dict.Duplicate (none_or_one ABool) ADictionary
    ∷ dict_row (codes "merge") dict.Merge (one_or_two ADictionary ABool) NoValue
    ∷ []

abbrev pub other_row : List ℕ → Option NativeCall → Params → NativeType → Row
other_row name call params result = record { name = name; params = params; result = result; call = call }

abbrev pub callable_rows : List Row
callable_rows =
    other_row (codes "call") (Some CallsCallable) any_values AnyValue
    ∷ other_row (codes "is_valid") (Some AsksValid) no_params ABool
    ∷ []

abbrev pub signal_rows : List Row
signal_rows =
    other_row (codes "connect") None (one ACallable) AnInt
    ∷ other_row (codes "disconnect") None (one ACallable) NoValue
    ∷ other_row (codes "is_connected") None (one ACallable) ABool
    ∷ other_row (codes "emit") (Some EmitsSignal) any_values NoValue
    ∷ []

abbrev pub weak_ref_rows : List Row
weak_ref_rows = other_row (codes "get_ref") (Some GetsRef) no_params AnyValue ∷ []

abbrev pub scene_rows : List Row
scene_rows = other_row (codes "instantiate") None no_params ANode ∷ []

-- the `_init` of the class says which arguments fit
abbrev pub class_rows : List Row
class_rows = other_row (codes "new") None any_values ItsInstance ∷ []

abbrev pub object_rows : List Row
object_rows = other_row (codes "free") (Some FreesObject) no_params NoValue ∷ []

abbrev pub node_rows : List Row
node_rows =
    other_row (codes "add_child") None (one ANode) NoValue
    ∷ other_row (codes "get_child") None (one AnInt) ANode
    ∷ other_row (codes "get_child_count") None no_params AnInt
    ∷ other_row (codes "get_parent") None no_params ANode
    ∷ other_row (codes "get_node") None (one AString) ANode
    ∷ other_row (codes "queue_free") None no_params NoValue
    ∷ []

-- the table
unfoldable pub rows_of : Kind → List Row
rows_of GlobalFunctions = global_rows
rows_of StringMethods = string_rows
rows_of ArrayMethods = array_rows
rows_of DictionaryMethods = dict_rows
rows_of CallableMethods = callable_rows
rows_of SignalMethods = signal_rows
rows_of WeakRefMethods = weak_ref_rows
rows_of SceneMethods = scene_rows
rows_of ClassMethods = class_rows
rows_of ObjectMethods = object_rows
rows_of NodeMethods = node_rows

-- ---- by name

abbrev pub row_named : List Row → List ℕ → Option Row
row_named [] name = None
row_named (row ∷ rows) name = if bytes_eq row.name name then Some row else row_named rows name

-- the row of that name
abbrev pub row_in : Kind → List ℕ → Option Row
row_in kind name = row_named (rows_of kind) name

abbrev pub has_row : Kind → List ℕ → Bool
has_row kind name = is_some (row_in kind name)

abbrev pub is_global : List ℕ → Bool
is_global name = has_row GlobalFunctions name

-- whether no two rows have one name
abbrev pub are_named_once : List Row → Bool
are_named_once [] = true
are_named_once (row ∷ rows) = (if is_some (row_named rows row.name) then false else true) && are_named_once rows

-- ---- arguments

-- whether there may be so many arguments
abbrev pub takes_count : Params → ℕ → Bool
takes_count params n = nat_le (length params.required) n && (if is_some params.further then true else nat_le n (length params.required + length params.optional))

-- An object that has gone is refused for itself, and not for its kind.
abbrev pub is_node_or_gone : List (Option Cell) → ℕ → Bool
is_node_or_gone cells x = if is_living cells x then list_any is_node_class (lineage_of (cell_at cells x)) else true

-- whether a value is of the type of a parameter
abbrev pub admits : List (Option Cell) → NativeType → Value → Bool
admits cells AnyValue v = true
admits cells ABool (Truth b) = true
admits cells AnInt (Int n) = true
admits cells AString (Str s) = true
admits cells AnArray (Array s) = true
admits cells ADictionary (Dict s) = true
admits cells ACallable (Callable s m) = true
admits cells Sized (Str s) = true
admits cells Sized (Array s) = true
admits cells Sized (Dict s) = true
admits cells AnObject (Object s) = true
admits cells ANode (Object s) = is_node_or_gone cells s.0
admits cells of v = false

abbrev pub further_admitted : List (Option Cell) → Option NativeType → List Value → Bool
further_admitted cells None [] = true
further_admitted cells None (v ∷ vs) = false
further_admitted cells (Some of) vs = list_all (admits cells of) vs

abbrev pub optional_admitted : List (Option Cell) → Option NativeType → List NativeType → List Value → Bool
optional_admitted cells further [] vs = further_admitted cells further vs
optional_admitted cells further (of ∷ ofs) [] = true
optional_admitted cells further (of ∷ ofs) (v ∷ vs) = admits cells of v && optional_admitted cells further ofs vs

abbrev pub required_admitted : List (Option Cell) → Params → List NativeType → List Value → Bool
required_admitted cells params [] vs = optional_admitted cells params.further params.optional vs
required_admitted cells params (of ∷ ofs) [] = false
required_admitted cells params (of ∷ ofs) (v ∷ vs) = admits cells of v && required_admitted cells params ofs vs

-- whether arguments are right in number and type
abbrev pub admitted : List (Option Cell) → Params → List Value → Bool
admitted cells params vs = required_admitted cells params params.required vs
