-- What native calls give: those of the table by their names, with the faults in their order: `NullAccess`, `FreedAccess`,
-- `NoMethod`, `BadArgs`, and then those of the calls.
use Rattle.std.specs.Prelude.{ℕ, Bool, true, false, ◌||◌, if◌then◌else◌, List, [], ◌∷◌, map, chars, Option, Some, None, is_some, Result, Ok, Err}
use Rattle.std.specs.List.{list_any}
use Rattle.variant_values.specs.declared.cells.Cell.{Cell}
use Rattle.variant_values.specs.declared.faults.RunFault.{RunFault}
use Rattle.variant_values.specs.declared.faults.RunFault.TheVariants.{NullAccess, FreedAccess, NoMethod, BadArgs}
use Rattle.variant_values.specs.declared.values.Serial.{Serial}
use Rattle.variant_values.specs.declared.values.Value.{Value}
use Rattle.variant_values.specs.declared.values.Value.TheVariants.{Null, Bool as Truth, Int, Str, Array, Dict, Object, Callable, Signal, Class, Scene, Weak}
use Rattle.variant_values.specs.Changes.{Given, looked}
use Rattle.variant_values.specs.Classes.{is_node_class, is_ref_counted}
use Rattle.variant_values.specs.ContainerCalls.{array_call_of, dict_call_of}
use Rattle.variant_values.specs.ElementTypes.{lineage_of}
use Rattle.variant_values.specs.Heaps.{Heap, cell_at, is_living}
use Rattle.variant_values.specs.Links.{connections_of, targets_of}
use Rattle.variant_values.specs.Operators.{Outcome, truth_of}
use Rattle.variant_values.specs.StringMethods.{string_call_of, is_none_given}
use Rattle.variant_values.specs.ValueTexts.{Names}
use Rattle.native_calls.specs.Table.{Kind, GlobalFunctions, StringMethods, ArrayMethods, DictionaryMethods, CallableMethods, SignalMethods, WeakRefMethods, SceneMethods, ClassMethods, ObjectMethods, NodeMethods, GlobalFunction, Print, Text, Len, Range, Abs, Min, Max, Clamp, MinOfTwo, MaxOfTwo, PosMod, WeakRef, IsInstanceValid, NativeCall, CallsGlobal, CallsString, CallsArray, CallsDict, CallsCallable, AsksValid, EmitsSignal, GetsRef, FreesObject, Row, row_in}
use Rattle.native_calls.specs.Globals.{texts_of, printed_line, joined_text, length_value, range_value, abs_value, min_value, max_value, clamp_value, min_of_two, max_of_two, pos_mod_value, weak_value, validity_value}

-- What a native call gives. The last two are those of nodes and scenes, whose calls have no clause yet.
pub data Answer : Type 0 where
  -- a value, and the heap then
  Gives : (value : Value) (heap : Heap) → Answer
  -- a text to be printed, with its newline
  Prints : (text : List ℕ) → Answer
  -- a function of an object is called by its name
  GoesOn : (of : Value) (name : List ℕ) (args : List Value) → Answer
  -- the connected methods are called, in order
  Emits : (targets : List Value) (args : List Value) → Answer
  -- a node entered the tree, with all below it
  Enters : (node : Serial) (heap : Heap) → Answer
  -- the scene of a file is built
  Instantiates : (file : ℕ) → Answer

abbrev pub Native : Type 0
Native = Result Answer RunFault

abbrev pub from_given : Given → Native
from_given (Ok (v, h)) = Ok (Gives v h)
from_given (Err fault) = Err fault

-- a look at the heap
abbrev pub from_look : Heap → Outcome → Native
from_look h outcome = from_given (looked h outcome)

abbrev pub from_text : Result (List ℕ) RunFault → Native
from_text (Ok text) = Ok (Prints text)
from_text (Err fault) = Err fault

-- ---- which rows a receiver has

abbrev pub object_kinds : Bool → List Kind
object_kinds true = NodeMethods ∷ ObjectMethods ∷ []
object_kinds false = ObjectMethods ∷ []

-- the kinds of rows of a value
abbrev pub kinds_of : List (Option Cell) → Value → List Kind
kinds_of cells Null = []
kinds_of cells (Truth b) = []
kinds_of cells (Int n) = []
kinds_of cells (Str s) = StringMethods ∷ []
kinds_of cells (Array s) = ArrayMethods ∷ []
kinds_of cells (Dict s) = DictionaryMethods ∷ []
kinds_of cells (Object s) = object_kinds (list_any is_node_class (lineage_of (cell_at cells s.0)))
kinds_of cells (Callable s m) = CallableMethods ∷ []
kinds_of cells (Signal s m) = SignalMethods ∷ []
kinds_of cells (Class c) = ClassMethods ∷ []
kinds_of cells (Scene f p) = SceneMethods ∷ []
kinds_of cells (Weak s) = WeakRefMethods ∷ []

abbrev pub first_row : Option Row → Option Row → Option Row
first_row (Some row) other = Some row
first_row None other = other

abbrev pub row_among : List Kind → List ℕ → Option Row
row_among [] name = None
row_among (kind ∷ kinds) name = first_row (row_in kind name) (row_among kinds name)

-- the row of a method of a value
abbrev pub row_of : List (Option Cell) → Value → List ℕ → Option Row
row_of cells v name = row_among (kinds_of cells v) name

-- whether a value has a native method of that name
abbrev pub is_method : List (Option Cell) → Value → List ℕ → Bool
is_method cells v name = is_some (row_of cells v name)

-- ---- what the calls give

-- Whether a script gives the class of a living object a function of that name.
abbrev pub HasFunction : Type 0
HasFunction = Cell → List ℕ → Bool

-- whether an object lives and has that method, which may be a native one
abbrev pub is_valid : HasFunction → List (Option Cell) → Serial → List ℕ → Option Cell → Bool
is_valid has cells s method None = false
is_valid has cells s method (Some cell) = has cell method || is_method cells (Object s) method

abbrev pub validity : HasFunction → Heap → Serial → List ℕ → List Value → Native
validity has h s method args = from_look h (if is_none_given args then truth_of (is_valid has h.cells s method (cell_at h.cells s.0)) else Err BadArgs)

-- null where the object has gone
abbrev pub referred : List (Option Cell) → Serial → Value
referred cells s = if is_living cells s.0 then Object s else Null

abbrev pub reference : Heap → Serial → List Value → Native
reference h s args = from_look h (if is_none_given args then Ok (referred h.cells s) else Err BadArgs)

-- the methods that are connected to a signal of an object, as they stand, in order of connection
abbrev pub snapshot : List (Option Cell) → Serial → List ℕ → List Value
snapshot cells s signal = map (λ t. Callable t.0 t.1) (targets_of signal (connections_of (cell_at cells s.0)))

-- A counted object is not freed by a call. The other clause comes with nodes.
abbrev pub free_refusal : List (Option Cell) → Serial → List Value → Option Native
free_refusal cells s args = if list_any is_ref_counted (lineage_of (cell_at cells s.0)) || (if is_none_given args then false else true) then Some (Err BadArgs) else None

abbrev pub global_given : Names → Heap → GlobalFunction → List Value → Native
global_given names h Print args = from_text (printed_line (texts_of h.cells names args))
global_given names h Text args = from_look h (joined_text (texts_of h.cells names args))
global_given names h Len args = from_look h (length_value h.cells args)
global_given names h Range args = from_given (range_value h args)
global_given names h Abs args = from_look h (abs_value args)
global_given names h Min args = from_look h (min_value args)
global_given names h Max args = from_look h (max_value args)
global_given names h Clamp args = from_look h (clamp_value args)
global_given names h MinOfTwo args = from_look h (min_of_two args)
global_given names h MaxOfTwo args = from_look h (max_of_two args)
global_given names h PosMod args = from_look h (pos_mod_value args)
global_given names h WeakRef args = from_look h (weak_value args)
global_given names h IsInstanceValid args = from_look h (validity_value h.cells args)

-- what a call of a value's row gives; no row of a value has a call of another kind
abbrev pub method_given : HasFunction → Heap → Value → NativeCall → List Value → Option Native
method_given has h (Str s) (CallsString m) args = Some (from_given (string_call_of h m s args))
method_given has h (Array s) (CallsArray m) args = Some (from_given (array_call_of h m s args))
method_given has h (Dict s) (CallsDict m) args = Some (from_given (dict_call_of h m s args))
method_given has h (Callable s m) CallsCallable args = Some (if is_living h.cells s.0 then Ok (GoesOn (Object s) (chars m) args) else Err FreedAccess)
method_given has h (Callable s m) AsksValid args = Some (validity has h s (chars m) args)
method_given has h (Signal s name) EmitsSignal args = Some (Ok (Emits (snapshot h.cells s name) args))
method_given has h (Weak s) GetsRef args = Some (reference h s args)
method_given has h (Object s) FreesObject args = free_refusal h.cells s args
method_given has h v call args = None

abbrev pub call_given : HasFunction → Heap → Value → List Value → Option NativeCall → Option Native
call_given has h v args None = None
call_given has h v args (Some call) = method_given has h v call args

-- no method of that name, or what the call of its row gives
abbrev pub row_given : HasFunction → Heap → Value → List Value → Option Row → Option Native
row_given has h v args None = Some (Err NoMethod)
row_given has h v args (Some row) = call_given has h v args row.call

-- why no method of a value can be called, whatever its name
abbrev pub access_fault : List (Option Cell) → Value → Option RunFault
access_fault cells Null = Some NullAccess
access_fault cells (Object s) = if is_living cells s.0 then None else Some FreedAccess
access_fault cells (Signal s m) = if is_living cells s.0 then None else Some FreedAccess
access_fault cells v = None

abbrev pub unless_refused : Option RunFault → Option Native → Option Native
unless_refused (Some fault) given = Some (Err fault)
unless_refused None given = given

-- What a native method of a value gives, where the meaning has a clause for it.
abbrev pub method_native : HasFunction → Heap → Value → List ℕ → List Value → Option Native
method_native has h v name args = unless_refused (access_fault h.cells v) (row_given has h v args (row_of h.cells v name))

abbrev pub global_call : Names → Heap → List Value → Option NativeCall → Option Native
global_call names h args (Some (CallsGlobal f)) = Some (global_given names h f args)
global_call names h args call = None

abbrev pub global_row_given : Names → Heap → List Value → Option Row → Option Native
global_row_given names h args None = Some (Err NoMethod)
global_row_given names h args (Some row) = global_call names h args row.call

abbrev pub global_native : Names → Heap → List ℕ → List Value → Option Native
global_native names h name args = global_row_given names h args (row_in GlobalFunctions name)

-- What a native call gives, without a receiver that of a global function.
abbrev pub native : HasFunction → Names → Heap → Option Value → List ℕ → List Value → Option Native
native has names h None name args = global_native names h name args
native has names h (Some v) name args = method_native has h v name args
