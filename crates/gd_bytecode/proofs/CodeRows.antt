-- What instructions do to one frame, worked out by hand. Each row computes.
use Rattle.std.proofs.Common.{◌≡◌, ℕ, ℤ, pos, negsuc, true, false, List, [], ◌∷◌, map, refl, ap, ◌∙◌, rules}
use Rattle.std.specs.Int.{int_wrap}
use Rattle.std.specs.Prelude.{Some, None, Ok, Err, codes}
use Rattle.folder_meaning.specs.declared.const_value.ConstValue.{ConstValue, the_lemmas as const_lemmas}
use Rattle.folder_meaning.specs.declared.const_value.ConstValue.TheVariants as constant
use Rattle.folder_meaning.specs.declared.script_type.ScriptType.TheVariants as of_type
use Rattle.variant_values.specs.declared.cells.Cell.TheVariants.{Array as ArrayCell, Dict as DictCell, Object as ObjectCell}
use Rattle.variant_values.specs.declared.classes.ClassTag.TheVariants as class_of
use Rattle.variant_values.specs.declared.faults.RunFault.{RunFault}
use Rattle.variant_values.specs.declared.faults.RunFault.TheVariants as fault
use Rattle.variant_values.specs.declared.operators.BinaryOp.TheVariants as binary
use Rattle.variant_values.specs.declared.operators.UnaryOp.TheVariants as unary
use Rattle.variant_values.specs.Comparisons.{same_value, same_at}
use Rattle.variant_values.specs.Sweeps as sweeps
use Rattle.variant_values.specs.declared.values.Key.TheVariants as key
use Rattle.variant_values.specs.declared.values.Value.{Value}
use Rattle.variant_values.specs.declared.values.Value.TheVariants as value
use Rattle.native_calls.specs.Table as table
use Rattle.script_meaning.specs.Constants.{array_made}
use Rattle.script_meaning.specs.State.{World, Making, Failed, Spent}
use Rattle.script_meaning.specs.Members.{constant_read}
use Rattle.script_meaning.proofs.Made.{const-Int, const-Array}
use Rattle.script_meaning.specs.Meanings.{Method, Static}
use Rattle.script_meaning.specs.Tables.{project_of_rows}
use Rattle.gd_bytecode.specs.declared.file_code.Code.{Code}
use Rattle.gd_bytecode.specs.declared.instructions.Args.{Args}
use Rattle.gd_bytecode.specs.declared.instructions.Instr.{Instr}
use Rattle.gd_bytecode.specs.declared.instructions.Instr.TheVariants.{LoadNull, LoadConst, LoadGlobal, LoadCallable, LoadSignal, Move, Store, ToBool, Not, Unary, Binary, GetField, SetField, GetMember, GetItem, SetMember, GetIndex, SetIndex, Push, MakeArray, MakeDict, Check, IsType, AsType, FindCallee, CallFound, CallOwn, CallNative, CallValue, CallGlobal, CallFunction, New, WalkValue, WalkRange, WalkNext, MatchStart, MatchSame, MatchArray, MatchDict, MatchKeys, MatchItem, MatchEntry, MatchDrop, MatchBind, Step, EndUnit, Jump, JumpUnless, JumpIfOpen, JumpBack, Assert, Return, Fail}
use Rattle.gd_bytecode.specs.declared.instructions.Reg.{Reg}
use Rattle.gd_bytecode.specs.FrameState.{Running, Setting, goes_on, valued, Effect}
use Rattle.gd_bytecode.specs.declared.instructions.Op.{Op}
use Rattle.gd_bytecode.specs.PartMatches.{Plain, alone, plain, is_dict_of, entry_in}
use Rattle.gd_bytecode.specs.Effects.{effect, matches, entered}
use Rattle.gd_bytecode.specs.CodeRuns.{runs_from}

abbrev r : ℕ → Reg
r n = record { 0 = n }

abbrev args : ℕ → ℕ → Args
args first count = record { first = r first; count = count }

abbrev int : ℕ → Value
int n = value.Int (pos n)

-- an array of 5 and 6 is cell 1
abbrev list : Value
list = value.Array (record { 0 = 1 })

abbrev world : World
world = record { cells = None ∷ Some (ArrayCell (int 5 ∷ int 6 ∷ []) None) ∷ []; queued = []; printed = []; left = 4 }

abbrev code : Code
code = record {
  file = 3;
  functions = [];
  constants = constant.Int (pos 4) ∷ constant.Array (constant.Int (pos 4) ∷ constant.Int (pos 9) ∷ []) ∷ constant.Array (constant.Int (pos 9) ∷ []) ∷ [];
  names = codes "f" ∷ codes "g" ∷ codes "abs" ∷ codes "size" ∷ [];
  known_functions = record { class_tag = class_of.Object; name = codes "f" } ∷ [];
  classes = [];
  globals = [];
  scene = None;
}

-- a call of any function gives 9
abbrev a : Setting
a = record { call = λ frames unit r self vs w. Ok (int 9, w); outer = []; class = class_of.Object; code = code; project = project_of_rows [] }

-- `self` is null, a local has the array, and two values are being computed
abbrev s : Running
s = record { registers = value.Null ∷ list ∷ int 7 ∷ int 3 ∷ []; opened = 2; held = []; parts = int 1 ∷ int 2 ∷ []; callees = []; matched = []; bound = []; world = world }

-- the frame with these registers
abbrev having : List Value → Running
having vs = record s { registers = vs }

-- a dictionary with 6 at the key 4 is cell 2, and is under a match
abbrev dict : Value
dict = value.Dict (record { 0 = 2 })

abbrev matching : Running
matching = record s { matched = dict ∷ []; world = record world { cells = None ∷ Some (ArrayCell (int 5 ∷ int 6 ∷ []) None) ∷ Some (DictCell ((key.Int (pos 4), int 6) ∷ [])) ∷ [] } }

-- what this instruction leaves, in line 8
abbrev does : Instr → Running → Effect
does instr t = effect a 8 instr t

abbrev op : Instr → Op
op instr = record { line = 8; instr = instr }

abbrev stops : RunFault → Effect
stops kind = Err (Failed kind (record { file = 3; line = 8 }) world)

-- constants as patterns have them
abbrev items_of_constants : List Plain → Plain
items_of_constants all = record { value = value.Null; items = map (λ p. p.value) all }

plain-Int : (n : ℤ) → plain (constant.Int n) ≡ alone (value.Int n)
unfolding plain
plain-Int n = search (rules, const_lemmas)

plain-Array : (all : List ConstValue) → plain (constant.Array all) ≡ items_of_constants (map plain all)
unfolding plain
plain-Array all = search (rules, const_lemmas)

row_load_null : does (LoadNull (r 3)) s ≡ goes_on (having (value.Null ∷ list ∷ int 7 ∷ value.Null ∷ []))
row_load_null = refl

row_load_cuts : does (LoadNull (r 2)) s ≡ goes_on (having (value.Null ∷ list ∷ value.Null ∷ []))
row_load_cuts = refl

row_load_const : does (LoadConst (r 2) 0) s ≡ goes_on (having (value.Null ∷ list ∷ int 4 ∷ []))
row_load_const = ap (λ (m : Making). valued (r 2) (constant_read m) a 8 s) (const-Int (pos 4))

-- an array is made anew
row_load_const_array : does (LoadConst (r 2) 2) s ≡ goes_on (record s { registers = value.Null ∷ list ∷ value.Array (record { 0 = 2 }) ∷ []; held = value.Array (record { 0 = 2 }) ∷ []; world = record world { cells = None ∷ Some (ArrayCell (int 5 ∷ int 6 ∷ []) None) ∷ Some (ArrayCell (int 9 ∷ []) None) ∷ [] } })
unfolding int_wrap
row_load_const_array = ap (λ (m : Making). valued (r 2) (constant_read m) a 8 s) (const-Array (constant.Int (pos 9) ∷ []) ∙ ap (λ (m : Making). array_made (m ∷ [])) (const-Int (pos 9)))

row_load_global : does (LoadGlobal (r 2) 0) s ≡ stops fault.NoMember
row_load_global = refl

row_load_callable : does (LoadCallable (r 2) 0) s ≡ stops fault.NoMember
row_load_callable = refl

row_load_signal : does (LoadSignal (r 2) 1) s ≡ stops fault.NoMember
row_load_signal = refl

row_move : does (Move (r 4) (r 1)) s ≡ goes_on (record s { registers = value.Null ∷ list ∷ int 7 ∷ int 3 ∷ list ∷ []; held = list ∷ [] })
row_move = refl

row_store : does (Store (r 1) (r 2)) s ≡ goes_on (having (value.Null ∷ int 7 ∷ int 7 ∷ int 3 ∷ []))
row_store = refl

row_store_closed : does (Store (r 3) (r 1)) s ≡ goes_on (record s { registers = value.Null ∷ list ∷ int 7 ∷ list ∷ []; held = list ∷ [] })
row_store_closed = refl

row_to_bool : does (ToBool (r 2) (r 3)) s ≡ goes_on (having (value.Null ∷ list ∷ value.Bool true ∷ []))
row_to_bool = refl

row_not : does (Not (r 2) (r 3)) s ≡ goes_on (having (value.Null ∷ list ∷ value.Bool false ∷ []))
row_not = refl

row_unary : does (Unary unary.Inv (r 2) (r 2)) s ≡ goes_on (having (value.Null ∷ list ∷ value.Int (negsuc 7) ∷ []))
unfolding int_wrap
row_unary = refl

row_binary : does (Binary binary.Add (r 2) (r 2) (r 3)) s ≡ goes_on (having (value.Null ∷ list ∷ int 10 ∷ []))
unfolding int_wrap
row_binary = refl

row_binary_fault : does (Binary binary.Add (r 2) (r 0) (r 3)) s ≡ stops fault.BadOperands
row_binary_fault = refl

row_get_field : does (GetField (r 2) 0) s ≡ stops fault.NoMember
row_get_field = refl

row_set_field : does (SetField 0 (r 2) true) s ≡ stops fault.NoMember
row_set_field = refl

row_get_member : does (GetMember (r 2) (r 0) 0) s ≡ stops fault.NullAccess
row_get_member = refl

row_get_item : does (GetItem (r 2) (r 0) 0 1) s ≡ stops fault.NullAccess
row_get_item = refl

row_set_member : does (SetMember (r 0) 0 (r 2) true) s ≡ stops fault.NullAccess
row_set_member = refl

row_get_index : does (GetIndex (r 2) (r 1) (r 4)) (having (value.Null ∷ list ∷ int 7 ∷ int 3 ∷ int 1 ∷ [])) ≡ goes_on (having (value.Null ∷ list ∷ int 6 ∷ []))
row_get_index = refl

row_get_index_fault : does (GetIndex (r 2) (r 1) (r 3)) s ≡ stops fault.BadIndex
row_get_index_fault = refl

row_set_index : does (SetIndex (r 1) (r 4) (r 2)) (having (value.Null ∷ list ∷ int 7 ∷ int 3 ∷ int 1 ∷ [])) ≡ goes_on (record s { registers = value.Null ∷ list ∷ int 7 ∷ int 3 ∷ int 1 ∷ []; world = record world { cells = None ∷ Some (ArrayCell (int 5 ∷ int 7 ∷ []) None) ∷ [] } })
unfolding int_wrap
row_set_index = refl

row_push : does (Push (r 2)) s ≡ goes_on (record s { parts = int 1 ∷ int 2 ∷ int 7 ∷ [] })
row_push = refl

row_push_open : does (Push (r 1)) s ≡ goes_on (record s { parts = int 1 ∷ int 2 ∷ list ∷ []; held = list ∷ [] })
row_push_open = refl

row_check : does (Check (r 2) of_type.Int) s ≡ goes_on s
row_check = refl

row_check_fault : does (Check (r 2) of_type.Str) s ≡ stops fault.BadType
row_check_fault = refl

row_is_type : does (IsType (r 2) (r 1) (of_type.Array None)) s ≡ goes_on (having (value.Null ∷ list ∷ value.Bool true ∷ []))
row_is_type = refl

row_as_type : does (AsType (r 2) (r 1) of_type.Int) s ≡ stops fault.BadType
row_as_type = refl

row_find_callee : does (FindCallee (r 2) 0) s ≡ goes_on (record s { callees = Method (int 7) (codes "f") ∷ [] })
row_find_callee = refl

row_call_found : does (CallFound (r 2) (args 3 1) 0) (record s { callees = Static class_of.Object (codes "f") ∷ [] }) ≡ goes_on (having (value.Null ∷ list ∷ int 9 ∷ []))
row_call_found = refl

row_call_found_none : does (CallFound (r 2) (args 3 1) 0) s ≡ stops fault.NotCallable
row_call_found_none = refl

row_call_own : does (CallOwn (r 2) 0 (args 3 1) 0) s ≡ stops fault.NullAccess
row_call_own = refl

-- null has no method, and an array has that of its size
row_call_native : does (CallNative (r 2) 3 (args 3 0)) s ≡ stops fault.NullAccess
row_call_native = refl

row_call_native_size : does (CallNative (r 2) 3 (args 3 0)) (having (list ∷ list ∷ int 7 ∷ int 3 ∷ [])) ≡ goes_on (having (list ∷ list ∷ int 2 ∷ []))
unfolding table.rows_of int_wrap
row_call_native_size = refl

row_call_global : does (CallGlobal (r 2) 2 (args 2 1)) (having (value.Null ∷ list ∷ value.Int (negsuc 6) ∷ int 3 ∷ [])) ≡ goes_on (having (value.Null ∷ list ∷ int 7 ∷ []))
unfolding table.rows_of int_wrap
row_call_global = refl

row_call_global_unknown : does (CallGlobal (r 2) 0 (args 2 1)) s ≡ stops fault.NoMethod
unfolding table.rows_of
row_call_global_unknown = refl

-- a new object is cell 2, and what `_init` would return is null
row_new : does (New (r 2) class_of.Object (args 3 0) 0) s ≡ goes_on (record s { registers = value.Null ∷ list ∷ value.Object (record { 0 = 2 }) ∷ []; held = value.Object (record { 0 = 2 }) ∷ []; world = record world { cells = None ∷ Some (ArrayCell (int 5 ∷ int 6 ∷ []) None) ∷ Some (ObjectCell (record { lineage = class_of.Object ∷ []; fields = []; connections = []; node = None })) ∷ [] } })
unfolding int_wrap
row_new = refl

row_new_refused : does (New (r 2) class_of.Object (args 3 1) 0) s ≡ Err (Failed fault.BadArgs (record { file = 3; line = 8 }) (record world { cells = None ∷ Some (ArrayCell (int 5 ∷ int 6 ∷ []) None) ∷ Some (ObjectCell (record { lineage = class_of.Object ∷ []; fields = []; connections = []; node = None })) ∷ [] }))
unfolding int_wrap
row_new_refused = refl

row_call_value : does (CallValue (r 2) (r 2) (args 3 1)) s ≡ stops fault.NotCallable
row_call_value = refl

row_call_function : does (CallFunction (r 2) 0 false (args 3 1) 0) (record s { matched = int 1 ∷ []; bound = int 2 ∷ [] }) ≡ goes_on (having (value.Null ∷ list ∷ int 9 ∷ []))
row_call_function = refl

row_walk_next_array : does (WalkNext (r 1) 5) (record s { registers = value.Null ∷ list ∷ int 1 ∷ value.Null ∷ [] }) ≡ goes_on (record s { registers = value.Null ∷ list ∷ int 2 ∷ value.Null ∷ int 6 ∷ []; opened = 5; world = record world { left = 3 } })
unfolding int_wrap
row_walk_next_array = refl

row_walk_next_over : does (WalkNext (r 1) 5) (record s { registers = value.Null ∷ list ∷ int 2 ∷ value.Null ∷ [] }) ≡ Ok (5, record s { registers = value.Null ∷ list ∷ int 2 ∷ value.Null ∷ []; world = record world { left = 3 } })
row_walk_next_over = refl

row_walk_next_number : does (WalkNext (r 1) 5) (having (value.Null ∷ int 2 ∷ int 6 ∷ int 4 ∷ [])) ≡ goes_on (record s { registers = value.Null ∷ int 6 ∷ int 6 ∷ int 4 ∷ int 2 ∷ []; opened = 5; world = record world { left = 3 } })
unfolding int_wrap
row_walk_next_number = refl

row_walk_next_last : does (WalkNext (r 1) 5) (having (value.Null ∷ int 6 ∷ int 6 ∷ int 4 ∷ [])) ≡ goes_on (record s { registers = value.Null ∷ value.Null ∷ value.Null ∷ value.Null ∷ int 6 ∷ []; opened = 5; world = record world { left = 3 } })
row_walk_next_last = refl

row_match_start : does (MatchStart (r 1)) (record s { bound = int 2 ∷ [] }) ≡ goes_on (record s { matched = list ∷ [] })
row_match_start = refl

row_match_same : does (MatchSame (r 2) 5) (record s { matched = int 7 ∷ [] }) ≡ goes_on (record s { matched = int 7 ∷ [] })
unfolding same_value same_at
row_match_same = refl

row_match_other : does (MatchSame (r 2) 5) (record s { matched = int 8 ∷ []; bound = int 1 ∷ [] }) ≡ Ok (5, s)
unfolding same_value same_at
row_match_other = refl

row_match_array : does (MatchArray 2 false 5) (record s { matched = list ∷ [] }) ≡ goes_on (record s { matched = list ∷ [] })
row_match_array = refl

row_match_longer : does (MatchArray 1 false 5) (record s { matched = list ∷ [] }) ≡ Ok (5, s)
row_match_longer = refl

row_match_or_more : does (MatchArray 1 true 5) (record s { matched = list ∷ [] }) ≡ goes_on (record s { matched = list ∷ [] })
row_match_or_more = refl

row_match_dict : does (MatchDict 5) (record s { matched = list ∷ [] }) ≡ Ok (5, s)
row_match_dict = refl

row_match_dict_fits : does (MatchDict 5) matching ≡ goes_on matching
row_match_dict_fits = refl

row_match_keys : does (MatchKeys 1 5) matching ≡ goes_on matching
row_match_keys =
    ap (λ (p : Plain). matches (is_dict_of matching.world.cells p.items (Some dict)) 5 matching) (plain-Array (constant.Int (pos 4) ∷ constant.Int (pos 9) ∷ []) ∙ ap (λ (p : Plain). items_of_constants (p ∷ plain (constant.Int (pos 9)) ∷ [])) (plain-Int (pos 4)) ∙ ap (λ (p : Plain). items_of_constants (alone (int 4) ∷ p ∷ [])) (plain-Int (pos 9)))

row_match_keys_more : does (MatchKeys 2 5) matching ≡ Ok (5, record matching { matched = [] })
row_match_keys_more = ap (λ (p : Plain). matches (is_dict_of matching.world.cells p.items (Some dict)) 5 matching) (plain-Array (constant.Int (pos 9) ∷ []) ∙ ap (λ (p : Plain). items_of_constants (p ∷ [])) (plain-Int (pos 9)))

row_match_entry : does (MatchEntry 0 5) matching ≡ goes_on (record matching { matched = dict ∷ int 6 ∷ [] })
row_match_entry = ap (λ (p : Plain). entered (entry_in matching.world.cells p.value (Some dict)) 5 matching) (plain-Int (pos 4))

row_match_entry_none : does (MatchEntry 0 5) (record s { matched = list ∷ []; bound = int 1 ∷ [] }) ≡ Ok (5, s)
row_match_entry_none = refl

row_match_item : does (MatchItem 1) (record s { matched = list ∷ [] }) ≡ goes_on (record s { matched = list ∷ int 6 ∷ [] })
row_match_item = refl

row_match_drop : does (MatchDrop) (record s { matched = list ∷ int 6 ∷ [] }) ≡ goes_on (record s { matched = list ∷ [] })
row_match_drop = refl

row_match_bind : does (MatchBind) (record s { matched = list ∷ int 6 ∷ []; bound = int 1 ∷ [] }) ≡ goes_on (record s { matched = list ∷ int 6 ∷ []; bound = int 1 ∷ int 6 ∷ [] })
row_match_bind = refl

row_step : does (Step) s ≡ goes_on (record s { world = record world { left = 3 } })
row_step = refl

row_step_spent : does (Step) (record s { world = record world { left = 0 } }) ≡ Err (Spent (record { file = 3; line = 8 }) (record world { left = 0 }))
row_step_spent = refl

row_jump : does (Jump 5) s ≡ Ok (5, s)
row_jump = refl

row_jump_unless_true : does (JumpUnless (r 2) 5) s ≡ goes_on s
row_jump_unless_true = refl

row_jump_unless_false : does (JumpUnless (r 0) 5) s ≡ Ok (5, s)
row_jump_unless_false = refl

row_jump_if_open : does (JumpIfOpen (r 1) 5) s ≡ Ok (5, s)
row_jump_if_open = refl

row_jump_if_closed : does (JumpIfOpen (r 2) 5) s ≡ goes_on s
row_jump_if_closed = refl

row_assert : does (Assert (r 2)) s ≡ goes_on s
row_assert = refl

row_assert_fault : does (Assert (r 0)) s ≡ stops fault.AssertFailed
row_assert_fault = refl

row_fail : does (Fail fault.NoMember) s ≡ stops fault.NoMember
row_fail = refl

row_make_array : does (MakeArray (r 2) 2 None) s ≡ goes_on (record s { registers = value.Null ∷ list ∷ value.Array (record { 0 = 2 }) ∷ []; parts = []; held = value.Array (record { 0 = 2 }) ∷ []; world = record world { cells = None ∷ Some (ArrayCell (int 5 ∷ int 6 ∷ []) None) ∷ Some (ArrayCell (int 1 ∷ int 2 ∷ []) None) ∷ [] } })
unfolding int_wrap
row_make_array = refl

row_make_dict : does (MakeDict (r 2) 1) s ≡ goes_on (record s { registers = value.Null ∷ list ∷ dict ∷ []; parts = []; held = dict ∷ []; world = record world { cells = None ∷ Some (ArrayCell (int 5 ∷ int 6 ∷ []) None) ∷ Some (DictCell ((key.Int (pos 1), int 2) ∷ [])) ∷ [] } })
unfolding int_wrap
row_make_dict = refl

-- what was bound goes no further than its registers
row_end_unit_bound : does (EndUnit 2 3) (record s { parts = []; bound = int 4 ∷ int 8 ∷ [] }) ≡ goes_on (record s { registers = value.Null ∷ list ∷ int 4 ∷ []; opened = 3; parts = [] })
unfolding int_wrap sweeps.round
row_end_unit_bound = refl

row_end_unit : does (EndUnit 2 3) (record s { parts = []; bound = int 4 ∷ []; matched = list ∷ [] }) ≡ goes_on (record s { registers = value.Null ∷ list ∷ int 4 ∷ []; opened = 3; parts = [] })
unfolding int_wrap sweeps.round
row_end_unit = refl

row_end_unit_sweeps : does (EndUnit 1 4) s ≡ goes_on (record s { registers = value.Null ∷ []; opened = 1; parts = []; world = record world { cells = None ∷ None ∷ [] } })
unfolding int_wrap sweeps.round
row_end_unit_sweeps = refl

row_walk_value : does (WalkValue (r 2) (r 1)) s ≡ goes_on (record s { registers = value.Null ∷ list ∷ list ∷ int 0 ∷ value.Null ∷ []; opened = 5; parts = [] })
unfolding int_wrap sweeps.round
row_walk_value = refl

row_walk_range : does (WalkRange (r 2) (args 2 1)) s ≡ goes_on (record s { registers = value.Null ∷ list ∷ int 0 ∷ int 6 ∷ int 1 ∷ []; opened = 5; parts = [] })
unfolding int_wrap sweeps.round
row_walk_range = refl

row_loop : runs_from a (op Step ∷ op (JumpBack 1) ∷ []) 0 s ≡ Err (Spent (record { file = 3; line = 8 }) (record world { left = 0 }))
unfolding int_wrap
row_loop = refl

row_skipped : runs_from a (op (Jump 1) ∷ op (Fail fault.NoMember) ∷ op (Return (r 2)) ∷ []) 0 s ≡ Ok (int 7, record world { cells = None ∷ None ∷ [] })
unfolding int_wrap sweeps.round
row_skipped = refl

row_over : runs_from a [] 0 s ≡ Ok (value.Null, record world { cells = None ∷ None ∷ [] })
unfolding int_wrap sweeps.round
row_over = refl
