-- What each instruction does to a frame. Values are computed by the very functions that the meaning of trees has.
use Rattle.std.specs.Prelude.{ℕ, ◌+◌, ◌*◌, ◌/◌, ◌%◌, Bool, true, false, not, nat_eq, nat_lt, List, [], ◌∷◌, ◌++◌, take, slice_get, unwrap_or, Option, Some, None, Result, Ok, Err}
use Rattle.folder_meaning.specs.declared.const_value.ConstValue.{ConstValue}
use Rattle.folder_meaning.specs.declared.script_type.ScriptType.{ScriptType}
use Rattle.native_calls.specs.Globals.{span_in}
use Rattle.variant_values.specs.declared.faults.RunFault.{RunFault}
use Rattle.variant_values.specs.declared.faults.RunFault.TheVariants.{NoMember, NoMethod, NotCallable, AssertFailed}
use Rattle.variant_values.specs.declared.values.Value.{Value}
use Rattle.variant_values.specs.declared.values.Value.TheVariants.{Null, Bool as Truth}
use Rattle.variant_values.specs.Changes.{looked}
use Rattle.variant_values.specs.Comparisons.{is_true, same_value}
use Rattle.variant_values.specs.Indexing.{index_of}
use Rattle.variant_values.specs.Operations.{operated}
use Rattle.variant_values.specs.Operators.{unary_of}
use Rattle.script_meaning.specs.State.{Making, ◌>>=◌, step}
use Rattle.script_meaning.specs.Projects.{Argument, unsure, AField, ANativeMethod, ASignal}
use Rattle.script_meaning.specs.Types.{is_of_type, taken_as}
use Rattle.script_meaning.specs.Constants.{made, new_dict_of}
use Rattle.script_meaning.specs.Meanings.{At-site, Callee, Global, OfValue, heap_at, gives, gives_by, gives_then, fails}
use Rattle.script_meaning.specs.Members.{constant_read, meant_value, member_of, member_in, holder_by, enum_in, callee_in}
use Rattle.script_meaning.specs.Methods.{called, native_call, value_call, made_object, method_call, invoked}
use Rattle.script_meaning.specs.Exprs.{array_of}
use Rattle.script_meaning.specs.Statements.{received_by, put_own, put_member, put_index}
use Rattle.gd_bytecode.specs.declared.file_code.KnownFunction.{KnownFunction}
use Rattle.gd_bytecode.specs.declared.instructions.Args.{Args}
use Rattle.gd_bytecode.specs.declared.instructions.Instr.{Instr}
use Rattle.gd_bytecode.specs.declared.instructions.Instr.TheVariants.{LoadNull, LoadConst, LoadGlobal, LoadCallable, LoadSignal, Move, Store, ToBool, Not, Unary, Binary, GetField, SetField, GetMember, GetItem, SetMember, GetIndex, SetIndex, Push, MakeArray, MakeDict, Check, IsType, AsType, FindCallee, CallFound, CallOwn, CallNative, CallValue, CallGlobal, CallFunction, New, WalkValue, WalkRange, WalkNext, MatchStart, MatchSame, MatchArray, MatchDict, MatchKeys, MatchItem, MatchEntry, MatchDrop, MatchBind, Step, EndUnit, Jump, JumpUnless, JumpIfOpen, JumpBack, Assert, Return, Fail}
use Rattle.gd_bytecode.specs.declared.instructions.Reg.{Reg}
use Rattle.gd_bytecode.specs.FrameState.{Running, Setting, register_at, read, self_of, values_in, spot_at, site_at, moment_of, Effect, goes_on, valued, changing, unmatched, called_into, kept, stored, settled, last_of, without_last, last_so_many, without_so_many}
use Rattle.gd_bytecode.specs.PartMatches.{plain_at, is_array_of, is_dict, is_dict_of, item_in, entry_in}
use Rattle.gd_bytecode.specs.Walks.{Walking, walking, walk_of, walk_of_span, walk_next}

-- ---- what is named by number

abbrev pub name_at : Setting → ℕ → List ℕ
name_at a n = unwrap_or (slice_get a.code.names n) []

abbrev pub making_by : Option ConstValue → Making
making_by (Some c) h = made c h
making_by None h = looked h (Ok Null)

abbrev pub constant_at : Setting → ℕ → Making
constant_at a k = making_by (slice_get a.code.constants k)

-- the object on which a function is called that may be static
abbrev pub object_for : Bool → Running → Value
object_for true s = self_of s
object_for false s = Null

abbrev pub known_called : Option KnownFunction → Value → List Argument → At-site Value
known_called (Some f) self args at m = called f.class_tag f.name self args at m
known_called None self args at m = fails NoMethod at m

abbrev pub found_called : Setting → Option Callee → List Argument → At-site Value
found_called a (Some callee) args at m = invoked a.project callee args at m
found_called a None args at m = fails NotCallable at m

-- ---- arguments

-- argument i surely fits where bit i is set
abbrev pub arguments : ℕ → List Value → List Argument
arguments sure [] = []
arguments sure (v ∷ vs) = record { value = v; fits = nat_eq (sure % 2) 1 } ∷ arguments (sure / 2) vs

abbrev pub arguments_in : Running → Args → ℕ → List Argument
arguments_in s args sure = arguments sure (values_in s args)

-- ---- values

abbrev pub truth : Running → Reg → Bool
truth s r = is_true s.world.cells (read s r)

-- the entries of a dictionary, key and value in turn
abbrev pub paired : List Value → List (Value × Value)
paired [] = []
paired (k ∷ []) = []
paired (k ∷ v ∷ vs) = (k, v) ∷ paired vs

-- a member of what may be an enum, as the class of the value has it
abbrev pub item_of_member : Setting → Value → List ℕ → List ℕ → At-site Value
item_of_member a v name item at m = do
  x ← holder_by a.project (enum_in a.project true m (OfValue v) name) (OfValue v) name at m
  member_in a.project x.0 item at x.1

-- ---- what an instruction leaves

-- a declared type receives a value
abbrev pub checked : ScriptType → Value → Setting → ℕ → Running → Effect
checked type v a line s = do
  fits ← received_by a.project false type v (spot_at a line) s.world
  goes_on s

abbrev pub stops_at : RunFault → Setting → ℕ → Running → Effect
stops_at kind a line s = fails kind (site_at a line s) (moment_of s)

abbrev pub asserted : Bool → Setting → ℕ → Running → Effect
asserted true a line s = goes_on s
asserted false a line s = stops_at AssertFailed a line s

abbrev pub finds : Value → List ℕ → Setting → ℕ → Running → Effect
finds v name a line s = do
  x ← callee_in a.project (OfValue v) name (site_at a line s) (moment_of s)
  goes_on (record s { held = x.1.held; world = x.1.world; callees = s.callees ++ x.0 ∷ [] })

-- so many instructions are passed, unless the test holds
abbrev pub unless : Bool → ℕ → Running → Effect
unless true skip s = goes_on s
unless false skip s = Ok (skip, s)

-- ---- walks

-- a walk begins, and its unit ends with its registers open
abbrev pub walks : Reg → At-site Walking → Setting → ℕ → Running → Effect
walks walk start a line s = do
  x ← start (site_at a line s) (moment_of s)
  goes_on (settled a (take walk.0 s.registers ++ walking x.0) x.1.world)

-- the item that a walk gave is open behind its registers
abbrev pub item_open : Reg → Option (Value × Walking) → ℕ → Running → Effect
item_open walk None skip s = Ok (skip, s)
item_open walk (Some (v, next)) skip s = goes_on (record s { registers = take walk.0 s.registers ++ (walking next ++ v ∷ []); opened = walk.0 + 4 })

abbrev pub walk_goes_on : Reg → ℕ → Running → Effect
walk_goes_on walk skip s = item_open walk (walk_next s.world.cells (register_at s.registers walk.0) (register_at s.registers (walk.0 + 1)) (register_at s.registers (walk.0 + 2))) skip s

-- a step is taken, where one is left
abbrev pub stepped : Setting → ℕ → Running → (Running → Effect) → Effect
stepped a line s go = do
  w ← step (spot_at a line) s.world
  go (record s { world = w })

-- ---- matches

-- a mismatch drops all that is under the match
abbrev pub matches : Bool → ℕ → Running → Effect
matches true skip s = goes_on s
matches false skip s = Ok (skip, unmatched s)

abbrev pub matches_by : Result Bool RunFault → ℕ → Setting → ℕ → Running → Effect
matches_by (Ok same) skip a line s = matches same skip s
matches_by (Err kind) skip a line s = stops_at kind a line s

-- the last part under the match, or null where there is none
abbrev pub part : Running → Value
part s = unwrap_or (last_of s.matched) Null

abbrev pub under : Value → Running → Running
under v s = record s { matched = s.matched ++ v ∷ [] }

abbrev pub entered : Option Value → ℕ → Running → Effect
entered (Some v) skip s = goes_on (under v s)
entered None skip s = Ok (skip, unmatched s)

-- ---- all instructions that lead forward

abbrev pub effect : Setting → ℕ → Instr → Running → Effect
effect a line (LoadNull to) s = valued to (λ at m. gives Null m) a line s
effect a line (LoadConst to constant) s = valued to (constant_read (constant_at a constant)) a line s
-- no world has rows yet
effect a line (LoadGlobal to row) s = stops_at NoMember a line s
effect a line (LoadCallable to name) s = valued to (meant_value (self_of s) (name_at a name) ANativeMethod) a line s
effect a line (LoadSignal to name) s = valued to (meant_value (self_of s) (name_at a name) ASignal) a line s
effect a line (Move to from) s = valued to (λ at m. gives (read s from) m) a line s
effect a line (Store local from) s = goes_on (stored local (read s from) s)
effect a line (ToBool to from) s = valued to (λ at m. gives (Truth (truth s from)) m) a line s
effect a line (Not to from) s = valued to (λ at m. gives (Truth (not (truth s from))) m) a line s
effect a line (Unary op to from) s = valued to (gives_by (unary_of op (read s from))) a line s
effect a line (Binary op to left right) s = valued to (λ at m. gives_then (operated a.project.names (heap_at at m) op (read s left) (read s right)) at m) a line s
effect a line (GetField to field) s = valued to (meant_value (self_of s) [] (AField field)) a line s
effect a line (SetField field from sure) s = changing (put_own a.project (Some (AField field)) sure (read s from)) a line s
effect a line (GetMember to of name) s = valued to (member_of a.project (read s of) (name_at a name)) a line s
effect a line (GetItem to of name item) s = valued to (item_of_member a (read s of) (name_at a name) (name_at a item)) a line s
effect a line (SetMember of name from sure) s = changing (put_member a.project (read s of) (name_at a name) sure (read s from)) a line s
effect a line (GetIndex to of index) s = valued to (λ at m. gives_by (index_of m.world.cells (read s of) (read s index)) at m) a line s
effect a line (SetIndex of index from) s = changing (put_index a.project (read s of) (read s index) (read s from)) a line s
effect a line (Push from) s = goes_on (record (kept from s) { parts = s.parts ++ read s from ∷ [] })
effect a line (MakeArray to count element) s = valued to (array_of element (last_so_many count s.parts)) a line (record s { parts = without_so_many count s.parts })
effect a line (MakeDict to count) s = valued to (λ at m. gives_then (new_dict_of (heap_at at m) (paired (last_so_many (2 * count) s.parts))) at m) a line (record s { parts = without_so_many (2 * count) s.parts })
effect a line (Check of type) s = checked type (read s of) a line s
effect a line (IsType to from type) s = valued to (λ at m. gives (Truth (is_of_type m.world.cells type (read s from))) m) a line s
effect a line (AsType to from type) s = valued to (λ at m. gives_by (taken_as m.world.cells type (read s from)) at m) a line s
effect a line (FindCallee of name) s = finds (read s of) (name_at a name) a line (kept of s)
effect a line (CallFound to args sure) s = called_into to (found_called a (last_of s.callees) (arguments_in s args sure)) a line (record s { callees = without_last s.callees })
effect a line (CallOwn to name args sure) s = called_into to (method_call a.project (self_of s) (name_at a name) (arguments_in s args sure)) a line s
effect a line (CallNative to name args) s = called_into to (native_call a.project (self_of s) (name_at a name) (unsure (values_in s args))) a line s
effect a line (CallValue to of args) s = called_into to (value_call a.project (read s of) (unsure (values_in s args))) a line s
effect a line (CallGlobal to name args) s = called_into to (invoked a.project (Global (name_at a name)) (unsure (values_in s args))) a line s
effect a line (CallFunction to function on_self args sure) s = called_into to (known_called (slice_get a.code.known_functions function) (object_for on_self s) (arguments_in s args sure)) a line s
effect a line (New to class args sure) s = called_into to (made_object a.project class (arguments_in s args sure)) a line s
effect a line (WalkValue walk from) s = walks walk (walk_of (read s from)) a line s
effect a line (WalkRange walk args) s = walks walk (walk_of_span (span_in (values_in s args))) a line s
effect a line (WalkNext walk skip) s = stepped a line s (walk_goes_on walk skip)
effect a line (MatchStart from) s = goes_on (record s { matched = read s from ∷ []; bound = [] })
effect a line (MatchSame other skip) s = matches_by (same_value s.world.cells (part s) (read s other)) skip a line s
effect a line (MatchArray count or_more skip) s = matches (is_array_of s.world.cells count or_more (last_of s.matched)) skip s
effect a line (MatchDict skip) s = matches (is_dict (last_of s.matched)) skip s
effect a line (MatchKeys keys skip) s = matches (is_dict_of s.world.cells (plain_at a.code.constants keys).items (last_of s.matched)) skip s
effect a line (MatchItem place) s = goes_on (under (unwrap_or (item_in s.world.cells place (last_of s.matched)) Null) s)
effect a line (MatchEntry key skip) s = entered (entry_in s.world.cells (plain_at a.code.constants key).value (last_of s.matched)) skip s
effect a line MatchDrop s = goes_on (record s { matched = without_last s.matched })
effect a line MatchBind s = goes_on (record s { bound = s.bound ++ part s ∷ [] })
effect a line Step s = stepped a line s goes_on
effect a line (EndUnit locals bound) s = goes_on (settled a (take bound (take locals s.registers ++ s.bound)) s.world)
effect a line (Jump skip) s = Ok (skip, s)
effect a line (JumpUnless condition skip) s = unless (truth s condition) skip s
effect a line (JumpIfOpen local skip) s = unless (not (nat_lt local.0 s.opened)) skip s
effect a line (Assert condition) s = asserted (truth s condition) a line s
effect a line (Fail fault) s = stops_at fault a line s
-- these lead elsewhere
effect a line (JumpBack back) s = goes_on s
effect a line (Return value) s = goes_on s
