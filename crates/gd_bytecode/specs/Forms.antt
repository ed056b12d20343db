-- What instructions name by number.
use Rattle.std.specs.Prelude.{ℕ, true, false, List, [], ◌∷◌, ◌++◌, Some, None}
use Rattle.std.specs.List.{range_with_len}
use Rattle.gd_bytecode.specs.declared.forms.Form.{Form}
use Rattle.gd_bytecode.specs.declared.forms.Jump.TheVariants.{Skip, Back}
use Rattle.gd_bytecode.specs.declared.forms.Registers.{Registers}
use Rattle.gd_bytecode.specs.declared.forms.Registers.TheVariants as registers
use Rattle.gd_bytecode.specs.declared.forms.Registers.TheVariants.{One, Two, Three, Call, CallOf, Walk, WalkFrom, WalkArgs, Open}
use Rattle.gd_bytecode.specs.declared.instructions.Args.{Args}
use Rattle.gd_bytecode.specs.declared.instructions.Instr.{Instr}
use Rattle.gd_bytecode.specs.declared.instructions.Instr.TheVariants.{LoadNull, LoadConst, LoadGlobal, LoadCallable, LoadSignal, Move, Store, ToBool, Not, Unary, Binary, GetField, SetField, GetMember, GetItem, SetMember, GetIndex, SetIndex, Push, MakeArray, MakeDict, Check, IsType, AsType, FindCallee, CallFound, CallOwn, CallNative, CallValue, CallGlobal, CallFunction, New, WalkValue, WalkRange, WalkNext, MatchStart, MatchSame, MatchArray, MatchDict, MatchKeys, MatchItem, MatchEntry, MatchDrop, MatchBind, Step, EndUnit, Jump, JumpUnless, JumpIfOpen, JumpBack, Assert, Return, Fail}

-- the registers of arguments
abbrev pub run : Args → List ℕ
run args = range_with_len args.first.0 args.count

-- the registers by number
abbrev pub registers_in : Registers → List ℕ
registers_in registers.None = []
registers_in (One a) = a.0 ∷ []
registers_in (Two a b) = a.0 ∷ b.0 ∷ []
registers_in (Three a b c) = a.0 ∷ b.0 ∷ c.0 ∷ []
registers_in (Call to args) = to.0 ∷ run args
registers_in (CallOf to of args) = to.0 ∷ of.0 ∷ run args
registers_in (Walk walk) = range_with_len walk.0 4
registers_in (WalkFrom walk from) = from.0 ∷ range_with_len walk.0 3
registers_in (WalkArgs walk args) = range_with_len walk.0 3 ++ run args
registers_in (Open locals bound) = range_with_len 0 locals ++ range_with_len 0 bound

-- ---- forms

abbrev pub alone : Registers → Form
alone rs = record { registers = rs; constant = None; name = None; item = None; function = None; row = None; jump = None; takes_step = false }

abbrev pub with_constant : Registers → ℕ → Form
with_constant rs constant = record (alone rs) { constant = Some constant }

abbrev pub with_name : Registers → ℕ → Form
with_name rs name = record (alone rs) { name = Some name }

abbrev pub with_item : Registers → ℕ → ℕ → Form
with_item rs name item = record (with_name rs name) { item = Some item }

abbrev pub with_function : Registers → ℕ → Form
with_function rs function = record (alone rs) { function = Some function }

abbrev pub with_row : Registers → ℕ → Form
with_row rs row = record (alone rs) { row = Some row }

abbrev pub with_skip : Registers → ℕ → Form
with_skip rs skip = record (alone rs) { jump = Some (Skip skip) }

abbrev pub with_key : ℕ → ℕ → Form
with_key key skip = record (with_skip registers.None skip) { constant = Some key }

abbrev pub stepping : Registers → ℕ → Form
stepping rs skip = record (with_skip rs skip) { takes_step = true }

abbrev pub step : Form
step = record (alone registers.None) { takes_step = true }

abbrev pub going_back : ℕ → Form
going_back back = record (alone registers.None) { jump = Some (Back back) }

-- what each instruction names
abbrev pub form_of : Instr → Form
form_of (LoadNull to) = alone (One to)
form_of (LoadConst to constant) = with_constant (One to) constant
form_of (LoadGlobal to row) = with_row (One to) row
form_of (LoadCallable to name) = with_name (One to) name
form_of (LoadSignal to name) = with_name (One to) name
form_of (Move to from) = alone (Two to from)
form_of (Store local from) = alone (Two local from)
form_of (ToBool to from) = alone (Two to from)
form_of (Not to from) = alone (Two to from)
form_of (Unary op to from) = alone (Two to from)
form_of (Binary op to left right) = alone (Three to left right)
form_of (GetField to field) = alone (One to)
form_of (SetField field from sure) = alone (One from)
form_of (GetMember to of name) = with_name (Two to of) name
form_of (GetItem to of name item) = with_item (Two to of) name item
form_of (SetMember of name from sure) = with_name (Two of from) name
form_of (GetIndex to of index) = alone (Three to of index)
form_of (SetIndex of index from) = alone (Three of index from)
form_of (Push from) = alone (One from)
form_of (MakeArray to count element) = alone (One to)
form_of (MakeDict to count) = alone (One to)
form_of (Check of type_of) = alone (One of)
form_of (IsType to from type_of) = alone (Two to from)
form_of (AsType to from type_of) = alone (Two to from)
form_of (FindCallee of name) = with_name (One of) name
form_of (CallFound to args sure) = alone (Call to args)
form_of (CallOwn to name args sure) = with_name (Call to args) name
form_of (CallNative to name args) = with_name (Call to args) name
form_of (CallValue to of args) = alone (CallOf to of args)
form_of (CallGlobal to name args) = with_name (Call to args) name
form_of (CallFunction to function on_self args sure) = with_function (Call to args) function
form_of (New to class_tag args sure) = alone (Call to args)
form_of (WalkValue walk from) = alone (WalkFrom walk from)
form_of (WalkRange walk args) = alone (WalkArgs walk args)
form_of (WalkNext walk skip) = stepping (Walk walk) skip
form_of (MatchStart from) = alone (One from)
form_of (MatchSame other skip) = with_skip (One other) skip
form_of (MatchArray count or_more skip) = with_skip registers.None skip
form_of (MatchDict skip) = with_skip registers.None skip
form_of (MatchKeys keys skip) = with_key keys skip
form_of (MatchItem place) = alone registers.None
form_of (MatchEntry key skip) = with_key key skip
form_of MatchDrop = alone registers.None
form_of MatchBind = alone registers.None
form_of Step = step
form_of (EndUnit locals bound) = alone (Open locals bound)
form_of (Jump skip) = with_skip registers.None skip
form_of (JumpUnless condition skip) = with_skip (One condition) skip
form_of (JumpIfOpen local skip) = with_skip (One local) skip
form_of (JumpBack back) = going_back back
form_of (Assert condition) = alone (One condition)
form_of (Return value) = alone (One value)
form_of (Fail fault) = alone registers.None
