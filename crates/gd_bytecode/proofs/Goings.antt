-- What an instruction, and what a frame, leave of the steps; and that more goings back than steps change nothing.
use Rattle.std.proofs.Common.{◌≡◌, ℕ, zero, suc, ◌+◌, ◌-◌, ◌*◌, ◌<◌, ◌≤◌, Bool, true, false, not, List, [], ◌∷◌, Result, refl, sym, ap, ◌∙◌, arith}
use Rattle.std.specs.Prelude.{Some, None, Option, option_map, Ok, Err, slice_get, nat_lt}
use Rattle.native_calls.specs.Globals.{Span, span_in}
use Rattle.variant_values.specs.declared.classes.ClassTag.{ClassTag}
use Rattle.variant_values.specs.declared.faults.RunFault.{RunFault}
use Rattle.variant_values.specs.declared.faults.RunFault.TheVariants.{CallTooDeep}
use Rattle.variant_values.specs.declared.values.Value.{Value}
use Rattle.variant_values.specs.declared.values.Value.TheVariants as value
use Rattle.variant_values.specs.Changes.{Given}
use Rattle.variant_values.specs.Comparisons.{same_value}
use Rattle.variant_values.specs.DictMethods.{keys_of}
use Rattle.variant_values.specs.Indexing.{index_of}
use Rattle.variant_values.specs.Operations.{operated}
use Rattle.variant_values.specs.Operators.{unary_of}
use Rattle.script_meaning.specs.State.{World, Frame, Spot, Stop, Failed, and_then, step_from}
use Rattle.script_meaning.specs.Projects.{Project, AField, ANativeMethod, ASignal, unsure, Field, Routine, Function, Initialisers, Argument, values_of, Calls, Ending, Entry, entered as enters_frame, admitted_by, admitted}
use Rattle.script_meaning.specs.Objects.{is_with_new}
use Rattle.script_meaning.specs.Functions.{self_in}
use Rattle.std.proofs.lemmas.Bool.{false≢true}
use Rattle.script_meaning.specs.Meanings.{Site, Moment, At-site, Callee, Global, OfValue, heap_at, gives_by, gives_then}
use Rattle.script_meaning.specs.Members.{constant_read, meant_value, member_of, holder_by, enum_in, member_in, callee_in}
use Rattle.script_meaning.specs.Statements.{received_by, put_own, put_member, put_index}
use Rattle.script_meaning.specs.Methods.{native_call, value_call, made_object, method_call, invoked}
use Rattle.script_meaning.specs.Exprs.{array_of}
use Rattle.script_meaning.specs.Types.{taken_as}
use Rattle.script_meaning.specs.Constants.{new_dict_of}
use Rattle.gd_bytecode.specs.PartMatches.{plain_at, is_array_of, is_dict, is_dict_of, entry_in}
use Rattle.gd_bytecode.specs.declared.file_code.KnownFunction.{KnownFunction}
use Rattle.gd_bytecode.specs.declared.instructions.Instr.{Instr}
use Rattle.gd_bytecode.specs.declared.instructions.Instr.TheVariants.{LoadNull, LoadConst, LoadGlobal, LoadCallable, LoadSignal, Move, Store, ToBool, Not, Unary, Binary, GetField, SetField, GetMember, GetItem, SetMember, GetIndex, SetIndex, Push, MakeArray, MakeDict, Check, IsType, AsType, FindCallee, CallFound, CallOwn, CallNative, CallValue, CallGlobal, CallFunction, New, WalkValue, WalkRange, WalkNext, MatchStart, MatchSame, MatchArray, MatchDict, MatchKeys, MatchItem, MatchEntry, MatchDrop, MatchBind, Step, EndUnit, Jump, JumpUnless, JumpIfOpen, JumpBack, Assert, Return, Fail}
use Rattle.gd_bytecode.specs.declared.instructions.Op.{Op}
use Rattle.gd_bytecode.specs.declared.instructions.Reg.{Reg}
use Rattle.gd_bytecode.specs.Checks.{step_at}
use Rattle.gd_bytecode.specs.CodeLaws.{Each, IsFrugal, EnoughGoings, CallsAreFrugal}
use Rattle.gd_bytecode.specs.Forms.{form_of}
use Rattle.gd_bytecode.specs.FrameState.{Running, Setting, register_at, read, self_of, values_in, last_of, without_last, last_so_many, without_so_many, site_at, moment_of, spot_at, Effect, goes_on, valued, changing, unmatched, kept_by, kept, stored_by}
use Rattle.gd_bytecode.specs.Walks.{Walking, walk_of, walk_of_span, walk_next, keys_registers}
use Rattle.gd_bytecode.specs.Effects.{name_at, constant_at, object_for, arguments_in, paired, truth, part, known_called, found_called, item_of_member, asserted, unless, walks, item_open, walk_goes_on, stepped, matches, matches_by, entered, finds, effect}
use Rattle.gd_bytecode.specs.CodeRuns.{Goes, Lead, Forward, GoesBack, Leaves as LeadLeaves, lead_of, act_by, forward, where_step, back, runs_from, entered_with, Found, CodeBodies, code_body, initialise_by, initialise_all, fields_body, code_entry, entry_of, code_calls}
use Rattle.gd_bytecode.proofs.Frugal.{each_then, Within, bind, gives_by_in, gives_then_in, constant_read_in, meant_value_in, member_of_in, member_in_in, holder_by_in, callee_in_in}
use Rattle.gd_bytecode.proofs.FrugalCalls.{called_in, native_call_in, value_call_in, method_call_in, invoked_in, made_object_in, array_of_in, put_own_in, put_member_in, put_index_in}

-- ---- what an instruction leaves

-- an instruction that stops, or leaves at most so many steps
pub record Leaves (l : ℕ) (e : Effect) : Type 0 where
  pub most : Each (λ x. x.1.world.left ≤ l) e

valued_leaves : (l : ℕ) (to : Reg) (value : At-site Value) (a : Setting) (line : ℕ) (s : Running) → Within l (value (site_at a line s) (moment_of s)) → Leaves l (valued to value a line s)
valued_leaves l to value a line s h = record { most = each_then (λ x. x.1.world.left ≤ l) (λ x. x.1.world.left ≤ l) (value (site_at a line s) (moment_of s)) _ h.within (λ x p. p) }

changing_leaves : (l : ℕ) (change : Site → Moment → Result World Stop) (a : Setting) (line : ℕ) (s : Running) → Each (λ w. w.left ≤ l) (change (site_at a line s) (moment_of s)) → Leaves l (changing change a line s)
changing_leaves l change a line s h = record { most = each_then (λ w. w.left ≤ l) (λ x. x.1.world.left ≤ l) (change (site_at a line s) (moment_of s)) _ h (λ w p. p) }

kept_leaves : (l : ℕ) (open' : Bool) (v : Value) (s : Running) → s.world.left ≤ l → (kept_by open' v s).world.left ≤ l
kept_leaves l true v s h = h
kept_leaves l false v s h = h

stored_leaves : (l : ℕ) (open' : Bool) (r : Reg) (v : Value) (s : Running) → s.world.left ≤ l → (stored_by open' r v s).world.left ≤ l
stored_leaves l true r v s h = h
stored_leaves l false r v s h = h

unless_leaves : (l : ℕ) (b : Bool) (skip : ℕ) (s : Running) → s.world.left ≤ l → Leaves l (unless b skip s)
unless_leaves l true skip s h = record { most = h }
unless_leaves l false skip s h = record { most = h }

matches_leaves : (l : ℕ) (b : Bool) (skip : ℕ) (s : Running) → s.world.left ≤ l → Leaves l (matches b skip s)
matches_leaves l true skip s h = record { most = h }
matches_leaves l false skip s h = record { most = h }

matches_by_leaves : (l : ℕ) (r : Result Bool RunFault) (skip : ℕ) (a : Setting) (line : ℕ) (s : Running) → s.world.left ≤ l → Leaves l (matches_by r skip a line s)
matches_by_leaves l (Ok b) skip a line s h = matches_leaves l b skip s h
matches_by_leaves l (Err kind) skip a line s h = record { most = tt }

entered_leaves : (l : ℕ) (v : Option Value) (skip : ℕ) (s : Running) → s.world.left ≤ l → Leaves l (entered v skip s)
entered_leaves l (Some v) skip s h = record { most = h }
entered_leaves l None skip s h = record { most = h }

asserted_leaves : (l : ℕ) (b : Bool) (a : Setting) (line : ℕ) (s : Running) → s.world.left ≤ l → Leaves l (asserted b a line s)
asserted_leaves l true a line s h = record { most = h }
asserted_leaves l false a line s h = record { most = tt }

item_leaves : (l : ℕ) (walk : Reg) (o : Option (Value × Walking)) (skip : ℕ) (s : Running) → s.world.left ≤ l → Leaves l (item_open walk o skip s)
item_leaves l walk (Some (v, rs)) skip s h = record { most = h }
item_leaves l walk None skip s h = record { most = h }

checked_leaves : (l : ℕ) (fits : Result (Unit {0}) Stop) (s : Running) → s.world.left ≤ l → Leaves l (and_then fits (λ u. goes_on s))
checked_leaves l (Ok u) s h = record { most = h }
checked_leaves l (Err stop) s h = record { most = tt }

-- a step is taken, and what follows has fewer
stepped_by : (l : ℕ) (a : Setting) (line n : ℕ) (s : Running) (go : Running → Effect) → n ≤ l → ((t : Running) → t.world.left ≤ l → Leaves l (go t)) → Leaves l (and_then (step_from n (spot_at a line) s.world) (λ w. go (record s { world = w })))
stepped_by l a line zero s go h g = record { most = tt }
stepped_by l a line (suc n) s go h g = g (record s { world = record s.world { left = n } }) (omega (arith, h))

stepped_leaves : (l : ℕ) (a : Setting) (line : ℕ) (s : Running) (go : Running → Effect) → s.world.left ≤ l → ((t : Running) → t.world.left ≤ l → Leaves l (go t)) → Leaves l (stepped a line s go)
stepped_leaves l a line s go h g = stepped_by l a line s.world.left s go h g

-- ---- walks

keys_in : (l : ℕ) (at : Site) (of : Value) (g : Given) (m : Moment) → m.world.left ≤ l → Within l (keys_registers of g at m)
keys_in l at of (Ok (value.Array a, heap)) m h = record { within = h }
keys_in l at of (Ok (value.Null, heap)) m h = record { within = tt }
keys_in l at of (Ok (value.Bool b, heap)) m h = record { within = tt }
keys_in l at of (Ok (value.Int n, heap)) m h = record { within = tt }
keys_in l at of (Ok (value.Str t, heap)) m h = record { within = tt }
keys_in l at of (Ok (value.Dict d, heap)) m h = record { within = tt }
keys_in l at of (Ok (value.Object o, heap)) m h = record { within = tt }
keys_in l at of (Ok (value.Callable o n, heap)) m h = record { within = tt }
keys_in l at of (Ok (value.Signal o n, heap)) m h = record { within = tt }
keys_in l at of (Ok (value.Class c, heap)) m h = record { within = tt }
keys_in l at of (Ok (value.Scene f p, heap)) m h = record { within = tt }
keys_in l at of (Ok (value.Weak o, heap)) m h = record { within = tt }
keys_in l at of (Err kind) m h = record { within = tt }

walk_in : (l : ℕ) (at : Site) (v : Value) (m : Moment) → m.world.left ≤ l → Within l (walk_of v at m)
walk_in l at value.Null m h = record { within = tt }
walk_in l at (value.Bool b) m h = record { within = tt }
walk_in l at (value.Int n) m h = record { within = h }
walk_in l at (value.Str t) m h = record { within = h }
walk_in l at (value.Array a) m h = record { within = h }
walk_in l at (value.Dict d) m h = keys_in l at (value.Dict d) (keys_of (heap_at at m) d.0) m h
walk_in l at (value.Object o) m h = record { within = tt }
walk_in l at (value.Callable o n) m h = record { within = tt }
walk_in l at (value.Signal o n) m h = record { within = tt }
walk_in l at (value.Class c) m h = record { within = tt }
walk_in l at (value.Scene f p) m h = record { within = tt }
walk_in l at (value.Weak o) m h = record { within = tt }

span_in' : (l : ℕ) (at : Site) (o : Option Span) (m : Moment) → m.world.left ≤ l → Within l (walk_of_span o at m)
span_in' l at (Some span) m h = record { within = h }
span_in' l at None m h = record { within = tt }

walks_leaves : (l : ℕ) (walk : Reg) (start : At-site Walking) (a : Setting) (line : ℕ) (s : Running) → Within l (start (site_at a line s) (moment_of s)) → Leaves l (walks walk start a line s)
walks_leaves l walk start a line s h = record { most = each_then (λ x. x.1.world.left ≤ l) (λ x. x.1.world.left ≤ l) (start (site_at a line s) (moment_of s)) _ h.within (λ x p. p) }

finds_leaves : (l : ℕ) (v : Value) (name : List ℕ) (a : Setting) (line : ℕ) (s : Running) → s.world.left ≤ l → Leaves l (finds v name a line s)
finds_leaves l v name a line s h = record {
  most = each_then (λ x. x.1.world.left ≤ l) (λ x. x.1.world.left ≤ l) (callee_in a.project (OfValue v) name (site_at a line s) (moment_of s)) _ (callee_in_in l (site_at a line s) a.project (OfValue v) name (moment_of s) h).within (λ x p. p);
}

item_in' : (l : ℕ) (a : Setting) (at : Site) (v : Value) (name item : List ℕ) (m : Moment) → m.world.left ≤ l → Within l (item_of_member a v name item at m)
item_in' l a at v name item m h = bind l (holder_by a.project (enum_in a.project true m (OfValue v) name) (OfValue v) name at m) (λ x. member_in a.project x.0 item at x.1) (holder_by_in l at a.project (enum_in a.project true m (OfValue v) name) (OfValue v) name m h) (λ x p. member_in_in l at a.project x.0 item x.1 p)

module _ (a : Setting) (frugal : IsFrugal a.call) (l line : ℕ) where
  known_in : (f : Option KnownFunction) (self : Value) (args : List Argument) (s : Running) (m : Moment) → m.world.left ≤ l → Within l (known_called f self args (site_at a line s) m)
  known_in (Some f) self args s m h = called_in (site_at a line s) frugal l f.class_tag f.name self args m h
  known_in None self args s m h = record { within = tt }

  found_in : (c : Option Callee) (args : List Argument) (s : Running) (m : Moment) → m.world.left ≤ l → Within l (found_called a c args (site_at a line s) m)
  found_in (Some callee) args s m h = invoked_in (site_at a line s) frugal l a.project callee args m h
  found_in None args s m h = record { within = tt }

  pub effect_leaves : (instr : Instr) (s : Running) → s.world.left ≤ l → Leaves l (effect a line instr s)
  effect_leaves (LoadNull to) s h = record { most = h }
  effect_leaves (LoadConst to constant) s h = valued_leaves l to (constant_read (constant_at a constant)) a line s (constant_read_in l (site_at a line s) (constant_at a constant) (moment_of s) h)
  effect_leaves (LoadGlobal to row) s h = record { most = tt }
  effect_leaves (LoadCallable to name) s h = valued_leaves l to (meant_value (self_of s) (name_at a name) ANativeMethod) a line s (meant_value_in l (site_at a line s) (self_of s) (name_at a name) ANativeMethod (moment_of s) h)
  effect_leaves (LoadSignal to name) s h = valued_leaves l to (meant_value (self_of s) (name_at a name) ASignal) a line s (meant_value_in l (site_at a line s) (self_of s) (name_at a name) ASignal (moment_of s) h)
  effect_leaves (Move to from) s h = record { most = h }
  effect_leaves (Store local from) s h = record { most = stored_leaves l (nat_lt local.0 s.opened) local (read s from) s h }
  effect_leaves (ToBool to from) s h = record { most = h }
  effect_leaves (Not to from) s h = record { most = h }
  effect_leaves (Unary op to from) s h = valued_leaves l to (gives_by (unary_of op (read s from))) a line s (gives_by_in l (site_at a line s) (unary_of op (read s from)) (moment_of s) h)
  effect_leaves (Binary op to left right) s h = valued_leaves l to (λ at m. gives_then (operated a.project.names (heap_at at m) op (read s left) (read s right)) at m) a line s (gives_then_in l (site_at a line s) (operated a.project.names (heap_at (site_at a line s) (moment_of s)) op (read s left) (read s right)) (moment_of s) h)
  effect_leaves (GetField to field) s h = valued_leaves l to (meant_value (self_of s) [] (AField field)) a line s (meant_value_in l (site_at a line s) (self_of s) [] (AField field) (moment_of s) h)
  effect_leaves (SetField field from sure) s h = changing_leaves l (put_own a.project (Some (AField field)) sure (read s from)) a line s (put_own_in (site_at a line s) frugal l a.project (Some (AField field)) sure (read s from) (moment_of s) h)
  effect_leaves (GetMember to of name) s h = valued_leaves l to (member_of a.project (read s of) (name_at a name)) a line s (member_of_in l (site_at a line s) a.project (read s of) (name_at a name) (moment_of s) h)
  effect_leaves (GetItem to of name item) s h = valued_leaves l to (item_of_member a (read s of) (name_at a name) (name_at a item)) a line s (item_in' l a (site_at a line s) (read s of) (name_at a name) (name_at a item) (moment_of s) h)
  effect_leaves (SetMember of name from sure) s h = changing_leaves l (put_member a.project (read s of) (name_at a name) sure (read s from)) a line s (put_member_in (site_at a line s) frugal l a.project (read s of) (name_at a name) sure (read s from) (moment_of s) h)
  effect_leaves (GetIndex to of index) s h = valued_leaves l to (λ at m. gives_by (index_of m.world.cells (read s of) (read s index)) at m) a line s (gives_by_in l (site_at a line s) (index_of s.world.cells (read s of) (read s index)) (moment_of s) h)
  effect_leaves (SetIndex of index from) s h = changing_leaves l (put_index a.project (read s of) (read s index) (read s from)) a line s (put_index_in (site_at a line s) frugal l a.project (read s of) (read s index) (read s from) (moment_of s) h)
  effect_leaves (Push from) s h = record { most = kept_leaves l (nat_lt from.0 s.opened) (read s from) s h }
  effect_leaves (MakeArray to count element) s h = valued_leaves l to (array_of element (last_so_many count s.parts)) a line (record s { parts = without_so_many count s.parts }) (array_of_in (site_at a line s) frugal l element (last_so_many count s.parts) (moment_of s) h)
  effect_leaves (MakeDict to count) s h = valued_leaves l to (λ at m. gives_then (new_dict_of (heap_at at m) (paired (last_so_many (2 * count) s.parts))) at m) a line (record s { parts = without_so_many (2 * count) s.parts }) (gives_then_in l (site_at a line s) (new_dict_of (heap_at (site_at a line s) (moment_of s)) (paired (last_so_many (2 * count) s.parts))) (moment_of s) h)
  effect_leaves (Check of type) s h = checked_leaves l (received_by a.project false type (read s of) (spot_at a line) s.world) s h
  effect_leaves (IsType to from type) s h = record { most = h }
  effect_leaves (AsType to from type) s h = valued_leaves l to (λ at m. gives_by (taken_as m.world.cells type (read s from)) at m) a line s (gives_by_in l (site_at a line s) (taken_as s.world.cells type (read s from)) (moment_of s) h)
  effect_leaves (FindCallee of name) s h = finds_leaves l (read s of) (name_at a name) a line (kept of s) (kept_leaves l (nat_lt of.0 s.opened) (read s of) s h)
  effect_leaves (CallFound to args sure) s h = valued_leaves l to (found_called a (last_of s.callees) (arguments_in s args sure)) a line (unmatched (record s { callees = without_last s.callees })) (found_in (last_of s.callees) (arguments_in s args sure) s (moment_of s) h)
  effect_leaves (CallOwn to name args sure) s h = valued_leaves l to (method_call a.project (self_of s) (name_at a name) (arguments_in s args sure)) a line (unmatched s) (method_call_in (site_at a line s) frugal l a.project (self_of s) (name_at a name) (arguments_in s args sure) (moment_of s) h)
  effect_leaves (CallNative to name args) s h = valued_leaves l to (native_call a.project (self_of s) (name_at a name) (unsure (values_in s args))) a line (unmatched s) (native_call_in (site_at a line s) frugal l a.project (self_of s) (name_at a name) (unsure (values_in s args)) (moment_of s) h)
  effect_leaves (CallValue to of args) s h = valued_leaves l to (value_call a.project (read s of) (unsure (values_in s args))) a line (unmatched s) (value_call_in (site_at a line s) frugal l a.project (read s of) (unsure (values_in s args)) (moment_of s) h)
  effect_leaves (CallGlobal to name args) s h = valued_leaves l to (invoked a.project (Global (name_at a name)) (unsure (values_in s args))) a line (unmatched s) (invoked_in (site_at a line s) frugal l a.project (Global (name_at a name)) (unsure (values_in s args)) (moment_of s) h)
  effect_leaves (CallFunction to function on_self args sure) s h = valued_leaves l to (known_called (slice_get a.code.known_functions function) (object_for on_self s) (arguments_in s args sure)) a line (unmatched s) (known_in (slice_get a.code.known_functions function) (object_for on_self s) (arguments_in s args sure) s (moment_of s) h)
  effect_leaves (New to class args sure) s h = valued_leaves l to (made_object a.project class (arguments_in s args sure)) a line (unmatched s) (made_object_in (site_at a line s) frugal l a.project class (arguments_in s args sure) (moment_of s) h)
  effect_leaves (WalkValue walk from) s h = walks_leaves l walk (walk_of (read s from)) a line s (walk_in l (site_at a line s) (read s from) (moment_of s) h)
  effect_leaves (WalkRange walk args) s h = walks_leaves l walk (walk_of_span (span_in (values_in s args))) a line s (span_in' l (site_at a line s) (span_in (values_in s args)) (moment_of s) h)
  effect_leaves (WalkNext walk skip) s h = stepped_leaves l a line s (walk_goes_on walk skip) h (λ t p. item_leaves l walk (walk_next t.world.cells (register_at t.registers walk.0) (register_at t.registers (walk.0 + 1)) (register_at t.registers (walk.0 + 2))) skip t p)
  effect_leaves (MatchStart from) s h = record { most = h }
  effect_leaves (MatchSame other skip) s h = matches_by_leaves l (same_value s.world.cells (part s) (read s other)) skip a line s h
  effect_leaves (MatchArray count or_more skip) s h = matches_leaves l (is_array_of s.world.cells count or_more (last_of s.matched)) skip s h
  effect_leaves (MatchDict skip) s h = matches_leaves l (is_dict (last_of s.matched)) skip s h
  effect_leaves (MatchKeys keys skip) s h = matches_leaves l (is_dict_of s.world.cells (plain_at a.code.constants keys).items (last_of s.matched)) skip s h
  effect_leaves (MatchItem place) s h = record { most = h }
  effect_leaves (MatchEntry key skip) s h = entered_leaves l (entry_in s.world.cells (plain_at a.code.constants key).value (last_of s.matched)) skip s h
  effect_leaves MatchDrop s h = record { most = h }
  effect_leaves MatchBind s h = record { most = h }
  effect_leaves Step s h = stepped_leaves l a line s goes_on h (λ t p. record { most = p })
  effect_leaves (EndUnit locals bound) s h = record { most = h }
  effect_leaves (Jump skip) s h = record { most = h }
  effect_leaves (JumpUnless condition skip) s h = unless_leaves l (truth s condition) skip s h
  effect_leaves (JumpIfOpen local skip) s h = unless_leaves l (not (nat_lt local.0 s.opened)) skip s h
  effect_leaves (Assert condition) s h = asserted_leaves l (truth s condition) a line s h
  effect_leaves (Fail fault) s h = record { most = tt }
  effect_leaves (JumpBack n) s h = record { most = h }
  effect_leaves (Return v) s h = record { most = h }

-- ---- what a frame leaves

-- an end that stops, or leaves at most so many steps
pub record Ends (l : ℕ) (e : Ending) : Type 0 where
  pub most : Each (λ x. x.1.left ≤ l) e

-- where a frame goes on with at most so many steps, it ends with no more
abbrev Lowers : ℕ → Goes → Type 0
Lowers l go = (k : ℕ) (s : Running) → s.world.left ≤ l → Ends l (go k s)

ends_then : (l : ℕ) (e : Effect) (next : Goes) → Leaves l e → Lowers l next → Ends l (and_then e (λ x. next x.0 x.1))
ends_then l (Ok x) next p q = q x.0 x.1 p.most
ends_then l (Err stop) next p q = record { most = tt }

-- two ways to go on that are one where fewer steps are left
pub record Alike (l : ℕ) (f g : Goes) : Type 0 where
  pub same : (k : ℕ) (s : Running) → s.world.left < l → f k s ≡ g k s

-- the same where no more are left
pub record AlikeTo (l : ℕ) (f g : Goes) : Type 0 where
  pub same : (k : ℕ) (s : Running) → s.world.left ≤ l → f k s ≡ g k s

then_alike : (l : ℕ) (e : Effect) (f g : Goes) → Leaves l e → AlikeTo l f g → and_then e (λ x. f x.0 x.1) ≡ and_then e (λ x. g x.0 x.1)
then_alike l (Ok x) f g p q = q.same x.0 x.1 p.most
then_alike l (Err stop) f g p q = refl

-- ---- an instruction that takes a step

pub record LeavesFewer (n : ℕ) (e : Effect) : Type 0 where
  pub fewer : Each (λ x. x.1.world.left < n) e

stepped_fewer_by : (a : Setting) (line n : ℕ) (s : Running) (go : Running → Effect) → ((t : Running) → t.world.left < n → LeavesFewer n (go t)) → LeavesFewer n (and_then (step_from n (spot_at a line) s.world) (λ w. go (record s { world = w })))
stepped_fewer_by a line zero s go g = record { fewer = tt }
stepped_fewer_by a line (suc n) s go g = g (record s { world = record s.world { left = n } }) (omega arith)

stepped_fewer : (a : Setting) (line : ℕ) (s : Running) (go : Running → Effect) → ((t : Running) → t.world.left < s.world.left → LeavesFewer s.world.left (go t)) → LeavesFewer s.world.left (stepped a line s go)
stepped_fewer a line s go g = stepped_fewer_by a line s.world.left s go g

item_fewer : (n : ℕ) (walk : Reg) (o : Option (Value × Walking)) (skip : ℕ) (t : Running) → t.world.left < n → LeavesFewer n (item_open walk o skip t)
item_fewer n walk (Some (v, rs)) skip t h = record { fewer = h }
item_fewer n walk None skip t h = record { fewer = h }

pub record Steps (a : Setting) (line : ℕ) (instr : Instr) (s : Running) : Type 0 where
  pub forward : lead_of instr ≡ Forward
  pub fewer : LeavesFewer s.world.left (effect a line instr s)

module _ (a : Setting) (line : ℕ) where
  stepping : (instr : Instr) (s : Running) → (form_of instr).takes_step ≡ true → Steps a line instr s
  stepping (LoadNull to) s h = absurd (false≢true h)
  stepping (LoadConst to constant) s h = absurd (false≢true h)
  stepping (LoadGlobal to row) s h = absurd (false≢true h)
  stepping (LoadCallable to name) s h = absurd (false≢true h)
  stepping (LoadSignal to name) s h = absurd (false≢true h)
  stepping (Move to from) s h = absurd (false≢true h)
  stepping (Store local from) s h = absurd (false≢true h)
  stepping (ToBool to from) s h = absurd (false≢true h)
  stepping (Not to from) s h = absurd (false≢true h)
  stepping (Unary op to from) s h = absurd (false≢true h)
  stepping (Binary op to left right) s h = absurd (false≢true h)
  stepping (GetField to field) s h = absurd (false≢true h)
  stepping (SetField field from sure) s h = absurd (false≢true h)
  stepping (GetMember to of name) s h = absurd (false≢true h)
  stepping (GetItem to of name item) s h = absurd (false≢true h)
  stepping (SetMember of name from sure) s h = absurd (false≢true h)
  stepping (GetIndex to of index) s h = absurd (false≢true h)
  stepping (SetIndex of index from) s h = absurd (false≢true h)
  stepping (Push from) s h = absurd (false≢true h)
  stepping (MakeArray to count element) s h = absurd (false≢true h)
  stepping (MakeDict to count) s h = absurd (false≢true h)
  stepping (Check of type_of) s h = absurd (false≢true h)
  stepping (IsType to from type_of) s h = absurd (false≢true h)
  stepping (AsType to from type_of) s h = absurd (false≢true h)
  stepping (FindCallee of name) s h = absurd (false≢true h)
  stepping (CallFound to args sure) s h = absurd (false≢true h)
  stepping (CallOwn to name args sure) s h = absurd (false≢true h)
  stepping (CallNative to name args) s h = absurd (false≢true h)
  stepping (CallValue to of args) s h = absurd (false≢true h)
  stepping (CallGlobal to name args) s h = absurd (false≢true h)
  stepping (CallFunction to function on_self args sure) s h = absurd (false≢true h)
  stepping (New to class_tag args sure) s h = absurd (false≢true h)
  stepping (WalkValue walk from) s h = absurd (false≢true h)
  stepping (WalkRange walk args) s h = absurd (false≢true h)
  stepping (WalkNext walk skip) s h = record { forward = refl; fewer = stepped_fewer a line s (walk_goes_on walk skip) (λ t p. item_fewer s.world.left walk (walk_next t.world.cells (register_at t.registers walk.0) (register_at t.registers (walk.0 + 1)) (register_at t.registers (walk.0 + 2))) skip t p) }
  stepping (MatchStart from) s h = absurd (false≢true h)
  stepping (MatchSame other skip) s h = absurd (false≢true h)
  stepping (MatchArray count or_more skip) s h = absurd (false≢true h)
  stepping (MatchDict skip) s h = absurd (false≢true h)
  stepping (MatchKeys keys skip) s h = absurd (false≢true h)
  stepping (MatchItem place) s h = absurd (false≢true h)
  stepping (MatchEntry key skip) s h = absurd (false≢true h)
  stepping MatchDrop s h = absurd (false≢true h)
  stepping MatchBind s h = absurd (false≢true h)
  stepping Step s h = record { forward = refl; fewer = stepped_fewer a line s goes_on (λ t p. record { fewer = p }) }
  stepping (EndUnit locals bound) s h = absurd (false≢true h)
  stepping (Jump skip) s h = absurd (false≢true h)
  stepping (JumpUnless condition skip) s h = absurd (false≢true h)
  stepping (JumpIfOpen local skip) s h = absurd (false≢true h)
  stepping (JumpBack back) s h = absurd (false≢true h)
  stepping (Assert condition) s h = absurd (false≢true h)
  stepping (Return value) s h = absurd (false≢true h)
  stepping (Fail fault) s h = absurd (false≢true h)

-- ---- more goings back than steps change nothing

module _ (a : Setting) (frugal : IsFrugal a.call) where
  pub act_alike : (l line : ℕ) (lead : Lead) (instr : Instr) (f g b c : Goes) → Alike l f g → Alike l b c → (s : Running) → s.world.left < l → act_by lead a line instr f b s ≡ act_by lead a line instr g c s
  act_alike l line Forward instr f g b c p q s h = then_alike s.world.left (effect a line instr s) f g (effect_leaves a frugal s.world.left line instr s (omega arith)) (record { same = λ k t r. p.same k t (omega (arith, r, h)) })
  act_alike l line (GoesBack n) instr f g b c p q s h = q.same n s h
  act_alike l line (LeadLeaves r) instr f g b c p q s h = refl

  pub forward_alike : (l : ℕ) (b c : Goes) → Alike l b c → (at : ℕ) (ops : List Op) (k : ℕ) (s : Running) → s.world.left < l → forward a b at ops k s ≡ forward a c at ops k s
  forward_alike l b c q at [] k s h = refl
  forward_alike l b c q at (op ∷ ops) (suc k) s h = forward_alike l b c q (suc at) ops k s h
  forward_alike l b c q at (op ∷ ops) zero s h =
      act_alike l op.line (lead_of op.instr) op.instr (forward a b (suc at) ops) (forward a c (suc at) ops) (λ n. b (at - n)) (λ n. c (at - n))
      (record { same = λ k t r. forward_alike l b c q (suc at) ops k t r }) (record { same = λ n t r. q.same (at - n) t r }) s h

  fewer_alike : (l : ℕ) (e : Effect) (f g : Goes) → LeavesFewer l e → Alike l f g → and_then e (λ x. f x.0 x.1) ≡ and_then e (λ x. g x.0 x.1)
  fewer_alike l (Ok x) f g p q = q.same x.0 x.1 p.fewer
  fewer_alike l (Err stop) f g p q = refl

  weaker : (l m : ℕ) (f g : Goes) → m ≤ l → Alike l f g → Alike m f g
  weaker l m f g le q = record { same = λ k s h. q.same k s (omega (arith, h, le)) }

  step_alike : (l line : ℕ) (lead : Lead) (instr : Instr) (f g b c : Goes) → lead ≡ Forward → Alike l f g → (s : Running) → s.world.left ≤ l → LeavesFewer s.world.left (effect a line instr s) → act_by lead a line instr f b s ≡ act_by lead a line instr g c s
  step_alike l line lead instr f g b c on p s h fewer =
      ap (λ d. act_by d a line instr f b s) on ∙ fewer_alike s.world.left (effect a line instr s) f g fewer (weaker l s.world.left f g h p) ∙ sym (ap (λ d. act_by d a line instr g c s) on)

  -- from an instruction that takes a step
  pub forward_step : (l : ℕ) (b c : Goes) → Alike l b c → (at : ℕ) (ops : List Op) (k : ℕ) (s : Running) → step_at ops k ≡ true → s.world.left ≤ l → forward a b at ops k s ≡ forward a c at ops k s
  forward_step l b c q at [] k s here h = refl
  forward_step l b c q at (op ∷ ops) (suc k) s here h = forward_step l b c q (suc at) ops k s here h
  forward_step l b c q at (op ∷ ops) zero s here h =
      let steps : Steps a op.line op.instr s = stepping a op.line op.instr s here in
      step_alike l op.line (lead_of op.instr) op.instr (forward a b (suc at) ops) (forward a c (suc at) ops) (λ n. b (at - n)) (λ n. c (at - n)) steps.forward
      (record { same = λ k t r. forward_alike l b c q (suc at) ops k t r }) s h steps.fewer

  where_alike : (l : ℕ) (b c : Goes) → Alike l b c → (ops : List Op) (place : ℕ) (s : Running) → s.world.left ≤ l → (steps : Bool) → step_at ops place ≡ steps → where_step steps (forward a b 0 ops place s) s ≡ where_step steps (forward a c 0 ops place s) s
  where_alike l b c q ops place s h true is = forward_step l b c q 0 ops place s is h
  where_alike l b c q ops place s h false is = refl

  pub back_alike : (ops : List Op) (l m n : ℕ) → l ≤ m → l ≤ n → Alike l (back a ops m) (back a ops n)
  back_alike ops zero m n hm hn = record { same = λ k s h. absurd (omega (arith, h)) }
  back_alike ops (suc l) zero n hm hn = absurd (omega (arith, hm))
  back_alike ops (suc l) (suc m) zero hm hn = absurd (omega (arith, hn))
  back_alike ops (suc l) (suc m) (suc n) hm hn = record {
    same = λ k s h. where_alike l (back a ops m) (back a ops n) (back_alike ops l m n (omega (arith, hm)) (omega (arith, hn))) ops k s (omega (arith, h)) (step_at ops k) refl;
  }

  -- ---- frames give no steps back

  act_ends : (l line : ℕ) (lead : Lead) (instr : Instr) (next again : Goes) → Lowers l next → Lowers l again → (s : Running) → s.world.left ≤ l → Ends l (act_by lead a line instr next again s)
  act_ends l line Forward instr next again p q s h = ends_then l (effect a line instr s) next (effect_leaves a frugal l line instr s h) p
  act_ends l line (GoesBack n) instr next again p q s h = q n s h
  act_ends l line (LeadLeaves r) instr next again p q s h = record { most = h }

  pub forward_ends : (l : ℕ) (again : Goes) → Lowers l again → (at : ℕ) (ops : List Op) (k : ℕ) (s : Running) → s.world.left ≤ l → Ends l (forward a again at ops k s)
  forward_ends l again q at [] k s h = record { most = h }
  forward_ends l again q at (op ∷ ops) (suc k) s h = forward_ends l again q (suc at) ops k s h
  forward_ends l again q at (op ∷ ops) zero s h = act_ends l op.line (lead_of op.instr) op.instr _ _ (λ k t r. forward_ends l again q (suc at) ops k t r) (λ n t r. q (at - n) t r) s h

  where_ends : (l : ℕ) (steps : Bool) (e : Ending) (s : Running) → Ends l e → Ends l (where_step steps e s)
  where_ends l true e s p = p
  where_ends l false e s p = record { most = tt }

  pub back_ends : (l : ℕ) (ops : List Op) (n : ℕ) → Lowers l (back a ops n)
  back_ends l ops zero = λ k s h. record { most = tt }
  back_ends l ops (suc n) = λ k s h. where_ends l (step_at ops k) _ s (forward_ends l (back a ops n) (back_ends l ops n) 0 ops k s h)

  pub frame_ends : (ops : List Op) (place : ℕ) (s : Running) → Ends s.world.left (runs_from a ops place s)
  frame_ends ops place s = forward_ends s.world.left _ (back_ends s.world.left ops (suc s.world.left)) 0 ops place s (omega arith)

pub enough_goings : EnoughGoings
enough_goings a frugal ops more fewer place s hm hf = (back_alike a frugal ops (suc s.world.left) more fewer (omega (arith, hm)) (omega (arith, hf))).same place s (omega arith)

-- ---- calls give no steps back

-- what a routine does
pub record Spends (body : Calls → List Frame → Value → List Value → World → Ending) : Type 0 where
  pub spends : (call : Calls) → IsFrugal call → (frames : List Frame) (self : Value) (vs : List Value) (w : World) → Each (λ x. x.1.left ≤ w.left) (body call frames self vs w)

module _ (project : Project) (bodies : CodeBodies) where
  pub body_spends : (class : ClassTag) (found : Found) → Spends (code_body project class found.code found.function)
  body_spends class found = record {
    spends = λ call frugal frames self vs w. (frame_ends (record { call = call; outer = frames; class = class; code = found.code; project = project }) frugal found.function.ops 0 (entered_with (self_in found.function.is_static self) vs w)).most;
  }

  initial_spends : (runs : Bool) (found : Option Found) (class : ClassTag) (call : Calls) → IsFrugal call → (frames : List Frame) (self : Value) (w : World) → Each (λ u. u.left ≤ w.left) (initialise_by project runs found class call frames self w)
  initial_spends true (Some found) class call frugal frames self w = each_then (λ x. x.1.left ≤ w.left) (λ u. u.left ≤ w.left) (code_body project class found.code found.function call frames self [] w) _ ((body_spends class found).spends call frugal frames self [] w) (λ x p. p)
  initial_spends true None class call frugal frames self w = omega arith
  initial_spends false found class call frugal frames self w = omega arith

  all_spend : (call : Calls) → IsFrugal call → (frames : List Frame) (self : Value) (fs : List Field) (w : World) → Each (λ u. u.left ≤ w.left) (initialise_all project bodies call frames self fs w)
  all_spend call frugal frames self [] w = omega arith
  all_spend call frugal frames self (f ∷ fs) w =
      each_then (λ u. u.left ≤ w.left) (λ u. u.left ≤ w.left) (initialise_by project (is_with_new f.starts) (bodies.start f.class f.name) f.class call frames self w) _
      (initial_spends (is_with_new f.starts) (bodies.start f.class f.name) f.class call frugal frames self w) (λ u p. lower u p _ (all_spend call frugal frames self fs u))
    where
      lower : (u : World) → u.left ≤ w.left → (r : Result World Stop) → Each (λ v. v.left ≤ u.left) r → Each (λ v. v.left ≤ w.left) r
      lower u p (Ok v) q = omega (arith, p, q)
      lower u p (Err stop) q = tt

  fields_spend : (class : ClassTag) → Spends (fields_body project bodies class)
  fields_spend class = record {
    spends = λ call frugal frames self vs w. each_then (λ u. u.left ≤ w.left) (λ x. x.1.left ≤ w.left) (initialise_all project bodies call frames self (project.fields class) w) _ (all_spend call frugal frames self (project.fields class) w) (λ u p. p);
  }

  -- an entry, where there is one
  abbrev EntrySpends : Option Entry → Type 0
  EntrySpends None = Unit {0}
  EntrySpends (Some e) = Spends e.body

  entry_spends : (r : Routine) → EntrySpends (entry_of project bodies r)
  entry_spends (Function class name) = by (bodies.function class name)
    where
      by : (o : Option Found) → EntrySpends (option_map (code_entry project class) o)
      by None = tt
      by (Some found) = body_spends class found
  entry_spends (Initialisers class) = fields_spend class

  refused_at_once : (kind : Option RunFault) (spot : Spot) (w : World) (go : World → Ending) → ((u : World) → u.left ≤ w.left → Each (λ x. x.1.left ≤ w.left) (go u)) → Each (λ x. x.1.left ≤ w.left) (admitted_by kind spot w go)
  refused_at_once (Some kind) spot w go p = tt
  refused_at_once None spot w go p = p w (omega arith)

  entering : (takes : Bool) (spot : Spot) (w : World) → Each (λ u. u.left ≤ w.left) (enters_frame takes spot w)
  entering true spot w = one_less w.left
    where
      one_less : (n : ℕ) → Each (λ u. u.left ≤ n) (step_from n spot w)
      one_less zero = tt
      one_less (suc n) = omega arith
  entering false spot w = omega arith

  admitted_zero : (o : Option Entry) (unit : Option Spot) (args : List Argument) (w : World) → Each (λ x. x.1.left ≤ w.left) (admitted o unit args w (λ e spot now. Err (Failed CallTooDeep spot now)))
  admitted_zero None unit args w = tt
  admitted_zero (Some e) unit args w = refused_at_once (e.refusal args w) _ w _ (λ u p. tt)

  admitted_more : (d : ℕ) → IsFrugal (code_calls project bodies d) → (o : Option Entry) → EntrySpends o → (frames : List Frame) (unit : Option Spot) (self : Value) (args : List Argument) (w : World) →
      Each (λ x. x.1.left ≤ w.left) (admitted o unit args w (λ e spot now. and_then (enters_frame e.takes_step spot now) (λ begun. e.body (code_calls project bodies d) frames self (values_of args) begun)))
  admitted_more d frugal None p frames unit self args w = tt
  admitted_more d frugal (Some e) p frames unit self args w = refused_at_once (e.refusal args w) _ w _ (λ u q.
      each_then (λ v. v.left ≤ u.left) (λ x. x.1.left ≤ w.left) (enters_frame e.takes_step _ u) _ (entering e.takes_step _ u) (λ v r. lower v (omega (arith, q, r)) _ (p.spends (code_calls project bodies d) frugal frames self (values_of args) v)))
    where
      lower : (v : World) → v.left ≤ w.left → (e : Ending) → Each (λ x. x.1.left ≤ v.left) e → Each (λ x. x.1.left ≤ w.left) e
      lower v p (Ok x) q = omega (arith, p, q)
      lower v p (Err stop) q = tt

  calls_spend : (d : ℕ) → IsFrugal (code_calls project bodies d)
  calls_spend zero = record { spends = λ frames unit r self args w. admitted_zero (entry_of project bodies r) unit args w }
  calls_spend (suc d) = record { spends = λ frames unit r self args w. admitted_more d (calls_spend d) (entry_of project bodies r) (entry_spends r) frames unit self args w }

pub calls_are_frugal : CallsAreFrugal
calls_are_frugal project bodies frames = calls_spend project bodies frames
