-- Calls of values, and what assignments do, give no steps back, where calls of functions give none.
use Rattle.std.proofs.Common.{ℕ, ◌≤◌, ◌+◌, length, Bool, true, false, List, [], ◌∷◌, ◌++◌, Result, arith}
use Rattle.std.specs.Prelude.{Some, None, Option, Ok, Err, nat_le, if◌then◌else◌}
use Rattle.native_calls.specs.Natives.{method_native, Native, Gives, Prints, GoesOn, Emits, Enters, Instantiates}
use Rattle.variant_values.specs.declared.classes.ClassTag.{ClassTag}
use Rattle.variant_values.specs.declared.classes.ElementTag.{ElementTag}
use Rattle.variant_values.specs.declared.values.Serial.{Serial}
use Rattle.variant_values.specs.declared.values.Value.{Value}
use Rattle.variant_values.specs.declared.values.Value.TheVariants as value
use Rattle.variant_values.specs.declared.faults.RunFault.TheVariants.{ElementType, OutputFull}
use Rattle.variant_values.specs.Changes.{Given, Done, new_array}
use Rattle.variant_values.specs.ElementTypes.{all_taken}
use Rattle.folder_meaning.specs.declared.script_type.ScriptType.{ScriptType}
use Rattle.script_meaning.specs.State.{World, Frame, Spot, Stop, and_then, heap_of}
use Rattle.script_meaning.specs.Projects.{Project, Meant, Argument, values_of, Routine, Function, Initialisers, Ending, made_at, owner}
use Rattle.script_meaning.specs.Objects.{born, placed, initialised, begun_by, first_line, any_start, init, make}
use Rattle.script_meaning.specs.Meanings.{Site, Moment, At-site, Callee, Global, Method, Static, Plain, fails, frames_of, heap_at, gives, gives_then}
use Rattle.script_meaning.specs.Emission.{called_if, target_turn, emission}
use Rattle.script_meaning.specs.Methods.{has_function, called, most_printed, prints, finished, native_call, function_by, function_in, target_called, answered, value_call, made_object, static_by, class_method, method_call, invoked}
use Rattle.script_meaning.specs.Exprs.{array_of}
use Rattle.script_meaning.specs.Statements.{received_by, stored, put_field, put_in_object, put_member, put_own, put_index}
use Rattle.gd_bytecode.specs.CodeLaws.{Each, IsFrugal}
use Rattle.gd_bytecode.proofs.Frugal.{each_then, Within, gives_then_in}

module _ (s : Site) (frugal : IsFrugal s.call) (l : ℕ) where
  -- ---- functions

  pub called_in : (class : ClassTag) (name : List ℕ) (self : Value) (args : List Argument) (m : Moment) → m.world.left ≤ l → Within l (called class name self args s m)
  called_in class name self args m h = record {
    within = each_then (λ r. r.1.left ≤ m.world.left) (λ x. x.1.world.left ≤ l) (s.call (frames_of s m) (Some s.spot) (Function class name) self args m.world) _
        (frugal.spends (frames_of s m) (Some s.spot) (Function class name) self args m.world) (λ r p. omega (arith, p, h));
  }

  -- one of two
  either_in : {A : Type 0} (b : Bool) (x y : Result (A × Moment) Stop) → Within l x → Within l y → Within l (if b then x else y)
  either_in true x y p q = p
  either_in false x y p q = q

  prints_in : (text : List ℕ) (m : Moment) → m.world.left ≤ l → Within l (prints text s m)
  prints_in text m h = either_in (nat_le (length m.world.printed + length text) most_printed) (gives value.Null (record m { world = record m.world { printed = m.world.printed ++ text } })) (fails OutputFull s m) (record { within = h }) (record { within = tt })

  -- ---- native calls

  finished_in : (n : Option Native) (m : Moment) → m.world.left ≤ l → Within l (finished n s m)
  finished_in None m h = record { within = tt }
  finished_in (Some (Err kind)) m h = record { within = tt }
  finished_in (Some (Ok (Gives v heap))) m h = record { within = h }
  finished_in (Some (Ok (Prints text))) m h = prints_in text m h
  finished_in (Some (Ok (GoesOn of name args))) m h = record { within = tt }
  finished_in (Some (Ok (Emits targets args))) m h = record { within = tt }
  finished_in (Some (Ok (Enters node heap))) m h = record { within = tt }
  finished_in (Some (Ok (Instantiates file))) m h = record { within = tt }

  -- ---- emissions

  module _ (call : Serial → List ℕ → List Value → At-site Value) (calls : (o : Serial) (name : List ℕ) (vs : List Value) (m : Moment) → m.world.left ≤ l → Within l (call o name vs s m)) where
    drops : (r : Result (Value × Moment) Stop) → Within l r → Each (λ n. n.world.left ≤ l) (and_then r (λ x. Ok x.1))
    drops (Ok x) p = p.within
    drops (Err stop) p = tt

    called_if_in : (lives : Bool) (o : Serial) (name : List ℕ) (vs : List Value) (m : Moment) → m.world.left ≤ l → Each (λ n. n.world.left ≤ l) (called_if lives (call o name vs) s m)
    called_if_in true o name vs m h = drops _ (calls o name vs m h)
    called_if_in false o name vs m h = h

    turn_in : (vs : List Value) (t : Value) (m : Moment) → m.world.left ≤ l → Each (λ n. n.world.left ≤ l) (target_turn call vs t s m)
    turn_in vs value.Null m h = h
    turn_in vs (value.Bool b) m h = h
    turn_in vs (value.Int n) m h = h
    turn_in vs (value.Str t) m h = h
    turn_in vs (value.Array a) m h = h
    turn_in vs (value.Dict d) m h = h
    turn_in vs (value.Object o) m h = h
    turn_in vs (value.Callable o n) m h = called_if_in _ o _ vs m h
    turn_in vs (value.Signal o n) m h = h
    turn_in vs (value.Class c) m h = h
    turn_in vs (value.Scene f p) m h = h
    turn_in vs (value.Weak o) m h = h

    emission_then : (r : Result Moment Stop) (f : Moment → Result (Value × Moment) Stop) → Each (λ n. n.world.left ≤ l) r → ((n : Moment) → n.world.left ≤ l → Within l (f n)) → Within l (and_then r f)
    emission_then (Ok n) f p g = g n p
    emission_then (Err stop) f p g = record { within = tt }

    emission_in : (ts vs : List Value) (m : Moment) → m.world.left ≤ l → Within l (emission call ts vs s m)
    emission_in [] vs m h = record { within = h }
    emission_in (t ∷ ts) vs m h = emission_then (target_turn call vs t s m) _ (turn_in vs t m h) (λ n p. emission_in ts vs n p)

  -- ---- making an object

  born_in : (g : Given) (at : Spot) (w : World) → w.left ≤ l → Each (λ x. x.1.left ≤ l) (born g at w)
  born_in (Ok (v, heap)) at w h = h
  born_in (Err kind) at w h = tt

  spent_in : (r : Routine) (self : Value) (args : List Argument) (frames : List Frame) (unit : Option Spot) (w : World) → w.left ≤ l → Each (λ x. x.1.left ≤ l) (s.call frames unit r self args w)
  spent_in r self args frames unit w h = lower _ (frugal.spends frames unit r self args w)
    where
      lower : (e : Ending) → Each (λ x. x.1.left ≤ w.left) e → Each (λ x. x.1.left ≤ l) e
      lower (Ok x) p = omega (arith, p, h)
      lower (Err stop) p = tt

  initialised_in : (project : Project) (starts : Bool) (frames : List Frame) (unit : Option Spot) (class : ClassTag) (v : Value) (w : World) → w.left ≤ l → Each (λ x. x.1.left ≤ l) (initialised project starts s.call frames unit class v w)
  initialised_in project true frames unit class v w h = spent_in (Initialisers class) v [] frames unit w h
  initialised_in project false frames unit class v w h = h

  begun_in : (project : Project) (class : Option ClassTag) (args : List Argument) (frames : List Frame) (unit : Option Spot) (first : Spot) (v : Value) (w : World) → w.left ≤ l → Each (λ x. x.1.left ≤ l) (begun_by project class args s.call frames unit first v w)
  begun_in project (Some class) args frames unit first v w h = spent_in (Function class init) v args frames unit w h
  begun_in project None [] frames unit first v w h = h
  begun_in project None (a ∷ rest) frames unit first v w h = tt

  module _ (project : Project) where
    make_in : (frames : List Frame) (unit : Option Spot) (class : ClassTag) (args : List Argument) (w : World) → w.left ≤ l → Each (λ x. x.2.left ≤ l) (make project s.call frames unit class args w)
    make_in frames unit class args w h =
        each_then (λ x. x.1.left ≤ l) (λ x. x.2.left ≤ l) (born (placed project (heap_of frames w) class) (made_at unit (first_line project class)) w) _ (born_in (placed project (heap_of frames w) class) (made_at unit (first_line project class)) w h) (λ new p.
        each_then (λ x. x.1.left ≤ l) (λ x. x.2.left ≤ l) (initialised project (any_start (project.fields class)) s.call frames unit class new.0 new.1) _ (initialised_in project (any_start (project.fields class)) frames unit class new.0 new.1 p) (λ x q.
        each_then (λ x. x.1.left ≤ l) (λ x. x.2.left ≤ l) (begun_by project (owner project class init) args s.call frames unit (first_line project class) new.0 x.1) _ (begun_in project (owner project class init) args frames unit (first_line project class) new.0 x.1 q) (λ y r. r)))

    pub made_object_in : (class : ClassTag) (args : List Argument) (m : Moment) → m.world.left ≤ l → Within l (made_object project class args s m)
    made_object_in class args m h = record {
      within = each_then (λ x. x.2.left ≤ l) (λ x. x.1.world.left ≤ l) (make project s.call (frames_of s m) (Some s.spot) class args m.world) _ (make_in (frames_of s m) (Some s.spot) class args m.world h) (λ r p. p);
    }

    -- ---- calls by name

    pub native_call_in : (v : Value) (name : List ℕ) (args : List Argument) (m : Moment) → m.world.left ≤ l → Within l (native_call project v name args s m)
    native_call_in v name args m h = finished_in _ m h

    function_by_in : (class : Option ClassTag) (self : Value) (name : List ℕ) (args : List Argument) (m : Moment) → m.world.left ≤ l → Within l (function_by project class self name args s m)
    function_by_in (Some class) self name args m h = called_in class name self args m h
    function_by_in None self name args m h = native_call_in self name args m h

    function_in_in : (class : Option ClassTag) (self : Value) (name : List ℕ) (args : List Argument) (m : Moment) → m.world.left ≤ l → Within l (function_in project class self name args s m)
    function_in_in (Some class) self name args m h = function_by_in _ self name args m h
    function_in_in None self name args m h = record { within = tt }

    answered_in : (n : Option Native) (m : Moment) → m.world.left ≤ l → Within l (answered project n s m)
    answered_in None m h = record { within = tt }
    answered_in (Some (Err kind)) m h = record { within = tt }
    answered_in (Some (Ok (Gives v heap))) m h = record { within = h }
    answered_in (Some (Ok (Prints text))) m h = prints_in text m h
    answered_in (Some (Ok (GoesOn of name vs))) m h = function_in_in _ of name _ m h
    answered_in (Some (Ok (Emits targets vs))) m h = emission_in (target_called project) (λ o name us n p. function_in_in _ (value.Object o) name _ n p) targets vs m h
    answered_in (Some (Ok (Enters node heap))) m h = record { within = tt }
    answered_in (Some (Ok (Instantiates file))) m h = record { within = tt }

    pub value_call_in : (v : Value) (args : List Argument) (m : Moment) → m.world.left ≤ l → Within l (value_call project v args s m)
    value_call_in value.Null args m h = record { within = tt }
    value_call_in (value.Bool b) args m h = record { within = tt }
    value_call_in (value.Int n) args m h = record { within = tt }
    value_call_in (value.Str t) args m h = record { within = tt }
    value_call_in (value.Array a) args m h = record { within = tt }
    value_call_in (value.Dict d) args m h = record { within = tt }
    value_call_in (value.Object o) args m h = record { within = tt }
    value_call_in (value.Callable o n) args m h = function_in_in _ (value.Object o) _ _ m h
    value_call_in (value.Signal o n) args m h = record { within = tt }
    value_call_in (value.Class c) args m h = record { within = tt }
    value_call_in (value.Scene f p) args m h = record { within = tt }
    value_call_in (value.Weak o) args m h = record { within = tt }

    static_by_in : (class : Option ClassTag) (name : List ℕ) (args : List Argument) (m : Moment) → m.world.left ≤ l → Within l (static_by project class name args s m)
    static_by_in (Some class) name args m h = called_in class name value.Null args m h
    static_by_in None name args m h = record { within = tt }

    class_method_in : (makes : Bool) (class : ClassTag) (name : List ℕ) (args : List Argument) (m : Moment) → m.world.left ≤ l → Within l (class_method project makes class name args s m)
    class_method_in true class name args m h = made_object_in class args m h
    class_method_in false class name args m h = static_by_in _ name args m h

    native_answered : (v : Value) (name : List ℕ) (args : List Argument) (m : Moment) → m.world.left ≤ l → Within l (answered project (method_native (has_function project) (heap_at s m) v name (values_of args)) s m)
    native_answered v name args m h = answered_in (method_native (has_function project) (heap_at s m) v name (values_of args)) m h

    pub method_call_in : (v : Value) (name : List ℕ) (args : List Argument) (m : Moment) → m.world.left ≤ l → Within l (method_call project v name args s m)
    method_call_in value.Null name args m h = native_answered value.Null name args m h
    method_call_in (value.Bool b) name args m h = native_answered (value.Bool b) name args m h
    method_call_in (value.Int n) name args m h = native_answered (value.Int n) name args m h
    method_call_in (value.Str t) name args m h = native_answered (value.Str t) name args m h
    method_call_in (value.Array a) name args m h = native_answered (value.Array a) name args m h
    method_call_in (value.Dict d) name args m h = native_answered (value.Dict d) name args m h
    method_call_in (value.Object o) name args m h = function_in_in _ (value.Object o) name args m h
    method_call_in (value.Callable o n) name args m h = native_answered (value.Callable o n) name args m h
    method_call_in (value.Signal o n) name args m h = native_answered (value.Signal o n) name args m h
    method_call_in (value.Class c) name args m h = class_method_in _ c name args m h
    method_call_in (value.Scene f p) name args m h = native_answered (value.Scene f p) name args m h
    method_call_in (value.Weak o) name args m h = native_answered (value.Weak o) name args m h

    pub invoked_in : (callee : Callee) (args : List Argument) (m : Moment) → m.world.left ≤ l → Within l (invoked project callee args s m)
    invoked_in (Global name) args m h = finished_in _ m h
    invoked_in (Method v name) args m h = method_call_in v name args m h
    invoked_in (Static class name) args m h = called_in class name value.Null args m h
    invoked_in (Plain v) args m h = value_call_in v args m h

    -- ---- assignments

    stored_in : (d : Done) (m : Moment) → m.world.left ≤ l → Each (λ w. w.left ≤ l) (stored d s m)
    stored_in (Ok (x, heap)) m h = h
    stored_in (Err kind) m h = tt

    admitted_in : (fits : Result (Unit {0}) Stop) (d : Done) (m : Moment) → m.world.left ≤ l → Each (λ w. w.left ≤ l) (and_then fits (λ u. stored d s m))
    admitted_in (Ok u) d m h = stored_in d m h
    admitted_in (Err stop) d m h = tt

    put_field_in : (of : Value) (place : Option (ℕ × ScriptType)) (fits : Bool) (v : Value) (m : Moment) → m.world.left ≤ l → Each (λ w. w.left ≤ l) (put_field project of place fits v s m)
    put_field_in value.Null place fits v m h = tt
    put_field_in (value.Bool b) place fits v m h = tt
    put_field_in (value.Int n) place fits v m h = tt
    put_field_in (value.Str t) place fits v m h = tt
    put_field_in (value.Array a) place fits v m h = tt
    put_field_in (value.Dict d) place fits v m h = tt
    put_field_in (value.Object o) (Some (i, type)) fits v m h = admitted_in (received_by project fits type v s.spot m.world) _ m h
    put_field_in (value.Object o) None fits v m h = tt
    put_field_in (value.Callable o n) place fits v m h = tt
    put_field_in (value.Signal o n) place fits v m h = tt
    put_field_in (value.Class c) place fits v m h = tt
    put_field_in (value.Scene f p) place fits v m h = tt
    put_field_in (value.Weak o) place fits v m h = tt

    pub put_own_in : (meant : Option Meant) (fits : Bool) (v : Value) (m : Moment) → m.world.left ≤ l → Each (λ w. w.left ≤ l) (put_own project meant fits v s m)
    put_own_in meant fits v m h = put_field_in s.self _ fits v m h

    put_in_object_in : (class : Option ClassTag) (of : Value) (name : List ℕ) (fits : Bool) (v : Value) (m : Moment) → m.world.left ≤ l → Each (λ w. w.left ≤ l) (put_in_object project class of name fits v s m)
    put_in_object_in None of name fits v m h = tt
    put_in_object_in (Some class) of name fits v m h = put_field_in of _ fits v m h

    pub put_member_in : (of : Value) (name : List ℕ) (fits : Bool) (v : Value) (m : Moment) → m.world.left ≤ l → Each (λ w. w.left ≤ l) (put_member project of name fits v s m)
    put_member_in value.Null name fits v m h = tt
    put_member_in (value.Bool b) name fits v m h = tt
    put_member_in (value.Int n) name fits v m h = tt
    put_member_in (value.Str t) name fits v m h = tt
    put_member_in (value.Array a) name fits v m h = tt
    put_member_in (value.Dict d) name fits v m h = stored_in _ m h
    put_member_in (value.Object o) name fits v m h = put_in_object_in _ (value.Object o) name fits v m h
    put_member_in (value.Callable o n) name fits v m h = tt
    put_member_in (value.Signal o n) name fits v m h = tt
    put_member_in (value.Class c) name fits v m h = tt
    put_member_in (value.Scene f p) name fits v m h = tt
    put_member_in (value.Weak o) name fits v m h = tt

    pub put_index_in : (of index v : Value) (m : Moment) → m.world.left ≤ l → Each (λ w. w.left ≤ l) (put_index project of index v s m)
    put_index_in of index v m h = stored_in _ m h

  pub array_of_in : (element : Option ElementTag) (vs : List Value) (m : Moment) → m.world.left ≤ l → Within l (array_of element vs s m)
  array_of_in element vs m h = either_in (all_taken m.world.cells element vs) (gives_then (new_array (heap_at s m) vs element) s m) (fails ElementType s m) (gives_then_in l s (new_array (heap_at s m) vs element) m h) (record { within = tt })
