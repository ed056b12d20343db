-- Calls of functions of scripts and of values keep a law.
use Rattle.std.proofs.Common.{ℕ, Bool, true, false, List, [], ◌∷◌, ◌++◌, Option, Some, None, Result, Ok, Err}
use Rattle.std.specs.Prelude.{◌+◌, bytes_eq, chars, codes, if◌then◌else◌, length, nat_le}
use Rattle.std.specs.List.{AllByRecursion}
use Rattle.native_calls.specs.Natives.{Gives, Prints, GoesOn, Emits, Enters, Instantiates, Native, global_native, method_native}
use Rattle.variant_values.specs.declared.classes.ClassTag.{ClassTag}
use Rattle.variant_values.specs.declared.faults.RunFault.TheVariants.{NullAccess, FreedAccess, NotCallable, NoMethod, OutputFull}
use Rattle.variant_values.specs.declared.values.Serial.{Serial}
use Rattle.variant_values.specs.declared.values.Value.{Value}
use Rattle.variant_values.specs.declared.values.Value.TheVariants.{Null, Bool as Truth, Int, Str, Array, Dict, Object, Callable, Signal, Class, Scene, Weak}
use Rattle.variant_values.specs.Heaps.{is_living}
use Rattle.script_meaning.specs.State.{World, Frame, Stop, and_then, joined}
use Rattle.script_meaning.specs.Projects.{Project, Argument, Ending, Function, member_meant, owner, unsure, values_of}
use Rattle.script_meaning.specs.Meanings.{Moment, Site, Callee, Global, Method, Static, Plain, changed, fails, frame_of, frames_of, gives, heap_at}
use Rattle.script_meaning.specs.Emission.{called_if, emission, target_turn}
use Rattle.script_meaning.specs.Members.{class_in}
use Rattle.script_meaning.specs.Methods.{answered, called, class_method, finished, function_by, function_in, function_of, has_function, invoked, method_call, most_printed, native_call, owner_in, parent_of, static_by, static_owner, super_called, target_called, value_call}
use Rattle.script_laws.specs.Knowing.{Stays}
use Rattle.script_laws.proofs.Law.{Law, IsAnswer}
use Rattle.script_laws.proofs.Moments.{AtSite, EndsWell, Good, KnownFor, Passed, Ready, Stopped, Values, all_known, carry_all, failed, follow, from, given, grown, held_at, moved, plain, stays_here}
use Rattle.script_laws.proofs.MakingLaws.{Held, MakesWell, made_well}
use Rattle.script_laws.proofs.MemberLaws.{CalleeReady}

module _ (L : Law) where
  abbrev pub AllReady : Site → List Value → Moment → Type 0
  AllReady s vs m = AllByRecursion (λ v. Ready L s v m) vs

  known_for : (outer : List Frame) (f : Frame) (w : World) (v : Value) → KnownFor L (outer ++ f ∷ []) w v → L.Known w v
  known_for [] f w v k = k
  known_for (g ∷ gs) f w v k = k

  unsure_all : (P : Value → Type 0) (vs : List Value) → AllByRecursion P vs → AllByRecursion P (values_of (unsure vs))
  unsure_all P [] k = tt
  unsure_all P (v ∷ vs) k = (k.0, unsure_all P vs k.1)

  -- a moment that follows
  abbrev IsTurn : Site → Moment → Result Moment Stop → Type 0
  IsTurn s m (Ok n) = Passed L false s m n
  IsTurn s m (Err e) = Stopped L (held_at L s m) m.world e

  record Turns (s : Site) (m : Moment) (r : Result Moment Stop) : Type 0 where
    pub turns : IsTurn s m r

  module _ {s : Site} {m : Moment} (at : AtSite L s m.world) where
    -- what a call returns is held
    ended : (r : Ending) → EndsWell L (frames_of s m) m.world r → Good L false s m (Ready L s) (and_then r (λ x. gives x.0 (record m { world = x.1 })))
    ended (Ok (v, u)) k =
        let p : Passed L false s m (record m { world = u }) = moved L u at k.ends.0 k.ends.1 in
        from L (gives v (record m { world = u })) p (given L p.at (known_for s.outer (frame_of s m) u v k.ends.2))
    ended (Err e) k = record { good = k.ends }

    pub called_given : (class : ClassTag) (name : List ℕ) (self : Value) (args : List Argument) → L.Known m.world self → Values L m.world (values_of args) → Good L false s m (Ready L s) (called class name self args s m)
    called_given class name self args known k = ended _ (at.calls.calls (frames_of s m) (Some s.spot) (Function class name) self args m.world at.fine known k)

    print_if : (b : Bool) (text : List ℕ) → Good L false s m (Ready L s) (if b then gives Null (record m { world = record m.world { printed = m.world.printed ++ text } }) else fails OutputFull s m)
    print_if true text =
        let u : World = record m.world { printed = m.world.printed ++ text } in
        let k : L.Fine u × L.Then (held_at L s m) m.world u = L.prints (held_at L s m) m.world text at.fine in
        let p : Passed L false s m (record m { world = u }) = moved L u at k.0 k.1 in
        from L (gives Null (record m { world = u })) p (plain L p.at tt)
    print_if false text = failed L OutputFull at

    pub finished_given : (Has : Value → Type 0) (n : Option Native) → IsAnswer L.Fine L.Known L.Then m.world Has n → Good L false s m (Ready L s) (finished n s m)
    finished_given Has None k = failed L NoMethod at
    finished_given Has (Some (Err kind)) k = failed L kind at
    finished_given Has (Some (Ok (Gives v g))) k =
        let p : Passed L false s m (changed m g) = grown L g at k.0 in
        from L (gives v (changed m g)) p (given L p.at k.1)
    finished_given Has (Some (Ok (Prints text))) k = print_if (nat_le (length m.world.printed + length text) most_printed) text
    finished_given Has (Some (Ok (GoesOn of name vs))) k = failed L NoMethod at
    finished_given Has (Some (Ok (Emits targets vs))) k = failed L NoMethod at
    finished_given Has (Some (Ok (Enters node g))) k = failed L NoMethod at
    finished_given Has (Some (Ok (Instantiates file))) k = failed L NoMethod at

    -- the object that is made, and what `_init` returned, are held
    made_ended : (r : Result (Value × Value × World) Stop) → MakesWell L (frames_of s m) m.world r → Good L false s m (Ready L s) (and_then r (λ x. gives x.0 (record { held = joined x.1 m.held; world = x.2 })))
    made_ended (Ok (o, v, u)) k =
        let p : Passed L false s m (record m { world = u }) = moved L u at k.makes.0 k.makes.1 in
        let q : Passed L false s (record m { world = u }) (record { held = joined v m.held; world = u }) = (given L p.at (known_for s.outer (frame_of s m) u v k.makes.3)).good.0 in
        from L (gives o (record { held = joined v m.held; world = u })) (follow L p q) (given L q.at k.makes.2)
    made_ended (Err e) k = record { good = k.makes }

  ready_held : (s : Site) (m : Moment) (vs : List Value) → AllReady s vs m → AllByRecursion (Held L (frames_of s m) m.world) vs
  ready_held s m [] k = tt
  ready_held s m (v ∷ vs) k = (record { known = k.0.known; held = k.0.held }, ready_held s m vs k.1)

  module _ (project : Project) where
    module _ {s : Site} {m : Moment} (at : AtSite L s m.world) where
      native_given : (v : Value) (name : List ℕ) (args : List Argument) → L.Known m.world v → AllReady s (values_of args) m → Good L false s m (Ready L s) (native_call project v name args s m)
      native_given v name args known k = finished_given at (λ u. Ready L s u m) (method_native (has_function project) (heap_at s m) v name (values_of args))
          (L.method (frames_of s m) m.world (has_function project) v name (values_of args) (λ u. Ready L s u m) at.fine known (all_known L s m (values_of args) k) k)

      by_given : (o : Option ClassTag) (v : Value) (name : List ℕ) (args : List Argument) → L.Known m.world v → AllReady s (values_of args) m → Good L false s m (Ready L s) (function_by project o v name args s m)
      by_given (Some class) v name args known k = called_given at class name v args known (all_known L s m (values_of args) k)
      by_given None v name args known k = native_given v name args known k

      in_given : (o : Option ClassTag) (v : Value) (name : List ℕ) (args : List Argument) → L.Known m.world v → AllReady s (values_of args) m → Good L false s m (Ready L s) (function_in project o v name args s m)
      in_given None v name args known k = failed L FreedAccess at
      in_given (Some class) v name args known k = by_given (owner project class name) v name args known k

      pub function_given : (v : Value) (name : List ℕ) (args : List Argument) → L.Known m.world v → AllReady s (values_of args) m → Good L false s m (Ready L s) (function_of project v name args s m)
      function_given v name args known k = in_given (class_in m v) v name args known k

    -- ---- emissions

    if_turns : {s : Site} {m : Moment} (b : Bool) (o : Serial) (name : List ℕ) (vs : List Value) → AtSite L s m.world → L.Known m.world (Object o) → AllReady s vs m → Turns s m (called_if b (target_called project o name vs) s m)
    if_turns {s} {m} true o name vs at known k = turned (function_of project (Object o) name (unsure vs) s m) (function_given at (Object o) name (unsure vs) known (unsure_all (λ v. Ready L s v m) vs k))
      where
        turned : (r : Result (Value × Moment) Stop) → Good L false s m (Ready L s) r → Turns s m (and_then r (λ x. Ok x.1))
        turned (Ok (v, n)) g = record { turns = g.good.0 }
        turned (Err e) g = record { turns = g.good }
    if_turns false o name vs at known k = record { turns = stays_here L at }

    turn_given : {s : Site} {m : Moment} (t : Value) (vs : List Value) → AtSite L s m.world → L.Known m.world t → AllReady s vs m → Turns s m (target_turn (target_called project) vs t s m)
    turn_given {s} {m} (Callable o method) vs at known k = if_turns (is_living m.world.cells o.0) o (chars method) vs at (L.object m.world o method known) k
    turn_given t vs at known k = record { turns = stays_here L at }

    turn_then : {s : Site} {m : Moment} (go : Moment → Result (Value × Moment) Stop) (r : Result Moment Stop) → Turns s m r → ((n : Moment) → Passed L false s m n → Good L false s n (Ready L s) (go n)) → Good L false s m (Ready L s) (and_then r go)
    turn_then go (Ok n) g f = from L (go n) g.turns (f n g.turns)
    turn_then go (Err e) g f = record { good = g.turns }

    targets_on : {s : Site} {m n : Moment} (ts : List Value) → Passed L false s m n → AllByRecursion (λ t. L.Known m.world t × ((held : List Value) → Stays held t)) ts → AllByRecursion (λ t. L.Known n.world t × ((held : List Value) → Stays held t)) ts
    targets_on [] p k = tt
    targets_on {s} {m} {n} (t ∷ ts) p k = ((L.keeps (held_at L s m) m.world n.world t p.goes (k.0.1 (held_at L s m)) k.0.0, k.0.1), targets_on ts p k.1)

    emission_given : {s : Site} {m : Moment} (ts vs : List Value) → AtSite L s m.world → AllByRecursion (λ t. L.Known m.world t × ((held : List Value) → Stays held t)) ts → AllReady s vs m → Good L false s m (Ready L s) (emission (target_called project) ts vs s m)
    emission_given [] vs at known k = plain L at tt
    emission_given {s} {m} (t ∷ ts) vs at known k = turn_then (λ next. emission (target_called project) ts vs s next) (target_turn (target_called project) vs t s m) (turn_given t vs at known.0.0 k)
        (λ n p. emission_given ts vs p.at (targets_on ts p known.1) (carry_all L vs p k))

    -- ---- calls

    module _ {s : Site} {m : Moment} (at : AtSite L s m.world) where
      pub answered_given : (n : Option Native) → IsAnswer L.Fine L.Known L.Then m.world (λ v. Ready L s v m) n → Good L false s m (Ready L s) (answered project n s m)
      answered_given None k = failed L NoMethod at
      answered_given (Some (Err kind)) k = failed L kind at
      answered_given (Some (Ok (Gives v g))) k = finished_given at (λ v. Ready L s v m) (Some (Ok (Gives v g))) k
      answered_given (Some (Ok (Prints text))) k = finished_given at (λ v. Ready L s v m) (Some (Ok (Prints text))) k
      answered_given (Some (Ok (GoesOn of name vs))) k = function_given at of name (unsure vs) k.0 (unsure_all (λ v. Ready L s v m) vs k.1)
      answered_given (Some (Ok (Emits targets vs))) k = emission_given targets vs at k.0 k.1
      answered_given (Some (Ok (Enters node g))) k = failed L NoMethod at
      answered_given (Some (Ok (Instantiates file))) k = failed L NoMethod at

      value_given : (v : Value) (args : List Argument) → L.Known m.world v → AllReady s (values_of args) m → Good L false s m (Ready L s) (value_call project v args s m)
      value_given Null args known k = failed L NullAccess at
      value_given (Callable o name) args known k = function_given at (Object o) (chars name) (unsure (values_of args)) (L.object m.world o name known) (unsure_all (λ v. Ready L s v m) (values_of args) k)
      value_given (Truth b) args known k = failed L NotCallable at
      value_given (Int n) args known k = failed L NotCallable at
      value_given (Str t) args known k = failed L NotCallable at
      value_given (Array a) args known k = failed L NotCallable at
      value_given (Dict a) args known k = failed L NotCallable at
      value_given (Object a) args known k = failed L NotCallable at
      value_given (Signal a n) args known k = failed L NotCallable at
      value_given (Class a) args known k = failed L NotCallable at
      value_given (Scene a p) args known k = failed L NotCallable at
      value_given (Weak a) args known k = failed L NotCallable at

      static_given : (o : Option ClassTag) (name : List ℕ) (args : List Argument) → AllReady s (values_of args) m → Good L false s m (Ready L s) (static_by project o name args s m)
      static_given (Some class) name args k = called_given at class name Null args (L.plain m.world Null tt) (all_known L s m (values_of args) k)
      static_given None name args k = failed L NoMethod at

      class_given : (b : Bool) (class : ClassTag) (name : List ℕ) (args : List Argument) → AllReady s (values_of args) m → Good L false s m (Ready L s) (class_method project b class name args s m)
      class_given true class name args k = made_ended at _ (made_well L project s.call at.calls (frames_of s m) (Some s.spot) class args m.world at.fine (ready_held s m (values_of args) k))
      class_given false class name args k = static_given (static_owner (member_meant project class name)) name args k

      native_answered : (v : Value) (name : List ℕ) (args : List Argument) → L.Known m.world v → AllReady s (values_of args) m → Good L false s m (Ready L s) (answered project (method_native (has_function project) (heap_at s m) v name (values_of args)) s m)
      native_answered v name args known k = answered_given (method_native (has_function project) (heap_at s m) v name (values_of args))
          (L.method (frames_of s m) m.world (has_function project) v name (values_of args) (λ u. Ready L s u m) at.fine known (all_known L s m (values_of args) k) k)

      method_given : (v : Value) (name : List ℕ) (args : List Argument) → L.Known m.world v → AllReady s (values_of args) m → Good L false s m (Ready L s) (method_call project v name args s m)
      method_given (Object o) name args known k = function_given at (Object o) name args known k
      method_given (Class class) name args known k = class_given (bytes_eq name (codes "new")) class name args k
      method_given Null name args known k = native_answered Null name args known k
      method_given (Truth b) name args known k = native_answered (Truth b) name args known k
      method_given (Int n) name args known k = native_answered (Int n) name args known k
      method_given (Str t) name args known k = native_answered (Str t) name args known k
      method_given (Array a) name args known k = native_answered (Array a) name args known k
      method_given (Dict a) name args known k = native_answered (Dict a) name args known k
      method_given (Callable a n) name args known k = native_answered (Callable a n) name args known k
      method_given (Signal a n) name args known k = native_answered (Signal a n) name args known k
      method_given (Scene a p) name args known k = native_answered (Scene a p) name args known k
      method_given (Weak a) name args known k = native_answered (Weak a) name args known k

      pub invoked_given : (f : Callee) (args : List Argument) → CalleeReady L s f m → AllReady s (values_of args) m → Good L false s m (Ready L s) (invoked project f args s m)
      invoked_given (Global name) args r k = finished_given at (λ v. Ready L s v m) (global_native project.names (heap_at s m) name (values_of args))
          (L.global (frames_of s m) m.world project.names name (values_of args) (λ v. Ready L s v m) at.fine (all_known L s m (values_of args) k) k)
      invoked_given (Method v name) args r k = method_given v name args r.known k
      invoked_given (Static class name) args r k = called_given at class name Null args (L.plain m.world Null tt) (all_known L s m (values_of args) k)
      invoked_given (Plain v) args r k = value_given v args r.known k

      pub super_given : (name : List ℕ) (args : List Argument) → AllReady s (values_of args) m → Good L false s m (Ready L s) (super_called project name args s m)
      super_given name args k = by_given at (owner_in project (parent_of (project.lineage s.class)) name) s.self name args at.self k

      pub self_native : (name : List ℕ) (args : List Argument) → AllReady s (values_of args) m → Good L false s m (Ready L s) (native_call project s.self name args s m)
      self_native name args k = native_given at s.self name args at.self k
