-- Calls of functions and methods in two worlds that differ in the steps that are left.
use Rattle.std.proofs.Common.{arith, refl, ◌++◌, ◌+◌, length, nat_le, ℕ, List, [], ◌∷◌, Option, Some, None, Ok, Err, true, false, Bool}
use Rattle.native_calls.specs.Natives.{Native, Gives, Prints, GoesOn, Emits, method_native}
use Rattle.variant_values.specs.declared.classes.ClassTag.{ClassTag}
use Rattle.variant_values.specs.declared.faults.RunFault.TheVariants.{NullAccess, FreedAccess, NotCallable, NoMethod, OutputFull}
use Rattle.variant_values.specs.declared.values.Serial.{Serial}
use Rattle.variant_values.specs.declared.values.Value.{Value}
use Rattle.variant_values.specs.declared.values.Value.TheVariants.{Null, Object, Callable, Class}
use Rattle.script_meaning.specs.State.{joined}
use Rattle.script_meaning.specs.Projects.{Project, Argument, values_of, unsure}
use Rattle.script_meaning.specs.Meanings
use Rattle.script_meaning.specs.Meanings.{Site, Moment, At-site, Callee, Global, Method, Static, Plain}
use Rattle.script_meaning.specs.Emission
use Rattle.script_meaning.specs.Methods
use Rattle.script_laws.proofs.TwiceForm.{Carrier, Agrees, bind, gave, failed, later, choice}
use Rattle.script_laws.proofs.TwiceCalls.{Called, twice_make}
use Rattle.script_laws.proofs.TwiceMembers.{moved, given, TwiceAt}

abbrev pub moments : Carrier Moment
moments = record { move = moved; text = λ m. m.world.printed; left = λ m. m.world.left }

module _ (k : ℕ) where
  twice_called : (class : ClassTag) (name : List ℕ) (self : Value) (args : List Argument) → TwiceAt k (Methods.called class name self args)
  twice_called class name self args = record { at = λ s c m. bind (c.at _ _ _ self args m.world) (λ r. gave _) }

  twice_said : (text : List ℕ) (m : Moment) → Agrees k given m.world.printed m.world.left (Meanings.gives Null (record m { world = record m.world { printed = m.world.printed ++ text } }))
      (Meanings.gives Null (record m { world = record (later k m.world) { printed = m.world.printed ++ text } }))
  twice_said text m = record { same = refl; grows = record { text = record { rest = text; joins = refl }; left = omega arith } }

  twice_prints : (text : List ℕ) → TwiceAt k (Methods.prints text)
  twice_prints text = record { at = λ s c m. choice (nat_le (length m.world.printed + length text) 67108864) (twice_said text m) (failed OutputFull s.spot m.world) }

  twice_finished : (o : Option Native) → TwiceAt k (Methods.finished o)
  twice_finished (Some (Ok (Gives v heap))) = record { at = λ s c m. gave _ }
  twice_finished (Some (Ok (Prints text))) = twice_prints text
  twice_finished (Some (Err kind)) = record { at = λ s c m. failed kind s.spot m.world }
  twice_finished native = record { at = λ s c m. failed NoMethod s.spot m.world }

  -- ---- emission

  twice_called_if : (b : Bool) (f : At-site Value) → TwiceAt k f → (s : Site) → Called k s.call → (m : Moment) → Agrees k moments m.world.printed m.world.left (Emission.called_if b f s m) (Emission.called_if b f s (moved k m))
  twice_called_if true f u s c m = bind (u.at s c m) (λ x. gave {c = moments} x.1)
  twice_called_if false f u s c m = gave {c = moments} m

  module _ (call : Serial → List ℕ → List Value → At-site Value) (all : (o : Serial) (name : List ℕ) (vs : List Value) → TwiceAt k (call o name vs)) where
    twice_target : (args : List Value) (v : Value) (s : Site) → Called k s.call → (m : Moment) → Agrees k moments m.world.printed m.world.left (Emission.target_turn call args v s m) (Emission.target_turn call args v s (moved k m))
    twice_target args (Callable o method) s c m = twice_called_if _ _ (all o _ args) s c m
    twice_target args v s c m = gave {c = moments} m

    twice_emission : (ts args : List Value) → TwiceAt k (Emission.emission call ts args)
    twice_emission [] args = record { at = λ s c m. gave _ }
    twice_emission (t ∷ ts) args = record { at = λ s c m. bind (twice_target args t s c m) (λ next. (twice_emission ts args).at s c next) }

  module _ (P : Project) where
    pub twice_native : (v : Value) (name : List ℕ) (args : List Argument) → TwiceAt k (Methods.native_call P v name args)
    twice_native v name args = record { at = λ s c m. (twice_finished _).at s c m }

    twice_function_by : (o : Option ClassTag) (self : Value) (name : List ℕ) (args : List Argument) → TwiceAt k (Methods.function_by P o self name args)
    twice_function_by (Some class) self name args = twice_called class name self args
    twice_function_by None self name args = twice_native self name args

    twice_function_in : (o : Option ClassTag) (self : Value) (name : List ℕ) (args : List Argument) → TwiceAt k (Methods.function_in P o self name args)
    twice_function_in None self name args = record { at = λ s c m. failed FreedAccess s.spot m.world }
    twice_function_in (Some class) self name args = twice_function_by _ self name args

    twice_function_of : (v : Value) (name : List ℕ) (args : List Argument) → TwiceAt k (Methods.function_of P v name args)
    twice_function_of v name args = record { at = λ s c m. (twice_function_in _ v name args).at s c m }

    twice_target_called : (o : Serial) (name : List ℕ) (vs : List Value) → TwiceAt k (Methods.target_called P o name vs)
    twice_target_called o name vs = twice_function_of (Object o) name (unsure vs)

    twice_answered : (o : Option Native) → TwiceAt k (Methods.answered P o)
    twice_answered (Some (Ok (GoesOn of name vs))) = twice_function_of of name (unsure vs)
    twice_answered (Some (Ok (Emits targets vs))) = twice_emission (Methods.target_called P) twice_target_called targets vs
    twice_answered native = record { at = λ s c m. (twice_finished native).at s c m }

    twice_value_call : (v : Value) (args : List Argument) → TwiceAt k (Methods.value_call P v args)
    twice_value_call Null args = record { at = λ s c m. failed NullAccess s.spot m.world }
    twice_value_call (Callable o name) args = twice_function_of (Object o) _ _
    twice_value_call v args = record { at = λ s c m. failed NotCallable s.spot m.world }

    twice_made : (class : ClassTag) (args : List Argument) → TwiceAt k (Methods.made_object P class args)
    twice_made class args = record { at = λ s c m. bind (twice_make k P s.call c (Meanings.frames_of s m) (Some s.spot) class args m.world) (λ r. gave {c = given} (r.0, record { held = joined r.0 (joined r.1 m.held); world = r.2 })) }

    twice_static : (o : Option ClassTag) (name : List ℕ) (args : List Argument) → TwiceAt k (Methods.static_by P o name args)
    twice_static (Some class) name args = twice_called class name Null args
    twice_static None name args = record { at = λ s c m. failed NoMethod s.spot m.world }

    twice_class_method : (b : Bool) (class : ClassTag) (name : List ℕ) (args : List Argument) → TwiceAt k (Methods.class_method P b class name args)
    twice_class_method true class name args = twice_made class args
    twice_class_method false class name args = twice_static _ name args

    twice_method : (v : Value) (name : List ℕ) (args : List Argument) → TwiceAt k (Methods.method_call P v name args)
    twice_method (Object o) name args = twice_function_of (Object o) name args
    twice_method (Class class) name args = twice_class_method _ class name args
    twice_method v name args = record { at = λ s c m. (twice_answered (method_native (Methods.has_function P) (Meanings.heap_at s m) v name (values_of args))).at s c m }

    pub twice_invoked : (callee : Callee) (args : List Argument) → TwiceAt k (Methods.invoked P callee args)
    twice_invoked (Global name) args = record { at = λ s c m. (twice_finished _).at s c m }
    twice_invoked (Method v name) args = twice_method v name args
    twice_invoked (Static class name) args = twice_called class name Null args
    twice_invoked (Plain v) args = twice_value_call v args

    pub twice_super : (name : List ℕ) (args : List Argument) → TwiceAt k (Methods.super_called P name args)
    twice_super name args = record { at = λ s c m. (twice_function_by _ s.self name args).at s c m }
