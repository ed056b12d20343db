-- Functions and initialisers in two worlds that differ in the steps that are left.
use Rattle.std.proofs.Common.{refl, ◌++◌, ℕ, suc, List, [], ◌∷◌, Option, Some, None}
use Rattle.variant_values.specs.declared.classes.ClassTag.{ClassTag}
use Rattle.folder_meaning.specs.declared.script_type.ScriptType.TheVariants.{Variant}
use Rattle.variant_values.specs.declared.values.Value.{Value}
use Rattle.std.specs.Prelude.{option_map}
use Rattle.script_meaning.specs.State.{opens, World, Frame}
use Rattle.script_meaning.specs.Projects.{Project, Field, Starts, Never, WithNew, WhenReady, Calls, Routine, Function, Initialisers}
use Rattle.script_meaning.specs.Meanings.{Around, Means, site_of}
use Rattle.script_meaning.specs.Statements
use Rattle.script_meaning.specs.Statements.{Now, Flow, Next, Broke, Continued, Returned, Runs}
use Rattle.script_meaning.specs.Functions
use Rattle.script_meaning.specs.Functions.{ParamMeans, FunctionMeans, Bodies}
use Rattle.script_laws.proofs.TwiceForm.{Agrees, bind, gave, later, worlds, stepped, Each, Maybe}
use Rattle.script_laws.proofs.TwiceCalls.{Called, Admits, endings, twice_calls}
use Rattle.script_laws.proofs.TwiceExprs.{AllTwice}
use Rattle.script_laws.proofs.TwiceStatements.{nows, moved_now, moved_flow, now_of, RunsTwice, twice_sequence, twice_received, twice_put_field}

-- what a function of a script does is the same with k steps more
pub record FunctionTwice (k : ℕ) (f : FunctionMeans) : Type 0 where
  pub params : Each {A = ParamMeans} (λ p. Maybe (AllTwice k) p.default) f.params
  pub body : Each (RunsTwice k) f.body

pub record BodiesTwice (k : ℕ) (bodies : Bodies) : Type 0 where
  pub function : (class : ClassTag) (name : List ℕ) → Maybe (FunctionTwice k) (bodies.function class name)
  pub start : (class : ClassTag) (name : List ℕ) → Maybe (AllTwice k) (bodies.start class name)

module _ (k : ℕ) (P : Project) where
  twice_default : (p : ParamMeans) (e : Option Means) → Maybe (AllTwice k) e → (a : Around) → Called k a.call → (s : Now) → Agrees k nows s.world.printed s.world.left (Functions.default P p e a s) (Functions.default P p e a (moved_now k s))
  twice_default p None u a c s = gave {c = nows} _
  twice_default p (Some e) u a c s = bind ((twice_received k P p.type e u).at (Statements.unit_at P a e.place.line s) c (Statements.start s)) (λ x. gave {c = nows} _)

  twice_opened : (ps : List ParamMeans) → Each {A = ParamMeans} (λ p. Maybe (AllTwice k) p.default) ps → (vs : List Value) (a : Around) → Called k a.call → (s : Now) → Agrees k nows s.world.printed s.world.left (Functions.opened P ps vs a s) (Functions.opened P ps vs a (moved_now k s))
  twice_opened [] us vs a c s = gave {c = nows} _
  twice_opened (p ∷ ps) us (v ∷ vs) a c s = twice_opened ps us.1 vs a c (record s { locals = s.locals ++ opens p.name p.type v })
  twice_opened (p ∷ ps) us [] a c s = bind (twice_default p p.default us.0 a c s) (λ next. twice_opened ps us.1 [] a c next)

  twice_over : (a : Around) (f : Flow) → Agrees k endings (now_of f).world.printed (now_of f).world.left (Functions.over (Statements.close a 0 f)) (Functions.over (Statements.close a 0 (moved_flow k f)))
  twice_over a (Next s) = gave {c = endings} _
  twice_over a (Broke s) = gave {c = endings} _
  twice_over a (Continued s) = gave {c = endings} _
  twice_over a (Returned v s) = gave {c = endings} _

  twice_function : (class : ClassTag) (f : FunctionMeans) → FunctionTwice k f → Admits k (Functions.function_entry P class f)
  twice_function class f u = record {
    refusal = λ args w. refl;
    body = λ call c frames self vs w.
        let a : Around = record { call = call; outer = frames; self = Functions.self_in f.is_static self; class = class; function = f.name; result = f.result } in
        bind (twice_opened f.params u.params vs a c (record { locals = []; world = w })) (λ s. bind ((twice_sequence k f.body u.body).at a c s) (λ f. twice_over a f));
  }

  twice_initialise : (a : Around) → Called k a.call → (place : ℕ) (f : Field) (e : Option Means) → Maybe (AllTwice k) e → (w : World) → Agrees k worlds w.printed w.left (Functions.initialise P a place f e w) (Functions.initialise P a place f e (later k w))
  twice_initialise a c place f None u w = gave {c = worlds} _
  twice_initialise a c place f (Some e) u w =
      let h = Statements.unit_at P a f.line (record { locals = []; world = w }) in
      bind (stepped _ w) (λ begun. bind (u.value.at h c (record { held = []; world = begun })) (λ x. bind ((twice_put_field k P a.self (Some (place, f.type)) (P.fits_at a.class e.place) x.0).at (site_of h) c x.1) (λ y. gave {c = worlds} _)))

  twice_start : (starts : Starts) (e : Option Means) → Maybe (AllTwice k) e → Maybe (AllTwice k) (Functions.start_with_new starts e)
  twice_start Never e u = tt
  twice_start WithNew e u = u
  twice_start WhenReady e u = tt

  twice_initialise_all : (bodies : Bodies) → BodiesTwice k bodies → (call : Calls) → Called k call → (frames : List Frame) (self : Value) (place : ℕ) (fs : List Field) (w : World)
      → Agrees k worlds w.printed w.left (Functions.initialise_all P bodies call frames self place fs w) (Functions.initialise_all P bodies call frames self place fs (later k w))
  twice_initialise_all bodies u call c frames self place [] w = gave {c = worlds} _
  twice_initialise_all bodies u call c frames self place (f ∷ fs) w =
      bind (twice_initialise (record { call = call; outer = frames; self = self; class = f.class; function = []; result = Variant }) c place f _ (twice_start f.starts _ (u.start f.class f.name)) w)
      (λ next. twice_initialise_all bodies u call c frames self (suc place) fs next)

  twice_fields : (bodies : Bodies) → BodiesTwice k bodies → (class : ClassTag) → Admits k (Functions.fields_entry P bodies class)
  twice_fields bodies u class = record {
    refusal = λ args w. refl;
    body = λ call c frames self vs w. bind (twice_initialise_all bodies u call c frames self 0 (P.fields class) w) (λ next. gave {c = endings} _);
  }

  twice_found : (class : ClassTag) (o : Option FunctionMeans) → Maybe (FunctionTwice k) o → Maybe (Admits k) (option_map (Functions.function_entry P class) o)
  twice_found class None u = tt
  twice_found class (Some f) u = twice_function class f u

  twice_entry : (bodies : Bodies) → BodiesTwice k bodies → (r : Routine) → Maybe (Admits k) (Functions.entry_of P bodies r)
  twice_entry bodies u (Function class name) = twice_found class (bodies.function class name) (u.function class name)
  twice_entry bodies u (Initialisers class) = twice_fields bodies u class

  pub twice_scripts : (bodies : Bodies) → BodiesTwice k bodies → (frames : ℕ) → Called k (Functions.script_calls P bodies frames)
  twice_scripts bodies u frames = twice_calls k (Functions.entry_of P bodies) (twice_entry bodies u) frames
