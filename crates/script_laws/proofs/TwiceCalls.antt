-- Calls and new objects in two worlds that differ in the steps that are left.
use Rattle.std.proofs.Common.{◌≡◌, sym, subst, ℕ, zero, suc, List, [], ◌∷◌, Option, Some, None, Ok, Err, Bool, true, false}
use Rattle.variant_values.specs.declared.classes.ClassTag.{ClassTag}
use Rattle.variant_values.specs.declared.faults.RunFault.{RunFault}
use Rattle.variant_values.specs.declared.faults.RunFault.TheVariants.{NoMethod, CallTooDeep, BadArgs}
use Rattle.variant_values.specs.declared.values.Value.{Value}
use Rattle.variant_values.specs.Changes.{Given}
use Rattle.script_meaning.specs.State.{World, Frame, Spot, heap_of}
use Rattle.script_meaning.specs.Projects.{Project, Routine, Calls, Entry, Ending, Initialisers, Function, admitted, admitted_by, entered, made_at, nowhere, calls, Argument, values_of, owner}
use Rattle.script_meaning.specs.Objects.{born, initialised, begun_by, make, init, placed, first_line, any_start}
use Rattle.script_laws.proofs.TwiceForm.{Carrier, Agrees, bind, gave, failed, later, worlds, stepped, Maybe}

abbrev pub endings : {A : Type 0} → Carrier (A × World)
endings = record { move = λ k x. (x.0, later k x.1); text = λ x. x.1.printed; left = λ x. x.1.left }

abbrev pub makings : Carrier (Value × Value × World)
makings = record { move = λ k x. (x.0, x.1, later k x.2); text = λ x. x.2.printed; left = λ x. x.2.left }

-- calls that are the same with k steps more
pub record Called (k : ℕ) (call : Calls) : Type 0 where
  pub at : (frames : List Frame) (unit : Option Spot) (r : Routine) (self : Value) (args : List Argument) (w : World) → Agrees k endings w.printed w.left (call frames unit r self args w) (call frames unit r self args (later k w))

-- a routine whose refusal does not look at the steps that are left
pub record Admits (k : ℕ) (e : Entry) : Type 0 where
  pub refusal : (args : List Argument) (w : World) → e.refusal args (later k w) ≡ e.refusal args w
  pub body : (call : Calls) → Called k call → (frames : List Frame) (self : Value) (vs : List Value) (w : World) → Agrees k endings w.printed w.left (e.body call frames self vs w) (e.body call frames self vs (later k w))

module _ (k : ℕ) where
  twice_by_refusal : (o p : Option RunFault) (spot : Spot) (w : World) (go : World → Ending) → p ≡ o → Agrees k endings w.printed w.left (go w) (go (later k w)) → Agrees k endings w.printed w.left (admitted_by o spot w go) (admitted_by p spot (later k w) go)
  twice_by_refusal (Some kind) p spot w go e h = subst (λ z. Agrees k endings w.printed w.left (admitted_by (Some kind) spot w go) (admitted_by z spot (later k w) go)) (sym e) (failed kind spot w)
  twice_by_refusal None p spot w go e h = subst (λ z. Agrees k endings w.printed w.left (admitted_by None spot w go) (admitted_by z spot (later k w) go)) (sym e) h

  twice_admitted : (o : Option Entry) → Maybe (Admits k) o → (unit : Option Spot) (args : List Argument) (w : World) (go : Entry → Spot → World → Ending)
      → ((e : Entry) → Admits k e → (spot : Spot) → Agrees k endings w.printed w.left (go e spot w) (go e spot (later k w)))
      → Agrees k endings w.printed w.left (admitted o unit args w go) (admitted o unit args (later k w) go)
  twice_admitted None a unit args w go h = failed NoMethod (made_at unit nowhere) w
  twice_admitted (Some e) a unit args w go h = twice_by_refusal (e.refusal args w) (e.refusal args (later k w)) (made_at unit e.spot) w (go e (made_at unit e.spot)) (a.refusal args w) (h e a (made_at unit e.spot))

  twice_entered : (b : Bool) (spot : Spot) (w : World) → Agrees k worlds w.printed w.left (entered b spot w) (entered b spot (later k w))
  twice_entered true spot w = stepped spot w
  twice_entered false spot w = gave {c = worlds} w

  pub twice_calls : (find : Routine → Option Entry) → ((r : Routine) → Maybe (Admits k) (find r)) → (d : ℕ) → Called k (calls find d)
  twice_calls find all zero = record { at = λ frames unit r self args w. twice_admitted (find r) (all r) unit args w _ (λ e a spot. failed CallTooDeep spot w) }
  twice_calls find all (suc d) = record { at = λ frames unit r self args w. twice_admitted (find r) (all r) unit args w _ (λ e a spot. bind (twice_entered e.takes_step spot w) (λ begun. a.body (calls find d) (twice_calls find all d) frames self (values_of args) begun)) }

  -- ---- objects

  twice_born : (o : Given) (spot : Spot) (w : World) → Agrees k endings w.printed w.left (born o spot w) (born o spot (later k w))
  twice_born (Ok (v, heap)) spot w = gave {c = endings} _
  twice_born (Err kind) spot w = failed kind spot w

  module _ (project : Project) where
    twice_initialised : (b : Bool) (call : Calls) → Called k call → (frames : List Frame) (unit : Option Spot) (class : ClassTag) (v : Value) (w : World)
        → Agrees k endings w.printed w.left (initialised project b call frames unit class v w) (initialised project b call frames unit class v (later k w))
    twice_initialised true call c frames unit class v w = c.at frames unit (Initialisers class) v [] w
    twice_initialised false call c frames unit class v w = gave {c = endings} _

    twice_begun : (o : Option ClassTag) (args : List Argument) (call : Calls) → Called k call → (frames : List Frame) (unit : Option Spot) (first : Spot) (v : Value) (w : World)
        → Agrees k endings w.printed w.left (begun_by project o args call frames unit first v w) (begun_by project o args call frames unit first v (later k w))
    twice_begun (Some class) args call c frames unit first v w = c.at frames unit (Function class init) v args w
    twice_begun None [] call c frames unit first v w = gave {c = endings} _
    twice_begun None (x ∷ xs) call c frames unit first v w = failed BadArgs (made_at unit first) w

    pub twice_make : (call : Calls) → Called k call → (frames : List Frame) (unit : Option Spot) (class : ClassTag) (args : List Argument) (w : World)
        → Agrees k makings w.printed w.left (make project call frames unit class args w) (make project call frames unit class args (later k w))
    twice_make call c frames unit class args w =
        bind (twice_born (placed project (heap_of frames w) class) (made_at unit (first_line project class)) w)
        (λ new. bind (twice_initialised (any_start (project.fields class)) call c frames unit class new.0 new.1)
        (λ x. bind (twice_begun (owner project class init) args call c frames unit (first_line project class) new.0 x.1)
        (λ y. gave {c = makings} (new.0, y.0, y.1))))
