-- Making an object keeps a law.
use Rattle.std.proofs.Common.{ℕ, suc, Bool, true, false, List, [], ◌∷◌, Option, Some, None, Result, Ok, Err}
use Rattle.std.specs.List.{AllByRecursion}
use Rattle.folder_meaning.specs.declared.script_type.ScriptType.{ScriptType}
use Rattle.folder_meaning.specs.declared.script_type.ScriptType.TheVariants as of_type
use Rattle.variant_values.specs.declared.classes.ClassTag.{ClassTag}
use Rattle.variant_values.specs.declared.values.Serial.{Serial}
use Rattle.variant_values.specs.declared.values.Value.{Value}
use Rattle.variant_values.specs.declared.values.Value.TheVariants.{Null}
use Rattle.variant_values.specs.Changes.{Given, next_serial}
use Rattle.variant_values.specs.Heaps.{Heap, with_field}
use Rattle.script_meaning.specs.State.{World, Frame, Spot, Stop, and_then, heap_of, holds_of, with_heap}
use Rattle.script_meaning.specs.Projects.{Project, Field, Starts, Never, Argument, Calls, Ending, Function, Initialisers, made_at, owner, values_of}
use Rattle.script_meaning.specs.Constants.{Made, and_make}
use Rattle.script_meaning.specs.Types.{default_of}
use Rattle.script_meaning.specs.Objects.{any_start, begun_by, born, filled, filled_at, first_line, init, initialised, make, new_object, placed, placed_at}
use Rattle.script_laws.specs.Knowing.{Stays}
use Rattle.script_laws.proofs.Law.{Law, GivesKnown, world_of}
use Rattle.script_laws.proofs.Moments.{EndsWell, KeepsCalls, KnownFor, Stopped, Values}

-- ---- what is made is an object, which stays known whatever is held

abbrev LastsMade : Made Value → Type 0
LastsMade (Ok (v, g)) = (held : List Value) → Stays held v
LastsMade (Err kind) = Unit {0}

made_lasts : (r : Made Value) (go : Value → Heap → Made Value) → ((v : Value) (g : Heap) → LastsMade (go v g)) → LastsMade (and_make r go)
made_lasts (Ok (v, g)) go f = f v g
made_lasts (Err kind) go f = tt

filled_at_lasts : (starts : Starts) (type : ScriptType) (s : Serial) (i : ℕ) (rest : Heap → Made Value) (h : Heap) → ((g : Heap) → LastsMade (rest g)) → LastsMade (filled_at starts type s i rest h)
filled_at_lasts Never (of_type.Array of) s i rest h f = made_lasts (default_of (of_type.Array of) h) _ (λ v g. f (with_field g s.0 i v))
filled_at_lasts Never of_type.Dict s i rest h f = made_lasts (default_of of_type.Dict h) _ (λ v g. f (with_field g s.0 i v))
filled_at_lasts starts type s i rest h f = f h

filled_lasts : (fields : List Field) (s : Serial) (i : ℕ) (h : Heap) → LastsMade (filled fields s i h)
filled_lasts [] s i h = λ held. tt
filled_lasts (f ∷ fs) s i h = filled_at_lasts f.starts f.type s i (filled fs s (suc i)) h (λ g. filled_lasts fs s (suc i) g)

placed_lasts : (project : Project) (h : Heap) (class : ClassTag) → LastsMade (placed project h class)
placed_lasts project h class = made_lasts (placed_at h (new_object project class) (next_serial h)) (λ v g. filled (project.fields class) (next_serial h) 0 g) (λ v g. filled_lasts (project.fields class) (next_serial h) 0 g)

-- ---- the parts of `new`

module _ (L : Law) where
  abbrev IsMade : List Frame → World → Result (Value × Value × World) Stop → Type 0
  IsMade frames w (Ok (o, v, u)) = L.Fine u × L.Then (holds_of frames) w u × L.Known u o × KnownFor L frames u v
  IsMade frames w (Err e) = Stopped L (holds_of frames) w e

  -- what `new` comes to
  pub record MakesWell (frames : List Frame) (w : World) (r : Result (Value × Value × World) Stop) : Type 0 where
    pub makes : IsMade frames w r

  -- arguments that the frames hold
  pub record Held (frames : List Frame) (w : World) (v : Value) : Type 0 where
    pub known : L.Known w v
    pub held : Stays (holds_of frames) v

  held_on : (frames : List Frame) (w u : World) (vs : List Value) → L.Then (holds_of frames) w u → AllByRecursion (Held frames w) vs → AllByRecursion (Held frames u) vs
  held_on frames w u [] t k = tt
  held_on frames w u (v ∷ vs) t k = (record { known = L.keeps (holds_of frames) w u v t k.0.held k.0.known; held = k.0.held }, held_on frames w u vs t k.1)

  held_known : (frames : List Frame) (w : World) (vs : List Value) → AllByRecursion (Held frames w) vs → Values L w vs
  held_known frames w [] k = tt
  held_known frames w (v ∷ vs) k = (k.0.known, held_known frames w vs k.1)

  made_before : (frames : List Frame) (w u : World) (r : Result (Value × Value × World) Stop) → L.Then (holds_of frames) w u → MakesWell frames u r → MakesWell frames w r
  made_before frames w u (Ok (o, v, x)) t k = record { makes = (k.makes.0, L.after (holds_of frames) w u x t k.makes.1, k.makes.2, k.makes.3) }
  made_before frames w u (Err e) t k = record { makes = record { fine = k.makes.fine; then = L.after (holds_of frames) w u (world_of e) t k.makes.then } }

  begun_made : (frames : List Frame) (w : World) (o : Value) → ((held : List Value) → Stays held o) → L.Known w o → (r : Ending) → EndsWell L frames w r → MakesWell frames w (and_then r (λ y. Ok (o, y.0, y.1)))
  begun_made frames w o lasts known (Ok (v, u)) k = record { makes = (k.ends.0, k.ends.1, L.keeps (holds_of frames) w u o k.ends.1 (lasts (holds_of frames)) known, k.ends.2) }
  begun_made frames w o lasts known (Err e) k = record { makes = k.ends }

  null_known : (frames : List Frame) (w : World) → KnownFor L frames w Null
  null_known [] w = tt
  null_known (f ∷ fs) w = L.plain w Null tt

  null_ends : (frames : List Frame) (w : World) → L.Fine w → EndsWell L frames w (Ok (Null, w))
  null_ends frames w fine = record { ends = (fine, L.same (holds_of frames) w, null_known frames w) }

  module _ (project : Project) (call : Calls) (keeps : KeepsCalls L call) (frames : List Frame) (unit : Option Spot) (class : ClassTag) where
    begun_ends : (o : Option ClassTag) (args : List Argument) (first : Spot) (v : Value) (w : World) → L.Fine w → L.Known w v → Values L w (values_of args) → EndsWell L frames w (begun_by project o args call frames unit first v w)
    begun_ends (Some class) args first v w fine known k = keeps.calls frames unit (Function class init) v args w fine known k
    begun_ends None [] first v w fine known k = null_ends frames w fine
    begun_ends None (a ∷ rest) first v w fine known k = record { ends = record { fine = fine; then = L.same (holds_of frames) w } }

    initialised_ends : (b : Bool) (v : Value) (w : World) → L.Fine w → L.Known w v → EndsWell L frames w (initialised project b call frames unit class v w)
    initialised_ends true v w fine known = keeps.calls frames unit (Initialisers class) v [] w fine known tt
    initialised_ends false v w fine known = null_ends frames w fine

    after_start : (args : List Argument) (w : World) (o : Value) → ((held : List Value) → Stays held o) → L.Known w o → AllByRecursion (Held frames w) (values_of args) → (r : Ending) → EndsWell L frames w r
        → MakesWell frames w (and_then r (λ x. and_then (begun_by project (owner project class init) args call frames unit (first_line project class) o x.1) (λ y. Ok (o, y.0, y.1))))
    after_start args w o lasts known k (Ok (v, u)) e =
        let there : L.Known u o = L.keeps (holds_of frames) w u o e.ends.1 (lasts (holds_of frames)) known in
        made_before frames w u _ e.ends.1 (begun_made frames u o lasts there _ (begun_ends (owner project class init) args (first_line project class) o u e.ends.0 there (held_known frames u (values_of args) (held_on frames w u (values_of args) e.ends.1 k))))
    after_start args w o lasts known k (Err stop) e = record { makes = e.ends }

    after_birth : (args : List Argument) (w : World) (spot : Spot) → L.Fine w → AllByRecursion (Held frames w) (values_of args) → (r : Given) → LastsMade r → GivesKnown L.Fine L.Known L.Then w r
        → MakesWell frames w (and_then (born r spot w) (λ new. and_then (initialised project (any_start (project.fields class)) call frames unit class new.0 new.1)
        (λ x. and_then (begun_by project (owner project class init) args call frames unit (first_line project class) new.0 x.1) (λ y. Ok (new.0, y.0, y.1)))))
    after_birth args w spot fine k (Ok (o, g)) lasts e =
        let u : World = with_heap w g in
        let t : L.Then (holds_of frames) w u = e.given.0.then (holds_of frames) in
        made_before frames w u _ t (after_start args u o lasts e.given.1 (held_on frames w u (values_of args) t k) _ (initialised_ends (any_start (project.fields class)) o u e.given.0.fine e.given.1))
    after_birth args w spot fine k (Err kind) lasts e = record { makes = record { fine = fine; then = L.same (holds_of frames) w } }

    pub made_well : (args : List Argument) (w : World) → L.Fine w → AllByRecursion (Held frames w) (values_of args) → MakesWell frames w (make project call frames unit class args w)
    made_well args w fine k = after_birth args w (made_at unit (first_line project class)) fine k (placed project (heap_of frames w) class) (placed_lasts project (heap_of frames w) class) (L.places frames w project class fine)
