-- Evaluations under a law: what is true at each moment, and how the parts of an evaluation follow one another.
use Rattle.std.proofs.Common.{suc, Bool, true, false, List, [], ◌∷◌, Option, Some, None, Result, Ok, Err, arith}
use Rattle.std.specs.List.{AllByRecursion}
use Rattle.variant_values.specs.declared.faults.RunFault.{RunFault}
use Rattle.variant_values.specs.declared.values.Value.{Value}
use Rattle.variant_values.specs.Changes.{Given}
use Rattle.variant_values.specs.Heaps.{Heap}
use Rattle.variant_values.specs.Operators.{Outcome}
use Rattle.script_meaning.specs.State.{Making, Local, World, Frame, Spot, Stop, and_then, cells_held, heap_of, holds_of, joined, with_heap}
use Rattle.script_meaning.specs.Projects.{Argument, Calls, Ending, Routine, values_of}
use Rattle.script_meaning.specs.Meanings.{Here, Moment, Given-to, Site, changed, fails, frames_of, gives, gives_by, gives_then, site_of}
use Rattle.script_laws.specs.Knowing.{Covers, Stays}
use Rattle.script_laws.proofs.Holding.{cells_of, covers_itself, in_both, placed_holds, site_holds, stays_covered, stays_more}
use Rattle.script_laws.specs.Knowing.{IsPlain}
use Rattle.script_laws.proofs.Law.{Law, world_of, Grows, KnownOutcome, GivesKnown}

module _ (L : Law) where
  -- ---- what is true of calls, locals and frames

  -- where something stopped
  pub record Stopped (held : List Value) (w : World) (e : Stop) : Type 0 where
    pub fine : L.Fine (world_of e)
    pub then : L.Then held w (world_of e)

  -- a returned value is known where a frame receives it
  abbrev pub KnownFor : List Frame → World → Value → Type 0
  KnownFor [] w v = Unit {0}
  KnownFor (f ∷ fs) w v = L.Known w v

  abbrev pub IsEnding : List Frame → World → Ending → Type 0
  IsEnding frames w (Ok (v, u)) = L.Fine u × L.Then (holds_of frames) w u × KnownFor frames u v
  IsEnding frames w (Err e) = Stopped (holds_of frames) w e

  pub record EndsWell (frames : List Frame) (w : World) (ending : Ending) : Type 0 where
    pub ends : IsEnding frames w ending

  abbrev pub Values : World → List Value → Type 0
  Values w vs = AllByRecursion (L.Known w) vs

  -- calls keep the law
  pub record KeepsCalls (call : Calls) : Type 0 where
    pub calls : (frames : List Frame) (unit : Option Spot) (r : Routine) (self : Value) (args : List Argument) (w : World)
        → L.Fine w → L.Known w self → Values w (values_of args) → EndsWell frames w (call frames unit r self args w)

  -- a read of a constant keeps the law
  pub record IsMaking (making : Making) : Type 0 where
    pub makes : (frames : List Frame) (w : World) → L.Fine w → GivesKnown L.Fine L.Known L.Then w (making (heap_of frames w))

  abbrev pub IsConstant : Option Making → Type 0
  IsConstant None = Unit {0}
  IsConstant (Some making) = IsMaking making

  abbrev pub IsLocal : World → Local → Type 0
  IsLocal w l = L.Known w l.value × IsConstant l.constant

  abbrev pub Locals : World → List Local → Type 0
  Locals w locals = AllByRecursion (IsLocal w) locals

  -- ---- moments

  -- of a frame as calls see it
  pub record AtSite (s : Site) (w : World) : Type 0 where
    pub calls : KeepsCalls s.call
    pub fine : L.Fine w
    pub self : L.Known w s.self
    pub own : Covers (cells_held s.self) s.placed

  pub record At (h : Here) (w : World) : Type 0 where
    pub site : AtSite (site_of h) w
    pub locals : Locals w h.locals

  abbrev pub held_at : Site → Moment → List Value
  held_at s m = holds_of (frames_of s m)

  -- how a world goes on: calmly, where no code runs and nothing is swept, or in any way
  abbrev pub Goes : Bool → List Value → World → World → Type 0
  Goes true held w u = Grows L.Fine L.Known L.Then w u
  Goes false held w u = L.Then held w u

  pub record Passed (c : Bool) (s : Site) (m n : Moment) : Type 0 where
    pub at : AtSite s n.world
    pub goes : Goes c (held_at s m) m.world n.world
    pub more : Covers m.held n.held

  abbrev pub IsGood : {A : Type 0} → Bool → Site → Moment → (A → Moment → Type 0) → Result (A × Moment) Stop → Type 0
  IsGood c s m K (Ok (a, n)) = Passed c s m n × K a n
  IsGood c s m K (Err e) = Stopped (held_at s m) m.world e

  -- what an evaluation comes to
  pub record Good {A : Type 0} (c : Bool) (s : Site) (m : Moment) (K : A → Moment → Type 0) (r : Result (A × Moment) Stop) : Type 0 where
    pub good : IsGood c s m K r

  -- a value that was computed
  pub record Ready (s : Site) (v : Value) (m : Moment) : Type 0 where
    pub known : L.Known m.world v
    pub held : Stays (held_at s m) v

  abbrev pub Keeps : {A : Type 0} → Bool → (Site → A → Moment → Type 0) → Given-to A → Type 0
  Keeps c K f = (h : Here) (m : Moment) → At h m.world → Good c (site_of h) m (K (site_of h)) (f h m)

  -- ---- how worlds go on

  pub goes_then : (c : Bool) (held : List Value) (w u : World) → Goes c held w u → L.Then held w u
  goes_then true held w u g = g.then held
  goes_then false held w u g = g

  pub goes_same : (c : Bool) (held : List Value) (w : World) → L.Fine w → Goes c held w w
  goes_same true held w fine = record { fine = fine; then = λ all. L.same all w; stays = λ v k. k }
  goes_same false held w fine = L.same held w

  goes_after : (c : Bool) (few many : List Value) (u v w : World) → Covers few many → Goes c few u v → Goes c many v w → Goes c few u w
  goes_after true few many u v w cover f g = record { fine = g.fine; then = λ all. L.after all u v w (f.then all) (g.then all); stays = λ x k. g.stays x (f.stays x k) }
  goes_after false few many u v w cover f g = L.after few u v w f (L.fewer few many v w cover g)

  goes_grown : (c : Bool) (held : List Value) (w u : World) → Grows L.Fine L.Known L.Then w u → Goes c held w u
  goes_grown true held w u g = g
  goes_grown false held w u g = g.then held

  -- ---- rules

  pub frames_more : (s : Site) (m n : Moment) → Covers m.held n.held → Covers (held_at s m) (held_at s n)
  frames_more s m n c = λ x none.
      let later = site_holds (suc x) s n in
      let more = c x (omega (arith, later, none)) in
      omega (arith, later, none, more, site_holds (suc x) s m)

  pub follow : {c : Bool} {s : Site} {m n o : Moment} → Passed c s m n → Passed c s n o → Passed c s m o
  follow {c} {s} {m} {n} {o} p q = record {
    at = q.at;
    goes = goes_after c (held_at s m) (held_at s n) m.world n.world o.world (frames_more s m n p.more) p.goes q.goes;
    more = λ x none. p.more x (q.more x none);
  }

  pub carry : {c : Bool} {s : Site} {m n : Moment} {v : Value} → Passed c s m n → Ready s v m → Ready s v n
  carry {c} {s} {m} {n} {v} p k = record {
    known = L.keeps (held_at s m) m.world n.world v (goes_then c (held_at s m) m.world n.world p.goes) k.held k.known;
    held = stays_more (held_at s m) (held_at s n) v (frames_more s m n p.more) k.held;
  }

  pub carry_all : {c : Bool} {s : Site} {m n : Moment} (vs : List Value) → Passed c s m n → AllByRecursion (λ v. Ready s v m) vs → AllByRecursion (λ v. Ready s v n) vs
  carry_all [] p k = tt
  carry_all (v ∷ vs) p k = (carry p k.0, carry_all vs p k.1)

  pub all_known : (s : Site) (m : Moment) (vs : List Value) → AllByRecursion (λ v. Ready s v m) vs → Values m.world vs
  all_known s m [] k = tt
  all_known s m (v ∷ vs) k = (k.0.known, all_known s m vs k.1)

  stopped_before : {c : Bool} {s : Site} {m n : Moment} {e : Stop} → Passed c s m n → Stopped (held_at s n) n.world e → Stopped (held_at s m) m.world e
  stopped_before {c} {s} {m} {n} {e} p z = record {
    fine = z.fine;
    then = L.after (held_at s m) m.world n.world (world_of e) (goes_then c (held_at s m) m.world n.world p.goes) (L.fewer (held_at s m) (held_at s n) n.world (world_of e) (frames_more s m n p.more) z.then);
  }

  pub from : {A : Type 0} {c : Bool} {s : Site} {m n : Moment} {K : A → Moment → Type 0} (r : Result (A × Moment) Stop) → Passed c s m n → Good c s n K r → Good c s m K r
  from (Ok (a, o)) p g = record { good = (follow p g.good.0, g.good.1) }
  from (Err e) p g = record { good = stopped_before p g.good }

  pub bind : {A B : Type 0} {c : Bool} {s : Site} {m : Moment} {K : A → Moment → Type 0} {J : B → Moment → Type 0} (r : Result (A × Moment) Stop) (go : A × Moment → Result (B × Moment) Stop)
      → Good c s m K r → ((a : A) (n : Moment) → Passed c s m n → K a n → Good c s n J (go (a, n))) → Good c s m J (and_then r go)
  bind (Ok (a, n)) go g f = from (go (a, n)) g.good.0 (f a n g.good.0 g.good.1)
  bind (Err e) go g f = record { good = g.good }

  -- calm evaluations are evaluations
  pub calm : {A : Type 0} {c : Bool} {s : Site} {m : Moment} {K : A → Moment → Type 0} (r : Result (A × Moment) Stop) → Good true s m K r → Good c s m K r
  calm {c = c} {s = s} {m = m} (Ok (a, n)) g = record { good = (record { at = g.good.0.at; goes = goes_grown c (held_at s m) m.world n.world g.good.0.goes; more = g.good.0.more }, g.good.1) }
  calm (Err e) g = record { good = g.good }

  pub stays_here : {c : Bool} {s : Site} {m : Moment} → AtSite s m.world → Passed c s m m
  stays_here {c} {s} {m} at = record { at = at; goes = goes_same c (held_at s m) m.world at.fine; more = covers_itself m.held }

  pub done : {A : Type 0} {c : Bool} {s : Site} {m : Moment} {K : A → Moment → Type 0} {a : A} → AtSite s m.world → K a m → Good c s m K (Ok (a, m))
  done at k = record { good = (stays_here at, k) }

  pub failed : {A : Type 0} {c : Bool} {s : Site} {m : Moment} {K : A → Moment → Type 0} (kind : RunFault) → AtSite s m.world → Good c s m K (fails kind s m)
  failed {s = s} {m = m} kind at = record { good = record { fine = at.fine; then = L.same (held_at s m) m.world } }

  -- what a value is, said of its other kinds
  pub other : {A : Type 0} {c : Bool} {s : Site} {m : Moment} {K J : A → Moment → Type 0} (r : Result (A × Moment) Stop) → ((a : A) (n : Moment) → K a n → J a n) → Good c s m K r → Good c s m J r
  other (Ok (a, n)) f g = record { good = (g.good.0, f a n g.good.1) }
  other (Err e) f g = record { good = g.good }

  -- ---- locals

  pub locals_on : (held : List Value) (w u : World) (locals : List Local) → L.Then held w u → Covers (cells_of locals) held → Locals w locals → Locals u locals
  locals_on held w u [] t c k = tt
  locals_on held w u (l ∷ ls) t c k = (
    (L.keeps held w u l.value t (stays_covered held l.value (λ x none. omega (arith, c x none, in_both (suc x) (cells_held l.value) (cells_of ls)))) k.0.0, k.0.1),
    locals_on held w u ls t (λ x none. omega (arith, c x none, in_both (suc x) (cells_held l.value) (cells_of ls))) k.1,
  )

  pub on : {c : Bool} {h : Here} {m n : Moment} → At h m.world → Passed c (site_of h) m n → At h n.world
  on {c} {h} {m} {n} at p = record {
    site = p.at;
    locals = locals_on (held_at (site_of h) m) m.world n.world h.locals (goes_then c (held_at (site_of h) m) m.world n.world p.goes) (λ x none. omega (arith, site_holds (suc x) (site_of h) m, placed_holds (suc x) h.around.self h.locals, none)) at.locals;
  }

  -- ---- worlds that go on

  pub moved : {s : Site} {m : Moment} (u : World) → AtSite s m.world → L.Fine u → L.Then (held_at s m) m.world u → Passed false s m (record m { world = u })
  moved {s} {m} u at fine then = record {
    at = record {
      calls = at.calls;
      fine = fine;
      self = L.keeps (held_at s m) m.world u s.self then (stays_covered (held_at s m) s.self (λ x none. at.own x (omega (arith, site_holds (suc x) s m, none)))) at.self;
      own = at.own;
    };
    goes = then;
    more = covers_itself m.held;
  }

  pub grown : {c : Bool} {s : Site} {m : Moment} (g : Heap) → AtSite s m.world → Grows L.Fine L.Known L.Then m.world (with_heap m.world g) → Passed c s m (changed m g)
  grown {c} {s} {m} g at grows = record {
    at = record { calls = at.calls; fine = grows.fine; self = grows.stays s.self at.self; own = at.own };
    goes = goes_grown c (held_at s m) m.world (with_heap m.world g) grows;
    more = covers_itself m.held;
  }

  -- ---- values that are given

  -- a known value is held from now on
  pub given : {c : Bool} {s : Site} {m : Moment} {v : Value} → AtSite s m.world → L.Known m.world v → Good c s m (Ready s) (gives v m)
  given {c} {s} {m} {v} at known = record {
    good = (
      record { at = at; goes = goes_same c (held_at s m) m.world at.fine; more = λ x none. omega (arith, in_both (suc x) m.held (cells_held v), none) },
      record { known = known; held = stays_covered (held_at s (record m { held = joined v m.held })) v (λ x none. omega (arith, site_holds (suc x) s (record m { held = joined v m.held }), in_both (suc x) m.held (cells_held v), none)) },
    );
  }

  pub plain : {c : Bool} {s : Site} {m : Moment} {v : Value} → AtSite s m.world → IsPlain v → Good c s m (Ready s) (gives v m)
  plain {m = m} {v = v} at p = given at (L.plain m.world v p)

  pub given_by : {c : Bool} {s : Site} {m : Moment} (o : Outcome) → AtSite s m.world → KnownOutcome L.Fine L.Known L.Then m.world o → Good c s m (Ready s) (gives_by o s m)
  given_by (Ok v) at known = given at known
  given_by (Err kind) at known = failed kind at

  pub given_then : {c : Bool} {s : Site} {m : Moment} (r : Given) → AtSite s m.world → GivesKnown L.Fine L.Known L.Then m.world r → Good c s m (Ready s) (gives_then r s m)
  given_then {c} {s} {m} (Ok (v, g)) at k =
      let p : Passed c s m (changed m g) = grown g at k.given.0 in
      from (gives v (changed m g)) p (given p.at k.given.1)
  given_then (Err kind) at k = failed kind at

  -- `self` is held by its frame
  pub self_ready : {s : Site} {m : Moment} → AtSite s m.world → Ready s s.self m
  self_ready {s} {m} at = record { known = at.self; held = stays_covered (held_at s m) s.self (λ x none. at.own x (omega (arith, site_holds (suc x) s m, none))) }
