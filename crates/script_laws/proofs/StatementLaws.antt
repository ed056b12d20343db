-- Statements keep a law.
use Rattle.std.proofs.Common.{◌≡◌, ℕ, zero, suc, Bool, true, false, List, [], ◌∷◌, ◌++◌, length, take, refl, Option, Some, None, Result, Ok, Err, arith}
use Rattle.std.specs.List.{AllByRecursion}
use Rattle.variant_values.specs.declared.faults.RunFault.{RunFault}
use Rattle.variant_values.specs.declared.values.Value.{Value}
use Rattle.variant_values.specs.Places.{in_values}
use Rattle.script_meaning.specs.State.{Local, World, Frame, cells_held, frame_with, holds_of, placed_in, received, Spot, Stop, Failed, and_then, step, step_from, sweep}
use Rattle.script_meaning.specs.Projects.{Project}
use Rattle.script_meaning.specs.Meanings.{Around, Here, Moment, site_of}
use Rattle.script_meaning.specs.Statements.{Now, Flow, Next, Broke, Continued, Returned, Flowing, Runs, settled, cut, close, and_go, sequence, block_with, block, choose, otherwise, next_turn, unit_at}
use Rattle.script_laws.specs.Knowing.{Covers}
use Rattle.script_laws.proofs.Holding.{covers_itself, frames_hold, in_both, placed_holds, received_covers, received_holds, site_holds, stays_covered}
use Rattle.script_laws.proofs.Law.{Law, world_of}
use Rattle.script_laws.proofs.Moments.{At, Good, KeepsCalls, KnownFor, Locals, Passed, Stopped, held_at, locals_on}
use Rattle.script_laws.proofs.PatternLaws.{locals_both}

module _ (L : Law) where
  -- ---- between two units

  -- what a frame holds in any case
  abbrev pub base : Around → List Value
  base a = holds_of a.outer ++ cells_held a.self

  -- a frame that began at a world, with its locals at a later one
  pub record InNow (a : Around) (first : World) (locals : List Local) (w : World) : Type 0 where
    pub calls : KeepsCalls L a.call
    pub fine : L.Fine w
    pub self : L.Known w a.self
    pub known : Locals L w locals
    pub since : L.Then (base a) first w

  abbrev pub IsComing : {A : Type 0} → Around → World → (A → Type 0) → Result A Stop → Type 0
  IsComing a first K (Ok x) = K x
  IsComing a first K (Err e) = Stopped L (base a) first e

  pub record Comes {A : Type 0} (a : Around) (first : World) (K : A → Type 0) (r : Result A Stop) : Type 0 where
    pub comes : IsComing a first K r

  pub on_then : {A B : Type 0} {a : Around} {first : World} {K : A → Type 0} {J : B → Type 0} (r : Result A Stop) (go : A → Result B Stop) → Comes a first K r → ((x : A) → K x → Comes a first J (go x)) → Comes a first J (and_then r go)
  on_then (Ok x) go g f = f x g.comes
  on_then (Err e) go g f = record { comes = g.comes }

  pub comes_to : {A : Type 0} {a : Around} {first : World} {K : A → Type 0} {x : A} → K x → Comes a first K (Ok x)
  comes_to k = record { comes = k }

  pub stops : {A : Type 0} {a : Around} {first : World} {K : A → Type 0} {locals : List Local} {w : World} (kind : RunFault) (spot : Spot) → InNow a first locals w → Comes a first K (Err (Failed kind spot w))
  stops kind spot n = record { comes = record { fine = n.fine; then = n.since } }

  -- other locals
  pub with_those : {a : Around} {first : World} {locals : List Local} {w : World} (more : List Local) → InNow a first locals w → Locals L w more → InNow a first more w
  with_those more n k = record { calls = n.calls; fine = n.fine; self = n.self; known = k; since = n.since }

  -- the frame goes on while it holds these values too
  pub goes_on : {a : Around} {first : World} {locals : List Local} {w : World} (outer : List Frame) (held : List Value) (u : World) → Covers (holds_of a.outer) (holds_of outer) → InNow a first locals w → L.Fine u
      → L.Then (holds_of (outer ++ frame_with a.self locals held ∷ [])) w u → InNow a first locals u
  goes_on {a} {first} {locals} {w} outer held u cover n fine t =
      let all = holds_of (outer ++ frame_with a.self locals held ∷ []) in
      let placed = placed_in a.self locals in
      record {
        calls = n.calls;
        fine = fine;
        self = L.keeps all w u a.self t (stays_covered all a.self (λ x none. omega (arith, frames_hold (suc x) outer (frame_with a.self locals held), in_both (suc x) placed held, placed_holds (suc x) a.self locals, none))) n.self;
        known = locals_on L all w u locals t (λ x none. omega (arith, frames_hold (suc x) outer (frame_with a.self locals held), in_both (suc x) placed held, placed_holds (suc x) a.self locals, none)) n.known;
        since = L.after (base a) first w u n.since (L.fewer (base a) all w u (λ x none.
            let whole = frames_hold (suc x) outer (frame_with a.self locals held) in
            let parts = in_both (suc x) placed held in
            let inner = placed_holds (suc x) a.self locals in
            let outside : in_values (suc x) (holds_of a.outer) ≡ 0 = cover x (omega (arith, whole, parts, inner, none)) in
            omega (arith, whole, parts, inner, none, outside, in_both (suc x) (holds_of a.outer) (cells_held a.self))) t);
      }

  -- the end of a unit or of a block
  pub settles : {a : Around} {first : World} {locals : List Local} {w : World} (outer : List Frame) → Covers (holds_of a.outer) (holds_of outer) → InNow a first locals w → InNow a first locals (settled outer a locals w).world
  settles {a} {first} {locals} {w} outer cover n =
      let frames = outer ++ frame_with a.self locals [] ∷ [] in
      let k : L.Fine (sweep frames w) × L.Then (holds_of frames) w (sweep frames w) = L.sweeps frames w n.fine in
      goes_on outer [] (sweep frames w) cover n k.0 k.1

  pub unit_ends : {a : Around} {first : World} {locals : List Local} {w : World} → InNow a first locals w → InNow a first locals (settled a.outer a locals w).world
  unit_ends {a} n = settles a.outer (covers_itself (holds_of a.outer)) n

  -- a value that is returned stays known, since the calling frame holds it
  returned_on : (outer : List Frame) (f : Frame) (w u : World) (v : Value) → KnownFor L outer w v → L.Then (holds_of (received v outer ++ f ∷ [])) w u → KnownFor L outer u v
  returned_on [] f w u v k t = tt
  returned_on (g ∷ gs) f w u v k t = L.keeps (holds_of (received v (g ∷ gs) ++ f ∷ [])) w u v t (stays_covered (holds_of (received v (g ∷ gs) ++ f ∷ [])) v (λ x none. omega (arith, frames_hold (suc x) (received v (g ∷ gs)) f, received_holds v (suc x) g gs, none))) k

  pub returned_settles : {a : Around} {first : World} {locals : List Local} {w : World} (v : Value) → InNow a first locals w → KnownFor L a.outer w v → KnownFor L a.outer (settled (received v a.outer) a locals w).world v
  returned_settles {a} {first} {locals} {w} v n k =
      let frames = received v a.outer ++ frame_with a.self locals [] ∷ [] in
      returned_on a.outer (frame_with a.self locals []) w (sweep frames w) v k (L.sweeps frames w n.fine).1

  -- ---- where statements lead

  abbrev pub FlowReady : Around → World → Flow → Type 0
  FlowReady a first (Next s) = InNow a first s.locals s.world
  FlowReady a first (Broke s) = InNow a first s.locals s.world
  FlowReady a first (Continued s) = InNow a first s.locals s.world
  FlowReady a first (Returned v s) = InNow a first s.locals s.world × KnownFor L a.outer s.world v

  -- a statement keeps the law
  pub record IsRun (t : Runs) : Type 0 where
    pub runs : (a : Around) (first : World) (s : Now) → InNow a first s.locals s.world → Comes a first (FlowReady a first) (t a s)

  abbrev pub AllRun : List Runs → Type 0
  AllRun ts = AllByRecursion IsRun ts

  pub take_locals : (w : World) (n : ℕ) (ls : List Local) → Locals L w ls → Locals L w (take n ls)
  take_locals w zero ls k = tt
  take_locals w (suc n) [] k = tt
  take_locals w (suc n) (l ∷ ls) k = (k.0, take_locals w n ls k.1)

  pub cut_kept : {a : Around} {first : World} (outer : List Frame) (n : ℕ) (s : Now) → Covers (holds_of a.outer) (holds_of outer) → InNow a first s.locals s.world → InNow a first (take n s.locals) (cut outer a n s).world
  cut_kept outer n s cover k = settles outer cover (with_those (take n s.locals) k (take_locals s.world n s.locals k.known))

  pub closes : (a : Around) (first : World) (n : ℕ) (flow : Flow) → FlowReady a first flow → FlowReady a first (close a n flow)
  closes a first n (Next s) k = cut_kept a.outer n s (covers_itself (holds_of a.outer)) k
  closes a first n (Broke s) k = cut_kept a.outer n s (covers_itself (holds_of a.outer)) k
  closes a first n (Continued s) k = cut_kept a.outer n s (covers_itself (holds_of a.outer)) k
  closes a first n (Returned v s) k = (cut_kept (received v a.outer) n s (received_covers v a.outer) k.0, returned_settles v (with_those (take n s.locals) k.0 (take_locals s.world n s.locals k.0.known)) k.1)

  pub go_kept : {a : Around} {first : World} (go : Now → Flowing) (flow : Flow) → FlowReady a first flow → ((s : Now) → InNow a first s.locals s.world → Comes a first (FlowReady a first) (go s)) → Comes a first (FlowReady a first) (and_go go flow)
  go_kept go (Next s) k f = f s k
  go_kept go (Broke s) k f = comes_to k
  go_kept go (Continued s) k f = comes_to k
  go_kept go (Returned v s) k f = comes_to k

  pub sequence_kept : (ts : List Runs) (a : Around) (first : World) (s : Now) → AllRun ts → InNow a first s.locals s.world → Comes a first (FlowReady a first) (sequence ts a s)
  sequence_kept [] a first s k n = comes_to n
  sequence_kept (t ∷ ts) a first s k n = on_then (t a s) _ (k.0.runs a first s n) (λ flow f. go_kept (sequence ts a) flow f (λ now o. sequence_kept ts a first now k.1 o))

  pub block_with_kept : (new : List Local) (ts : List Runs) (a : Around) (first : World) (s : Now) → AllRun ts → InNow a first s.locals s.world → Locals L s.world new → Comes a first (FlowReady a first) (block_with new ts a s)
  block_with_kept new ts a first s k n r =
      on_then (sequence ts a (record s { locals = s.locals ++ new })) _ (sequence_kept ts a first (record s { locals = s.locals ++ new }) k (with_those (s.locals ++ new) n (locals_both L s.world s.locals new n.known r)))
      (λ flow f. comes_to (closes a first (length s.locals) flow f))

  pub block_kept : (ts : List Runs) (a : Around) (first : World) (s : Now) → AllRun ts → InNow a first s.locals s.world → Comes a first (FlowReady a first) (block ts a s)
  block_kept ts a first s k n = block_with_kept [] ts a first s k n tt

  pub choose_kept : {a : Around} {first : World} (b : Bool) (x y : Now → Flowing) (s : Now) → InNow a first s.locals s.world
      → ((now : Now) → InNow a first now.locals now.world → Comes a first (FlowReady a first) (x now)) → ((now : Now) → InNow a first now.locals now.world → Comes a first (FlowReady a first) (y now)) → Comes a first (FlowReady a first) (choose b x y s)
  choose_kept true x y s n f g = f s n
  choose_kept false x y s n f g = g s n

  abbrev pub OtherRun : Option (List Runs) → Type 0
  OtherRun None = Unit {0}
  OtherRun (Some body) = AllRun body

  pub otherwise_kept : (o : Option (List Runs)) (a : Around) (first : World) (s : Now) → OtherRun o → InNow a first s.locals s.world → Comes a first (FlowReady a first) (otherwise o a s)
  otherwise_kept None a first s k n = comes_to n
  otherwise_kept (Some body) a first s k n = block_kept body a first s k n

  pub turn_kept : {a : Around} {first : World} (more : Now → Flowing) (flow : Flow) → FlowReady a first flow → ((s : Now) → InNow a first s.locals s.world → Comes a first (FlowReady a first) (more s)) → Comes a first (FlowReady a first) (next_turn more flow)
  turn_kept more (Next s) k f = f s k
  turn_kept more (Continued s) k f = f s k
  turn_kept more (Broke s) k f = comes_to k
  turn_kept more (Returned v s) k f = comes_to k

  -- ---- steps and units

  pub step_by : {a : Around} {first : World} {locals : List Local} (n : ℕ) (spot : Spot) (w : World) → w.left ≡ n → InNow a first locals w → Comes a first (λ u. InNow a first locals u) (step_from n spot w)
  step_by zero spot w e n = record { comes = record { fine = n.fine; then = n.since } }
  step_by {a} {first} {locals} (suc left) spot w e n =
      let k : L.Fine (record w { left = left }) × L.Then (holds_of (a.outer ++ frame_with a.self locals [] ∷ [])) w (record w { left = left }) = L.stepped _ w left e n.fine in
      comes_to (goes_on a.outer [] (record w { left = left }) (covers_itself (holds_of a.outer)) n k.0 k.1)

  pub steps : {a : Around} {first : World} {locals : List Local} (spot : Spot) (w : World) → InNow a first locals w → Comes a first (λ u. InNow a first locals u) (step spot w)
  steps spot w n = step_by w.left spot w refl n

  module _ (project : Project) where
    -- a unit that begins
    pub unit_at_here : {a : Around} {first : World} (line : ℕ) (s : Now) (w : World) → InNow a first s.locals w → At L (unit_at project a line s) w
    unit_at_here {a} line s w n = record { site = record { calls = n.calls; fine = n.fine; self = n.self; own = λ x none. omega (arith, placed_holds (suc x) a.self s.locals, none) }; locals = n.known }

    -- what is evaluated in a unit
    pub record Evaluated {A : Type 0} (first : World) (h : Here) (m : Moment) (K : A → Moment → Type 0) (x : A × Moment) : Type 0 where
      pub now : InNow h.around first h.locals x.1.world
      pub passed : Passed L false (site_of h) m x.1
      pub is : K x.0 x.1

    pub evaluated : {A : Type 0} {first : World} (h : Here) (m : Moment) (K : A → Moment → Type 0) (r : Result (A × Moment) Stop) → InNow h.around first h.locals m.world → Good L false (site_of h) m K r → Comes h.around first (Evaluated first h m K) r
    evaluated h m K (Ok (x, o)) n g = comes_to (record { now = goes_on h.around.outer m.held o.world (covers_itself (holds_of h.around.outer)) n g.good.0.at.fine g.good.0.goes; passed = g.good.0; is = g.good.1 })
    evaluated {first = first} h m K (Err stop) n g = record {
      comes = record {
        fine = g.good.fine;
        then = L.after (base h.around) first m.world (world_of stop) n.since (L.fewer (base h.around) (held_at L (site_of h) m) m.world (world_of stop) (λ x none.
            omega (arith, site_holds (suc x) (site_of h) m, placed_holds (suc x) h.around.self h.locals, none, in_both (suc x) (holds_of h.around.outer) (cells_held h.around.self))) g.good.then);
      };
    }
