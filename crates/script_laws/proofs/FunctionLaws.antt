-- Calls of functions and initialisers keep a law, however many frames there may be.
use Rattle.std.proofs.Common.{◌≡◌, ℕ, zero, suc, Bool, true, false, cond, nat_eq, List, [], ◌∷◌, ◌++◌, map, refl, Option, Some, None, Result, Ok, Err, arith}
use Rattle.std.specs.Prelude.{option_map}
use Rattle.std.specs.List.{AllByRecursion}
use Rattle.folder_meaning.specs.declared.script_type.ScriptType.TheVariants.{Variant}
use Rattle.gd_syntax.specs.declared.tree.member.Func.{Func}
use Rattle.gd_syntax.specs.declared.tree.member.Param.{Param}
use Rattle.gd_syntax.specs.declared.tree.statement.Stmt.{Stmt}
use Rattle.variant_values.specs.declared.classes.ClassTag.{ClassTag}
use Rattle.variant_values.specs.declared.faults.RunFault.{RunFault}
use Rattle.variant_values.specs.declared.faults.RunFault.TheVariants.{CallTooDeep, NoMethod}
use Rattle.variant_values.specs.declared.values.Value.{Value}
use Rattle.variant_values.specs.declared.values.Value.TheVariants.{Null}
use Rattle.variant_values.specs.Places.{place_of}
use Rattle.script_meaning.specs.State.{Local, opens, World, Frame, Spot, Stop, Failed, and_then, cells_held, holds_of, step, step_from}
use Rattle.script_meaning.specs.Projects.{Project, Field, Starts, Never, WithNew, WhenReady, Argument, Calls, Ending, Entry, Function, Initialisers, Routine, admitted, admitted_by, calls, entered, made_at, values_of}
use Rattle.script_meaning.specs.Meanings.{Around, Here, Moment, Means, site_of}
use Rattle.script_meaning.specs.Statements.{Now, Flow, Next, Broke, Continued, Returned, close, initial, put_field, received_value, sequence, spot_at, start, stmt, unit_at}
use Rattle.script_meaning.specs.Functions.{Bodies, FunctionMeans, ParamMeans, default, entry_of, fields_body, function_body, function_entry, function_means, initialise, initialise_all, opened, over, param_means, script_calls, self_in, start_with_new}
use Rattle.script_laws.specs.Knowing.{Covers}
use Rattle.script_laws.proofs.Holding.{stays_covered, covers_left}
use Rattle.script_laws.proofs.Law.{Law, world_of}
use Rattle.script_laws.proofs.Moments.{EndsWell, KeepsCalls, KnownFor, Ready, Values}
use Rattle.script_laws.proofs.MemberLaws.{IsLawful}
use Rattle.script_laws.proofs.StatementLaws.{AllRun, Comes, FlowReady, InNow, base, closes, comes_to, evaluated, on_then, sequence_kept, steps, unit_at_here, unit_ends, with_those}
use Rattle.script_laws.proofs.StatementForms.{OptionalKept, field_kept, known_any, opens_known, received_kept}
use Rattle.script_laws.proofs.BlockForms.{optional_expr, stmt_kept}

module _ (L : Law) where
  pub record FunctionKept (f : FunctionMeans) : Type 0 where
    pub params : AllByRecursion (λ p. OptionalKept L p.default) f.params
    pub body : AllRun L f.body

  abbrev pub IsFunction : Option FunctionMeans → Type 0
  IsFunction None = Unit {0}
  IsFunction (Some f) = FunctionKept f

  -- what the bodies of a project do keeps the law
  pub record BodiesKept (bodies : Bodies) : Type 0 where
    pub functions : (class : ClassTag) (name : List ℕ) → IsFunction (bodies.function class name)
    pub starts : (class : ClassTag) (name : List ℕ) → OptionalKept L (bodies.start class name)

  -- what a frame's work comes to
  abbrev IsDone-at : Around → World → Value × World → Type 0
  IsDone-at a first x = L.Fine x.1 × L.Then (base L a) first x.1 × KnownFor L a.outer x.1 x.0

  ends : {a : Around} {w : World} (r : Ending) → Comes L a w (IsDone-at a w) r → EndsWell L a.outer w r
  ends {a} {w} (Ok (v, u)) k = record { ends = (k.comes.0, L.fewer (holds_of a.outer) (base L a) w u (covers_left (holds_of a.outer) (cells_held a.self)) k.comes.1, k.comes.2) }
  ends {a} {w} (Err e) k = record { ends = record { fine = k.comes.fine; then = L.fewer (holds_of a.outer) (base L a) w (world_of e) (covers_left (holds_of a.outer) (cells_held a.self)) k.comes.then } }

  begins : (a : Around) (w : World) → KeepsCalls L a.call → L.Fine w → L.Known w a.self → InNow L a w [] w
  begins a w calls fine self = record { calls = calls; fine = fine; self = self; known = tt; since = L.same (base L a) w }

  null_for : (outer : List Frame) (w : World) → KnownFor L outer w Null
  null_for outer w = known_any L outer w Null (L.plain w Null tt)

  over_kept : (a : Around) (first : World) (flow : Flow) → FlowReady L a first flow → Comes L a first (IsDone-at a first) (over flow)
  over_kept a first (Next s) k = comes_to L (k.fine, k.since, null_for a.outer s.world)
  over_kept a first (Broke s) k = comes_to L (k.fine, k.since, null_for a.outer s.world)
  over_kept a first (Continued s) k = comes_to L (k.fine, k.since, null_for a.outer s.world)
  over_kept a first (Returned v s) k = comes_to L (k.0.fine, k.0.since, k.1)

  self_known : (b : Bool) (w : World) (v : Value) → L.Known w v → L.Known w (self_in b v)
  self_known true w v k = L.plain w Null tt
  self_known false w v k = k

  start_kept : (starts : Starts) (o : Option Means) → OptionalKept L o → OptionalKept L (start_with_new starts o)
  start_kept Never o k = tt
  start_kept WithNew o k = k
  start_kept WhenReady o k = tt

  module _ (project : Project) (lawful : IsLawful L project) where
    abbrev Now-at : Around → World → Now → Type 0
    Now-at a first s = InNow L a first s.locals s.world

    -- ---- functions

    default_kept : (p : ParamMeans) (o : Option Means) (a : Around) (first : World) (s : Now) → OptionalKept L o → Now-at a first s → Comes L a first (Now-at a first) (default project p o a s)
    default_kept p None a first s k n = comes_to L (with_those L (s.locals ++ opens p.name p.type Null) n (opens_known L s.world s.locals p.name p.type Null (L.plain s.world Null tt) n.known))
    default_kept p (Some e) a first s k n =
        let h : Here = unit_at project a e.place.line s in
        on_then L (received_value project p.type e h (start s)) _ (evaluated L project h (start s) (Ready L (site_of h)) (received_value project p.type e h (start s)) n (received_kept L project lawful p.type e k h (start s) (unit_at_here L project e.place.line s s.world n)))
        (λ x z. comes_to L (unit_ends L (with_those L (s.locals ++ opens p.name p.type x.0) z.now (opens_known L x.1.world s.locals p.name p.type x.0 z.is.known z.now.known))))

    opened_kept : (ps : List ParamMeans) (vs : List Value) (a : Around) (first : World) (s : Now) → AllByRecursion (λ p. OptionalKept L p.default) ps → Values L s.world vs → Now-at a first s → Comes L a first (Now-at a first) (opened project ps vs a s)
    opened_kept [] vs a first s k r n = comes_to L n
    opened_kept (p ∷ ps) (v ∷ vs) a first s k r n =
        let locals : List Local = s.locals ++ opens p.name p.type v in
        opened_kept ps vs a first (record s { locals = locals }) k.1 r.1 (with_those L locals n (opens_known L s.world s.locals p.name p.type v r.0 n.known))
    opened_kept (p ∷ ps) [] a first s k r n = on_then L (default project p p.default a s) _ (default_kept p p.default a first s k.0 n) (λ t z. opened_kept ps [] a first t k.1 tt z)

    function_ends : (class : ClassTag) (f : FunctionMeans) (call : Calls) (outer : List Frame) (self : Value) (vs : List Value) (w : World) → FunctionKept f → KeepsCalls L call → L.Fine w → L.Known w self → Values L w vs → EndsWell L outer w (function_body project class f call outer self vs w)
    function_ends class f call outer self vs w k keeps fine known r =
        let a : Around = record { call = call; outer = outer; self = self_in f.is_static self; class = class; function = f.name; result = f.result } in
        let s : Now = record { locals = []; world = w } in
        ends {a = a} _ (on_then L (opened project f.params vs a s) _ (opened_kept f.params vs a w s k.params r (begins a w keeps fine (self_known f.is_static w self known)))
        (λ t n. on_then L (sequence f.body a t) _ (sequence_kept L f.body a w t k.body n) (λ flow z. over_kept a w (close a 0 flow) (closes L a w 0 flow z))))

    -- ---- initialisers

    initialise_kept : (a : Around) (first : World) (place : ℕ) (f : Field) (o : Option Means) (w : World) → OptionalKept L o → InNow L a first [] w → Comes L a first (λ u. InNow L a first [] u) (initialise project a place f o w)
    initialise_kept a first place f None w k n = comes_to L n
    initialise_kept a first place f (Some e) w k n = on_then L (step (spot_at project a f.line) w) _ (steps L (spot_at project a f.line) w n) (λ u z.
        let s : Now = record { locals = []; world = w } in
        let h : Here = unit_at project a f.line s in
        let m : Moment = record { held = []; world = u } in
        on_then L (e.value h m) _ (evaluated L project h m (Ready L (site_of h)) (e.value h m) z (k.value h m (unit_at_here L project f.line s u z))) (λ x y.
        on_then L (put_field project a.self (Some (place, f.type)) (project.fits_at a.class e.place) x.0 (site_of h) x.1) _ (field_kept L project lawful h x.1 y.now a.self (Some (place, f.type)) (project.fits_at a.class e.place) x.0 y.is.known)
        (λ t q. comes_to L (unit_ends L q))))

    -- the frame of the initialisers, in the code of one class after the other
    abbrev frame_in : Calls → List Frame → Value → ClassTag → Around
    frame_in call outer self class = record { call = call; outer = outer; self = self; class = class; function = []; result = Variant }

    in_class : {call : Calls} {outer : List Frame} {self : Value} {first w : World} {locals : List Local} (old new : ClassTag) → InNow L (frame_in call outer self old) first locals w → InNow L (frame_in call outer self new) first locals w
    in_class old new n = record { calls = n.calls; fine = n.fine; self = n.self; known = n.known; since = n.since }

    all_from : {call : Calls} {outer : List Frame} {self : Value} {first : World} {A : Type 0} {K : A → Type 0} (old new : ClassTag) (r : Result A Stop) → Comes L (frame_in call outer self old) first K r → Comes L (frame_in call outer self new) first K r
    all_from old new (Ok x) k = record { comes = k.comes }
    all_from old new (Err e) k = record { comes = record { fine = k.comes.fine; then = k.comes.then } }

    module _ (bodies : Bodies) (kept : BodiesKept bodies) (call : Calls) (outer : List Frame) (self : Value) (first : World) (main : ClassTag) where
      abbrev Later : World → Type 0
      Later u = InNow L (frame_in call outer self main) first [] u

      all_kept : (place : ℕ) (fields : List Field) (w : World) → Later w → Comes L (frame_in call outer self main) first Later (initialise_all project bodies call outer self place fields w)
      all_kept place [] w n = comes_to L n
      all_kept place (f ∷ fs) w n =
          let o : Option Means = start_with_new f.starts (bodies.start f.class f.name) in
          let a : Around = frame_in call outer self f.class in
          on_then L (initialise project a place f o w) _ (all_from f.class main _ (initialise_kept a first place f o w (start_kept f.starts (bodies.start f.class f.name) (kept.starts f.class f.name)) (in_class main f.class n))) (λ u z. all_kept (suc place) fs u (in_class f.class main z))

    fields_ends : (bodies : Bodies) (class : ClassTag) (call : Calls) (outer : List Frame) (self : Value) (vs : List Value) (w : World) → BodiesKept bodies → KeepsCalls L call → L.Fine w → L.Known w self → EndsWell L outer w (fields_body project bodies class call outer self vs w)
    fields_ends bodies class call outer self vs w kept keeps fine known =
        let a : Around = frame_in call outer self class in
        ends {a = a} _ (on_then L (initialise_all project bodies call outer self 0 (project.fields class) w) _ (all_kept bodies kept call outer self w class 0 (project.fields class) w (begins a w keeps fine known)) (λ u n. comes_to L (n.fine, n.since, null_for outer u)))

  -- ---- all calls

  pub record EntryKept (e : Entry) : Type 0 where
    pub body : (call : Calls) (outer : List Frame) (self : Value) (vs : List Value) (w : World) → KeepsCalls L call → L.Fine w → L.Known w self → Values L w vs → EndsWell L outer w (e.body call outer self vs w)

  abbrev IsEntry : Option Entry → Type 0
  IsEntry None = Unit {0}
  IsEntry (Some e) = EntryKept e

  stopped_here : (frames : List Frame) (w : World) (kind : RunFault) (spot : Spot) → L.Fine w → EndsWell L frames w (Err (Failed kind spot w))
  stopped_here frames w kind spot fine = record { ends = record { fine = fine; then = L.same (holds_of frames) w } }

  admitted_ends : (frames : List Frame) (o : Option RunFault) (spot : Spot) (w : World) (go : World → Ending) → L.Fine w → EndsWell L frames w (go w) → EndsWell L frames w (admitted_by o spot w go)
  admitted_ends frames None spot w go fine k = k
  admitted_ends frames (Some kind) spot w go fine k = stopped_here frames w kind spot fine

  ends_before : (frames : List Frame) (w u : World) (r : Ending) → L.Then (holds_of frames) w u → EndsWell L frames u r → EndsWell L frames w r
  ends_before frames w u (Ok (v, x)) t k = record { ends = (k.ends.0, L.after (holds_of frames) w u x t k.ends.1, k.ends.2) }
  ends_before frames w u (Err e) t k = record { ends = record { fine = k.ends.fine; then = L.after (holds_of frames) w u (world_of e) t k.ends.then } }

  held_itself : (b : Bool) (v : Value) → Covers (cond b [] (v ∷ [])) (v ∷ [])
  held_itself true v = λ x n. omega arith
  held_itself false v = λ x n. n

  -- a step leaves what is known
  known_stepped : (w : World) (n : ℕ) (v : Value) → w.left ≡ suc n → L.Fine w → L.Known w v → L.Known (record w { left = n }) v
  known_stepped w n v e fine k = L.keeps (v ∷ []) w (record w { left = n }) v (L.stepped (v ∷ []) w n e fine).1 (stays_covered (v ∷ []) v (held_itself (nat_eq (place_of v) 0) v)) k

  values_stepped : (w : World) (n : ℕ) (vs : List Value) → w.left ≡ suc n → L.Fine w → Values L w vs → Values L (record w { left = n }) vs
  values_stepped w n [] e fine k = tt
  values_stepped w n (v ∷ vs) e fine k = (known_stepped w n v e fine k.0, values_stepped w n vs e fine k.1)

  module _ (frames : List Frame) (self : Value) (vs : List Value) (w : World) (fine : L.Fine w) (known : L.Known w self) (k : Values L w vs) (go : World → Ending) (f : (u : World) → L.Fine u → L.Known u self → Values L u vs → EndsWell L frames u (go u)) where
    entered_by : (n : ℕ) (spot : Spot) → w.left ≡ n → EndsWell L frames w (and_then (step_from n spot w) go)
    entered_by zero spot e = record { ends = record { fine = fine; then = L.same (holds_of frames) w } }
    entered_by (suc n) spot e =
        let u : World = record w { left = n } in
        let s : L.Fine u × L.Then (holds_of frames) w u = L.stepped (holds_of frames) w n e fine in
        ends_before frames w u (go u) s.1 (f u s.0 (known_stepped w n self e fine known) (values_stepped w n vs e fine k))

    entered_ends : (b : Bool) (spot : Spot) → EndsWell L frames w (and_then (entered b spot w) go)
    entered_ends true spot = entered_by w.left spot refl
    entered_ends false spot = f w fine known k

  module _ (find : Routine → Option Entry) (kept : (r : Routine) → IsEntry (find r)) where
    zero_ends : (o : Option Entry) (frames : List Frame) (unit : Option Spot) (args : List Argument) (w : World) → L.Fine w → EndsWell L frames w (admitted o unit args w (λ e spot now. Err (Failed CallTooDeep spot now)))
    zero_ends None frames unit args w fine = stopped_here frames w NoMethod _ fine
    zero_ends (Some e) frames unit args w fine = admitted_ends frames (e.refusal args w) (made_at unit e.spot) w _ fine (stopped_here frames w CallTooDeep (made_at unit e.spot) fine)

    more_ends : (o : Option Entry) (call : Calls) (frames : List Frame) (unit : Option Spot) (self : Value) (args : List Argument) (w : World) → IsEntry o → KeepsCalls L call → L.Fine w → L.Known w self → Values L w (values_of args)
        → EndsWell L frames w (admitted o unit args w (λ e spot now. and_then (entered e.takes_step spot now) (λ begun. e.body call frames self (values_of args) begun)))
    more_ends None call frames unit self args w k keeps fine known r = stopped_here frames w NoMethod _ fine
    more_ends (Some e) call frames unit self args w k keeps fine known r =
        admitted_ends frames (e.refusal args w) (made_at unit e.spot) w _ fine (entered_ends frames self (values_of args) w fine known r (λ u. e.body call frames self (values_of args) u) (λ u z s q. k.body call frames self (values_of args) u keeps z s q) e.takes_step (made_at unit e.spot))

    pub calls_kept : (d : ℕ) → KeepsCalls L (calls find d)
    calls_kept zero = record { calls = λ frames unit r self args w fine known k. zero_ends (find r) frames unit args w fine }
    calls_kept (suc d) = record { calls = λ frames unit r self args w fine known k. more_ends (find r) (calls find d) frames unit self args w (kept r) (calls_kept d) fine known k }

  module _ (project : Project) (lawful : IsLawful L project) (bodies : Bodies) (kept : BodiesKept bodies) where
    function_entry_kept : (class : ClassTag) (o : Option FunctionMeans) → IsFunction o → IsEntry (option_map (function_entry project class) o)
    function_entry_kept class None k = tt
    function_entry_kept class (Some f) k = record { body = λ call outer self vs w keeps fine known r. function_ends project lawful class f call outer self vs w k keeps fine known r }

    entry_kept : (r : Routine) → IsEntry (entry_of project bodies r)
    entry_kept (Function class name) = function_entry_kept class (bodies.function class name) (kept.functions class name)
    entry_kept (Initialisers class) = record { body = λ call outer self vs w keeps fine known r. fields_ends project lawful bodies class call outer self vs w kept keeps fine known }

    -- calls of scripts keep the law
    pub script_kept : (frames : ℕ) → KeepsCalls L (script_calls project bodies frames)
    script_kept frames = calls_kept (entry_of project bodies) entry_kept frames

  -- ---- trees

  module _ (project : Project) (lawful : IsLawful L project) where
    all_stmts : (ts : List Stmt) → AllRun L (map (stmt project) ts)
    all_stmts [] = tt
    all_stmts (t ∷ ts) = (stmt_kept L project lawful t, all_stmts ts)

    all_params : (class : ClassTag) (ps : List Param) → AllByRecursion (λ p. OptionalKept L p.default) (map (param_means project class) ps)
    all_params class [] = tt
    all_params class (p ∷ ps) = (optional_expr L project lawful (initial p.declared), all_params class ps)

    pub function_kept : (class : ClassTag) (f : Func) → FunctionKept (function_means project class f)
    function_kept class f = record { params = all_params class f.params; body = all_stmts f.body }
