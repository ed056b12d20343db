-- The laws of what is known, from the one induction.
use Rattle.std.proofs.Common.{◌≡◌, ℕ, zero, suc, true, false, List, [], ◌∷◌, refl, sym, subst, Option, Some, None, Result, Ok, Err, arith}
use Rattle.std.specs.Prelude.{IfSome}
use Rattle.std.specs.List.{AllByRecursion}
use Rattle.std.proofs.lemmas.List.Elements.{recursion_from_All}
use Rattle.folder_meaning.specs.declared.const_value.ConstValue.{ConstValue}
use Rattle.gd_syntax.specs.declared.tree.expr.Expr.{Expr}
use Rattle.gd_syntax.specs.declared.tree.member.Func.{Func}
use Rattle.gd_syntax.specs.declared.tree.statement.Stmt.{Stmt}
use Rattle.variant_values.specs.declared.classes.ClassTag.{ClassTag}
use Rattle.variant_values.specs.declared.values.Value.{Value}
use Rattle.variant_values.specs.Changes.{Given}
use Rattle.variant_values.specs.Heaps.{cell_at, knows, KnowsAll, KnowsSlot}
use Rattle.script_meaning.specs.State.{Making, Local, World, Frame, Spot, Stop, Failed, Spent, heap_of, holds_of}
use Rattle.script_meaning.specs.Projects.{Project, Argument, Ending, Meant, AField, AFunction, ANativeMethod, ASignal, AConstant, AnEnum, AClass, AnOuterFunction, AGlobalFunction, Unknown, Routine, values_of}
use Rattle.script_meaning.specs.Constants.{made}
use Rattle.script_meaning.specs.Meanings.{Around, Here, Moment, Means, frames_of, site_of}
use Rattle.script_meaning.specs.Objects.{make}
use Rattle.script_meaning.specs.Exprs.{expr}
use Rattle.script_meaning.specs.Statements.{Now, Flow, Next, Broke, Continued, Returned, Flowing, stmt}
use Rattle.script_meaning.specs.Functions.{Bodies, FunctionMeans, function_means, script_calls}
use Rattle.script_meaning.specs.Runs.{empty_world}
use Rattle.script_laws.specs.Allowance.{AreOfTrees}
use Rattle.script_laws.specs.Cells.{AreKnown, Knows}
use Rattle.script_laws.specs.Knowing.{EndsKnown, GivesKnown, GoesKnown, HasConstants, IsConstantMeant, IsFrame, IsKnownMaking, IsLater, IsOfConstant, IsResource, KnowsConstant, KnowsLocals, KnowsReturned, LeadsKnown, MakesKnown, MakesValue, Stays, StopsKnown, held_below}
use Rattle.script_laws.proofs.Holding.{placed_holds}
use Rattle.script_laws.proofs.Law.{KnownIn}
use Rattle.script_laws.proofs.Law.{GivesKnown as GivesByLaw}
use Rattle.script_laws.proofs.Moments.{At, EndsWell, Good, IsConstant, IsMaking, KeepsCalls, KnownFor, Locals, Ready, Stopped, on}
use Rattle.script_laws.proofs.MemberLaws.{IsFound, IsLawful}
use Rattle.script_laws.proofs.MakingLaws.{Held, MakesWell, made_well}
use Rattle.script_laws.proofs.ExprLaws.{IsKept, expr_kept}
use Rattle.script_laws.proofs.StatementLaws.{Comes, FlowReady, InNow, base}
use Rattle.script_laws.proofs.StatementForms.{OptionalKept}
use Rattle.script_laws.proofs.BlockForms.{stmt_kept}
use Rattle.script_laws.proofs.FunctionLaws.{BodiesKept, FunctionKept, IsFunction, function_kept, script_kept}
use Rattle.script_laws.proofs.KnownLaw.{Fine, Known, Then, constant_made, known, plain_known}

-- ---- the project and its trees

of_constant : (making : Making) → IsOfConstant making → IsMaking known making
of_constant making k = subst (IsMaking known) (sym k.1) (constant_made k.0)

found : (o : Option Meant) → IsConstantMeant o → IsFound known o
found None k = tt
found (Some (AField i)) k = tt
found (Some (AFunction owner is_static)) k = tt
found (Some ANativeMethod) k = tt
found (Some ASignal) k = tt
found (Some (AConstant making)) k = of_constant making k
found (Some (AnEnum items)) k = tt
found (Some (AClass class)) k = tt
found (Some (AnOuterFunction owner)) k = tt
found (Some AGlobalFunction) k = tt
found (Some Unknown) k = tt

resource : (w : World) (o : Option Value) → IsResource o → KnownIn Fine Known Then w o
resource w None k = tt
resource w (Some v) k = plain_known w.cells v k

lawful : (project : Project) → HasConstants project → IsLawful known project
lawful project c = record {
  members = λ class name. found (project.member class name) (c.members class name);
  constants = λ class place. of_constant (project.constant_at class place) (c.locals class place);
  resources = λ class path w. resource w (project.resource class path) (c.resources class path);
}

module _ (project : Project) (c : HasConstants project) (bodies : Bodies) (t : AreOfTrees project bodies) where
  function_of : (o : Option FunctionMeans) → IfSome o (λ f. (owner : ClassTag) × (tree : Func) × (f ≡ function_means project owner tree)) → IsFunction known o
  function_of None k = tt
  function_of (Some f) k = subst (FunctionKept known) (sym k.2) (function_kept known project (lawful project c) k.0 k.1)

  start_of : (o : Option Means) → IfSome o (λ e. (tree : Expr) × (e ≡ expr project tree)) → OptionalKept known o
  start_of None k = tt
  start_of (Some e) k = subst (IsKept known) (sym k.1) (expr_kept known project (lawful project c) k.0)

  kept : BodiesKept known bodies
  kept = record { functions = λ class name. function_of (bodies.function class name) (t.function class name); starts = λ class name. start_of (bodies.start class name) (t.start class name) }

  script : (depth : ℕ) → KeepsCalls known (script_calls project bodies depth)
  script depth = script_kept known project (lawful project c) bodies kept depth

-- ---- calls

returned : (frames : List Frame) (w : World) (v : Value) → KnownFor known frames w v → KnowsReturned frames w.cells v
returned [] w v k = tt
returned (f ∷ fs) w v k = k

stopped : (held : List Value) (w : World) (e : Stop) → Stopped known held w e → StopsKnown held w e
stopped held w (Failed kind spot u) k = (k.fine, k.then)
stopped held w (Spent spot u) k = (k.fine, k.then)

ended : (frames : List Frame) (w : World) (r : Ending) → EndsWell known frames w r → EndsKnown frames w r
ended frames w (Ok (v, u)) k = ((k.ends.0, k.ends.1), returned frames u v k.ends.2)
ended frames w (Err e) k = stopped (holds_of frames) w e k.ends

made_known : (frames : List Frame) (w : World) (r : Result (Value × Value × World) Stop) → MakesWell known frames w r → MakesKnown frames w r
made_known frames w (Ok (o, v, u)) k = ((k.makes.0, k.makes.1), k.makes.2, returned frames u v k.makes.3)
made_known frames w (Err e) k = stopped (holds_of frames) w e k.makes

args_held : (frames : List Frame) (w : World) (vs : List Value) → AllByRecursion (λ v. (knows w.cells v ≡ true) × Stays (holds_of frames) v) vs → AllByRecursion (Held known frames w) vs
args_held frames w [] k = tt
args_held frames w (v ∷ vs) k = (record { known = k.0.0; held = k.0.1 }, args_held frames w vs k.1)

nothing_known : (x : ℕ) → KnowsSlot (None ∷ []) (cell_at (None ∷ []) x)
nothing_known zero = tt
nothing_known (suc x) = tt

empty_known : AreKnown (None ∷ [])
empty_known = record { first = refl; some = omega arith; each = nothing_known }

pub calls_known : (project : Project) → HasConstants project → (bodies : Bodies) → AreOfTrees project bodies → (depth : ℕ) (frames : List Frame) (unit : Option Spot) (routine : Routine) (receiver : Value) (args : List Argument) (w : World)
    → AreKnown w.cells → knows w.cells receiver ≡ true → KnowsAll w.cells (values_of args) → EndsKnown frames w (script_calls project bodies depth frames unit routine receiver args w)
calls_known project c bodies t depth frames unit routine receiver args w k n a =
    ended frames w _ ((script project c bodies t depth).calls frames unit routine receiver args w k n (recursion_from_All (Knows w.cells) (values_of args) a))

pub new_known : (project : Project) → HasConstants project → (bodies : Bodies) → AreOfTrees project bodies → (depth : ℕ) (frames : List Frame) (unit : Option Spot) (class : ClassTag) (args : List Argument) (w : World)
    → AreKnown w.cells → AllByRecursion (λ v. (knows w.cells v ≡ true) × Stays (holds_of frames) v) (values_of args) → MakesKnown frames w (make project (script_calls project bodies depth) frames unit class args w)
new_known project c bodies t depth frames unit class args w k a =
    made_known frames w _ (made_well known project (script_calls project bodies depth) (script project c bodies t depth) frames unit class args w k (args_held frames w (values_of args) a))

pub runs_known : (project : Project) → HasConstants project → (bodies : Bodies) → AreOfTrees project bodies → (depth : ℕ) (class : ClassTag) (steps : ℕ)
    → MakesKnown [] (empty_world steps) (make project (script_calls project bodies depth) [] None class [] (empty_world steps))
runs_known project c bodies t depth class steps = new_known project c bodies t depth [] None class [] (empty_world steps) empty_known tt

-- ---- frames

one_made : (w : World) (r : Given) → GivesByLaw Fine Known Then w r → MakesValue w r
one_made w (Ok (v, g)) k =
    let later : IsLater [] w.cells g.cells = k.given.0.then [] in
    (k.given.0.fine, record { serials = later.serials; gone = later.gone; stays = k.given.0.stays }, k.given.1)
one_made w (Err kind) k = tt

by_law : (w : World) (r : Given) → MakesValue w r → GivesByLaw Fine Known Then w r
by_law w (Ok (v, g)) k = record { given = (record { fine = k.0; then = λ held. record { serials = k.1.serials; gone = k.1.gone; stays = λ u s q. k.1.stays u q }; stays = k.1.stays }, k.2) }
by_law w (Err kind) k = record { given = tt }

making_known : (making : Making) → IsMaking known making → IsKnownMaking making
making_known making k = record { makes = λ frames w fine. one_made w (making (heap_of frames w)) (k.makes frames w fine) }

making_lawful : (making : Making) → IsKnownMaking making → IsMaking known making
making_lawful making k = record { makes = λ frames w fine. by_law w (making (heap_of frames w)) (k.makes frames w fine) }

pub constants_known : (c : ConstValue) → IsKnownMaking (made c)
constants_known c = making_known (made c) (constant_made c)

constant_known : (o : Option Making) → IsConstant known o → KnowsConstant o
constant_known None k = tt
constant_known (Some making) k = making_known making k

constant_lawful : (o : Option Making) → KnowsConstant o → IsConstant known o
constant_lawful None k = tt
constant_lawful (Some making) k = making_lawful making k

locals_known : (w : World) (ls : List Local) → Locals known w ls → KnowsLocals w.cells ls
locals_known w [] k = tt
locals_known w (l ∷ ls) k = ((k.0.0, constant_known l.constant k.0.1), locals_known w ls k.1)

locals_lawful : (w : World) (ls : List Local) → KnowsLocals w.cells ls → Locals known w ls
locals_lawful w [] k = tt
locals_lawful w (l ∷ ls) k = ((k.0.0, constant_lawful l.constant k.0.1), locals_lawful w ls k.1)

module _ (project : Project) (c : HasConstants project) (bodies : Bodies) (t : AreOfTrees project bodies) (depth : ℕ) where
  abbrev Frame-at : Around → List Local → World → Type 0
  Frame-at a locals w = IsFrame project bodies depth a locals w

  keeps : (a : Around) → a.call ≡ script_calls project bodies depth → KeepsCalls known a.call
  keeps a e = subst (KeepsCalls known) (sym e) (script project c bodies t depth)

  -- ---- expressions

  at : (h : Here) (w : World) → Frame-at h.around h.locals w → At known h w
  at h w f = record {
    site = record { calls = keeps h.around f.call; fine = f.cells; self = f.self; own = λ x none. omega (arith, placed_holds (suc x) h.around.self h.locals, none) };
    locals = locals_lawful w h.locals f.known;
  }

  value_known : (h : Here) (m : Moment) (r : Result (Value × Moment) Stop) → Frame-at h.around h.locals m.world → Good known false (site_of h) m (Ready known (site_of h)) r → GivesKnown project bodies depth h m r
  value_known h m (Ok (v, n)) f g =
      let after : At known h n.world = on known (at h m.world f) g.good.0 in
      (record { call = f.call; cells = g.good.0.at.fine; self = g.good.0.at.self; known = locals_known n.world h.locals after.locals }, g.good.0.goes, g.good.1.known, g.good.1.held)
  value_known h m (Err e) f g = stopped (holds_of (frames_of (site_of h) m)) m.world e g.good

  pub expression_known : (h : Here) (m : Moment) → Frame-at h.around h.locals m.world → (e : Expr) → GivesKnown project bodies depth h m ((expr project e).value h m)
  expression_known h m f e = value_known h m ((expr project e).value h m) f ((expr_kept known project (lawful project c) e).value h m (at h m.world f))

  -- ---- statements

  frame_now : (a : Around) (first : World) (locals : List Local) (w : World) → a.call ≡ script_calls project bodies depth → InNow known a first locals w → Frame-at a locals w
  frame_now a first locals w e n = record { call = e; cells = n.fine; self = n.self; known = locals_known w locals n.known }

  flow_known : (a : Around) (first : World) (flow : Flow) → a.call ≡ script_calls project bodies depth → FlowReady known a first flow → GoesKnown project bodies depth a first flow
  flow_known a first (Next s) e k = (frame_now a first s.locals s.world e k, k.since)
  flow_known a first (Broke s) e k = (frame_now a first s.locals s.world e k, k.since)
  flow_known a first (Continued s) e k = (frame_now a first s.locals s.world e k, k.since)
  flow_known a first (Returned v s) e k = (frame_now a first s.locals s.world e k.0, k.0.since, returned a.outer s.world v k.1)

  leads_known : (a : Around) (s : Now) (r : Flowing) → a.call ≡ script_calls project bodies depth → Comes known a s.world (FlowReady known a s.world) r → LeadsKnown project bodies depth a s r
  leads_known a s (Ok flow) e k = flow_known a s.world flow e k.comes
  leads_known a s (Err stop) e k = stopped (held_below a) s.world stop k.comes

  pub statement_known : (a : Around) (s : Now) → Frame-at a s.locals s.world → (x : Stmt) → LeadsKnown project bodies depth a s (stmt project x a s)
  statement_known a s f x = leads_known a s (stmt project x a s) f.call ((stmt_kept known project (lawful project c) x).runs a s.world s
      (record { calls = keeps a f.call; fine = f.cells; self = f.self; known = locals_lawful s.world s.locals f.known; since = known.same (base known a) s.world }))
