-- Each form of statement keeps a law, and then every tree.
use Rattle.std.proofs.Common.{ℕ, zero, suc, ℤ, Bool, true, false, List, [], ◌∷◌, ◌++◌, Option, Some, None, Result, Ok, Err}
use Rattle.std.specs.Prelude.{bytes_eq, encode_utf8_all, if◌then◌else◌, slice_get}
use Rattle.std.specs.Char.{encode_utf8}
use Rattle.std.specs.List.{AllByRecursion}
use Rattle.folder_meaning.specs.declared.script_type.ScriptType.{ScriptType}
use Rattle.gd_syntax.specs.declared.tree.statement.AssignOp.{AssignOp}
use Rattle.gd_syntax.specs.declared.tree.statement.AssignOp.TheVariants as assign
use Rattle.gd_syntax.specs.declared.tree.type_name.Identifier.{Identifier}
use Rattle.variant_values.specs.declared.classes.ClassTag.{ClassTag}
use Rattle.variant_values.specs.declared.faults.RunFault.TheVariants.{NullAccess, FreedAccess, NoMember, AssertFailed, BadType}
use Rattle.variant_values.specs.declared.values.Serial.{Serial}
use Rattle.variant_values.specs.declared.values.Value.{Value}
use Rattle.variant_values.specs.declared.values.Value.TheVariants.{Null, Bool as Truth, Int, Str, Array, Dict, Object, Callable, Signal, Class, Scene, Weak}
use Rattle.variant_values.specs.Changes.{Done, weighed}
use Rattle.variant_values.specs.Heaps.{cell_at, items_of, with_field}
use Rattle.variant_values.specs.Indexing.{index_of, index_put}
use Rattle.script_meaning.specs.State.{Local, opens, opens_constant, World, Frame, holds_of, received, Stop, and_then, step, with_heap}
use Rattle.script_meaning.specs.Projects.{Project, member_meant}
use Rattle.script_meaning.specs.Types.{default_of, fits_at_run}
use Rattle.script_meaning.specs.Meanings.{Around, Here, Moment, Given-to, Site, Means, Target, ToName, ToMember, ToIndex, Walk, Numbers, Items, Characters, fails, frames_of, heap_at, site_of}
use Rattle.script_meaning.specs.Members.{class_in, local_of}
use Rattle.script_meaning.specs.Exprs.{applied, truth_of}
use Rattle.script_meaning.specs.Statements.{Now, item_walked, number_walked, next_of, admits, stored, with_locals, set_local, field_meant, assign_op, value_or_null, asserted, hidden, spot_at, unit_at, received_by, received_value, declared_value, returned_value, put_field, put_in_object, put_member, put_index, put_name, put, old_value, new_value, assigned, run_pass, run_break, run_continue, run_return, run_var, run_const, run_assert, run_assign, run_expr}
use Rattle.script_laws.proofs.Holding.{covers_itself, received_covers}
use Rattle.script_laws.proofs.Law.{Law, DoesKnown}
use Rattle.script_laws.proofs.Moments.{At, AtSite, Good, Keeps, KnownFor, Locals, Ready, Values, bind, carry, done, failed, given_by, given_then, on, plain}
use Rattle.script_laws.proofs.MemberLaws.{IsLawful, TargetReady, carry_target, member_given, name_valued}
use Rattle.script_laws.proofs.ExprLaws.{IsKept, applied_given}
use Rattle.script_laws.proofs.PatternLaws.{locals_both}
use Rattle.script_laws.proofs.StatementLaws.{InNow, Comes, on_then, comes_to, stops, with_those, goes_on, settles, unit_ends, returned_settles, FlowReady, steps, unit_at_here, evaluated}

module _ (L : Law) where
  pub known_any : (outer : List Frame) (w : World) (v : Value) → L.Known w v → KnownFor L outer w v
  known_any [] w v k = tt
  known_any (f ∷ fs) w v k = k

  pub hidden_known : (s : Site) (m : Moment) (vs : List Value) → AllByRecursion (λ v. Ready L s v m) vs → Locals L m.world (hidden vs)
  hidden_known s m [] k = tt
  hidden_known s m (v ∷ vs) k = ((k.0.known, tt), hidden_known s m vs k.1)

  abbrev pub OptionalKept : Option Means → Type 0
  OptionalKept None = Unit {0}
  OptionalKept (Some e) = IsKept L e

  -- ---- what a walk gives

  abbrev pub NextKnown : World → Option (Value × Walk) → Type 0
  NextKnown w None = Unit {0}
  NextKnown w (Some (v, walk)) = L.Known w v

  item_known : (w : World) (of : Serial) (i : ℕ) (vs : List Value) (at : ℕ) → Values L w vs → NextKnown w (item_walked of at (slice_get vs i))
  item_known w of i [] at k = tt
  item_known w of zero (v ∷ vs) at k = k.0
  item_known w of (suc i) (v ∷ vs) at k = item_known w of i vs at k.1

  number_known : (w : World) (n by : ℤ) (left : ℕ) → NextKnown w (number_walked n by left)
  number_known w n by zero = tt
  number_known w n by (suc left) = L.plain w (Int n) tt

  pub next_known : (w : World) (walk : Walk) → L.Fine w → NextKnown w (next_of w.cells walk)
  next_known w (Numbers span) fine = number_known w span.first span.by span.count
  next_known w (Items of i) fine = item_known w of i (items_of (cell_at w.cells of.0)) i (L.items w of.0 fine)
  next_known w (Characters []) fine = tt
  next_known w (Characters (c ∷ cs)) fine = L.plain w (Str (encode_utf8 c)) tt

  set_if : (w : World) (b : Bool) (v : Value) (l : Local) (ls more : List Local) → L.Known w v → Locals L w (l ∷ ls) → Locals L w more → Locals L w (if b then record l { value = v } ∷ ls else l ∷ more)
  set_if w true v l ls more k r t = ((k, r.0.1), r.1)
  set_if w false v l ls more k r t = (r.0, t)

  set_known : (w : World) (ls : List Local) (name : List ℕ) (v : Value) → L.Known w v → Locals L w ls → Locals L w (set_local ls name v)
  set_known w [] name v k r = tt
  set_known w (l ∷ ls) name v k r = set_if w (bytes_eq l.name name) v l ls (set_local ls name v) k r (set_known w ls name v k r.1)

  pub opens_known : (w : World) (ls : List Local) (name : List ℕ) (type : ScriptType) (v : Value) → L.Known w v → Locals L w ls → Locals L w (ls ++ opens name type v)
  opens_known w ls name type v k r = locals_both L w ls (opens name type v) r ((k, tt), tt)

  module _ (project : Project) (lawful : IsLawful L project) where
    -- ---- checks

    admits_good : {s : Site} {m : Moment} (b : Bool) (v : Value) → AtSite L s m.world → Ready L s v m → Good L false s m (Ready L s) (and_then (admits b s.spot m.world) (λ fits. Ok (v, m)))
    admits_good true v at k = done L at k
    admits_good false v at k = failed L BadType at

    received_good : {s : Site} {m : Moment} (fits : Bool) (type : ScriptType) (v : Value) → AtSite L s m.world → Ready L s v m → Good L false s m (Ready L s) (and_then (received_by project fits type v s.spot m.world) (λ fits. Ok (v, m)))
    received_good true type v at k = done L at k
    received_good {s} {m} false type v at k = admits_good (fits_at_run m.world.cells type v) v at k

    pub received_kept : (type : ScriptType) (e : Means) → IsKept L e → Keeps L false (Ready L) (received_value project type e)
    received_kept type e k h m at = bind L (e.value h m) _ (k.value h m at) (λ v n p r. received_good (project.fits_at h.around.class e.place) type v p.at r)

    null_or_kept : (o : Option Means) → OptionalKept o → Keeps L false (Ready L) (value_or_null o)
    null_or_kept (Some e) k h m at = k.value h m at
    null_or_kept None k h m at = plain L at.site tt

    declared_kept : (type : ScriptType) (o : Option Means) → OptionalKept o → Keeps L false (Ready L) (declared_value project type o)
    declared_kept type (Some e) k h m at = received_kept type e k h m at
    declared_kept type None k h m at = given_then L (default_of type (heap_at (site_of h) m)) at.site (L.default (frames_of (site_of h) m) m.world type at.site.fine)

    returned_kept : (type : ScriptType) (o : Option Means) → OptionalKept o → Keeps L false (Ready L) (returned_value project type o)
    returned_kept type (Some e) k h m at = received_kept type e k h m at
    returned_kept type None k h m at = plain L at.site tt

    assert_if : {s : Site} {m : Moment} (b : Bool) → AtSite L s m.world → Good L false s m (Ready L s) (elim b [ true ↦ Ok (Null, m) | false ↦ fails AssertFailed s m ])
    assert_if {s} {m} true at = done L at (record { known = L.plain m.world Null tt; held = tt })
    assert_if false at = failed L AssertFailed at

    asserted_kept : (c : Means) (message : Option Means) → IsKept L c → OptionalKept message → Keeps L false (Ready L) (asserted c message)
    asserted_kept c message k l h m at = bind L (c.value h m) _ (k.value h m at) (λ v n p r. bind L (value_or_null message h n) _ (null_or_kept message l h n (on L at p)) (λ u o q t. assert_if (truth_of v o) q.at))

    -- ---- assignments

    module _ {first : World} (h : Here) (m : Moment) (now : InNow L h.around first h.locals m.world) where
      abbrev pub Later : World → Type 0
      Later u = InNow L h.around first h.locals u

      stored_kept : (r : Done) → DoesKnown L.Fine L.Known L.Then m.world r → Comes L h.around first Later (stored r (site_of h) m)
      stored_kept (Ok (x, g)) k = comes_to L (goes_on L h.around.outer m.held (with_heap m.world g) (covers_itself (holds_of h.around.outer)) now k.done.fine (k.done.then _))
      stored_kept (Err kind) k = stops L kind h.spot now

      admits_kept : {A : Type 0} {K : A → Type 0} (b : Bool) (go : Unit {0} → Result A Stop) → Comes L h.around first K (go tt) → Comes L h.around first K (and_then (admits b h.spot m.world) go)
      admits_kept true go k = k
      admits_kept false go k = stops L BadType h.spot now

      checked : {A : Type 0} {K : A → Type 0} (fits : Bool) (type : ScriptType) (v : Value) (go : Unit {0} → Result A Stop) → Comes L h.around first K (go tt) → Comes L h.around first K (and_then (received_by project fits type v h.spot m.world) go)
      checked true type v go k = k
      checked false type v go k = admits_kept (fits_at_run m.world.cells type v) go k

      pub field_kept : (of : Value) (place : Option (ℕ × ScriptType)) (fits : Bool) (v : Value) → L.Known m.world v → Comes L h.around first Later (put_field project of place fits v (site_of h) m)
      field_kept (Object s) (Some (i, type)) fits v k = checked fits type v _ (stored_kept (weighed (with_field (heap_at (site_of h) m) s.0 i v) tt) (L.puts_field (frames_of (site_of h) m) m.world s.0 i v now.fine k))
      field_kept (Object s) None fits v k = stops L NoMember h.spot now
      field_kept Null place fits v k = stops L NoMember h.spot now
      field_kept (Truth b) place fits v k = stops L NoMember h.spot now
      field_kept (Int n) place fits v k = stops L NoMember h.spot now
      field_kept (Str t) place fits v k = stops L NoMember h.spot now
      field_kept (Array a) place fits v k = stops L NoMember h.spot now
      field_kept (Dict a) place fits v k = stops L NoMember h.spot now
      field_kept (Callable a n) place fits v k = stops L NoMember h.spot now
      field_kept (Signal a n) place fits v k = stops L NoMember h.spot now
      field_kept (Class a) place fits v k = stops L NoMember h.spot now
      field_kept (Scene a n) place fits v k = stops L NoMember h.spot now
      field_kept (Weak a) place fits v k = stops L NoMember h.spot now

      object_kept : (o : Option ClassTag) (of : Value) (name : List ℕ) (fits : Bool) (v : Value) → L.Known m.world v → Comes L h.around first Later (put_in_object project o of name fits v (site_of h) m)
      object_kept None of name fits v k = stops L FreedAccess h.spot now
      object_kept (Some class) of name fits v k = field_kept of (field_meant (project.fields class) (member_meant project class name)) fits v k

      index_put_kept : (of i v : Value) → L.Known m.world of → L.Known m.world i → L.Known m.world v → Comes L h.around first Later (put_index project of i v (site_of h) m)
      index_put_kept of i v k l r = stored_kept (index_put (heap_at (site_of h) m) of i v) (L.puts (frames_of (site_of h) m) m.world of i v now.fine k l r)

      member_kept : (of : Value) (name : List ℕ) (fits : Bool) (v : Value) → L.Known m.world of → L.Known m.world v → Comes L h.around first Later (put_member project of name fits v (site_of h) m)
      member_kept Null name fits v k l = stops L NullAccess h.spot now
      member_kept (Dict s) name fits v k l = index_put_kept (Dict s) (Str (encode_utf8_all name)) v k (L.plain m.world (Str (encode_utf8_all name)) tt) l
      member_kept (Object s) name fits v k l = object_kept (class_in m (Object s)) (Object s) name fits v l
      member_kept (Truth b) name fits v k l = stops L NoMember h.spot now
      member_kept (Int n) name fits v k l = stops L NoMember h.spot now
      member_kept (Str t) name fits v k l = stops L NoMember h.spot now
      member_kept (Array a) name fits v k l = stops L NoMember h.spot now
      member_kept (Callable a n) name fits v k l = stops L NoMember h.spot now
      member_kept (Signal a n) name fits v k l = stops L NoMember h.spot now
      member_kept (Class a) name fits v k l = stops L NoMember h.spot now
      member_kept (Scene a n) name fits v k l = stops L NoMember h.spot now
      member_kept (Weak a) name fits v k l = stops L NoMember h.spot now

      abbrev Stays-so : List Local × World → Type 0
      Stays-so x = InNow L h.around first x.0 x.1

      same_locals : (r : Result World Stop) → Comes L h.around first Later r → Comes L h.around first Stays-so (with_locals h.locals r)
      same_locals (Ok u) k = comes_to L k.comes
      same_locals (Err e) k = record { comes = k.comes }

      name_put_kept : (o : Option Local) (name : List ℕ) (fits : Bool) (v : Value) → L.Known m.world v → Comes L h.around first Stays-so (put_name project o name fits v h m)
      name_put_kept (Some l) name fits v k = checked fits l.type v _ (comes_to L (with_those L (set_local h.locals name v) now (set_known m.world h.locals name v k now.known)))
      name_put_kept None name fits v k = same_locals _ (field_kept h.around.self (field_meant (project.fields h.around.class) (member_meant project h.around.class name)) fits v k)

      put_kept : (t : Target) (fits : Bool) (v : Value) → TargetReady L (site_of h) t m → L.Known m.world v → Comes L h.around first Stays-so (put project t fits v h m)
      put_kept (ToName name) fits v r k = name_put_kept (local_of h.locals name) name fits v k
      put_kept (ToMember of name) fits v r k = same_locals _ (member_kept of name fits v r.known k)
      put_kept (ToIndex of i) fits v r k = same_locals _ (index_put_kept of i v r.0.known r.1.known k)

    old_kept : (t : Target) (h : Here) (m : Moment) → At L h m.world → TargetReady L (site_of h) t m → Good L false (site_of h) m (Ready L (site_of h)) (old_value project t h m)
    old_kept (ToName name) h m at r = name_valued L project lawful false name h m at
    old_kept (ToMember of name) h m at r = member_given L project lawful at.site of name r.known
    old_kept (ToIndex of i) h m at r = given_by L (index_of m.world.cells of i) at.site (L.index m.world of i at.site.fine r.0.known r.1.known)

    module _ (t : Target) (e : Means) (k : IsKept L e) where
      operated_kept : (op : AssignOp) (h : Here) (m : Moment) → At L h m.world → TargetReady L (site_of h) t m
          → Good L false (site_of h) m (Ready L (site_of h)) (and_then (old_value project t h m) (λ x. and_then (e.value h x.1) (λ y. applied project (assign_op op) x.0 y.0 (site_of h) y.1)))
      operated_kept op h m at r = bind L (old_value project t h m) _ (old_kept t h m at r) (λ v n p l. bind L (e.value h n) _ (k.value h n (on L at p)) (λ u o q z. applied_given L project lawful (assign_op op) v u q.at (carry L q l) z))

      new_kept : (op : AssignOp) (h : Here) (m : Moment) → At L h m.world → TargetReady L (site_of h) t m → Good L false (site_of h) m (Ready L (site_of h)) (new_value project op t e h m)
      new_kept assign.Set h m at r = k.value h m at
      new_kept assign.Add h m at r = operated_kept assign.Add h m at r
      new_kept assign.Sub h m at r = operated_kept assign.Sub h m at r
      new_kept assign.Mul h m at r = operated_kept assign.Mul h m at r
      new_kept assign.Div h m at r = operated_kept assign.Div h m at r
      new_kept assign.Rem h m at r = operated_kept assign.Rem h m at r
      new_kept assign.BitAnd h m at r = operated_kept assign.BitAnd h m at r
      new_kept assign.BitOr h m at r = operated_kept assign.BitOr h m at r
      new_kept assign.BitXor h m at r = operated_kept assign.BitXor h m at r
      new_kept assign.Shl h m at r = operated_kept assign.Shl h m at r
      new_kept assign.Shr h m at r = operated_kept assign.Shr h m at r

    -- ---- simple statements

    module _ (a : Around) (first : World) (s : Now) (now : InNow L a first s.locals s.world) where
      begun_kept : {A : Type 0} {K : A → Type 0} (line : ℕ) (go : World → Result A Stop) → ((u : World) → InNow L a first s.locals u → Comes L a first K (go u)) → Comes L a first K (and_then (step (spot_at project a line) s.world) go)
      begun_kept line go f = on_then L (step (spot_at project a line) s.world) go (steps L (spot_at project a line) s.world now) f

      abbrev begin : World → Moment
      begin u = record { held = []; world = u }

      -- a value is evaluated in a unit, and the statement goes on
      value_then : {B : Type 0} {J : B → Type 0} {A : Type 0} (line : ℕ) (K : Site → A → Moment → Type 0) (e : Given-to A) (go : A × Moment → Result B Stop) (m : Moment) → Keeps L false K e → InNow L a first s.locals m.world
          → ((x : A) (n : Moment) → InNow L a first s.locals n.world → K (site_of (unit_at project a line s)) x n → Comes L a first J (go (x, n))) → Comes L a first J (and_then (e (unit_at project a line s) m) go)
      value_then line K e go m k n f =
          let h : Here = unit_at project a line s in
          on_then L (e h m) go (evaluated L project h m (K (site_of h)) (e h m) n (k h m (unit_at_here L project line s m.world n))) (λ x z. f x.0 x.1 z.now z.is)

      pub pass_kept : (line : ℕ) → Comes L a first (FlowReady L a first) (run_pass project line a s)
      pass_kept line = begun_kept line _ (λ w n. comes_to L (unit_ends L n))

      pub break_kept : (line : ℕ) → Comes L a first (FlowReady L a first) (run_break project line a s)
      break_kept line = begun_kept line _ (λ w n. comes_to L (unit_ends L n))

      pub continue_kept : (line : ℕ) → Comes L a first (FlowReady L a first) (run_continue project line a s)
      continue_kept line = begun_kept line _ (λ w n. comes_to L (unit_ends L n))

      pub return_kept : (line : ℕ) (o : Option Means) → OptionalKept o → Comes L a first (FlowReady L a first) (run_return project line o a s)
      return_kept line o k = begun_kept line _ (λ w n. value_then line (Ready L) (returned_value project a.result o) _ (begin w) (returned_kept a.result o k) n
          (λ v u z r. comes_to L (settles L (received v a.outer) (received_covers v a.outer) z, returned_settles L v z (known_any a.outer u.world v r.known))))

      pub var_kept : (line : ℕ) (name : Identifier) (o : Option Means) → OptionalKept o → Comes L a first (FlowReady L a first) (run_var project line name o a s)
      var_kept line name o k = begun_kept line _ (λ w n. value_then line (Ready L) (declared_value project (project.type_at a.class name.place) o) _ (begin w) (declared_kept (project.type_at a.class name.place) o k) n
          (λ v u z r. comes_to L (unit_ends L (with_those L (s.locals ++ opens name.name (project.type_at a.class name.place) v) z (opens_known u.world s.locals name.name (project.type_at a.class name.place) v r.known z.known)))))

      pub const_kept : (line : ℕ) (name : Identifier) → Comes L a first (FlowReady L a first) (run_const project line name a s)
      const_kept line name = begun_kept line _ (λ w n.
          let making = project.constant_at a.class name.place in
          comes_to L (unit_ends L (with_those L (s.locals ++ opens_constant name.name making) n (locals_both L w s.locals (opens_constant name.name making) n.known ((L.plain w Null tt, lawful.constants a.class name.place), tt)))))

      pub assert_kept : (line : ℕ) (c : Means) (o : Option Means) → IsKept L c → OptionalKept o → Comes L a first (FlowReady L a first) (run_assert project line c o a s)
      assert_kept line c o k l = begun_kept line _ (λ w n. value_then line (Ready L) (asserted c o) _ (begin w) (asserted_kept c o k l) n (λ v u z r. comes_to L (unit_ends L z)))

      pub expr_run : (line : ℕ) (e : Means) → IsKept L e → Comes L a first (FlowReady L a first) (run_expr project line e a s)
      expr_run line e k = begun_kept line _ (λ w n. value_then line (Ready L) e.value _ (begin w) k.value n (λ v u z r. comes_to L (unit_ends L z)))

      assigned_kept : (line : ℕ) (to : Means) (op : AssignOp) (e : Means) (m : Moment) → IsKept L to → IsKept L e → InNow L a first s.locals m.world → Comes L a first (λ x. InNow L a first x.0 x.1) (assigned project to op e (unit_at project a line s) m)
      assigned_kept line to op e m k l n =
          let h : Here = unit_at project a line s in
          on_then L (to.target h m) _ (evaluated L project h m (TargetReady L (site_of h)) (to.target h m) n (k.target h m (unit_at_here L project line s m.world n))) (λ t z.
          on_then L (new_value project op t.0 e h t.1) _ (evaluated L project h t.1 (Ready L (site_of h)) (new_value project op t.0 e h t.1) z.now (new_kept t.0 e l op h t.1 (unit_at_here L project line s t.1.world z.now) z.is)) (λ x y.
          put_kept h x.1 y.now t.0 (project.fits_at a.class e.place) x.0 (carry_target L t.0 y.passed z.is) y.is.known))

      pub assign_kept : (line : ℕ) (to : Means) (op : AssignOp) (e : Means) → IsKept L to → IsKept L e → Comes L a first (FlowReady L a first) (run_assign project line to op e a s)
      assign_kept line to op e k l = begun_kept line _ (λ w n. on_then L (assigned project to op e (unit_at project a line s) (begin w)) _ (assigned_kept line to op e (begin w) k l n) (λ x z. comes_to L (unit_ends L z)))
