-- Whatever stands in registers that a function's number does not reach, its code does the same.
use Rattle.std.proofs.Common.{◌≡◌, ℕ, zero, suc, ◌+◌, ◌-◌, ◌*◌, ◌<◌, ◌≤◌, max, Bool, true, false, not, List, [], ◌∷◌, ◌++◌, take, drop, length, Result, refl, sym, ap, subst, ◌∙◌, arith, inl, inr}
use Rattle.std.specs.Prelude.{Some, None, Option, Ok, Err, slice_get, nat_lt, ◌&&◌, unwrap_or, slice_set}
use Rattle.std.specs.List.{list_all, flat_map}
use Rattle.native_calls.specs.Globals.{span_in}
use Rattle.variant_values.specs.declared.faults.RunFault.{RunFault}
use Rattle.variant_values.specs.declared.values.Value.{Value}
use Rattle.variant_values.specs.declared.values.Value.TheVariants.{Null, Bool as Truth}
use Rattle.variant_values.specs.Comparisons.{is_true, same_value}
use Rattle.variant_values.specs.Indexing.{index_of}
use Rattle.variant_values.specs.Operations.{operated}
use Rattle.variant_values.specs.Operators.{unary_of}
use Rattle.script_meaning.specs.State.{World, Stop, and_then, step_from, sweep, received, cells_held, joined, Spent}
use Rattle.script_meaning.specs.Projects.{AField, ANativeMethod, ASignal, unsure, Ending, nowhere}
use Rattle.script_meaning.specs.Meanings.{Site, Moment, At-site, Global, OfValue, heap_at, gives, gives_by, gives_then}
use Rattle.script_meaning.specs.Members.{constant_read, meant_value, member_of, callee_in}
use Rattle.script_meaning.specs.Statements.{received_by, put_own, put_member, put_index}
use Rattle.script_meaning.specs.Methods.{native_call, value_call, made_object, method_call, invoked}
use Rattle.script_meaning.specs.Exprs.{array_of}
use Rattle.script_meaning.specs.Types.{is_of_type, taken_as}
use Rattle.script_meaning.specs.Constants.{new_dict_of}
use Rattle.gd_bytecode.specs.declared.file_code.Code.{Code}
use Rattle.gd_bytecode.specs.declared.file_code.FunctionCode.{FunctionCode}
use Rattle.gd_bytecode.specs.declared.instructions.Instr.{Instr}
use Rattle.gd_bytecode.specs.declared.instructions.Instr.TheVariants.{LoadNull, LoadConst, LoadGlobal, LoadCallable, LoadSignal, Move, Store, ToBool, Not, Unary, Binary, GetField, SetField, GetMember, GetItem, SetMember, GetIndex, SetIndex, Push, MakeArray, MakeDict, Check, IsType, AsType, FindCallee, CallFound, CallOwn, CallNative, CallValue, CallGlobal, CallFunction, New, WalkValue, WalkRange, WalkNext, MatchStart, MatchSame, MatchArray, MatchDict, MatchKeys, MatchItem, MatchEntry, MatchDrop, MatchBind, Step, EndUnit, Jump, JumpUnless, JumpIfOpen, JumpBack, Assert, Return, Fail}
use Rattle.gd_bytecode.specs.declared.instructions.Op.{Op}
use Rattle.gd_bytecode.specs.declared.instructions.Reg.{Reg}
use Rattle.gd_bytecode.specs.Checks.{is_well, is_below, step_at, register_limit, first_bad}
use Rattle.gd_bytecode.specs.CodeLaws.{Each, AreAlike, AlikeAfter, frame_size, Stays, InstructionsReadNoOther, RunsReadNoOther, LeavesNoOther}
use Rattle.gd_bytecode.specs.Forms.{form_of, registers_in}
use Rattle.gd_bytecode.specs.FrameState.{Running, Setting, register_at, read, self_of, values_in, last_of, without_last, last_so_many, without_so_many, site_at, moment_of, spot_at, Effect, goes_on, put, valued, changing, unmatched, kept_by, stored_by, settled}
use Rattle.gd_bytecode.specs.PartMatches.{plain_at, is_array_of, is_dict, is_dict_of, item_in, entry_in}
use Rattle.gd_bytecode.specs.Walks.{Walking, walking, walk_of, walk_of_span, walk_next}
use Rattle.gd_bytecode.specs.Effects.{name_at, constant_at, object_for, arguments, paired, part, known_called, found_called, item_of_member, asserted, unless, walks, item_open, walk_goes_on, stepped, matches, matches_by, entered, under, finds, checked, stops_at, effect}
use Rattle.gd_bytecode.specs.CodeRuns.{Goes, Lead, Forward, GoesBack, Leaves as LeadLeaves, lead_of, act_by, forward, where_step, back, runs_from, leaves}
use Rattle.std.proofs.lemmas.Bool.{false≢true}
use Rattle.gd_bytecode.proofs.EachWell.{each_is_well}
use Rattle.gd_bytecode.proofs.OtherRegisters.{Close, fronts, reads, rows, sets, drop_set, none_behind, Holds, IsRow, holds, wider}

-- ---- effects that are alike

-- the same fault, or frames that are alike, and behind the number what stood there or nothing
abbrev After : ℕ → List Value → Effect → Effect → Type 0
After n m (Ok x) e = (t : Running) × (e ≡ Ok (x.0, t)) × AreAlike n x.1 t × Stays n m x.1.registers
After n m (Err stop) e = e ≡ Err stop

then_here : {A : Type 0} (n : ℕ) (m : List Value) (r : Result A Stop) (f g : A → Effect) → ((x : A) → After n m (f x) (g x)) → After n m (and_then r f) (and_then r g)
then_here n m (Ok x) f g h = h x
then_here n m (Err stop) f g h = refl

then_alike : {A : Type 0} (n : ℕ) (m : List Value) (r q : Result A Stop) (f g : A → Effect) → r ≡ q → ((x : A) → After n m (f x) (g x)) → After n m (and_then r f) (and_then q g)
then_alike {A} n m r q f g e h = subst (λ (o : Result A Stop). After n m (and_then r f) (and_then o g)) e (then_here n m r f g h)

-- the frame with other registers
abbrev with : List Value → Running → Running
with ts s = record s { registers = ts }

on : (n : ℕ) (m : List Value) (k : ℕ) (s : Running) (ts : List Value) → Close n m s.opened s.registers ts → After n m (Ok (k, s)) (Ok (k, with ts s))
on n m k s ts p = (with ts s, refl, record { below = p.same; rest = refl; reach = p.reach }, p.most)

-- one of two frames by a test
unless_alike : (n : ℕ) (m : List Value) (b : Bool) (skip : ℕ) (s : Running) (ts : List Value) → Close n m s.opened s.registers ts → After n m (unless b skip s) (unless b skip (with ts s))
unless_alike n m true skip s ts p = on n m 0 s ts p
unless_alike n m false skip s ts p = on n m skip s ts p

matches_alike : (n : ℕ) (m : List Value) (b : Bool) (skip : ℕ) (s : Running) (ts : List Value) → Close n m s.opened s.registers ts → After n m (matches b skip s) (matches b skip (with ts s))
matches_alike n m true skip s ts p = on n m 0 s ts p
matches_alike n m false skip s ts p = on n m skip (unmatched s) ts p

entered_alike : (n : ℕ) (m : List Value) (v : Option Value) (skip : ℕ) (s : Running) (ts : List Value) → Close n m s.opened s.registers ts → After n m (entered v skip s) (entered v skip (with ts s))
entered_alike n m (Some v) skip s ts p = on n m 0 (under v s) ts p
entered_alike n m None skip s ts p = on n m skip (unmatched s) ts p

take_short : (k : ℕ) (xs : List Value) → length (take k xs) ≤ k
take_short zero xs = omega arith
take_short (suc k) [] = omega arith
take_short (suc k) (x ∷ xs) = let h : length (take k xs) ≤ k = take_short k xs in omega (arith, h)

behind_short : (k : ℕ) (xs ys : List Value) → length (take k xs ++ ys) ≤ k + length ys
behind_short zero xs ys = omega arith
behind_short (suc k) [] ys = omega arith
behind_short (suc k) (x ∷ xs) ys = let h : length (take k xs ++ ys) ≤ k + length ys = behind_short k xs ys in omega (arith, h)

module _ (a : Setting) (n : ℕ) (m : List Value) (one : 1 ≤ n) (line : ℕ) where
  site_with : Value → List Value → Site
  site_with self placed = record { call = a.call; outer = a.outer; self = self; class = a.class; placed = placed; spot = spot_at a line }

  selves : (s : Running) (ts : List Value) → Close n m s.opened s.registers ts → self_of s ≡ register_at ts 0
  selves s ts p = reads n m s.opened s.registers ts p 0 (omega (arith, one))

  sites : (s : Running) (ts : List Value) → Close n m s.opened s.registers ts → site_at a line s ≡ site_at a line (with ts s)
  sites s ts p = ap (λ v. record (site_at a line s) { self = v }) (selves s ts p) ∙ ap (λ vs. record (site_at a line (with ts s)) { placed = flat_map cells_held vs }) (fronts n m s.opened s.registers ts p s.opened p.reach)

  -- what is put behind a front
  behind : (s : Running) (ts : List Value) → Close n m s.opened s.registers ts → (k : ℕ) → k ≤ n → (vs : List Value) → take k s.registers ++ vs ≡ take k ts ++ vs
  behind s ts p k h vs = ap (λ rs. rs ++ vs) (fronts n m s.opened s.registers ts p k h)

  -- a front, and so many behind it
  fits : (k more : ℕ) → k + more ≤ n → (xs ys : List Value) → length ys ≤ more → Stays n m (take k xs ++ ys)
  fits k more h xs ys l = let b : length (take k xs ++ ys) ≤ k + length ys = behind_short k xs ys in inr (none_behind n (take k xs ++ ys) (omega (arith, h, l, b)))

  put_alike : (k : ℕ) (s : Running) (ts : List Value) → Close n m s.opened s.registers ts → (to : Reg) → to.0 < n → (x : Value × Moment) → After n m (Ok (k, put to x s)) (Ok (k, put to x (with ts s)))
  put_alike k s ts p to h x = on n m k (put to x s) (take to.0 ts ++ x.0 ∷ []) (record { same = ap (take n) (behind s ts p to.0 (omega (arith, h)) (x.0 ∷ [])); reach = p.reach; most = fits to.0 1 (omega (arith, h)) s.registers (x.0 ∷ []) (omega arith) })

  value : (s : Running) (ts : List Value) → Close n m s.opened s.registers ts → (to : Reg) → to.0 < n → {X : Type 0} (F : X → At-site Value) (x y : X) → x ≡ y → After n m (valued to (F x) a line s) (valued to (F y) a line (with ts s))
  value s ts p to h F x y e =
      then_alike n m (F x (site_at a line s) (moment_of s)) (F y (site_at a line (with ts s)) (moment_of s)) (λ v. goes_on (put to v s)) (λ v. goes_on (put to v (with ts s)))
      (ap (λ z. F z (site_at a line s) (moment_of s)) e ∙ ap (λ z. F y z (moment_of s)) (sites s ts p)) (λ v. put_alike 0 s ts p to h v)

  change : (s : Running) (ts : List Value) → Close n m s.opened s.registers ts → {X : Type 0} (F : X → Site → Moment → Result World Stop) (x y : X) → x ≡ y → After n m (changing (F x) a line s) (changing (F y) a line (with ts s))
  change s ts p F x y e =
      then_alike n m (F x (site_at a line s) (moment_of s)) (F y (site_at a line (with ts s)) (moment_of s)) (λ w. goes_on (record s { world = w })) (λ w. goes_on (record (with ts s) { world = w }))
      (ap (λ z. F z (site_at a line s) (moment_of s)) e ∙ ap (λ z. F y z (moment_of s)) (sites s ts p)) (λ w. on n m 0 (record s { world = w }) ts p)

  stop_alike : (kind : RunFault) (s : Running) (ts : List Value) → After n m (stops_at kind a line s) (stops_at kind a line (with ts s))
  stop_alike kind s ts = refl

  asserted_alike : (b : Bool) (s : Running) (ts : List Value) → Close n m s.opened s.registers ts → After n m (asserted b a line s) (asserted b a line (with ts s))
  asserted_alike true s ts p = on n m 0 s ts p
  asserted_alike false s ts p = refl

  same_alike : (r : Result Bool RunFault) (skip : ℕ) (s : Running) (ts : List Value) → Close n m s.opened s.registers ts → After n m (matches_by r skip a line s) (matches_by r skip a line (with ts s))
  same_alike (Ok b) skip s ts p = matches_alike n m b skip s ts p
  same_alike (Err kind) skip s ts p = refl

  finds_alike : (v : Value) (name : List ℕ) (s : Running) (ts : List Value) → Close n m s.opened s.registers ts → After n m (finds v name a line s) (finds v name a line (with ts s))
  finds_alike v name s ts p =
      then_alike n m (callee_in a.project (OfValue v) name (site_at a line s) (moment_of s)) (callee_in a.project (OfValue v) name (site_at a line (with ts s)) (moment_of s)) (λ x. goes_on (record s { held = x.1.held; world = x.1.world; callees = s.callees ++ x.0 ∷ [] })) (λ x. goes_on (record (with ts s) { held = x.1.held; world = x.1.world; callees = s.callees ++ x.0 ∷ [] }))
      (ap (λ z. callee_in a.project (OfValue v) name z (moment_of s)) (sites s ts p)) (λ x. on n m 0 (record s { held = x.1.held; world = x.1.world; callees = s.callees ++ x.0 ∷ [] }) ts p)

  kept_finds : (b : Bool) (v : Value) (name : List ℕ) (s : Running) (ts : List Value) → Close n m s.opened s.registers ts → After n m (finds v name a line (kept_by b v s)) (finds v name a line (kept_by b v (with ts s)))
  kept_finds true v name s ts p = finds_alike v name (record s { held = joined v s.held }) ts p
  kept_finds false v name s ts p = finds_alike v name s ts p

  pushed : (b : Bool) (v : Value) (s : Running) (ts : List Value) → Close n m s.opened s.registers ts → After n m (goes_on (record (kept_by b v s) { parts = s.parts ++ v ∷ [] })) (goes_on (record (kept_by b v (with ts s)) { parts = s.parts ++ v ∷ [] }))
  pushed true v s ts p = on n m 0 (record s { held = joined v s.held; parts = s.parts ++ v ∷ [] }) ts p
  pushed false v s ts p = on n m 0 (record s { parts = s.parts ++ v ∷ [] }) ts p

  set_stays : (xs ys : List Value) → drop n ys ≡ drop n xs → Stays n m xs → Stays n m ys
  set_stays xs ys e (inl h) = inl (e ∙ h)
  set_stays xs ys e (inr h) = inr (e ∙ h)

  stored_alike : (b : Bool) (local : Reg) → local.0 < n → (v : Value) (s : Running) (ts : List Value) → Close n m s.opened s.registers ts → After n m (goes_on (stored_by b local v s)) (goes_on (stored_by b local v (with ts s)))
  stored_alike true local h v s ts p = on n m 0 (stored_by true local v s) (stored_by true local v (with ts s)).registers (record { same = sets n m s.opened s.registers ts p local.0 v; reach = p.reach; most = set_stays s.registers (slice_set s.registers local.0 v) (drop_set n local.0 v s.registers h) p.most })
  stored_alike false local h v s ts p = put_alike 0 s ts p local h (v, record { held = joined v s.held; world = s.world })

  settled_alike : (xs ys : List Value) (w : World) → xs ≡ ys → length xs ≤ n → After n m (goes_on (settled a xs w)) (goes_on (settled a ys w))
  settled_alike xs ys w e h = subst (λ (zs : List Value). After n m (goes_on (settled a xs w)) (goes_on (settled a zs w))) e (on n m 0 (settled a xs w) xs (record { same = refl; reach = h; most = inr (none_behind n xs h) }))

  three_more : (walk : Reg) → walk.0 + 3 ≤ n → (xs : List Value) (w : Walking) → length (take walk.0 xs ++ walking w) ≤ n
  three_more walk h xs w = let l : length (take walk.0 xs ++ walking w) ≤ walk.0 + 3 = behind_short walk.0 xs (walking w) in omega (arith, h, l)

  walks_alike : (s : Running) (ts : List Value) → Close n m s.opened s.registers ts → (walk : Reg) → walk.0 + 3 ≤ n → {X : Type 0} (F : X → At-site Walking) (x y : X) → x ≡ y → After n m (walks walk (F x) a line s) (walks walk (F y) a line (with ts s))
  walks_alike s ts p walk h F x y e =
      then_alike n m (F x (site_at a line s) (moment_of s)) (F y (site_at a line (with ts s)) (moment_of s)) (λ v. goes_on (settled a (take walk.0 s.registers ++ walking v.0) v.1.world)) (λ v. goes_on (settled a (take walk.0 ts ++ walking v.0) v.1.world))
      (ap (λ z. F z (site_at a line s) (moment_of s)) e ∙ ap (λ z. F y z (moment_of s)) (sites s ts p))
      (λ v. settled_alike _ _ v.1.world (behind s ts p walk.0 (omega (arith, h)) (walking v.0)) (three_more walk h s.registers v.0))

  item_alike : (walk : Reg) → walk.0 + 4 ≤ n → (o : Option (Value × Walking)) (skip : ℕ) (s : Running) (ts : List Value) → Close n m s.opened s.registers ts → After n m (item_open walk o skip s) (item_open walk o skip (with ts s))
  item_alike walk h (Some (v, next)) skip s ts p = on n m 0 (record s { registers = take walk.0 s.registers ++ (walking next ++ v ∷ []); opened = walk.0 + 4 }) (take walk.0 ts ++ (walking next ++ v ∷ [])) (record { same = ap (take n) (behind s ts p walk.0 (omega (arith, h)) (walking next ++ v ∷ [])); reach = h; most = fits walk.0 4 h s.registers (walking next ++ v ∷ []) (omega arith) })
  item_alike walk h None skip s ts p = on n m skip s ts p

  step_alike : (k : ℕ) (go : Running → Effect) (s : Running) (ts : List Value) → ((w : World) → After n m (go (record s { world = w })) (go (record (with ts s) { world = w }))) → After n m (stepped a line s go) (stepped a line (with ts s) go)
  step_alike k go s ts h = then_here n m (step_from s.world.left (spot_at a line) s.world) (λ w. go (record s { world = w })) (λ w. go (record (with ts s) { world = w })) h

  walk_alike : (walk : Reg) (skip : ℕ) → walk.0 + 4 ≤ n → (s : Running) (ts : List Value) → Close n m s.opened s.registers ts → After n m (walk_goes_on walk skip s) (walk_goes_on walk skip (with ts s))
  walk_alike walk skip h s ts p =
      let r0 : register_at s.registers walk.0 ≡ register_at ts walk.0 = reads n m s.opened s.registers ts p walk.0 (omega (arith, h)) in
      let r1 : register_at s.registers (walk.0 + 1) ≡ register_at ts (walk.0 + 1) = reads n m s.opened s.registers ts p (walk.0 + 1) (omega (arith, h)) in
      let r2 : register_at s.registers (walk.0 + 2) ≡ register_at ts (walk.0 + 2) = reads n m s.opened s.registers ts p (walk.0 + 2) (omega (arith, h)) in
      subst (λ (o : Option (Value × Walking)). After n m (walk_goes_on walk skip s) (item_open walk o skip (with ts s)))
      (ap (λ x. walk_next s.world.cells x (register_at s.registers (walk.0 + 1)) (register_at s.registers (walk.0 + 2))) r0 ∙ ap (λ x. walk_next s.world.cells (register_at ts walk.0) x (register_at s.registers (walk.0 + 2))) r1 ∙ ap (λ x. walk_next s.world.cells (register_at ts walk.0) (register_at ts (walk.0 + 1)) x) r2)
      (item_alike walk h (walk_next s.world.cells (register_at s.registers walk.0) (register_at s.registers (walk.0 + 1)) (register_at s.registers (walk.0 + 2))) skip s ts p)

  -- ---- instructions

  pub row_same : (s : Running) (ts : List Value) → Close n m s.opened s.registers ts → (first count : ℕ) → IsRow n first count → take count (drop first s.registers) ≡ take count (drop first ts)
  row_same s ts p first zero h = refl
  row_same s ts p first (suc count) h = rows n m s.opened s.registers ts p first (suc count) h

  two : {X Y : Type 0} {x y : X} {u v : Y} → x ≡ y → u ≡ v → ◌≡◌ {A = X × Y} (x, u) (y, v)
  two {X} {Y} {x} {y} {u} {v} e f = ap {B = X × Y} (λ z. (z, u)) e ∙ ap {B = X × Y} (λ z. (y, z)) f

  objects : (b : Bool) (s : Running) (ts : List Value) → Close n m s.opened s.registers ts → object_for b s ≡ object_for b (with ts s)
  objects true s ts p = selves s ts p
  objects false s ts p = refl

  end_fits : (bound : ℕ) → bound ≤ n → (xs : List Value) → length (take bound xs) ≤ n
  end_fits bound h xs = let l : length (take bound xs) ≤ bound = take_short bound xs in omega (arith, h, l)

  pub effect_alike : (instr : Instr) (s : Running) (ts : List Value) → Close n m s.opened s.registers ts → Holds n (form_of instr).registers → After n m (effect a line instr s) (effect a line instr (with ts s))
  effect_alike (LoadNull to) s ts p h = value s ts p to h (λ (v : Value) at m'. gives v m') Null Null refl
  effect_alike (LoadConst to constant) s ts p h = value s ts p to h (λ (k : ℕ). constant_read (constant_at a k)) constant constant refl
  effect_alike (LoadGlobal to row) s ts p h = refl
  effect_alike (LoadCallable to name) s ts p h = value s ts p to h (λ (v : Value). meant_value v (name_at a name) ANativeMethod) _ _ (selves s ts p)
  effect_alike (LoadSignal to name) s ts p h = value s ts p to h (λ (v : Value). meant_value v (name_at a name) ASignal) _ _ (selves s ts p)
  effect_alike (Move to from) s ts p h = value s ts p to h.0 (λ (v : Value) at m'. gives v m') _ _ (reads n m s.opened s.registers ts p from.0 h.1)
  effect_alike (Store local from) s ts p h = subst (λ (w : Value). After n m (goes_on (stored_by (nat_lt local.0 s.opened) local (read s from) s)) (goes_on (stored_by (nat_lt local.0 s.opened) local w (with ts s)))) (reads n m s.opened s.registers ts p from.0 h.1) (stored_alike (nat_lt local.0 s.opened) local h.0 (read s from) s ts p)
  effect_alike (ToBool to from) s ts p h = value s ts p to h.0 (λ (v : Value) at m'. gives (Truth (is_true s.world.cells v)) m') _ _ (reads n m s.opened s.registers ts p from.0 h.1)
  effect_alike (Not to from) s ts p h = value s ts p to h.0 (λ (v : Value) at m'. gives (Truth (not (is_true s.world.cells v))) m') _ _ (reads n m s.opened s.registers ts p from.0 h.1)
  effect_alike (Unary op to from) s ts p h = value s ts p to h.0 (λ (v : Value). gives_by (unary_of op v)) _ _ (reads n m s.opened s.registers ts p from.0 h.1)
  effect_alike (Binary op to left right) s ts p h = value s ts p to h.0 (λ (v : Value × Value) at m'. gives_then (operated a.project.names (heap_at at m') op v.0 v.1) at m') (read s left, read s right) (read (with ts s) left, read (with ts s) right) (two (reads n m s.opened s.registers ts p left.0 h.1) (reads n m s.opened s.registers ts p right.0 h.2))
  effect_alike (GetField to field) s ts p h = value s ts p to h (λ (v : Value). meant_value v [] (AField field)) _ _ (selves s ts p)
  effect_alike (SetField field from sure) s ts p h = change s ts p (λ (v : Value). put_own a.project (Some (AField field)) sure v) _ _ (reads n m s.opened s.registers ts p from.0 h)
  effect_alike (GetMember to of name) s ts p h = value s ts p to h.0 (λ (v : Value). member_of a.project v (name_at a name)) _ _ (reads n m s.opened s.registers ts p of.0 h.1)
  effect_alike (GetItem to of name item) s ts p h = value s ts p to h.0 (λ (v : Value). item_of_member a v (name_at a name) (name_at a item)) _ _ (reads n m s.opened s.registers ts p of.0 h.1)
  effect_alike (SetMember of name from sure) s ts p h = change s ts p (λ (v : Value × Value). put_member a.project v.0 (name_at a name) sure v.1) (read s of, read s from) (read (with ts s) of, read (with ts s) from) (two (reads n m s.opened s.registers ts p of.0 h.0) (reads n m s.opened s.registers ts p from.0 h.1))
  effect_alike (GetIndex to of index) s ts p h = value s ts p to h.0 (λ (v : Value × Value) at m'. gives_by (index_of m'.world.cells v.0 v.1) at m') (read s of, read s index) (read (with ts s) of, read (with ts s) index) (two (reads n m s.opened s.registers ts p of.0 h.1) (reads n m s.opened s.registers ts p index.0 h.2))
  effect_alike (SetIndex of index from) s ts p h = change s ts p (λ (v : Value × (Value × Value)). put_index a.project v.0 v.1.0 v.1.1) (read s of, (read s index, read s from)) (read (with ts s) of, (read (with ts s) index, read (with ts s) from)) (two (reads n m s.opened s.registers ts p of.0 h.0) (two (reads n m s.opened s.registers ts p index.0 h.1) (reads n m s.opened s.registers ts p from.0 h.2)))
  effect_alike (Push from) s ts p h = subst (λ (w : Value). After n m (goes_on (record (kept_by (nat_lt from.0 s.opened) (read s from) s) { parts = s.parts ++ read s from ∷ [] })) (goes_on (record (kept_by (nat_lt from.0 s.opened) w (with ts s)) { parts = s.parts ++ w ∷ [] }))) (reads n m s.opened s.registers ts p from.0 h) (pushed (nat_lt from.0 s.opened) (read s from) s ts p)
  effect_alike (MakeArray to count element) s ts p h = value (record s { parts = without_so_many count s.parts }) ts p to h (λ (vs : List Value). array_of element vs) (last_so_many count s.parts) (last_so_many count s.parts) refl
  effect_alike (MakeDict to count) s ts p h = value (record s { parts = without_so_many (2 * count) s.parts }) ts p to h (λ (ps : List (Value × Value)) at m'. gives_then (new_dict_of (heap_at at m') ps) at m') (paired (last_so_many (2 * count) s.parts)) (paired (last_so_many (2 * count) s.parts)) refl
  effect_alike (Check of type) s ts p h = then_alike n m (received_by a.project false type (read s of) (spot_at a line) s.world) (received_by a.project false type (read (with ts s) of) (spot_at a line) s.world) (λ u. goes_on s) (λ u. goes_on (with ts s)) (ap (λ v. received_by a.project false type v (spot_at a line) s.world) (reads n m s.opened s.registers ts p of.0 h)) (λ u. on n m 0 s ts p)
  effect_alike (IsType to from type) s ts p h = value s ts p to h.0 (λ (v : Value) at m'. gives (Truth (is_of_type m'.world.cells type v)) m') _ _ (reads n m s.opened s.registers ts p from.0 h.1)
  effect_alike (AsType to from type) s ts p h = value s ts p to h.0 (λ (v : Value) at m'. gives_by (taken_as m'.world.cells type v) at m') _ _ (reads n m s.opened s.registers ts p from.0 h.1)
  effect_alike (FindCallee of name) s ts p h = subst (λ (w : Value). After n m (finds (read s of) (name_at a name) a line (kept_by (nat_lt of.0 s.opened) (read s of) s)) (finds w (name_at a name) a line (kept_by (nat_lt of.0 s.opened) w (with ts s)))) (reads n m s.opened s.registers ts p of.0 h) (kept_finds (nat_lt of.0 s.opened) (read s of) (name_at a name) s ts p)
  effect_alike (CallFound to args sure) s ts p h = value (unmatched (record s { callees = without_last s.callees })) ts p to h.0 (λ (vs : List Value). found_called a (last_of s.callees) (arguments sure vs)) _ _ (row_same s ts p args.first.0 args.count h.1)
  effect_alike (CallOwn to name args sure) s ts p h = value (unmatched s) ts p to h.0 (λ (v : Value × List Value). method_call a.project v.0 (name_at a name) (arguments sure v.1)) (self_of s, values_in s args) (self_of (with ts s), values_in (with ts s) args) (two (selves s ts p) (row_same s ts p args.first.0 args.count h.1))
  effect_alike (CallNative to name args) s ts p h = value (unmatched s) ts p to h.0 (λ (v : Value × List Value). native_call a.project v.0 (name_at a name) (unsure v.1)) (self_of s, values_in s args) (self_of (with ts s), values_in (with ts s) args) (two (selves s ts p) (row_same s ts p args.first.0 args.count h.1))
  effect_alike (CallValue to of args) s ts p h = value (unmatched s) ts p to h.0 (λ (v : Value × List Value). value_call a.project v.0 (unsure v.1)) (read s of, values_in s args) (read (with ts s) of, values_in (with ts s) args) (two (reads n m s.opened s.registers ts p of.0 h.1) (row_same s ts p args.first.0 args.count h.2))
  effect_alike (CallGlobal to name args) s ts p h = value (unmatched s) ts p to h.0 (λ (vs : List Value). invoked a.project (Global (name_at a name)) (unsure vs)) _ _ (row_same s ts p args.first.0 args.count h.1)
  effect_alike (CallFunction to function on_self args sure) s ts p h = value (unmatched s) ts p to h.0 (λ (v : Value × List Value). known_called (slice_get a.code.known_functions function) v.0 (arguments sure v.1)) (object_for on_self s, values_in s args) (object_for on_self (with ts s), values_in (with ts s) args) (two (objects on_self s ts p) (row_same s ts p args.first.0 args.count h.1))
  effect_alike (New to class args sure) s ts p h = value (unmatched s) ts p to h.0 (λ (vs : List Value). made_object a.project class (arguments sure vs)) _ _ (row_same s ts p args.first.0 args.count h.1)
  effect_alike (WalkValue walk from) s ts p h = walks_alike s ts p walk h.1 (λ (v : Value). walk_of v) _ _ (reads n m s.opened s.registers ts p from.0 h.0)
  effect_alike (WalkRange walk args) s ts p h = walks_alike s ts p walk h.0 (λ (vs : List Value). walk_of_span (span_in vs)) _ _ (row_same s ts p args.first.0 args.count h.1)
  effect_alike (WalkNext walk skip) s ts p h = step_alike 0 (walk_goes_on walk skip) s ts (λ w. walk_alike walk skip h (record s { world = w }) ts p)
  effect_alike (MatchStart from) s ts p h = subst (λ (w : Value). After n m (goes_on (record s { matched = read s from ∷ []; bound = [] })) (goes_on (record (with ts s) { matched = w ∷ []; bound = [] }))) (reads n m s.opened s.registers ts p from.0 h) (on n m 0 (record s { matched = read s from ∷ []; bound = [] }) ts p)
  effect_alike (MatchSame other skip) s ts p h = subst (λ (w : Value). After n m (matches_by (same_value s.world.cells (part s) (read s other)) skip a line s) (matches_by (same_value s.world.cells (part s) w) skip a line (with ts s))) (reads n m s.opened s.registers ts p other.0 h) (same_alike (same_value s.world.cells (part s) (read s other)) skip s ts p)
  effect_alike (MatchArray count or_more skip) s ts p h = matches_alike n m (is_array_of s.world.cells count or_more (last_of s.matched)) skip s ts p
  effect_alike (MatchDict skip) s ts p h = matches_alike n m (is_dict (last_of s.matched)) skip s ts p
  effect_alike (MatchKeys keys skip) s ts p h = matches_alike n m (is_dict_of s.world.cells (plain_at a.code.constants keys).items (last_of s.matched)) skip s ts p
  effect_alike (MatchItem place) s ts p h = on n m 0 (under (unwrap_or (item_in s.world.cells place (last_of s.matched)) Null) s) ts p
  effect_alike (MatchEntry key skip) s ts p h = entered_alike n m (entry_in s.world.cells (plain_at a.code.constants key).value (last_of s.matched)) skip s ts p
  effect_alike MatchDrop s ts p h = on n m 0 (record s { matched = without_last s.matched }) ts p
  effect_alike MatchBind s ts p h = on n m 0 (record s { bound = s.bound ++ part s ∷ [] }) ts p
  effect_alike Step s ts p h = step_alike 0 goes_on s ts (λ w. on n m 0 (record s { world = w }) ts p)
  effect_alike (EndUnit locals bound) s ts p h = settled_alike _ _ s.world (ap (take bound) (behind s ts p locals h.0 s.bound)) (end_fits bound h.1 (take locals s.registers ++ s.bound))
  effect_alike (Jump skip) s ts p h = on n m skip s ts p
  effect_alike (JumpUnless condition skip) s ts p h = subst (λ (w : Value). After n m (unless (is_true s.world.cells (read s condition)) skip s) (unless (is_true s.world.cells w) skip (with ts s))) (reads n m s.opened s.registers ts p condition.0 h) (unless_alike n m (is_true s.world.cells (read s condition)) skip s ts p)
  effect_alike (JumpIfOpen local skip) s ts p h = unless_alike n m (not (nat_lt local.0 s.opened)) skip s ts p
  effect_alike (Assert condition) s ts p h = subst (λ (w : Value). After n m (asserted (is_true s.world.cells (read s condition)) a line s) (asserted (is_true s.world.cells w) a line (with ts s))) (reads n m s.opened s.registers ts p condition.0 h) (asserted_alike (is_true s.world.cells (read s condition)) s ts p)
  effect_alike (Fail fault) s ts p h = refl
  effect_alike (JumpBack k) s ts p h = on n m 0 s ts p
  effect_alike (Return v) s ts p h = on n m 0 s ts p

-- ---- frames that are alike

pub close_of : (n : ℕ) (s t : Running) → AreAlike n s t → Close n (drop n s.registers) s.opened s.registers t.registers
close_of n s t alike = record { same = alike.below; reach = alike.reach; most = inl refl }

-- a register that ends a call
abbrev LeadHolds : ℕ → Lead → Type 0
LeadHolds n Forward = Unit {0}
LeadHolds n (GoesBack k) = Unit {0}
LeadHolds n (LeadLeaves v) = v.0 < n

lead_holds : (n : ℕ) (instr : Instr) → Holds n (form_of instr).registers → LeadHolds n (lead_of instr)
lead_holds n (LoadNull to) h = tt
lead_holds n (LoadConst to constant) h = tt
lead_holds n (LoadGlobal to row) h = tt
lead_holds n (LoadCallable to name) h = tt
lead_holds n (LoadSignal to name) h = tt
lead_holds n (Move to from) h = tt
lead_holds n (Store local from) h = tt
lead_holds n (ToBool to from) h = tt
lead_holds n (Not to from) h = tt
lead_holds n (Unary op to from) h = tt
lead_holds n (Binary op to left right) h = tt
lead_holds n (GetField to field) h = tt
lead_holds n (SetField field from sure) h = tt
lead_holds n (GetMember to of name) h = tt
lead_holds n (GetItem to of name item) h = tt
lead_holds n (SetMember of name from sure) h = tt
lead_holds n (GetIndex to of index) h = tt
lead_holds n (SetIndex of index from) h = tt
lead_holds n (Push from) h = tt
lead_holds n (MakeArray to count element) h = tt
lead_holds n (MakeDict to count) h = tt
lead_holds n (Check of type) h = tt
lead_holds n (IsType to from type) h = tt
lead_holds n (AsType to from type) h = tt
lead_holds n (FindCallee of name) h = tt
lead_holds n (CallFound to args sure) h = tt
lead_holds n (CallOwn to name args sure) h = tt
lead_holds n (CallNative to name args) h = tt
lead_holds n (CallValue to of args) h = tt
lead_holds n (CallGlobal to name args) h = tt
lead_holds n (CallFunction to function on_self args sure) h = tt
lead_holds n (New to class args sure) h = tt
lead_holds n (WalkValue walk from) h = tt
lead_holds n (WalkRange walk args) h = tt
lead_holds n (WalkNext walk skip) h = tt
lead_holds n (MatchStart from) h = tt
lead_holds n (MatchSame other skip) h = tt
lead_holds n (MatchArray count or_more skip) h = tt
lead_holds n (MatchDict skip) h = tt
lead_holds n (MatchKeys keys skip) h = tt
lead_holds n (MatchItem place) h = tt
lead_holds n (MatchEntry key skip) h = tt
lead_holds n MatchDrop h = tt
lead_holds n MatchBind h = tt
lead_holds n Step h = tt
lead_holds n (EndUnit locals bound) h = tt
lead_holds n (Jump skip) h = tt
lead_holds n (JumpUnless condition skip) h = tt
lead_holds n (JumpIfOpen local skip) h = tt
lead_holds n (JumpBack k) h = tt
lead_holds n (Assert condition) h = tt
lead_holds n (Return v) h = h
lead_holds n (Fail fault) h = tt

-- each instruction names registers below the number
abbrev pub AllHold : ℕ → List Op → Type 0
AllHold n ops = (i : ℕ) (op : Op) → slice_get ops i ≡ Some op → Holds n (form_of op.instr).registers

module _ (a : Setting) (n : ℕ) (one : 1 ≤ n) where
  pub record Respects (go : Goes) : Type 0 where
    pub same : (k : ℕ) (s t : Running) → AreAlike n s t → go k s ≡ go k t

  -- what looks at the world alone
  worlds : (s t : Running) → AreAlike n s t → s.world ≡ t.world
  worlds s t alike = ap (λ (u : Running). u.world) (sym alike.rest)

  selves_of : (s t : Running) → AreAlike n s t → self_of s ≡ self_of t
  selves_of s t alike = reads n (drop n s.registers) s.opened s.registers t.registers (close_of n s t alike) 0 (omega (arith, one))

  reads_of : (s t : Running) → AreAlike n s t → (r : Reg) → r.0 < n → read s r ≡ read t r
  reads_of s t alike r h = reads n (drop n s.registers) s.opened s.registers t.registers (close_of n s t alike) r.0 h

  abbrev left_by : Value → Value → World → Ending
  left_by v self w = Ok (v, sweep (received v a.outer ++ record { self = self; holds = cells_held self ++ [] } ∷ []) w)

  leaves_same : (v w : Value) (s t : Running) → v ≡ w → AreAlike n s t → leaves a v s ≡ leaves a w t
  leaves_same v w s t e alike = ap (λ x. left_by x (self_of s) s.world) e ∙ ap (λ x. left_by w x s.world) (selves_of s t alike) ∙ ap (λ x. left_by w (self_of t) x) (worlds s t alike)

  then_same : (m : List Value) (e d : Effect) (go : Goes) → After n m e d → Respects go → and_then e (λ x. go x.0 x.1) ≡ and_then d (λ x. go x.0 x.1)
  then_same m (Ok x) d go h r = r.same x.0 x.1 h.0 h.2 ∙ ap (λ (o : Effect). and_then o (λ y. go y.0 y.1)) (sym h.1)
  then_same m (Err stop) d go h r = ap (λ (o : Effect). and_then o (λ y. go y.0 y.1)) (sym h)

  -- an instruction of two frames that are alike
  pub effects : (line : ℕ) (instr : Instr) (s t : Running) → AreAlike n s t → Holds n (form_of instr).registers → After n (drop n s.registers) (effect a line instr s) (effect a line instr t)
  effects line instr s t alike named =
      subst (λ (u : Running). After n (drop n s.registers) (effect a line instr s) (effect a line instr u)) (sym alike.rest) (effect_alike a n (drop n s.registers) one line instr s t.registers (close_of n s t alike) named)

  act_same : (line : ℕ) (lead : Lead) (instr : Instr) (next again : Goes) → Holds n (form_of instr).registers → LeadHolds n lead → Respects next → Respects again → (s t : Running) → AreAlike n s t → act_by lead a line instr next again s ≡ act_by lead a line instr next again t
  act_same line Forward instr next again named leads p q s t alike =
      then_same (drop n s.registers) (effect a line instr s) (effect a line instr t) next (effects line instr s t alike named) p
  act_same line (GoesBack k) instr next again named leads p q s t alike = q.same k s t alike
  act_same line (LeadLeaves v) instr next again named leads p q s t alike = leaves_same (read s v) (read t v) s t (reads_of s t alike v leads) alike

  pub forward_same : (again : Goes) → Respects again → (at : ℕ) (ops : List Op) → AllHold n ops → (k : ℕ) (s t : Running) → AreAlike n s t → forward a again at ops k s ≡ forward a again at ops k t
  forward_same again q at [] named k s t alike = leaves_same Null Null s t refl alike
  forward_same again q at (op ∷ ops) named (suc k) s t alike = forward_same again q (suc at) ops (λ i o h. named (suc i) o h) k s t alike
  forward_same again q at (op ∷ ops) named zero s t alike =
      act_same op.line (lead_of op.instr) op.instr (forward a again (suc at) ops) (λ b. again (at - b)) (named 0 op refl) (lead_holds n op.instr (named 0 op refl))
      (record { same = λ k u v r. forward_same again q (suc at) ops (λ i o h. named (suc i) o h) k u v r }) (record { same = λ b u v r. q.same (at - b) u v r }) s t alike

  where_same : (steps : Bool) (x : Ending) (s t : Running) → AreAlike n s t → where_step steps x s ≡ where_step steps x t
  where_same true x s t alike = refl
  where_same false x s t alike = ap (λ (w : World). Err (Spent nowhere w)) (worlds s t alike)

  pub back_same : (ops : List Op) → AllHold n ops → (more : ℕ) → Respects (back a ops more)
  back_same ops named zero = record { same = λ k s t alike. ap (λ (w : World). Err (Spent nowhere w)) (worlds s t alike) }
  back_same ops named (suc more) = record {
    same = λ k s t alike. ap (λ x. where_step (step_at ops k) x s) (forward_same (back a ops more) (back_same ops named more) 0 ops named k s t alike) ∙ where_same (step_at ops k) (forward a (back a ops more) 0 ops k t) s t alike;
  }

  pub runs_same : (ops : List Op) → AllHold n ops → (place : ℕ) (s t : Running) → AreAlike n s t → runs_from a ops place s ≡ runs_from a ops place t
  runs_same ops named place s t alike =
      forward_same (back a ops (suc s.world.left)) (back_same ops named (suc s.world.left)) 0 ops named place s t alike
      ∙ ap (λ (w : World). forward a (back a ops (suc w.left)) 0 ops place t) (worlds s t alike)

-- ---- checked code

first_part : (b c : Bool) → b && c ≡ true → b ≡ true
first_part true c h = refl
first_part false c h = absurd (false≢true h)

-- the first of the seven tests of an instruction
well_names : (code : Code) (f : FunctionCode) (at : ℕ) (instr : Instr) → is_well code f at instr ≡ true → list_all (is_below (register_limit f)) (registers_in (form_of instr).registers) ≡ true
well_names code f at instr h = first_part _ _ (first_part _ _ (first_part _ _ (first_part _ _ (first_part _ _ (first_part _ _ h)))))

max_one : (k : ℕ) → (1 ≤ max 1 k) × (k ≤ max 1 k)
max_one zero = (omega arith, omega arith)
max_one (suc k) = (omega arith, omega arith)

named_in : (code : Code) → first_bad code ≡ None → (i : ℕ) (f : FunctionCode) → slice_get code.functions i ≡ Some f → AllHold (frame_size f) f.ops
named_in code checked i f here at op there =
    holds (frame_size f) (form_of op.instr).registers (wider (register_limit f) (frame_size f) (registers_in (form_of op.instr).registers) (max_one (register_limit f)).1 (well_names code f at op.instr (each_is_well code checked i at f op here there)))

after_alike : (n : ℕ) (m : List Value) (e d : Effect) → After n m e d → AlikeAfter n e d
after_alike n m (Ok x) d h = (h.0, h.1, h.2)
after_alike n m (Err stop) d h = h

after_stays : (n : ℕ) (m : List Value) (e d : Effect) → After n m e d → Each (λ x. Stays n m x.1.registers × (x.1.opened ≤ n)) e
after_stays n m (Ok x) d h = (h.3, h.2.reach)
after_stays n m (Err stop) d h = tt

pub instructions_read_no_other : (code : Code) → first_bad code ≡ None → InstructionsReadNoOther code
instructions_read_no_other code checked i at line f op a s t here there alike =
    after_alike (frame_size f) (drop (frame_size f) s.registers) (effect a line op.instr s) (effect a line op.instr t)
    (effects a (frame_size f) (max_one (register_limit f)).0 line op.instr s t alike (named_in code checked i f here at op there))

pub runs_read_no_other : (code : Code) → first_bad code ≡ None → RunsReadNoOther code
runs_read_no_other code checked i place f a s t here alike = runs_same a (frame_size f) (max_one (register_limit f)).0 f.ops (named_in code checked i f here) place s t alike

pub leaves_no_other : (code : Code) → first_bad code ≡ None → LeavesNoOther code
leaves_no_other code checked i at line f op a s here there reach =
    after_stays (frame_size f) (drop (frame_size f) s.registers) (effect a line op.instr s) (effect a line op.instr s)
    (effects a (frame_size f) (max_one (register_limit f)).0 line op.instr s s (record { below = refl; rest = refl; reach = reach }) (named_in code checked i f here at op there))
