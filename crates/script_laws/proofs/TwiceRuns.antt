-- Runs that differ in the steps that they are allowed.
use Rattle.std.proofs.Common.{◌≡◌, ◌≤◌, ◌<◌, ◌+◌, ◌-◌, refl, sym, ◌∙◌, ap, subst, ℕ, List, [], ◌∷◌, map, Option, Some, None, Result, Ok, Err, Bool, true, false, arith}
use Rattle.std.proofs.lemmas.Bool.{false≢true}
use Rattle.std.specs.Prelude.{if◌then◌else◌, option_map, IfSome}
use Rattle.gd_syntax.specs.declared.tree.expr.Expr.{Expr}
use Rattle.gd_syntax.specs.declared.tree.member.Func.{Func}
use Rattle.gd_syntax.specs.declared.tree.member.Param.{Param}
use Rattle.gd_syntax.specs.declared.tree.statement.Stmt.{Stmt}
use Rattle.variant_values.specs.declared.classes.ClassTag.{ClassTag}
use Rattle.variant_values.specs.declared.values.Serial.{Serial}
use Rattle.variant_values.specs.declared.values.Value.{Value}
use Rattle.variant_values.specs.declared.values.Value.TheVariants.{Object}
use Rattle.variant_values.specs.Heaps.{cell_at, is_living, objects_in}
use Rattle.variant_values.specs.Trees.{freed}
use Rattle.variant_values.specs.Places.{is_counted}
use Rattle.script_meaning.specs.State.{World, Frame, Spot, Stop, Failed, Spent, with_heap, heap_of, sweep}
use Rattle.script_meaning.specs.Projects.{Project, Ending, Routine, Argument}
use Rattle.script_meaning.specs.Meanings.{Means}
use Rattle.script_meaning.specs.Objects.{make}
use Rattle.script_meaning.specs.Exprs.{expr}
use Rattle.script_meaning.specs.Statements.{stmt, initial}
use Rattle.script_meaning.specs.Functions.{Bodies, FunctionMeans, ParamMeans, function_means, param_means, script_calls}
use Rattle.script_meaning.specs.Runs.{Ended, Faulted, empty_world, freed_in, all_freed, instance_freed, last_world, run_by, run_within}
use Rattle.script_laws.specs.Allowance.{Begins, world_of, is_spent, more_left, is_over, steps_of, AreOfTrees}
use Rattle.script_laws.proofs.TwiceForm.{Agrees, Grows, Needs, later, text_by, begins_same, Each, Maybe}
use Rattle.script_laws.proofs.TwiceCalls.{endings, makings, twice_make}
use Rattle.script_laws.proofs.TwiceExprs.{AllTwice}
use Rattle.script_laws.proofs.TwiceStatements.{RunsTwice}
use Rattle.script_laws.proofs.TwiceFunctions.{FunctionTwice, BodiesTwice, twice_scripts}
use Rattle.script_laws.proofs.TwiceTrees.{expr_twice, stmt_twice}

module _ (k : ℕ) where
  -- ---- the end of a run

  freed_later : (s : Serial) (w : World) → freed_in s (later k w) ≡ later k (freed_in s w)
  freed_later s w = by (is_living w.cells s.0)
    where
      by : (b : Bool) → (if b then with_heap (later k w) (freed (heap_of [] w) s.0) else later k w) ≡ later k (if b then with_heap w (freed (heap_of [] w) s.0) else w)
      by true = refl
      by false = refl

  all_freed_later : (ss : List Serial) (w : World) → all_freed ss (later k w) ≡ later k (all_freed ss w)
  all_freed_later [] w = refl
  all_freed_later (s ∷ ss) w = ap (all_freed ss) (freed_later s w) ∙ all_freed_later ss (freed_in s w)

  instance_later : (v : Value) (w : World) → instance_freed v (later k w) ≡ later k (instance_freed v w)
  instance_later (Object s) w = by (is_counted (cell_at w.cells s.0))
    where
      by : (b : Bool) → (if b then later k w else freed_in s (later k w)) ≡ later k (if b then w else freed_in s w)
      by true = refl
      by false = freed_later s w
  instance_later v w = refl

  last_later : (v : Value) (w : World) → last_world v (later k w) ≡ later k (last_world v w)
  last_later v w = ap (λ z. sweep [] (instance_freed v z)) (all_freed_later w.queued w) ∙ ap (sweep []) (instance_later v (all_freed w.queued w))

  -- ---- runs

  run_same : (n : ℕ) (r s : Result (Value × Value × World) Stop) (t : List ℕ) (c : ℕ) → Agrees k makings t c r s → is_over (run_by n r).end ≡ true → run_by (n + k) s ≡ run_by n r
  run_same n (Ok (v, x, w)) s t c a over =
      let steps : (n + k) - (w.left + k) ≡ n - w.left = omega arith in
      ap (run_by (n + k)) a.same ∙ ap (λ (z : ℕ). record { text = w.printed; end = Ended z (objects_in (last_world v (later k w)).cells) }) steps
      ∙ ap (λ (z : World). record { text = w.printed; end = Ended (n - w.left) (objects_in z.cells) }) (last_later v w)
  run_same n (Err (Failed kind spot w)) s t c a over =
      let steps : (n + k) - (w.left + k) ≡ n - w.left = omega arith in
      ap (run_by (n + k)) a.same ∙ ap (λ (z : ℕ). record { text = w.printed; end = Faulted kind spot z }) steps
  run_same n (Err (Spent spot w)) s t c a over = absurd (false≢true over)

  text_is : (n : ℕ) (r : Result (Value × Value × World) Stop) → (run_by n r).text ≡ text_by makings r
  text_is n (Ok (v, x, w)) = refl
  text_is n (Err (Failed kind spot w)) = refl
  text_is n (Err (Spent spot w)) = refl

  run_front : (n m : ℕ) (r s : Result (Value × Value × World) Stop) (t : List ℕ) (c : ℕ) → Agrees k makings t c r s → Begins (run_by n r).text (run_by m s).text
  run_front n m (Ok (v, x, w)) s t c a = subst (Begins w.printed) (sym (ap (λ z. (run_by m z).text) a.same)) (begins_same w.printed)
  run_front n m (Err (Failed kind spot w)) s t c a = subst (Begins w.printed) (sym (ap (λ z. (run_by m z).text) a.same)) (begins_same w.printed)
  run_front n m (Err (Spent spot w)) s t c a = subst (Begins w.printed) (sym (text_is m s)) a.same.text

  run_spent : (n : ℕ) (r s : Result (Value × Value × World) Stop) (t : List ℕ) (c : ℕ) → Agrees k makings t c r s → is_over (run_by n r).end ≡ false → steps_of (run_by n r).end ≡ n
  run_spent n (Ok (v, x, w)) s t c a over = absurd (false≢true (sym over))
  run_spent n (Err (Failed kind spot w)) s t c a over = absurd (false≢true (sym over))
  run_spent n (Err (Spent spot w)) s t c a over = let none = a.same.none in omega arith

  needs_more : (n : ℕ) (s : Result (Value × Value × World) Stop) → Needs k makings s → is_over (run_by (n + k) s).end ≡ true → n < steps_of (run_by (n + k) s).end
  needs_more n (Ok (v, x, w)) needs over = omega arith
  needs_more n (Err (Failed kind spot w)) needs over = omega arith
  needs_more n (Err (Spent spot w)) needs over = absurd (false≢true over)

  run_needs : (n : ℕ) (r s : Result (Value × Value × World) Stop) (t : List ℕ) (c : ℕ) → Agrees k makings t c r s → is_over (run_by n r).end ≡ false → is_over (run_by (n + k) s).end ≡ true → n < steps_of (run_by (n + k) s).end
  run_needs n (Ok (v, x, w)) s t c a over = absurd (false≢true (sym over))
  run_needs n (Err (Failed kind spot w)) s t c a over = absurd (false≢true (sym over))
  run_needs n (Err (Spent spot w)) s t c a over = needs_more n s a.same.needs

  -- ---- bodies of trees

  module _ (P : Project) where
    params_twice : (class : ClassTag) (all : List Param) → Each {A = ParamMeans} (λ p. Maybe (AllTwice k) p.default) (map (param_means P class) all)
    params_twice class [] = tt
    params_twice class (p ∷ ps) = (by (initial p.declared), params_twice class ps)
      where
        by : (o : Option Expr) → Maybe (AllTwice k) (option_map (expr P) o)
        by None = tt
        by (Some e) = expr_twice k P e

    each_stmt : (all : List Stmt) → Each (RunsTwice k) (map (stmt P) all)
    each_stmt [] = tt
    each_stmt (s ∷ ss) = (stmt_twice k P s, each_stmt ss)

    function_twice : (class : ClassTag) (f : Func) → FunctionTwice k (function_means P class f)
    function_twice class f = record { params = params_twice class f.params; body = each_stmt f.body }

    found_function : (o : Option FunctionMeans) → IfSome o (λ f. (owner : ClassTag) × (tree : Func) × (f ≡ function_means P owner tree)) → Maybe (FunctionTwice k) o
    found_function None h = tt
    found_function (Some f) h = subst (FunctionTwice k) (sym h.2) (function_twice h.0 h.1)

    found_start : (o : Option Means) → IfSome o (λ e. (tree : Expr) × (e ≡ expr P tree)) → Maybe (AllTwice k) o
    found_start None h = tt
    found_start (Some e) h = subst (AllTwice k) (sym h.1) (expr_twice k P h.0)

    bodies_twice : (bodies : Bodies) → AreOfTrees P bodies → BodiesTwice k bodies
    bodies_twice bodies trees = record { function = λ class name. found_function _ (trees.function class name); start = λ class name. found_start _ (trees.start class name) }

    made_twice : (bodies : Bodies) → AreOfTrees P bodies → (frames : ℕ) (class : ClassTag) (n : ℕ)
        → Agrees k makings [] n (make P (script_calls P bodies frames) [] None class [] (empty_world n)) (make P (script_calls P bodies frames) [] None class [] (empty_world (n + k)))
    made_twice bodies trees frames class n = twice_make k P (script_calls P bodies frames) (twice_scripts k P bodies (bodies_twice bodies trees) frames) [] None class [] (empty_world n)

module _ (P : Project) (bodies : Bodies) (trees : AreOfTrees P bodies) (frames : ℕ) (class : ClassTag) (n m : ℕ) (le : n ≤ m) where
  -- the steps that the second run is allowed beyond the first
  abbrev extra : ℕ
  extra = m - n

  reaches : n + extra ≡ m
  reaches = omega arith

  abbrev first : Result (Value × Value × World) Stop
  first = make P (script_calls P bodies frames) [] None class [] (empty_world n)

  abbrev second : ℕ → Result (Value × Value × World) Stop
  second j = make P (script_calls P bodies frames) [] None class [] (empty_world j)

  pub same_run : is_over (run_within P bodies frames class n).end ≡ true → run_within P bodies frames class m ≡ run_within P bodies frames class n
  same_run over = subst (λ (j : ℕ). run_by j (second j) ≡ run_by n first) reaches (run_same extra n first (second (n + extra)) [] n (made_twice extra P bodies trees frames class n) over)

  pub front_run : Begins (run_within P bodies frames class n).text (run_within P bodies frames class m).text
  front_run = subst (λ (j : ℕ). Begins (run_by n first).text (run_by j (second j)).text) reaches (run_front extra n (n + extra) first (second (n + extra)) [] n (made_twice extra P bodies trees frames class n))

  pub needy_run : is_over (run_within P bodies frames class n).end ≡ false → is_over (run_within P bodies frames class m).end ≡ true → n < steps_of (run_within P bodies frames class m).end
  needy_run = subst (λ (j : ℕ). is_over (run_by n first).end ≡ false → is_over (run_by j (second j)).end ≡ true → n < steps_of (run_by j (second j)).end) reaches (run_needs extra n first (second (n + extra)) [] n (made_twice extra P bodies trees frames class n))

pub spent_run : (P : Project) (bodies : Bodies) → AreOfTrees P bodies → (frames : ℕ) (class : ClassTag) (n : ℕ) → is_over (run_within P bodies frames class n).end ≡ false → steps_of (run_within P bodies frames class n).end ≡ n
spent_run P bodies trees frames class n = run_spent 0 n (make P (script_calls P bodies frames) [] None class [] (empty_world n)) (make P (script_calls P bodies frames) [] None class [] (empty_world (n + 0))) [] n (made_twice 0 P bodies trees frames class n)

-- whatever a run gives, the steps taken are those of the allowance that are not left
within_by : (n : ℕ) (r : Result (Value × Value × World) Stop) → steps_of (run_by n r).end ≤ n
within_by n (Ok (instance, returned, w)) = omega arith
within_by n (Err (Failed kind spot w)) = omega arith
within_by n (Err (Spent spot w)) = omega arith

pub within_run : (P : Project) (bodies : Bodies) (frames : ℕ) (class : ClassTag) (n : ℕ) → steps_of (run_within P bodies frames class n).end ≤ n
within_run P bodies frames class n = within_by n (make P (script_calls P bodies frames) [] None class [] (empty_world n))

-- ---- calls

call_same : (k : ℕ) (r s : Ending) (t : List ℕ) (n : ℕ) → Agrees k endings t n r s → is_spent r ≡ false → s ≡ more_left k r
call_same k (Ok (v, w)) s t n a over = a.same
call_same k (Err (Failed kind spot w)) s t n a over = a.same
call_same k (Err (Spent spot w)) s t n a over = absurd (false≢true (sym over))

call_text : (r : Ending) (t : List ℕ) (n : ℕ) → Grows endings t n r → Begins t (world_of r).printed
call_text (Ok (v, w)) t n g = g.text
call_text (Err (Failed kind spot w)) t n g = g.text
call_text (Err (Spent spot w)) t n g = g.text

call_left : (r : Ending) (t : List ℕ) (n : ℕ) → Grows endings t n r → (world_of r).left ≤ n
call_left (Ok (v, w)) t n g = g.left
call_left (Err (Failed kind spot w)) t n g = g.left
call_left (Err (Spent spot w)) t n g = g.left

call_spent : (k : ℕ) (r s : Ending) (t : List ℕ) (n : ℕ) → Agrees k endings t n r s → is_spent r ≡ true → (world_of r).left ≡ 0
call_spent k (Ok (v, w)) s t n a over = absurd (false≢true over)
call_spent k (Err (Failed kind spot w)) s t n a over = absurd (false≢true over)
call_spent k (Err (Spent spot w)) s t n a over = a.same.none

module _ (P : Project) (bodies : Bodies) (trees : AreOfTrees P bodies) (depth : ℕ) (frames : List Frame) (unit : Option Spot) (r : Routine) (self : Value) (args : List Argument) (w : World) where
  abbrev called : ℕ → Ending
  called k = script_calls P bodies depth frames unit r self args (later k w)

  abbrev plain : Ending
  plain = script_calls P bodies depth frames unit r self args w

  agreed : (k : ℕ) → Agrees k endings w.printed w.left plain (called k)
  agreed k = (twice_scripts k P bodies (bodies_twice k P bodies trees) depth).at frames unit r self args w

  pub same_call : (k : ℕ) → is_spent plain ≡ false → called k ≡ more_left k plain
  same_call k = call_same k plain (called k) w.printed w.left (agreed k)

  pub call_prints : Begins w.printed (world_of plain).printed
  call_prints = call_text plain w.printed w.left (agreed 0).grows

  pub call_steps : (world_of plain).left ≤ w.left
  call_steps = call_left plain w.printed w.left (agreed 0).grows

  pub spent_call : is_spent plain ≡ true → (world_of plain).left ≡ 0
  spent_call = call_spent 0 plain (called 0) w.printed w.left (agreed 0)
