-- Statements with blocks keep a law, and so does every tree.
use Rattle.std.proofs.Common.{ℕ, zero, suc, Bool, true, false, List, [], ◌∷◌, ◌++◌, length, map, sym, subst, Option, Some, None, Result, Ok, Err}
use Rattle.std.specs.Prelude.{option_map}
use Rattle.std.specs.List.{AllByRecursion}
use Rattle.folder_meaning.specs.declared.script_type.ScriptType.{ScriptType}
use Rattle.gd_syntax.specs.declared.tree.type_name.Identifier.{Identifier}
use Rattle.variant_values.specs.declared.faults.RunFault.TheVariants.{BadType}
use Rattle.variant_values.specs.declared.values.Value.{Value}
use Rattle.script_meaning.specs.State.{Local, opens, World, Spot, Stop, Spent, and_then, step}
use Rattle.script_meaning.specs.Projects.{Project}
use Rattle.script_meaning.specs.Types.{fits_at_run}
use Rattle.script_meaning.specs.Meanings.{Around, Here, Moment, Given-to, Means, Walk, site_of}
use Rattle.script_meaning.specs.Exprs.{truth_of}
use Rattle.script_meaning.specs.Patterns.{Matched, any_matches}
use Rattle.script_meaning.specs.Statements.{Now, Next, Flowing, Runs, settled, sequence, block_with, block, next_turn, next_of, turn_by, turn_of, walked, turns, admits, hidden, BranchRuns, MatchRuns, Picked, pick_by, picked, run_picked, spot_at, unit_at, received_by, turn_opens, tested, branches, run_if, run_while, run_for, run_match}
use Rattle.script_laws.proofs.Law.{Law}
use Rattle.script_laws.proofs.Moments.{At, Good, Locals, Ready, bind, calm, carry, done, on}
use Rattle.script_laws.proofs.MemberLaws.{IsLawful}
use Rattle.script_laws.proofs.ExprLaws.{IsKept, WalkReady}
use Rattle.script_laws.proofs.PatternLaws.{Bound, IsMatch, any_kept, locals_both}
use Rattle.script_laws.proofs.StatementLaws.{InNow, Comes, on_then, comes_to, stops, with_those, unit_ends, FlowReady, IsRun, AllRun, closes, sequence_kept, block_with_kept, block_kept, choose_kept, OtherRun, otherwise_kept, turn_kept, steps, unit_at_here, evaluated}
use Rattle.gd_syntax.specs.declared.tree.expr.Expr.{Expr}
use Rattle.gd_syntax.specs.declared.tree.pattern.Pattern.{Pattern}
use Rattle.gd_syntax.specs.declared.tree.statement.Simple.{Simple}
use Rattle.gd_syntax.specs.declared.tree.statement.Simple.TheVariants as simply
use Rattle.gd_syntax.specs.declared.tree.statement.Branch.{Branch}
use Rattle.gd_syntax.specs.declared.tree.statement.MatchBranch.{MatchBranch}
use Rattle.gd_syntax.specs.declared.tree.statement.Stmt.{Stmt}
use Rattle.gd_syntax.specs.declared.tree.statement.Stmt.TheOpen.{Stmt-F, Branch-F, MatchBranch-F}
use Rattle.gd_syntax.specs.declared.tree.statement.Stmt.TheFolds.{fold-Stmt, fold-Branch, fold-MatchBranch, fold-roll-Stmt, fold-roll-Branch, fold-roll-MatchBranch, ind-Stmt, map-Stmt, map-Branch, map-MatchBranch}
use Rattle.script_meaning.specs.Patterns.{pattern}
use Rattle.script_meaning.specs.Statements.{branch_step, expr_of, match_step, simple, stmt, stmt_step, initial}
use Rattle.script_laws.proofs.ExprLaws.{expr_kept}
use Rattle.script_laws.proofs.PatternLaws.{pattern_kept}
use Rattle.script_laws.proofs.StatementForms.{NextKnown, OptionalKept, assert_kept, assign_kept, break_kept, const_kept, continue_kept, expr_run, hidden_known, next_known, pass_kept, return_kept, var_kept}

module _ (L : Law) where
  pub record IsBranch (b : BranchRuns) : Type 0 where
    pub condition : IsKept L b.condition
    pub body : AllRun L b.body

  pub record IsMatchRuns (b : MatchRuns) : Type 0 where
    pub patterns : AllByRecursion (IsMatch L) b.patterns
    pub body : AllRun L b.body

  abbrev PickedReady : Picked → Moment → Type 0
  PickedReady None m = Unit {0}
  PickedReady (Some (ls, body)) m = Locals L m.world ls × AllRun L body

  pick_kept : (h : Here) (m : Moment) (o : Matched) (body : List Runs) (rest : Given-to Picked) → At L h m.world → Bound L o m → AllRun L body → Good L true (site_of h) m PickedReady (rest h m) → Good L true (site_of h) m PickedReady (pick_by o body rest h m)
  pick_kept h m (Some ls) body rest at k l r = done L at.site (k, l)
  pick_kept h m None body rest at k l r = r

  picked_kept : (bs : List MatchRuns) (v : Value) (h : Here) (m : Moment) → AllByRecursion IsMatchRuns bs → At L h m.world → L.Known m.world v → Good L true (site_of h) m PickedReady (picked bs v h m)
  picked_kept [] v h m k at r = done L at.site tt
  picked_kept (b ∷ bs) v h m k at r =
      bind L (any_matches b.patterns v h m) _ (any_kept L b.patterns v h m k.0.patterns at r) (λ o n q z. pick_kept h n o b.body (picked bs v) (on L at q) z k.0.body (picked_kept bs v h n k.1 (on L at q) (q.goes.stays v r)))

  module _ (project : Project) (lawful : IsLawful L project) (a : Around) (first : World) where
    abbrev Flows : Flowing → Type 0
    Flows r = Comes L a first (FlowReady L a first) r

    abbrev Now-so : Now → Type 0
    Now-so s = InNow L a first s.locals s.world

    spent : {A : Type 0} {K : A → Type 0} (spot : Spot) (s : Now) → Now-so s → Comes L a first K (Err (Spent spot s.world))
    spent spot s n = record { comes = record { fine = n.fine; then = n.since } }

    picked_run : (o : Picked) (locals : List Local) (m : Moment) → InNow L a first locals m.world → PickedReady o m → Flows (run_picked o a locals m.world)
    picked_run None locals m n k = comes_to L (unit_ends L n)
    picked_run (Some (ls, body)) locals m n k =
        let s : Now = settled a.outer a (locals ++ ls) m.world in
        on_then L (sequence body a s) _ (sequence_kept L body a first s k.1 (unit_ends L (with_those L (locals ++ ls) n (locals_both L m.world locals ls n.known k.0)))) (λ flow f. comes_to L (closes L a first (length locals) flow f))

    -- ---- tests

    tested_kept : (line : ℕ) (c : Means) (w : World) (s : Now) (go : Bool → Now → Flowing) → IsKept L c → InNow L a first s.locals w → ((b : Bool) (now : Now) → Now-so now → Flows (go b now)) → Flows (tested project a line c w s go)
    tested_kept line c w s go k n f =
        let h : Here = unit_at project a line s in
        let m : Moment = record { held = []; world = w } in
        on_then L (c.value h m) _ (evaluated L project h m (Ready L (site_of h)) (c.value h m) n (k.value h m (unit_at_here L project line s w n))) (λ x z. f (truth_of x.0 x.1) (settled a.outer a s.locals x.1.world) (unit_ends L z.now))

    branches_kept : (bs : List BranchRuns) (o : Option (List Runs)) (s : Now) → AllByRecursion IsBranch bs → OtherRun L o → Now-so s → Flows (branches project bs o a s)
    branches_kept [] o s k l n = otherwise_kept L o a first s l n
    branches_kept (b ∷ bs) o s k l n = tested_kept b.place.line b.condition s.world s _ k.0.condition n (λ t now z.
        choose_kept L t (block b.body a) (branches project bs o a) now z (λ at q. block_kept L b.body a first at k.0.body q) (λ at q. branches_kept bs o at k.1 l q))

    if_kept : (line : ℕ) (bs : List BranchRuns) (o : Option (List Runs)) (s : Now) → AllByRecursion IsBranch bs → OtherRun L o → Now-so s → Flows (run_if project line bs o a s)
    if_kept line bs o s k l n = on_then L (step (spot_at project a line) s.world) _ (steps L (spot_at project a line) s.world n) (λ u z. branches_kept bs o (record s { world = u }) k l z)

    -- ---- loops

    turns_kept : (spot : Spot) (line : ℕ) (c : Means) (body : List Runs) (left : ℕ) (s : Now) → IsKept L c → AllRun L body → Now-so s → Flows (turns a spot (tested project a line c) body left s)
    turns_kept spot line c body zero s k l n = spent spot s n
    turns_kept spot line c body (suc left) s k l n = on_then L (step spot s.world) _ (steps L spot s.world n) (λ u z. tested_kept line c u s _ k z (λ b now y.
        choose_kept L b (λ at. and_then (block body a at) (next_turn (turns a spot (tested project a line c) body left))) (λ at. Ok (Next at)) now y
        (λ at q. on_then L (block body a at) _ (block_kept L body a first at l q) (λ flow f. turn_kept L (turns a spot (tested project a line c) body left) flow f (λ t r. turns_kept spot line c body left t k l r)))
        (λ at q. comes_to L q)))

    while_kept : (line : ℕ) (c : Means) (body : List Runs) (s : Now) → IsKept L c → AllRun L body → Now-so s → Flows (run_while project line c body a s)
    while_kept line c body s k l n = on_then L (step (spot_at project a line) s.world) _ (steps L (spot_at project a line) s.world n) (λ u z. turns_kept (spot_at project a line) line c body u.left (record s { world = u }) k l z)

    module _ (spot : Spot) (opening : Value → World → Result (List Local) Stop) (body : List Runs) (opens : (v : Value) (locals : List Local) (w : World) → InNow L a first locals w → L.Known w v → Comes L a first (Locals L w) (opening v w)) (l : AllRun L body) where
      next_kept : (o : Option (Value × Walk)) (more : Walk → Now → Flowing) (s : Now) → Now-so s → NextKnown L s.world o → ((walk : Walk) (t : Now) → Now-so t → Flows (more walk t))
          → Flows (turn_by (λ v rest now. turn_of a (opening v now.world) body (more rest) now) o s)
      next_kept None more s n k f = comes_to L n
      next_kept (Some (v, rest)) more s n k f = on_then L (opening v s.world) _ (opens v s.locals s.world n k) (λ new r.
          on_then L (block_with new body a s) _ (block_with_kept L new body a first s l n r) (λ flow z. turn_kept L (more rest) flow z (λ t q. f rest t q)))

      walked_kept : (left : ℕ) (walk : Walk) (s : Now) → Now-so s → Flows (walked a spot opening body left walk s)
      walked_kept zero walk s n = spent spot s n
      walked_kept (suc left) walk s n = on_then L (step spot s.world) _ (steps L spot s.world n) (λ w z.
          next_kept (next_of w.cells walk) (walked a spot opening body left) (record s { world = w }) z (next_known L w walk z.fine) (λ rest t q. walked_kept left rest t q))

    opens_if : (b : Bool) (spot : Spot) (name : List ℕ) (type : ScriptType) (v : Value) (locals : List Local) (w : World) → InNow L a first locals w → L.Known w v → Comes L a first (Locals L w) (and_then (admits b spot w) (λ fits. Ok (opens name type v)))
    opens_if true spot name type v locals w n k = comes_to L ((k, tt), tt)
    opens_if false spot name type v locals w n k = stops L BadType spot n

    opens_by : (fits : Bool) (spot : Spot) (name : List ℕ) (type : ScriptType) (v : Value) (locals : List Local) (w : World) → InNow L a first locals w → L.Known w v → Comes L a first (Locals L w) (and_then (received_by project fits type v spot w) (λ fits. Ok (opens name type v)))
    opens_by true spot name type v locals w n k = comes_to L ((k, tt), tt)
    opens_by false spot name type v locals w n k = opens_if (fits_at_run w.cells type v) spot name type v locals w n k

    for_kept : (line : ℕ) (name : Identifier) (subject : Means) (body : List Runs) (s : Now) → IsKept L subject → AllRun L body → Now-so s → Flows (run_for project line name subject body a s)
    for_kept line name subject body s k l n = on_then L (step (spot_at project a line) s.world) _ (steps L (spot_at project a line) s.world n) (λ u z.
        let h : Here = unit_at project a line s in
        let m : Moment = record { held = []; world = u } in
        on_then L (subject.walk h m) _ (evaluated L project h m (WalkReady L (site_of h)) (subject.walk h m) z (k.walk h m (unit_at_here L project line s u z))) (λ x y.
        let locals : List Local = s.locals ++ hidden x.0.1 in
        let known : Locals L x.1.world locals = locals_both L x.1.world s.locals (hidden x.0.1) y.now.known (hidden_known L (site_of h) x.1 x.0.1 y.is) in
        on_then L (walked a h.spot (turn_opens project a h.spot name.name (project.type_at a.class name.place) subject.place) body x.1.world.left x.0.0 (settled a.outer a locals x.1.world)) _
        (walked_kept h.spot (turn_opens project a h.spot name.name (project.type_at a.class name.place) subject.place) body (λ v ls w q r. opens_by (project.fits_at a.class subject.place) h.spot name.name (project.type_at a.class name.place) v ls w q r) l
        x.1.world.left x.0.0 (settled a.outer a locals x.1.world) (unit_ends L (with_those L locals y.now known)))
        (λ flow f. comes_to L (closes L a first (length s.locals) flow f))))

    match_kept : (line : ℕ) (subject : Means) (bs : List MatchRuns) (s : Now) → IsKept L subject → AllByRecursion IsMatchRuns bs → Now-so s → Flows (run_match project line subject bs a s)
    match_kept line subject bs s k l n = on_then L (step (spot_at project a line) s.world) _ (steps L (spot_at project a line) s.world n) (λ u z.
        let h : Here = unit_at project a line s in
        let m : Moment = record { held = []; world = u } in
        on_then L (subject.value h m) _ (evaluated L project h m (Ready L (site_of h)) (subject.value h m) z (k.value h m (unit_at_here L project line s u z))) (λ x y.
        on_then L (picked bs x.0 h x.1) _ (evaluated L project h x.1 PickedReady (picked bs x.0 h x.1) y.now (calm L (picked bs x.0 h x.1) (picked_kept bs x.0 h x.1 l (unit_at_here L project line s x.1.world y.now) y.is.known))) (λ p q.
        let locals : List Local = s.locals ++ hidden (x.0 ∷ []) in
        let known : Locals L p.1.world locals = locals_both L p.1.world s.locals (hidden (x.0 ∷ [])) q.now.known (((carry L q.passed y.is).known, tt), tt) in
        on_then L (run_picked p.0 a locals p.1.world) _ (picked_run p.0 locals p.1 (with_those L locals q.now known) q.is) (λ flow f. comes_to L (closes L a first (length s.locals) flow f)))))

  -- ---- trees

  module _ (project : Project) (lawful : IsLawful L project) where
    pub optional_expr : (o : Option Expr) → OptionalKept L (option_map (expr_of project) o)
    optional_expr None = tt
    optional_expr (Some e) = expr_kept L project lawful e

    simple_kept : (x : Simple) → IsRun L (simple project x)
    simple_kept (simply.Pass place) = record { runs = λ a first s n. pass_kept L project lawful a first s n place.line }
    simple_kept (simply.Break place) = record { runs = λ a first s n. break_kept L project lawful a first s n place.line }
    simple_kept (simply.Continue place) = record { runs = λ a first s n. continue_kept L project lawful a first s n place.line }
    simple_kept (simply.Return place e) = record { runs = λ a first s n. return_kept L project lawful a first s n place.line (option_map (expr_of project) e) (optional_expr e) }
    simple_kept (simply.Var v) = record { runs = λ a first s n. var_kept L project lawful a first s n v.place.line v.name (option_map (expr_of project) (initial v.declared)) (optional_expr (initial v.declared)) }
    simple_kept (simply.Const c) = record { runs = λ a first s n. const_kept L project lawful a first s n c.place.line c.name }
    simple_kept (simply.Assert place c message) = record { runs = λ a first s n. assert_kept L project lawful a first s n place.line (expr_of project c) (option_map (expr_of project) message) (expr_kept L project lawful c) (optional_expr message) }
    simple_kept (simply.Assign place to op e) = record { runs = λ a first s n. assign_kept L project lawful a first s n place.line (expr_of project to) op (expr_of project e) (expr_kept L project lawful to) (expr_kept L project lawful e) }
    simple_kept (simply.Expr place e) = record { runs = λ a first s n. expr_run L project lawful a first s n place.line (expr_of project e) (expr_kept L project lawful e) }

    all_simple : (all : List Simple) → AllRun L (map (simple project) all)
    all_simple [] = tt
    all_simple (x ∷ xs) = (simple_kept x, all_simple xs)

    all_patterns : (ps : List Pattern) → AllByRecursion (IsMatch L) (map (pattern project) ps)
    all_patterns [] = tt
    all_patterns (p ∷ ps) = (pattern_kept L project lawful p, all_patterns ps)

    abbrev running : Stmt → Runs
    running = fold-Stmt Runs BranchRuns MatchRuns (stmt_step project) (branch_step project) (match_step project)

    abbrev branching : Branch → BranchRuns
    branching = fold-Branch Runs BranchRuns MatchRuns (stmt_step project) (branch_step project) (match_step project)

    abbrev picking : MatchBranch → MatchRuns
    picking = fold-MatchBranch Runs BranchRuns MatchRuns (stmt_step project) (branch_step project) (match_step project)

    abbrev KeptStmt : Type 0
    KeptStmt = (s : Stmt) × IsRun L (running s)

    abbrev KeptBranch : Type 0
    KeptBranch = (b : Branch) × IsBranch (branching b)

    abbrev KeptMatch : Type 0
    KeptMatch = (b : MatchBranch) × IsMatchRuns (picking b)

    each_stmt : (all : List KeptStmt) → AllRun L (map running (map (λ (s : KeptStmt). s.0) all))
    each_stmt [] = tt
    each_stmt (s ∷ ss) = (s.1, each_stmt ss)

    each_branch : (all : List KeptBranch) → AllByRecursion IsBranch (map branching (map (λ (b : KeptBranch). b.0) all))
    each_branch [] = tt
    each_branch (b ∷ bs) = (b.1, each_branch bs)

    each_match : (all : List KeptMatch) → AllByRecursion IsMatchRuns (map picking (map (λ (b : KeptMatch). b.0) all))
    each_match [] = tt
    each_match (b ∷ bs) = (b.1, each_match bs)

    stmt_layer : (y : Stmt-F KeptStmt KeptBranch KeptMatch)
        → IsRun L (stmt_step project (map-Stmt Stmt Branch MatchBranch Runs BranchRuns MatchRuns running branching picking (map-Stmt KeptStmt KeptBranch KeptMatch Stmt Branch MatchBranch (λ s. s.0) (λ b. b.0) (λ b. b.0) y)))
    stmt_layer (Stmt-F.Line place all) = record { runs = λ a first s n. sequence_kept L _ a first s (all_simple all) n }
    stmt_layer (Stmt-F.If place all None) = record { runs = λ a first s n. if_kept project lawful a first place.line _ None s (each_branch all) tt n }
    stmt_layer (Stmt-F.If place all (Some body)) = record { runs = λ a first s n. if_kept project lawful a first place.line _ (Some (map running (map (λ s. s.0) body))) s (each_branch all) (each_stmt body) n }
    stmt_layer (Stmt-F.While place e body) = record { runs = λ a first s n. while_kept project lawful a first place.line _ _ s (expr_kept L project lawful e) (each_stmt body) n }
    stmt_layer (Stmt-F.For place name type subject body) = record { runs = λ a first s n. for_kept project lawful a first place.line name _ _ s (expr_kept L project lawful subject) (each_stmt body) n }
    stmt_layer (Stmt-F.Match place subject all) = record { runs = λ a first s n. match_kept project lawful a first place.line _ _ s (expr_kept L project lawful subject) (each_match all) n }

    branch_layer : (y : Branch-F KeptStmt KeptBranch KeptMatch)
        → IsBranch (branch_step project (map-Branch Stmt Branch MatchBranch Runs BranchRuns MatchRuns running branching picking (map-Branch KeptStmt KeptBranch KeptMatch Stmt Branch MatchBranch (λ s. s.0) (λ b. b.0) (λ b. b.0) y)))
    branch_layer y = record { condition = expr_kept L project lawful y.condition; body = each_stmt y.body }

    match_layer : (y : MatchBranch-F KeptStmt KeptBranch KeptMatch)
        → IsMatchRuns (match_step project (map-MatchBranch Stmt Branch MatchBranch Runs BranchRuns MatchRuns running branching picking (map-MatchBranch KeptStmt KeptBranch KeptMatch Stmt Branch MatchBranch (λ s. s.0) (λ b. b.0) (λ b. b.0) y)))
    match_layer y = record { patterns = all_patterns y.patterns; body = each_stmt y.body }

    pub stmt_kept : (s : Stmt) → IsRun L (stmt project s)
    unfolding stmt
    stmt_kept = ind-Stmt (λ s. IsRun L (running s)) (λ b. IsBranch (branching b)) (λ b. IsMatchRuns (picking b))
        (λ x y is. subst (IsRun L) (sym (fold-roll-Stmt Runs BranchRuns MatchRuns (stmt_step project) (branch_step project) (match_step project) x)) (subst (λ z. IsRun L (stmt_step project (map-Stmt Stmt Branch MatchBranch Runs BranchRuns MatchRuns running branching picking z))) is (stmt_layer y)))
        (λ x y is. subst IsBranch (sym (fold-roll-Branch Runs BranchRuns MatchRuns (stmt_step project) (branch_step project) (match_step project) x)) (subst (λ z. IsBranch (branch_step project (map-Branch Stmt Branch MatchBranch Runs BranchRuns MatchRuns running branching picking z))) is (branch_layer y)))
        (λ x y is. subst IsMatchRuns (sym (fold-roll-MatchBranch Runs BranchRuns MatchRuns (stmt_step project) (branch_step project) (match_step project) x)) (subst (λ z. IsMatchRuns (match_step project (map-MatchBranch Stmt Branch MatchBranch Runs BranchRuns MatchRuns running branching picking z))) is (match_layer y)))
