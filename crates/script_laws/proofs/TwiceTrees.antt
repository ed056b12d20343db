-- Trees in two worlds that differ in the steps that are left.
use Rattle.std.proofs.Common.{sym, subst, ℕ, List, [], ◌∷◌, map, Option, Some, None, not}
use Rattle.std.specs.Prelude.{option_map}
use Rattle.gd_syntax.specs.declared.fault.Place.{Place}
use Rattle.gd_syntax.specs.declared.tree.expr.Expr.{Expr}
use Rattle.gd_syntax.specs.declared.tree.expr.Literal.{Literal}
use Rattle.gd_syntax.specs.declared.tree.expr.Expr.TheOpen.{Expr-F}
use Rattle.gd_syntax.specs.declared.tree.expr.Expr.TheFolds.{fold-Expr, fold-roll-Expr, ind-Expr, map-Expr}
use Rattle.gd_syntax.specs.declared.tree.type_name.Identifier.{Identifier}
use Rattle.gd_syntax.specs.declared.tree.pattern.Pattern.{Pattern}
use Rattle.gd_syntax.specs.declared.tree.pattern.PatternEntry.{PatternEntry}
use Rattle.gd_syntax.specs.declared.tree.pattern.Pattern.TheOpen.{Pattern-F, PatternEntry-F}
use Rattle.gd_syntax.specs.declared.tree.pattern.Pattern.TheFolds.{fold-Pattern, fold-PatternEntry, fold-roll-Pattern, fold-roll-PatternEntry, ind-Pattern, map-Pattern, map-PatternEntry}
use Rattle.gd_syntax.specs.declared.tree.statement.Branch.{Branch}
use Rattle.gd_syntax.specs.declared.tree.statement.MatchBranch.{MatchBranch}
use Rattle.gd_syntax.specs.declared.tree.statement.Simple.{Simple}
use Rattle.gd_syntax.specs.declared.tree.statement.Simple.TheVariants as simply
use Rattle.gd_syntax.specs.declared.tree.statement.Stmt.{Stmt}
use Rattle.gd_syntax.specs.declared.tree.statement.Stmt.TheOpen.{Stmt-F, Branch-F, MatchBranch-F}
use Rattle.gd_syntax.specs.declared.tree.statement.Stmt.TheFolds.{fold-Stmt, fold-Branch, fold-MatchBranch, fold-roll-Stmt, fold-roll-Branch, fold-roll-MatchBranch, ind-Stmt, map-Stmt, map-Branch, map-MatchBranch}
use Rattle.script_meaning.specs.Projects.{Project}
use Rattle.script_meaning.specs.Meanings.{Means}
use Rattle.script_meaning.specs.Exprs.{expr, expr_step}
use Rattle.script_meaning.specs.Patterns.{Matches, KeyMatches, pattern, pattern_step, entry_step}
use Rattle.script_meaning.specs.Statements.{Runs, BranchRuns, MatchRuns, stmt, stmt_step, branch_step, match_step, simple, initial}
use Rattle.script_laws.proofs.TwiceForm.{gave, Each, Maybe}
use Rattle.script_laws.proofs.TwiceExprs.{AllTwice, twice_valued, twice_fixed, twice_name_means, twice_paren, twice_index, twice_member, twice_call, twice_array, twice_pairs, twice_dict, twice_ternary, twice_prefix, twice_not, twice_keyed, twice_binary, twice_file, twice_node, twice_super_value, twice_super_same, twice_type_test, twice_as_value}
use Rattle.script_laws.proofs.TwicePatterns.{MatchesTwice, KeyTwice, twice_pattern}
use Rattle.script_laws.proofs.TwiceStatements.{RunsTwice, BranchTwice, PartTwice, twice_sequence, twice_pass, twice_break, twice_continue, twice_return, twice_var, twice_const, twice_assert, twice_assign, twice_expr, twice_if, twice_while, twice_for, twice_match}

module _ (k : ℕ) (P : Project) where
  abbrev meaning : Expr → Means
  meaning = fold-Expr Means (expr_step P)

  -- an expression whose meaning is known to be the same with k steps more
  abbrev Known : Type 0
  Known = (e : Expr) × AllTwice k (meaning e)

  each_known : (all : List Known) → Each (AllTwice k) (map meaning (map (λ e. e.0) all))
  each_known [] = tt
  each_known (e ∷ es) = (e.1, each_known es)

  each_pair : (all : List (Known × Known)) → Each {A = Means × Means} (λ e. AllTwice k e.0 × AllTwice k e.1) (map {A = Expr × Expr} (λ e. (meaning e.0, meaning e.1)) (map {A = Known × Known} (λ e. (e.0.0, e.1.0)) all))
  each_pair [] = tt
  each_pair (e ∷ es) = ((e.0.1, e.1.1), each_pair es)

  each_entry : (all : List (Identifier × Known)) → Each {A = Identifier × Means} (λ e. AllTwice k e.1) (map {A = Identifier × Expr} (λ e. (e.0, meaning e.1)) (map {A = Identifier × Known} (λ e. (e.0, e.1.0)) all))
  each_entry [] = tt
  each_entry (e ∷ es) = (e.1.1, each_entry es)

  layer : (y : Expr-F Known) → AllTwice k (expr_step P (map-Expr Expr Means meaning (map-Expr Known Expr (λ e. e.0) y)))
  layer (Expr-F.Literal place value) = twice_fixed k place _
  layer (Expr-F.Name place name) = twice_name_means k P place name
  layer (Expr-F.This place) = twice_valued k place _ (record { at = λ h c m. gave _ })
  layer (Expr-F.Paren place a) = twice_paren k place _ a.1
  layer (Expr-F.Array place all) = twice_valued k place _ (twice_array k P place _ (each_known all))
  layer (Expr-F.Dict place all) = twice_valued k place _ (twice_dict k _ (twice_pairs k _ (each_pair all)))
  layer (Expr-F.Table place all) = twice_valued k place _ (twice_dict k _ (twice_pairs k _ (twice_keyed k _ (each_entry all))))
  layer (Expr-F.Preload place path) = twice_valued k place _ (twice_file k P _)
  layer (Expr-F.Load place path) = twice_valued k place _ (twice_file k P _)
  layer (Expr-F.NodePath place names) = twice_valued k place _ (twice_node k P _)
  layer (Expr-F.NodeText place path) = twice_valued k place _ (twice_node k P _)
  layer (Expr-F.Super place args) = twice_valued k place _ (twice_super_same k P _ (each_known args))
  layer (Expr-F.SuperCall place name args) = twice_valued k place _ (twice_super_value k P _ _ (each_known args))
  layer (Expr-F.Index place a i) = twice_index k place _ _ a.1 i.1
  layer (Expr-F.Member place a name) = twice_member k P place _ name a.1
  layer (Expr-F.Call place f args) = twice_call k P place _ _ f.1 (each_known args)
  layer (Expr-F.Is place a type) = twice_valued k place _ (twice_type_test k P (λ b. b) _ type a.1)
  layer (Expr-F.IsNot place a type) = twice_valued k place _ (twice_type_test k P not _ type a.1)
  layer (Expr-F.Prefix place op a) = twice_valued k place _ (twice_prefix k op _ a.1)
  layer (Expr-F.Binary place op a b) = twice_valued k place _ (twice_binary k P op _ _ a.1 b.1)
  layer (Expr-F.Not place a) = twice_valued k place _ (twice_not k _ a.1)
  layer (Expr-F.Ternary place a d b) = twice_valued k place _ (twice_ternary k _ _ _ a.1 d.1 b.1)
  layer (Expr-F.As place a type) = twice_valued k place _ (twice_as_value k P _ type a.1)

  pub expr_twice : (e : Expr) → AllTwice k (expr P e)
  unfolding expr
  expr_twice = ind-Expr (λ e. AllTwice k (meaning e)) (λ x y is. subst (AllTwice k) (sym (fold-roll-Expr Means (expr_step P) x)) (subst (λ z. AllTwice k (expr_step P (map-Expr Expr Means meaning z))) is (layer y)))

  -- ---- patterns

  abbrev matching : Pattern → Matches
  matching = fold-Pattern Matches KeyMatches (pattern_step P) entry_step

  abbrev keyed : PatternEntry → KeyMatches
  keyed = fold-PatternEntry Matches KeyMatches (pattern_step P) entry_step

  abbrev KnownPattern : Type 0
  KnownPattern = (p : Pattern) × MatchesTwice k (matching p)

  abbrev KnownKey : Type 0
  KnownKey = (p : PatternEntry) × KeyTwice k (keyed p)

  each_pattern : (all : List KnownPattern) → Each (MatchesTwice k) (map matching (map (λ p. p.0) all))
  each_pattern [] = tt
  each_pattern (p ∷ ps) = (p.1, each_pattern ps)

  each_key : (all : List KnownKey) → Each (KeyTwice k) (map keyed (map (λ p. p.0) all))
  each_key [] = tt
  each_key (p ∷ ps) = (p.1, each_key ps)

  pattern_layer : (y : Pattern-F KnownPattern KnownKey) → MatchesTwice k (pattern_step P (map-Pattern Pattern PatternEntry Matches KeyMatches matching keyed (map-Pattern KnownPattern KnownKey Pattern PatternEntry (λ p. p.0) (λ p. p.0) y)))
  pattern_layer (Pattern-F.Wildcard place) = twice_pattern k P (Pattern-F.Wildcard place) tt
  pattern_layer (Pattern-F.Bind place name) = twice_pattern k P (Pattern-F.Bind place name) tt
  pattern_layer (Pattern-F.Literal place minus value) = twice_pattern k P (Pattern-F.Literal place minus value) tt
  pattern_layer (Pattern-F.Path place names) = twice_pattern k P (Pattern-F.Path place names) tt
  pattern_layer (Pattern-F.Array place all unended) = twice_pattern k P (Pattern-F.Array place _ unended) (each_pattern all)
  pattern_layer (Pattern-F.Dict place all unended) = twice_pattern k P (Pattern-F.Dict place _ unended) (each_key all)

  key_layer_by : (place : Place) (key : Literal) (value : Option KnownPattern)
      → KeyTwice k (entry_step (map-PatternEntry Pattern PatternEntry Matches KeyMatches matching keyed (map-PatternEntry KnownPattern KnownKey Pattern PatternEntry (λ p. p.0) (λ p. p.0) (record { place = place; key = key; value = value }))))
  key_layer_by place key None = tt
  key_layer_by place key (Some p) = p.1

  key_layer : (y : PatternEntry-F KnownPattern KnownKey) → KeyTwice k (entry_step (map-PatternEntry Pattern PatternEntry Matches KeyMatches matching keyed (map-PatternEntry KnownPattern KnownKey Pattern PatternEntry (λ p. p.0) (λ p. p.0) y)))
  key_layer y = key_layer_by y.place y.key y.value

  pub pattern_twice : (p : Pattern) → MatchesTwice k (pattern P p)
  unfolding pattern
  pattern_twice = ind-Pattern (λ p. MatchesTwice k (matching p)) (λ p. KeyTwice k (keyed p))
      (λ x y is. subst (MatchesTwice k) (sym (fold-roll-Pattern Matches KeyMatches (pattern_step P) entry_step x)) (subst (λ z. MatchesTwice k (pattern_step P (map-Pattern Pattern PatternEntry Matches KeyMatches matching keyed z))) is (pattern_layer y)))
      (λ x y is. subst (KeyTwice k) (sym (fold-roll-PatternEntry Matches KeyMatches (pattern_step P) entry_step x)) (subst (λ z. KeyTwice k (entry_step (map-PatternEntry Pattern PatternEntry Matches KeyMatches matching keyed z))) is (key_layer y)))

  each_matching : (all : List Pattern) → Each (MatchesTwice k) (map (pattern P) all)
  each_matching [] = tt
  each_matching (p ∷ ps) = (pattern_twice p, each_matching ps)

  -- ---- statements

  maybe_expr : (o : Option Expr) → Maybe (AllTwice k) (option_map (expr P) o)
  maybe_expr None = tt
  maybe_expr (Some e) = expr_twice e

  simple_twice : (s : Simple) → RunsTwice k (simple P s)
  simple_twice (simply.Pass place) = twice_pass k P _
  simple_twice (simply.Break place) = twice_break k P _
  simple_twice (simply.Continue place) = twice_continue k P _
  simple_twice (simply.Return place e) = twice_return k P _ _ (maybe_expr e)
  simple_twice (simply.Var v) = twice_var k P _ _ _ (maybe_expr (initial v.declared))
  simple_twice (simply.Const c) = twice_const k P _ _
  simple_twice (simply.Assert place e message) = twice_assert k P _ _ _ (expr_twice e) (maybe_expr message)
  simple_twice (simply.Assign place to op e) = twice_assign k P _ _ op _ (expr_twice to) (expr_twice e)
  simple_twice (simply.Expr place e) = twice_expr k P _ _ (expr_twice e)

  each_simple : (all : List Simple) → Each (RunsTwice k) (map (simple P) all)
  each_simple [] = tt
  each_simple (s ∷ ss) = (simple_twice s, each_simple ss)

  abbrev running : Stmt → Runs
  running = fold-Stmt Runs BranchRuns MatchRuns (stmt_step P) (branch_step P) (match_step P)

  abbrev branching : Branch → BranchRuns
  branching = fold-Branch Runs BranchRuns MatchRuns (stmt_step P) (branch_step P) (match_step P)

  abbrev picking : MatchBranch → MatchRuns
  picking = fold-MatchBranch Runs BranchRuns MatchRuns (stmt_step P) (branch_step P) (match_step P)

  abbrev KnownStmt : Type 0
  KnownStmt = (s : Stmt) × RunsTwice k (running s)

  abbrev KnownBranch : Type 0
  KnownBranch = (b : Branch) × PartTwice k P (branching b)

  abbrev KnownMatch : Type 0
  KnownMatch = (b : MatchBranch) × BranchTwice k (picking b)

  each_stmt : (all : List KnownStmt) → Each (RunsTwice k) (map running (map (λ s. s.0) all))
  each_stmt [] = tt
  each_stmt (s ∷ ss) = (s.1, each_stmt ss)

  each_branch : (all : List KnownBranch) → Each (PartTwice k P) (map branching (map (λ b. b.0) all))
  each_branch [] = tt
  each_branch (b ∷ bs) = (b.1, each_branch bs)

  each_match : (all : List KnownMatch) → Each (BranchTwice k) (map picking (map (λ b. b.0) all))
  each_match [] = tt
  each_match (b ∷ bs) = (b.1, each_match bs)

  stmt_layer : (y : Stmt-F KnownStmt KnownBranch KnownMatch)
      → RunsTwice k (stmt_step P (map-Stmt Stmt Branch MatchBranch Runs BranchRuns MatchRuns running branching picking (map-Stmt KnownStmt KnownBranch KnownMatch Stmt Branch MatchBranch (λ s. s.0) (λ b. b.0) (λ b. b.0) y)))
  stmt_layer (Stmt-F.Line place all) = twice_sequence k _ (each_simple all)
  stmt_layer (Stmt-F.If place all None) = twice_if k P _ _ (each_branch all) None tt
  stmt_layer (Stmt-F.If place all (Some body)) = twice_if k P _ _ (each_branch all) (Some (map running (map (λ s. s.0) body))) (each_stmt body)
  stmt_layer (Stmt-F.While place e body) = twice_while k P _ _ (expr_twice e) _ (each_stmt body)
  stmt_layer (Stmt-F.For place name type subject body) = twice_for k P _ name _ (expr_twice subject) _ (each_stmt body)
  stmt_layer (Stmt-F.Match place subject all) = twice_match k P _ _ (expr_twice subject) _ (each_match all)

  branch_layer : (y : Branch-F KnownStmt KnownBranch KnownMatch)
      → PartTwice k P (branch_step P (map-Branch Stmt Branch MatchBranch Runs BranchRuns MatchRuns running branching picking (map-Branch KnownStmt KnownBranch KnownMatch Stmt Branch MatchBranch (λ s. s.0) (λ b. b.0) (λ b. b.0) y)))
  branch_layer y = (expr_twice y.condition, each_stmt y.body)

  match_layer : (y : MatchBranch-F KnownStmt KnownBranch KnownMatch)
      → BranchTwice k (match_step P (map-MatchBranch Stmt Branch MatchBranch Runs BranchRuns MatchRuns running branching picking (map-MatchBranch KnownStmt KnownBranch KnownMatch Stmt Branch MatchBranch (λ s. s.0) (λ b. b.0) (λ b. b.0) y)))
  match_layer y = (each_matching y.patterns, each_stmt y.body)

  pub stmt_twice : (s : Stmt) → RunsTwice k (stmt P s)
  unfolding stmt
  stmt_twice = ind-Stmt (λ s. RunsTwice k (running s)) (λ b. PartTwice k P (branching b)) (λ b. BranchTwice k (picking b))
      (λ x y is. subst (RunsTwice k) (sym (fold-roll-Stmt Runs BranchRuns MatchRuns (stmt_step P) (branch_step P) (match_step P) x)) (subst (λ z. RunsTwice k (stmt_step P (map-Stmt Stmt Branch MatchBranch Runs BranchRuns MatchRuns running branching picking z))) is (stmt_layer y)))
      (λ x y is. subst (PartTwice k P) (sym (fold-roll-Branch Runs BranchRuns MatchRuns (stmt_step P) (branch_step P) (match_step P) x)) (subst (λ z. PartTwice k P (branch_step P (map-Branch Stmt Branch MatchBranch Runs BranchRuns MatchRuns running branching picking z))) is (branch_layer y)))
      (λ x y is. subst (BranchTwice k) (sym (fold-roll-MatchBranch Runs BranchRuns MatchRuns (stmt_step P) (branch_step P) (match_step P) x)) (subst (λ z. BranchTwice k (match_step P (map-MatchBranch Stmt Branch MatchBranch Runs BranchRuns MatchRuns running branching picking z))) is (match_layer y)))
