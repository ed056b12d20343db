-- What each form of a tree means, by the meanings of its parts.
use Rattle.std.proofs.Common.{◌≡◌, ℕ, ℤ, List, [], ◌∷◌, map, rules, refl, Bool, Option, Some, None}
use Rattle.std.specs.Prelude.{option_map}
use Rattle.folder_meaning.specs.declared.const_value.ConstValue.{ConstValue, the_lemmas as const_lemmas}
use Rattle.folder_meaning.specs.declared.const_value.ConstValue.TheVariants as c
use Rattle.gd_syntax.specs.declared.fault.Place.{Place}
use Rattle.gd_syntax.specs.declared.tree.type_name.Identifier.{Identifier}
use Rattle.gd_syntax.specs.declared.tree.type_name.PathText.{PathText}
use Rattle.gd_syntax.specs.declared.tree.type_name.TypeName.{TypeName}
use Rattle.gd_syntax.specs.declared.tree.expr.Literal.{Literal}
use Rattle.gd_syntax.specs.declared.tree.expr.Expr.{Expr, the_lemmas}
use Rattle.gd_syntax.specs.declared.tree.expr.Expr.TheVariants as e
use Rattle.gd_syntax.specs.declared.tree.expr.Expr.TheOpen.{Expr-F}
use Rattle.gd_syntax.specs.declared.tree.expr.TreeOp.{TreeOp}
use Rattle.gd_syntax.specs.declared.tree.expr.TreePrefix.{TreePrefix}
use Rattle.gd_syntax.specs.declared.tree.pattern.Pattern.{Pattern, the_lemmas as pattern_lemmas}
use Rattle.gd_syntax.specs.declared.tree.pattern.Pattern.TheVariants as p
use Rattle.gd_syntax.specs.declared.tree.pattern.Pattern.TheOpen.{Pattern-F}
use Rattle.gd_syntax.specs.declared.tree.pattern.Pattern.TheFolds.{fold-PatternEntry}
use Rattle.gd_syntax.specs.declared.tree.pattern.PatternEntry.{PatternEntry}
use Rattle.gd_syntax.specs.declared.tree.statement.Branch.{Branch}
use Rattle.gd_syntax.specs.declared.tree.statement.MatchBranch.{MatchBranch}
use Rattle.gd_syntax.specs.declared.tree.statement.Simple.{Simple}
use Rattle.gd_syntax.specs.declared.tree.statement.Stmt.{Stmt, the_lemmas as stmt_lemmas}
use Rattle.gd_syntax.specs.declared.tree.statement.Stmt.TheVariants as s
use Rattle.gd_syntax.specs.declared.tree.statement.Stmt.TheFolds.{fold-Branch, fold-MatchBranch}
use Rattle.variant_values.specs.declared.classes.ClassTag.{ClassTag}
use Rattle.variant_values.specs.declared.values.Value.TheVariants.{Null, Bool as Truth, Int, Str, Class, Scene}
use Rattle.script_meaning.specs.Projects.{Project}
use Rattle.script_meaning.specs.Constants.{made as made_const, scalar_made, array_made, dict_made}
use Rattle.script_meaning.specs.Exprs.{expr, expr_step}
use Rattle.script_meaning.specs.Patterns.{Matches, KeyMatches, pattern, pattern_step, entry_step, key_of_entry}
use Rattle.script_meaning.specs.Statements.{Runs, BranchRuns, MatchRuns, stmt, stmt_step, branch_step, match_step, simple, sequence, run_if, run_while, run_for, run_match}

-- ---- constants

pub const-Null : made_const c.Null ≡ scalar_made Null
unfolding made_const
const-Null = search (rules, const_lemmas)

pub const-Bool : (b : Bool) → made_const (c.Bool b) ≡ scalar_made (Truth b)
unfolding made_const
const-Bool b = search (rules, const_lemmas)

pub const-Int : (n : ℤ) → made_const (c.Int n) ≡ scalar_made (Int n)
unfolding made_const
const-Int n = search (rules, const_lemmas)

pub const-Str : (text : List ℕ) → made_const (c.Str text) ≡ scalar_made (Str text)
unfolding made_const
const-Str text = search (rules, const_lemmas)

pub const-Array : (all : List ConstValue) → made_const (c.Array all) ≡ array_made (map made_const all)
unfolding made_const
const-Array all = search (rules, const_lemmas)

pub const-Dict : (all : List (ConstValue × ConstValue)) → made_const (c.Dict all) ≡ dict_made (map (λ x. (made_const x.0, made_const x.1)) all)
unfolding made_const
const-Dict all = search (rules, const_lemmas)

pub const-Class : (class : ClassTag) → made_const (c.Class class) ≡ scalar_made (Class class)
unfolding made_const
const-Class class = search (rules, const_lemmas)

pub const-Scene : (file : ℕ) (path : List ℕ) → made_const (c.Scene file path) ≡ scalar_made (Scene file path)
unfolding made_const
const-Scene file path = search (rules, const_lemmas)

module _ (P : Project) where
  -- ---- expressions

  pub expr-Literal : (place : Place) (value : Literal) → expr P (e.Literal place value) ≡ expr_step P (Expr-F.Literal place value)
  unfolding expr
  expr-Literal place value = search (rules, the_lemmas)

  pub expr-Name : (place : Place) (name : List ℕ) → expr P (e.Name place name) ≡ expr_step P (Expr-F.Name place name)
  unfolding expr
  expr-Name place name = search (rules, the_lemmas)

  pub expr-This : (place : Place) → expr P (e.This place) ≡ expr_step P (Expr-F.This place)
  unfolding expr
  expr-This place = search (rules, the_lemmas)

  pub expr-Paren : (place : Place) (a : Expr) → expr P (e.Paren place a) ≡ expr_step P (Expr-F.Paren place (expr P a))
  unfolding expr
  expr-Paren place a = search (rules, the_lemmas)

  pub expr-Array : (place : Place) (all : List Expr) → expr P (e.Array place all) ≡ expr_step P (Expr-F.Array place (map (expr P) all))
  unfolding expr
  expr-Array place all = search (rules, the_lemmas)

  pub expr-Dict : (place : Place) (all : List (Expr × Expr)) → expr P (e.Dict place all) ≡ expr_step P (Expr-F.Dict place (map (λ x. (expr P x.0, expr P x.1)) all))
  unfolding expr
  expr-Dict place all = search (rules, the_lemmas)

  pub expr-Table : (place : Place) (all : List (Identifier × Expr)) → expr P (e.Table place all) ≡ expr_step P (Expr-F.Table place (map (λ x. (x.0, expr P x.1)) all))
  unfolding expr
  expr-Table place all = search (rules, the_lemmas)

  pub expr-Preload : (place : Place) (path : PathText) → expr P (e.Preload place path) ≡ expr_step P (Expr-F.Preload place path)
  unfolding expr
  expr-Preload place path = search (rules, the_lemmas)

  pub expr-Load : (place : Place) (path : PathText) → expr P (e.Load place path) ≡ expr_step P (Expr-F.Load place path)
  unfolding expr
  expr-Load place path = search (rules, the_lemmas)

  pub expr-NodePath : (place : Place) (names : List (List ℕ)) → expr P (e.NodePath place names) ≡ expr_step P (Expr-F.NodePath place names)
  unfolding expr
  expr-NodePath place names = search (rules, the_lemmas)

  pub expr-NodeText : (place : Place) (text : List ℕ) → expr P (e.NodeText place text) ≡ expr_step P (Expr-F.NodeText place text)
  unfolding expr
  expr-NodeText place text = search (rules, the_lemmas)

  pub expr-Super : (place : Place) (args : List Expr) → expr P (e.Super place args) ≡ expr_step P (Expr-F.Super place (map (expr P) args))
  unfolding expr
  expr-Super place args = search (rules, the_lemmas)

  pub expr-SuperCall : (place : Place) (name : List ℕ) (args : List Expr) → expr P (e.SuperCall place name args) ≡ expr_step P (Expr-F.SuperCall place name (map (expr P) args))
  unfolding expr
  expr-SuperCall place name args = search (rules, the_lemmas)

  pub expr-Index : (place : Place) (a b : Expr) → expr P (e.Index place a b) ≡ expr_step P (Expr-F.Index place (expr P a) (expr P b))
  unfolding expr
  expr-Index place a b = search (rules, the_lemmas)

  pub expr-Member : (place : Place) (a : Expr) (name : List ℕ) → expr P (e.Member place a name) ≡ expr_step P (Expr-F.Member place (expr P a) name)
  unfolding expr
  expr-Member place a name = search (rules, the_lemmas)

  pub expr-Call : (place : Place) (a : Expr) (args : List Expr) → expr P (e.Call place a args) ≡ expr_step P (Expr-F.Call place (expr P a) (map (expr P) args))
  unfolding expr
  expr-Call place a args = search (rules, the_lemmas)

  pub expr-Is : (place : Place) (a : Expr) (of : TypeName) → expr P (e.Is place a of) ≡ expr_step P (Expr-F.Is place (expr P a) of)
  unfolding expr
  expr-Is place a of = search (rules, the_lemmas)

  pub expr-IsNot : (place : Place) (a : Expr) (of : TypeName) → expr P (e.IsNot place a of) ≡ expr_step P (Expr-F.IsNot place (expr P a) of)
  unfolding expr
  expr-IsNot place a of = search (rules, the_lemmas)

  pub expr-Prefix : (place : Place) (op : TreePrefix) (a : Expr) → expr P (e.Prefix place op a) ≡ expr_step P (Expr-F.Prefix place op (expr P a))
  unfolding expr
  expr-Prefix place op a = search (rules, the_lemmas)

  pub expr-Binary : (place : Place) (op : TreeOp) (a b : Expr) → expr P (e.Binary place op a b) ≡ expr_step P (Expr-F.Binary place op (expr P a) (expr P b))
  unfolding expr
  expr-Binary place op a b = search (rules, the_lemmas)

  pub expr-Not : (place : Place) (a : Expr) → expr P (e.Not place a) ≡ expr_step P (Expr-F.Not place (expr P a))
  unfolding expr
  expr-Not place a = search (rules, the_lemmas)

  pub expr-Ternary : (place : Place) (a c b : Expr) → expr P (e.Ternary place a c b) ≡ expr_step P (Expr-F.Ternary place (expr P a) (expr P c) (expr P b))
  unfolding expr
  expr-Ternary place a c b = search (rules, the_lemmas)

  pub expr-As : (place : Place) (a : Expr) (of : TypeName) → expr P (e.As place a of) ≡ expr_step P (Expr-F.As place (expr P a) of)
  unfolding expr
  expr-As place a of = search (rules, the_lemmas)

  -- ---- patterns

  pub pattern-Wildcard : (place : Place) → pattern P (p.Wildcard place) ≡ pattern_step P (Pattern-F.Wildcard place)
  unfolding pattern
  pattern-Wildcard place = search (rules, pattern_lemmas)

  pub pattern-Bind : (place : Place) (name : Identifier) → pattern P (p.Bind place name) ≡ pattern_step P (Pattern-F.Bind place name)
  unfolding pattern
  pattern-Bind place name = search (rules, pattern_lemmas)

  pub pattern-Literal : (place : Place) (minus : Bool) (value : Literal) → pattern P (p.Literal place minus value) ≡ pattern_step P (Pattern-F.Literal place minus value)
  unfolding pattern
  pattern-Literal place minus value = search (rules, pattern_lemmas)

  pub pattern-Path : (place : Place) (names : List (List ℕ)) → pattern P (p.Path place names) ≡ pattern_step P (Pattern-F.Path place names)
  unfolding pattern
  pattern-Path place names = search (rules, pattern_lemmas)

  pub pattern-Array : (place : Place) (all : List Pattern) (unended : Bool) → pattern P (p.Array place all unended) ≡ pattern_step P (Pattern-F.Array place (map (pattern P) all) unended)
  unfolding pattern
  pattern-Array place all unended = search (rules, pattern_lemmas)

  -- an entry of a dictionary pattern
  abbrev pub entry_of : PatternEntry → KeyMatches
  entry_of e = record { key = key_of_entry e.key; value = option_map (pattern P) e.value }

  fold_entry : (place : Place) (key : Literal) (value : Option Pattern) → fold-PatternEntry Matches KeyMatches (pattern_step P) entry_step (record { place = place; key = key; value = value }) ≡ entry_of (record { place = place; key = key; value = value })
  unfolding pattern
  fold_entry place key None = search (rules, pattern_lemmas)
  fold_entry place key (Some value) = search (rules, pattern_lemmas)

  fold_entries : (all : List PatternEntry) → map (fold-PatternEntry Matches KeyMatches (pattern_step P) entry_step) all ≡ map entry_of all
  fold_entries [] = refl
  fold_entries (x ∷ all) = cc (fold_entry x.place x.key x.value, fold_entries all)

  pub pattern-Dict : (place : Place) (all : List PatternEntry) (unended : Bool) → pattern P (p.Dict place all unended) ≡ pattern_step P (Pattern-F.Dict place (map entry_of all) unended)
  unfolding pattern
  pattern-Dict place all unended = search (rules, pattern_lemmas, fold_entries)

  -- ---- statements

  abbrev pub branch_of : Branch → BranchRuns
  branch_of b = record { place = b.place; condition = expr P b.condition; body = map (stmt P) b.body }

  fold_branch : (b : Branch) → fold-Branch Runs BranchRuns MatchRuns (stmt_step P) (branch_step P) (match_step P) b ≡ branch_of b
  unfolding stmt
  fold_branch b = search (rules, stmt_lemmas)

  fold_branches : (all : List Branch) → map (fold-Branch Runs BranchRuns MatchRuns (stmt_step P) (branch_step P) (match_step P)) all ≡ map branch_of all
  fold_branches [] = refl
  fold_branches (b ∷ all) = cc (fold_branch b, fold_branches all)

  abbrev pub match_branch_of : MatchBranch → MatchRuns
  match_branch_of b = record { patterns = map (pattern P) b.patterns; body = map (stmt P) b.body }

  fold_match : (b : MatchBranch) → fold-MatchBranch Runs BranchRuns MatchRuns (stmt_step P) (branch_step P) (match_step P) b ≡ match_branch_of b
  unfolding stmt
  fold_match b = search (rules, stmt_lemmas)

  fold_matches : (all : List MatchBranch) → map (fold-MatchBranch Runs BranchRuns MatchRuns (stmt_step P) (branch_step P) (match_step P)) all ≡ map match_branch_of all
  fold_matches [] = refl
  fold_matches (b ∷ all) = cc (fold_match b, fold_matches all)

  pub stmt-Line : (place : Place) (all : List Simple) → stmt P (s.Line place all) ≡ sequence (map (simple P) all)
  unfolding stmt
  stmt-Line place all = search (rules, stmt_lemmas)

  pub stmt-If : (place : Place) (all : List Branch) (other : Option (List Stmt)) → stmt P (s.If place all other) ≡ run_if P place.line (map branch_of all) (option_map (map (stmt P)) other)
  unfolding stmt
  stmt-If place all None = search (rules, stmt_lemmas, fold_branches)
  stmt-If place all (Some body) = search (rules, stmt_lemmas, fold_branches)

  pub stmt-While : (place : Place) (c : Expr) (body : List Stmt) → stmt P (s.While place c body) ≡ run_while P place.line (expr P c) (map (stmt P) body)
  unfolding stmt
  stmt-While place c body = search (rules, stmt_lemmas)

  pub stmt-For : (place : Place) (name : Identifier) (of : Option TypeName) (subject : Expr) (body : List Stmt) → stmt P (s.For place name of subject body) ≡ run_for P place.line name (expr P subject) (map (stmt P) body)
  unfolding stmt
  stmt-For place name of subject body = search (rules, stmt_lemmas)

  pub stmt-Match : (place : Place) (subject : Expr) (all : List MatchBranch) → stmt P (s.Match place subject all) ≡ run_match P place.line (expr P subject) (map match_branch_of all)
  unfolding stmt
  stmt-Match place subject all = search (rules, stmt_lemmas, fold_matches)

-- one equation for each form of constants, expressions, patterns and statements; a simple statement computes
pub ruleset made = (const-Null, const-Bool, const-Int, const-Str, const-Array, const-Dict, const-Class, const-Scene, expr-Literal, expr-Name, expr-This, expr-Paren, expr-Array, expr-Dict, expr-Table, expr-Preload, expr-Load, expr-NodePath, expr-NodeText, expr-Super, expr-SuperCall, expr-Index, expr-Member, expr-Call, expr-Is, expr-IsNot, expr-Prefix, expr-Binary, expr-Not, expr-Ternary, expr-As, pattern-Wildcard, pattern-Bind, pattern-Literal, pattern-Path, pattern-Array, pattern-Dict, stmt-Line, stmt-If, stmt-While, stmt-For, stmt-Match)
