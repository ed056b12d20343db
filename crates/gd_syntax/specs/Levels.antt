-- How many levels a tree has.
use Rattle.std.specs.Prelude.{ℕ, suc, max, List, [], ◌∷◌, map}
use Rattle.gd_syntax.specs.declared.tree.expr.Expr.{Expr}
use Rattle.gd_syntax.specs.declared.tree.expr.Expr.TheOpen.{Expr-F}
use Rattle.gd_syntax.specs.declared.tree.expr.Expr.TheFolds.{fold-Expr}

-- the largest, or 0
abbrev pub most : List ℕ → ℕ
most [] = 0
most (n ∷ ns) = max n (most ns)

-- A leaf has one level, and another form one more than its deepest part.
abbrev pub levels_step : Expr-F ℕ → ℕ
levels_step (Expr-F.Literal place value) = 1
levels_step (Expr-F.Name place name) = 1
levels_step (Expr-F.This place) = 1
levels_step (Expr-F.Paren place a) = suc a
levels_step (Expr-F.Array place all) = suc (most all)
levels_step (Expr-F.Dict place all) = suc (most (map (λ e. max e.0 e.1) all))
levels_step (Expr-F.Table place all) = suc (most (map (λ e. e.1) all))
levels_step (Expr-F.Preload place path) = 1
levels_step (Expr-F.Load place path) = 1
levels_step (Expr-F.NodePath place names) = 1
levels_step (Expr-F.NodeText place text) = 1
levels_step (Expr-F.Super place args) = suc (most args)
levels_step (Expr-F.SuperCall place name args) = suc (most args)
levels_step (Expr-F.Index place a i) = suc (max a i)
levels_step (Expr-F.Member place a name) = suc a
levels_step (Expr-F.Call place f args) = suc (max f (most args))
levels_step (Expr-F.Is place a type_name) = suc a
levels_step (Expr-F.IsNot place a type_name) = suc a
levels_step (Expr-F.Prefix place op a) = suc a
levels_step (Expr-F.Binary place op a b) = suc (max a b)
levels_step (Expr-F.Not place a) = suc a
levels_step (Expr-F.Ternary place a c b) = suc (max a (max c b))
levels_step (Expr-F.As place a type_name) = suc a

unfoldable pub levels : Expr → ℕ
levels = fold-Expr ℕ levels_step
