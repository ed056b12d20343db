-- How many levels each form has.
use Rattle.std.proofs.Common.{◌≡◌, ℕ, suc, max, List, [], ◌∷◌, ◌++◌, map, rules, arith, refl, ap}
use Rattle.gd_syntax.specs.declared.fault.Place.{Place}
use Rattle.gd_syntax.specs.declared.tree.type_name.Identifier.{Identifier}
use Rattle.gd_syntax.specs.declared.tree.type_name.PathText.{PathText}
use Rattle.gd_syntax.specs.declared.tree.type_name.TypeName.{TypeName}
use Rattle.gd_syntax.specs.declared.tree.expr.Literal.{Literal}
use Rattle.gd_syntax.specs.declared.tree.expr.Expr.{Expr, the_lemmas}
use Rattle.gd_syntax.specs.declared.tree.expr.Expr.TheVariants as e
use Rattle.gd_syntax.specs.declared.tree.expr.TreeOp.{TreeOp}
use Rattle.gd_syntax.specs.declared.tree.expr.TreePrefix.{TreePrefix}
use Rattle.gd_syntax.specs.Levels.{levels, most}

most_map : {A B : Type 0} (f : B → ℕ) (g : A → B) (all : List A) → most (map f (map g all)) ≡ most (map (λ x. f (g x)) all)
most_map f g [] = refl
most_map f g (x ∷ all) = ap (λ n. max (f (g x)) n) (most_map f g all)

pub levels-Literal : (p : Place) (value : Literal) → levels (e.Literal p value) ≡ 1
unfolding levels
levels-Literal p value = search (rules, the_lemmas)

pub levels-Name : (p : Place) (name : List ℕ) → levels (e.Name p name) ≡ 1
unfolding levels
levels-Name p name = search (rules, the_lemmas)

pub levels-This : (p : Place) → levels (e.This p) ≡ 1
unfolding levels
levels-This p = search (rules, the_lemmas)

pub levels-Paren : (p : Place) (a : Expr) → levels (e.Paren p a) ≡ suc (levels a)
unfolding levels
levels-Paren p a = search (rules, the_lemmas)

pub levels-Array : (p : Place) (all : List Expr) → levels (e.Array p all) ≡ suc (most (map levels all))
unfolding levels
levels-Array p all = search (rules, the_lemmas)

pub levels-Dict : (p : Place) (all : List (Expr × Expr)) → levels (e.Dict p all) ≡ suc (most (map (λ x. max (levels x.0) (levels x.1)) all))
unfolding levels
levels-Dict p all = search (rules, the_lemmas, most_map)

pub levels-Table : (p : Place) (all : List (Identifier × Expr)) → levels (e.Table p all) ≡ suc (most (map (λ x. levels x.1) all))
unfolding levels
levels-Table p all = search (rules, the_lemmas, most_map)

pub levels-Preload : (p : Place) (path : PathText) → levels (e.Preload p path) ≡ 1
unfolding levels
levels-Preload p path = search (rules, the_lemmas)

pub levels-Load : (p : Place) (path : PathText) → levels (e.Load p path) ≡ 1
unfolding levels
levels-Load p path = search (rules, the_lemmas)

pub levels-NodePath : (p : Place) (names : List (List ℕ)) → levels (e.NodePath p names) ≡ 1
unfolding levels
levels-NodePath p names = search (rules, the_lemmas)

pub levels-NodeText : (p : Place) (text : List ℕ) → levels (e.NodeText p text) ≡ 1
unfolding levels
levels-NodeText p text = search (rules, the_lemmas)

pub levels-Super : (p : Place) (args : List Expr) → levels (e.Super p args) ≡ suc (most (map levels args))
unfolding levels
levels-Super p args = search (rules, the_lemmas)

pub levels-SuperCall : (p : Place) (name : List ℕ) (args : List Expr) → levels (e.SuperCall p name args) ≡ suc (most (map levels args))
unfolding levels
levels-SuperCall p name args = search (rules, the_lemmas)

pub levels-Index : (p : Place) (a b : Expr) → levels (e.Index p a b) ≡ suc (max (levels a) (levels b))
unfolding levels
levels-Index p a b = search (rules, the_lemmas)

pub levels-Member : (p : Place) (a : Expr) (name : List ℕ) → levels (e.Member p a name) ≡ suc (levels a)
unfolding levels
levels-Member p a name = search (rules, the_lemmas)

pub levels-Call : (p : Place) (a : Expr) (args : List Expr) → levels (e.Call p a args) ≡ suc (max (levels a) (most (map levels args)))
unfolding levels
levels-Call p a args = search (rules, the_lemmas)

pub levels-Is : (p : Place) (a : Expr) (t : TypeName) → levels (e.Is p a t) ≡ suc (levels a)
unfolding levels
levels-Is p a t = search (rules, the_lemmas)

pub levels-IsNot : (p : Place) (a : Expr) (t : TypeName) → levels (e.IsNot p a t) ≡ suc (levels a)
unfolding levels
levels-IsNot p a t = search (rules, the_lemmas)

pub levels-Prefix : (p : Place) (op : TreePrefix) (a : Expr) → levels (e.Prefix p op a) ≡ suc (levels a)
unfolding levels
levels-Prefix p op a = search (rules, the_lemmas)

pub levels-Binary : (p : Place) (op : TreeOp) (a b : Expr) → levels (e.Binary p op a b) ≡ suc (max (levels a) (levels b))
unfolding levels
levels-Binary p op a b = search (rules, the_lemmas)

pub levels-Not : (p : Place) (a : Expr) → levels (e.Not p a) ≡ suc (levels a)
unfolding levels
levels-Not p a = search (rules, the_lemmas)

pub levels-Ternary : (p : Place) (a c b : Expr) → levels (e.Ternary p a c b) ≡ suc (max (levels a) (max (levels c) (levels b)))
unfolding levels
levels-Ternary p a c b = search (rules, the_lemmas)

pub levels-As : (p : Place) (a : Expr) (t : TypeName) → levels (e.As p a t) ≡ suc (levels a)
unfolding levels
levels-As p a t = search (rules, the_lemmas)

pub ruleset level_laws = (levels-Literal, levels-Name, levels-This, levels-Paren, levels-Array, levels-Dict, levels-Table, levels-Preload, levels-Load, levels-NodePath, levels-NodeText, levels-Super, levels-SuperCall, levels-Index, levels-Member, levels-Call, levels-Is, levels-IsNot, levels-Prefix, levels-Binary, levels-Not, levels-Ternary, levels-As)

-- the deepest of a list to which an item is added
pub most_push : {A : Type 0} (f : A → ℕ) (all : List A) (x : A) → most (map f (all ++ x ∷ [])) ≡ max (most (map f all)) (f x)
most_push f [] x = omega arith
most_push f (y ∷ all) x = let ih = most_push f all x in rw ih (omega arith)
