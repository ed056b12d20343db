-- What each expression is as a chain of operators.
use Rattle.std.proofs.Common.{◌≡◌, ◌≢◌, ℕ, ℤ, pos, List, rules, refl, sym, ap, ◌∙◌}
use Rattle.gd_syntax.specs.declared.fault.Place.{Place}
use Rattle.gd_syntax.specs.declared.tree.type_name.Identifier.{Identifier}
use Rattle.gd_syntax.specs.declared.tree.type_name.PathText.{PathText}
use Rattle.gd_syntax.specs.declared.tree.type_name.TypeName.{TypeName}
use Rattle.gd_syntax.specs.declared.tree.expr.Literal.{Literal}
use Rattle.gd_syntax.specs.declared.tree.expr.Expr.{Expr, out-Expr, the_lemmas}
use Rattle.gd_syntax.specs.declared.tree.expr.Expr.TheVariants as e
use Rattle.gd_syntax.specs.declared.tree.expr.Expr.TheOpen.{Expr-F}
use Rattle.gd_syntax.specs.declared.tree.expr.TreeOp.{TreeOp}
use Rattle.gd_syntax.specs.declared.tree.expr.TreePrefix.{TreePrefix}
use Rattle.gdrun.specs.Single.{chain_of, binary_chain, number_chain, literal_number}

pub chain-Literal : (place : Place) (value : Literal) → chain_of (e.Literal place value) ≡ number_chain (literal_number value)
unfolding chain_of
chain-Literal place value = search (rules, the_lemmas)

pub chain-Binary : (place : Place) (op : TreeOp) (a b : Expr) → chain_of (e.Binary place op a b) ≡ binary_chain op (chain_of a) (chain_of b)
unfolding chain_of
chain-Binary place op a b = search (rules, the_lemmas)

pub chain-Name : (place : Place) (name : List ℕ) → chain_of (e.Name place name) ≡ number_chain (pos 0)
unfolding chain_of
chain-Name place name = search (rules, the_lemmas)

pub chain-This : (place : Place) → chain_of (e.This place) ≡ number_chain (pos 0)
unfolding chain_of
chain-This place = search (rules, the_lemmas)

pub chain-Paren : (place : Place) (a : Expr) → chain_of (e.Paren place a) ≡ number_chain (pos 0)
unfolding chain_of
chain-Paren place a = search (rules, the_lemmas)

pub chain-Array : (place : Place) (all : List Expr) → chain_of (e.Array place all) ≡ number_chain (pos 0)
unfolding chain_of
chain-Array place all = search (rules, the_lemmas)

pub chain-Dict : (place : Place) (all : List (Expr × Expr)) → chain_of (e.Dict place all) ≡ number_chain (pos 0)
unfolding chain_of
chain-Dict place all = search (rules, the_lemmas)

pub chain-Table : (place : Place) (all : List (Identifier × Expr)) → chain_of (e.Table place all) ≡ number_chain (pos 0)
unfolding chain_of
chain-Table place all = search (rules, the_lemmas)

pub chain-Preload : (place : Place) (path : PathText) → chain_of (e.Preload place path) ≡ number_chain (pos 0)
unfolding chain_of
chain-Preload place path = search (rules, the_lemmas)

pub chain-Load : (place : Place) (path : PathText) → chain_of (e.Load place path) ≡ number_chain (pos 0)
unfolding chain_of
chain-Load place path = search (rules, the_lemmas)

pub chain-NodePath : (place : Place) (names : List (List ℕ)) → chain_of (e.NodePath place names) ≡ number_chain (pos 0)
unfolding chain_of
chain-NodePath place names = search (rules, the_lemmas)

pub chain-NodeText : (place : Place) (text : List ℕ) → chain_of (e.NodeText place text) ≡ number_chain (pos 0)
unfolding chain_of
chain-NodeText place text = search (rules, the_lemmas)

pub chain-Super : (place : Place) (args : List Expr) → chain_of (e.Super place args) ≡ number_chain (pos 0)
unfolding chain_of
chain-Super place args = search (rules, the_lemmas)

pub chain-SuperCall : (place : Place) (name : List ℕ) (args : List Expr) → chain_of (e.SuperCall place name args) ≡ number_chain (pos 0)
unfolding chain_of
chain-SuperCall place name args = search (rules, the_lemmas)

pub chain-Index : (place : Place) (a b : Expr) → chain_of (e.Index place a b) ≡ number_chain (pos 0)
unfolding chain_of
chain-Index place a b = search (rules, the_lemmas)

pub chain-Member : (place : Place) (a : Expr) (name : List ℕ) → chain_of (e.Member place a name) ≡ number_chain (pos 0)
unfolding chain_of
chain-Member place a name = search (rules, the_lemmas)

pub chain-Call : (place : Place) (a : Expr) (args : List Expr) → chain_of (e.Call place a args) ≡ number_chain (pos 0)
unfolding chain_of
chain-Call place a args = search (rules, the_lemmas)

pub chain-Is : (place : Place) (a : Expr) (t : TypeName) → chain_of (e.Is place a t) ≡ number_chain (pos 0)
unfolding chain_of
chain-Is place a t = search (rules, the_lemmas)

pub chain-IsNot : (place : Place) (a : Expr) (t : TypeName) → chain_of (e.IsNot place a t) ≡ number_chain (pos 0)
unfolding chain_of
chain-IsNot place a t = search (rules, the_lemmas)

pub chain-Prefix : (place : Place) (op : TreePrefix) (a : Expr) → chain_of (e.Prefix place op a) ≡ number_chain (pos 0)
unfolding chain_of
chain-Prefix place op a = search (rules, the_lemmas)

pub chain-Not : (place : Place) (a : Expr) → chain_of (e.Not place a) ≡ number_chain (pos 0)
unfolding chain_of
chain-Not place a = search (rules, the_lemmas)

pub chain-Ternary : (place : Place) (a c b : Expr) → chain_of (e.Ternary place a c b) ≡ number_chain (pos 0)
unfolding chain_of
chain-Ternary place a c b = search (rules, the_lemmas)

pub chain-As : (place : Place) (a : Expr) (t : TypeName) → chain_of (e.As place a t) ≡ number_chain (pos 0)
unfolding chain_of
chain-As place a t = search (rules, the_lemmas)

pub ruleset chain_laws = (chain-Literal, chain-Binary, chain-Name, chain-This, chain-Paren, chain-Array, chain-Dict, chain-Table, chain-Preload, chain-Load, chain-NodePath, chain-NodeText, chain-Super, chain-SuperCall, chain-Index, chain-Member, chain-Call, chain-Is, chain-IsNot, chain-Prefix, chain-Not, chain-Ternary, chain-As)

number_by : (x : Expr) (y : Expr-F Expr) → out-Expr x ≡ y → ((place : Place) (value : Literal) → x ≢ e.Literal place value) → pos 0 ≡ (chain_of x).number
unfolding chain_of
number_by x (Expr-F.Literal place value) is other = absurd (other place value (search (rules, the_lemmas, is)))
number_by x _ is other = search (rules, the_lemmas, is)

-- what is no literal is no number
pub no_number : (x : Expr) → ((place : Place) (value : Literal) → x ≢ e.Literal place value) → pos 0 ≡ (chain_of x).number
no_number x other = number_by x (out-Expr x) refl other

chain_by : (x : Expr) (y : Expr-F Expr) → out-Expr x ≡ y → ((place : Place) (value : Literal) → x ≢ e.Literal place value)
    → ((place : Place) (op : TreeOp) (a b : Expr) → x ≢ e.Binary place op a b) → chain_of x ≡ number_chain (pos 0)
unfolding chain_of
chain_by x (Expr-F.Literal place value) is other more = absurd (other place value (search (rules, the_lemmas, is)))
chain_by x (Expr-F.Binary place op a b) is other more = absurd (more place op a b (search (rules, the_lemmas, is)))
chain_by x _ is other more = search (rules, the_lemmas, is)

-- what is no literal and has no binary operator is no chain
pub no_chain : (x : Expr) → ((place : Place) (value : Literal) → x ≢ e.Literal place value) → ((place : Place) (op : TreeOp) (a b : Expr) → x ≢ e.Binary place op a b) → chain_of x ≡ number_chain (pos 0)
no_chain x other more = chain_by x (out-Expr x) refl other more
