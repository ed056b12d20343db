-- A chain that the machine runs has the value of its tree.
use Rattle.std.proofs.Common.{◌≡◌, ◌∙◌, ℤ, ◌*ℤ◌, List, [], ◌∷◌, ◌++◌, rules, refl, sym, ap}
use Rattle.std.specs.Int.{int_wrap, w64}
use Rattle.std.proofs.lemmas.List.Sums.{fold-append}
use Rattle.gd_syntax.specs.declared.first.SumOp.{SumOp}
use Rattle.gd_syntax.specs.declared.first.SumOp.TheVariants as sign
use Rattle.gd_syntax.specs.declared.fault.Place.{Place}
use Rattle.gd_syntax.specs.declared.tree.expr.Expr.{Expr, the_lemmas}
use Rattle.gd_syntax.specs.declared.tree.expr.Expr.TheVariants as e
use Rattle.gd_syntax.specs.declared.tree.expr.Literal.{Literal}
use Rattle.gd_syntax.specs.declared.tree.expr.Literal.TheVariants as literal
use Rattle.gd_syntax.specs.declared.tree.expr.TreeOp.{TreeOp}
use Rattle.gd_syntax.specs.declared.tree.expr.TreeOp.TheVariants as op
use Rattle.gd_syntax.specs.FirstRun.{product_value, joined_value, sum_value}
use Rattle.gd_syntax.specs.FirstTree.{Product, Sum}
use Rattle.gdrun.specs.Single.{chain_of, one_product, times, with_term}
use Rattle.gdrun.specs.Values.{literal_value, operated, value_of, IsProduct, IsChain}
use Rattle.gdrun.proofs.Chains.{chain-Literal, chain-Binary}

value-Literal : (place : Place) (value : Literal) → value_of (e.Literal place value) ≡ literal_value value
unfolding value_of
value-Literal place value = search (rules, the_lemmas)

value-Binary : (place : Place) (op : TreeOp) (a b : Expr) → value_of (e.Binary place op a b) ≡ operated op (value_of a) (value_of b)
unfolding value_of
value-Binary place op a b = search (rules, the_lemmas)

-- one more factor, and one more term
times_value : (p : Product) (n : ℤ) → product_value (times p n) ≡ int_wrap w64 (product_value p *ℤ n)
times_value p n = fold-append (λ value factor. int_wrap w64 (value *ℤ factor)) p.first p.others (n ∷ [])

term_value : (s : Sum) (op : SumOp) (p : Product) → sum_value (with_term s op p) ≡ joined_value (sum_value s) op (product_value p)
term_value s op p = fold-append (λ value term. joined_value value term.0 (product_value term.1)) (product_value s.first) s.others ((op, p) ∷ [])

-- a product is one term
one_term : (x : Expr) → IsProduct x → (chain_of x).sum ≡ one_product (chain_of x).product
one_term x (IsProduct.number place n) = rw (chain-Literal place (literal.Int n)) refl
one_term x (IsProduct.times place at a n p) = rw (chain-Binary place op.Mul a (e.Literal at (literal.Int n))) refl

product_is : (x : Expr) → IsProduct x → product_value (chain_of x).product ≡ value_of x
product_is x (IsProduct.number place n) = rw (chain-Literal place (literal.Int n), value-Literal place (literal.Int n)) refl
product_is x (IsProduct.times place at a n p) =
    let ih = product_is a p in
    rw (chain-Binary place op.Mul a (e.Literal at (literal.Int n)), value-Binary place op.Mul a (e.Literal at (literal.Int n)), chain-Literal at (literal.Int n), value-Literal at (literal.Int n))
    (times_value (chain_of a).product n ∙ ap (λ v. int_wrap w64 (v *ℤ n)) ih)

pub chain_value : (x : Expr) → IsChain x → sum_value (chain_of x).sum ≡ value_of x
chain_value x (IsChain.product a p) = ap sum_value (one_term a p) ∙ product_is a p
chain_value x (IsChain.plus place a b c p) =
    let left = chain_value a c in
    let right = product_is b p in
    rw (chain-Binary place op.Add a b, value-Binary place op.Add a b) (term_value (chain_of a).sum sign.Add (chain_of b).product ∙ rw (left, right) refl)
chain_value x (IsChain.minus place a b c p) =
    let left = chain_value a c in
    let right = product_is b p in
    rw (chain-Binary place op.Sub a b, value-Binary place op.Sub a b) (term_value (chain_of a).sum sign.Sub (chain_of b).product ∙ rw (left, right) refl)
