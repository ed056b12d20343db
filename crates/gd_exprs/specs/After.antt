-- What a climb over the levels of operators reads after an operand.
use Rattle.std.specs.Prelude.{ℕ, zero, suc, ◌==◌, nat_le, List}
use Rattle.gd_syntax.specs.declared.tree.expr.Expr.{Expr}
use Rattle.gd_syntax.specs.declared.fault.Place.{Place}
use Rattle.gd_syntax.specs.declared.token.Token.{Token}
use Rattle.gd_syntax.specs.ExprGrammar.{BinaryTurn}
use Rattle.gd_syntax.specs.Reading.{Reading, ◌>>=◌, give, either, Loop}

module _ (tokens : List Token) (room : ℕ) (inner : ℕ → ℕ → Reading Expr) (place : Place) where
  -- the operators of the levels above `done`, up to the level n; the ninth has none
  abbrev pub after : ℕ → ℕ → Expr → Reading Expr
  after done zero left = give left
  after done (suc n) left = either (nat_le (suc n) done) (give left)
      (either (n == 8) (after done n left) (after done n left >>= Loop (BinaryTurn tokens room inner (suc n) place)))
