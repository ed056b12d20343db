use Rattle.gd_syntax.specs.Reading.{Outcome}
use Rattle.gd_syntax.specs.TokenReading.{place_at}
use Rattle.std.proofs.Common.{length, ◌-◌, ◌≡◌}
use Rattle.gd_syntax.specs.declared.tree.expr.Expr.{Expr}
use Rattle.gd_exprs.specs.Forms.{test, type_test}
use Rattle.gd_syntax.specs.Reading.{Loop}
use Rattle.gd_exprs.specs.Nests.{IsFound}
use Rattle.gd_exprs.proofs.rules.Rules.type_test.Given as goal

abbrev pub invariant-tests : goal.invariant-tests
invariant-tests g l = record { reads : (o : Outcome Expr) → Loop (test l.self.tokens.now l.self.room (place_at l.self.tokens.now l.start)) l.left.tree l.left.at o → type_test l.self.tokens.now l.self.room l.start o; found : IsFound l.self.tokens.now l.self.room l.start l.left; place : l.place ≡ place_at l.self.tokens.now l.start }

abbrev pub decreases-tests : goal.decreases-tests
decreases-tests g l = length l.self.tokens.now - l.left.at
