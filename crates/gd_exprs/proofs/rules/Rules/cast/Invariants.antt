use Rattle.gd_syntax.specs.Reading.{Outcome}
use Rattle.gd_syntax.specs.TokenReading.{place_at}
use Rattle.std.proofs.Common.{length, ◌-◌, ◌≡◌}
use Rattle.gd_syntax.specs.declared.tree.expr.Expr.{Expr}
use Rattle.gd_exprs.specs.Forms.{cast_turn, cast}
use Rattle.gd_syntax.specs.Reading.{Loop}
use Rattle.gd_exprs.specs.Nests.{IsFound}
use Rattle.gd_exprs.proofs.rules.Rules.cast.Given as goal

abbrev pub invariant-casts : goal.invariant-casts
invariant-casts g l = record { reads : (o : Outcome Expr) → Loop (cast_turn l.self.tokens.now l.self.room (place_at l.self.tokens.now l.start)) l.left.tree l.left.at o → cast l.self.tokens.now l.self.room l.start o; found : IsFound l.self.tokens.now l.self.room l.start l.left; place : l.place ≡ place_at l.self.tokens.now l.start }

abbrev pub decreases-casts : goal.decreases-casts
decreases-casts g l = length l.self.tokens.now - l.left.at
