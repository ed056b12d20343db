use Rattle.gd_syntax.specs.Reading.{Outcome}
use Rattle.gd_syntax.specs.TokenReading.{place_at}
use Rattle.std.proofs.Common.{length, ◌-◌, ◌≡◌}
use Rattle.gd_syntax.specs.declared.tree.expr.Expr.{Expr}
use Rattle.gd_exprs.specs.Forms.{part, postfix}
use Rattle.gd_syntax.specs.Reading.{Loop}
use Rattle.gd_exprs.specs.Nests.{IsFound}
use Rattle.gd_exprs.proofs.rules.Rules.postfix.Given as goal

abbrev pub invariant-parts : goal.invariant-parts
invariant-parts g l = record { reads : (o : Outcome Expr) → Loop (part l.self.tokens.now l.self.room (place_at l.self.tokens.now l.start)) l.left.tree l.left.at o → postfix l.self.tokens.now l.self.room l.start o; found : IsFound l.self.tokens.now l.self.room l.start l.left; place : l.place ≡ place_at l.self.tokens.now l.start }

abbrev pub decreases-parts : goal.decreases-parts
decreases-parts g l = length l.self.tokens.now - l.left.at
