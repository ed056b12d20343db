use Rattle.gd_exprs.specs.Forms.{inner}
use Rattle.gd_syntax.specs.Reading.{Outcome}
use Rattle.std.proofs.Common.{length, ◌-◌, ◌≤◌}
use Rattle.gd_syntax.specs.declared.tree.expr.Expr.{Expr}
use Rattle.gd_exprs.specs.After.{after}
use Rattle.gd_exprs.specs.Nests.{IsPart}
use Rattle.gd_exprs.proofs.rules.Rules.climb.Given as goal

abbrev pub invariant-operators : goal.invariant-operators
invariant-operators g l = record { reads : (o : Outcome Expr) → after l.self.tokens.now l.self.room (inner l.self.tokens.now l.self.room) l.place l.done l.least l.left.tree l.left.at o → after l.self.tokens.now l.self.room (inner l.self.tokens.now l.self.room) l.place l.initial.done l.least l.initial.left.tree l.initial.left.at o; part : IsPart l.self.tokens.now l.self.room l.left; goes_on : l.initial.left.at ≤ l.left.at }

abbrev pub decreases-operators : goal.decreases-operators
decreases-operators g l = length l.self.tokens.now - l.left.at
