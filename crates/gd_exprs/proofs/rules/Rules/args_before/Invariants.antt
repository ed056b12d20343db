use Rattle.gd_syntax.specs.Levels.{levels}
use Rattle.gd_syntax.specs.Reading.{Outcome}
use Rattle.std.proofs.Common.{List, [], length, map, ◌-◌, ◌<◌, ◌≡◌, ◌≤◌}
use Rattle.gd_syntax.specs.declared.tree.expr.Expr.{Expr}
use Rattle.gd_exprs.specs.Forms.{args_before}
use Rattle.gd_syntax.specs.Levels as tree
use Rattle.gd_exprs.proofs.rules.Rules.args_before.Given as goal

abbrev pub invariant-items : goal.invariant-items
invariant-items g l = record { reads : (o : Outcome (List Expr)) → args_before l.self.tokens.now l.self.room l.closing l.items l.at o → args_before l.self.tokens.now l.self.room l.closing [] l.start o; levels : l.levels ≡ tree.most (map tree.levels l.items); fits : l.levels ≤ l.self.room - 1; after : l.start ≤ l.at; within : l.at < length l.self.tokens.now }

abbrev pub decreases-items : goal.decreases-items
decreases-items g l = length l.self.tokens.now - l.at
