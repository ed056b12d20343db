use Rattle.gd_syntax.specs.Reading.{Loop, Outcome}
use Rattle.gd_syntax.specs.TokenReading.{Item}
use Rattle.gd_syntax.specs.declared.tree.expr.Expr.{Expr}
use Rattle.gd_syntax.specs.DeclarationGrammar.{expr}
use Rattle.std.proofs.Common.{List, [], length, ◌-◌, ◌<◌, ◌≤◌}
use Rattle.gd_syntax.specs.declared.token.Mark.TheVariants as m
use Rattle.gd_parser.proofs.declarations.args_before.Given as goal

abbrev pub invariant-items : goal.invariant-items
invariant-items l = record { reads : (o : Outcome (List Expr)) → Loop (Item l.tokens (expr l.tokens) m.RParen) l.items l.at o → Loop (Item l.tokens (expr l.tokens) m.RParen) [] l.start o; after : l.start ≤ l.at; within : l.at < length l.tokens }

abbrev pub decreases-items : goal.decreases-items
decreases-items l = length l.tokens - l.at
