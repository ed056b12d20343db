use Rattle.gd_parser.specs.BlockForms.{body_turn}
use Rattle.gd_syntax.specs.Reading.{Loop, Outcome}
use Rattle.gd_syntax.specs.declared.tree.statement.Stmt.{Stmt}
use Rattle.std.proofs.Common.{List, [], length, ◌-◌, ◌<◌, ◌≤◌}
use Rattle.gd_parser.proofs.blocks.Blocks.body.Given as goal

abbrev pub invariant-statements : goal.invariant-statements
invariant-statements g l = record { reads : (o : Outcome (List Stmt)) → Loop (body_turn l.self.tokens.now l.self.room) l.all l.at o → Loop (body_turn l.self.tokens.now l.self.room) [] l.start o; after : l.start ≤ l.at; within : l.at < length l.self.tokens.now }

abbrev pub decreases-statements : goal.decreases-statements
decreases-statements g l = length l.self.tokens.now - l.at
