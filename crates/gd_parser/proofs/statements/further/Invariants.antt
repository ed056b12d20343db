use Rattle.gd_parser.specs.BlockForms.{line_turn}
use Rattle.gd_syntax.specs.Reading.{Loop, Outcome}
use Rattle.gd_syntax.specs.declared.tree.statement.Simple.{Simple}
use Rattle.std.proofs.Common.{List, length, ◌-◌, ◌<◌, ◌≤◌}
use Rattle.gd_parser.proofs.statements.further.Given as goal

abbrev pub invariant-statements : goal.invariant-statements
invariant-statements l = record { reads : (o : Outcome (List Simple)) → Loop (line_turn l.tokens) l.all l.at o → Loop (line_turn l.tokens) l.initial.all l.start o; after : l.start ≤ l.at; within : l.at < length l.tokens }

abbrev pub decreases-statements : goal.decreases-statements
decreases-statements l = length l.tokens - l.at
