use Rattle.gd_parser.specs.BlockForms.{elif}
use Rattle.gd_syntax.specs.Reading.{Loop, Outcome}
use Rattle.gd_syntax.specs.declared.tree.statement.Branch.{Branch}
use Rattle.std.proofs.Common.{List, length, ◌-◌, ◌<◌, ◌≤◌}
use Rattle.gd_parser.proofs.blocks.Blocks.elifs.Given as goal

abbrev pub invariant-branches : goal.invariant-branches
invariant-branches g l = record { reads : (o : Outcome (List Branch)) → Loop (elif l.self.tokens.now l.self.room) l.all l.at o → Loop (elif l.self.tokens.now l.self.room) l.initial.all l.start o; after : l.start ≤ l.at; within : l.at < length l.self.tokens.now }

abbrev pub decreases-branches : goal.decreases-branches
decreases-branches g l = length l.self.tokens.now - l.at
