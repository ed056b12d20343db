use Rattle.gd_parser.specs.BlockForms.{match_turn}
use Rattle.gd_syntax.specs.Reading.{Loop, Outcome}
use Rattle.gd_syntax.specs.declared.tree.statement.MatchBranch.{MatchBranch}
use Rattle.std.proofs.Common.{List, [], length, ◌-◌, ◌<◌, ◌≤◌}
use Rattle.gd_parser.proofs.blocks.Blocks.match_branches.Given as goal

abbrev pub invariant-branches : goal.invariant-branches
invariant-branches g l = record { reads : (o : Outcome (List MatchBranch)) → Loop (match_turn l.self.tokens.now l.self.room) l.branches l.at o → Loop (match_turn l.self.tokens.now l.self.room) [] l.start o; after : l.start ≤ l.at; within : l.at < length l.self.tokens.now }

abbrev pub decreases-branches : goal.decreases-branches
decreases-branches g l = length l.self.tokens.now - l.at
