use Rattle.gd_parser.specs.BlockForms.{pats_turn}
use Rattle.gd_syntax.specs.Reading.{Loop, Outcome}
use Rattle.gd_syntax.specs.declared.tree.pattern.Pattern.{Pattern}
use Rattle.std.proofs.Common.{List, length, ◌-◌, ◌<◌, ◌≤◌}
use Rattle.gd_parser.proofs.branches.further_patterns.Given as goal

abbrev pub invariant-patterns : goal.invariant-patterns
invariant-patterns l = record { reads : (o : Outcome (List Pattern)) → Loop (pats_turn l.tokens l.bound) l.all l.at o → Loop (pats_turn l.tokens l.bound) l.initial.all l.start o; after : l.start ≤ l.at; within : l.at < length l.tokens }

abbrev pub decreases-patterns : goal.decreases-patterns
decreases-patterns l = length l.tokens - l.at
