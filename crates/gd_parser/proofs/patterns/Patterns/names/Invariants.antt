use Rattle.gd_parser.specs.PatternForms.{path_step}
use Rattle.gd_syntax.specs.Reading.{Loop, Outcome}
use Rattle.std.proofs.Common.{List, length, ℕ, ◌-◌, ◌<◌, ◌≤◌}
use Rattle.gd_parser.proofs.patterns.Patterns.names.Given as goal

abbrev pub invariant-names : goal.invariant-names
invariant-names g l = record { reads : (o : Outcome (List (List ℕ))) → Loop (path_step l.self.tokens.now l.self.free l.self.room) l.names l.at o → Loop (path_step l.self.tokens.now l.self.free l.self.room) l.initial.names l.start o; after : l.start ≤ l.at; within : l.at < length l.self.tokens.now }

abbrev pub decreases-names : goal.decreases-names
decreases-names g l = length l.self.tokens.now - l.at
