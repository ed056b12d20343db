use Rattle.gd_parser.specs.PatternForms.{more}
use Rattle.gd_syntax.specs.Reading.{Loop, Outcome}
use Rattle.gd_syntax.specs.StatementGrammar.{binds}
use Rattle.gd_syntax.specs.declared.tree.pattern.Pattern.{Pattern}
use Rattle.std.proofs.Common.{List, [], length, ◌-◌, ◌<◌, ◌∷◌, ◌≡◌, ◌≤◌}
use Rattle.std.specs.List.{list_any}
use Rattle.gd_parser.proofs.patterns.Patterns.more.Given as goal

abbrev pub invariant-items : goal.invariant-items
invariant-items g l = record { reads : (o : Outcome (List Pattern)) → Loop (more l.self.tokens.now l.self.free l.self.room) l.items l.at o → Loop (more l.self.tokens.now l.self.free l.self.room) (l.fn.first.tree ∷ []) l.fn.first.at o; binds : l.binds ≡ list_any binds l.items; after : l.fn.first.at ≤ l.at; within : l.at < length l.self.tokens.now }

abbrev pub decreases-items : goal.decreases-items
decreases-items g l = length l.self.tokens.now - l.at
