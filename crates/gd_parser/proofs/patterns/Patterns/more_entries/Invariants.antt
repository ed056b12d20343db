use Rattle.gd_parser.specs.PatternForms.{more_entries}
use Rattle.gd_syntax.specs.Reading.{Loop, Outcome}
use Rattle.gd_syntax.specs.StatementGrammar.{entry_binds}
use Rattle.gd_syntax.specs.declared.tree.pattern.PatternEntry.{PatternEntry}
use Rattle.std.proofs.Common.{List, [], length, ◌-◌, ◌<◌, ◌∷◌, ◌≡◌, ◌≤◌}
use Rattle.std.specs.List.{list_any}
use Rattle.gd_parser.proofs.patterns.Patterns.more_entries.Given as goal

abbrev pub invariant-items : goal.invariant-items
invariant-items g l = record { reads : (o : Outcome (List PatternEntry)) → Loop (more_entries l.self.tokens.now l.self.free l.self.room) l.items l.at o → Loop (more_entries l.self.tokens.now l.self.free l.self.room) (l.fn.first.tree ∷ []) l.fn.first.at o; binds : l.binds ≡ list_any entry_binds l.items; after : l.fn.first.at ≤ l.at; within : l.at < length l.self.tokens.now }

abbrev pub decreases-items : goal.decreases-items
decreases-items g l = length l.self.tokens.now - l.at
