use Rattle.gd_syntax.specs.Reading.{Outcome}
use Rattle.std.proofs.Common.{List, length, ℕ, ◌-◌, ◌<◌, ◌≤◌}
use Rattle.gd_syntax.specs.TypeGrammar.{dotted}
use Rattle.gd_syntax.specs.Reading.{Loop}
use Rattle.gd_exprs.proofs.types.dotted.Given as goal

abbrev pub invariant-names : goal.invariant-names
invariant-names l = record { reads : (o : Outcome (List (List ℕ))) → Loop (dotted l.tokens) l.names l.at o → Loop (dotted l.tokens) l.initial.names l.start o; after : l.start ≤ l.at; within : l.at < length l.tokens }

abbrev pub decreases-names : goal.decreases-names
decreases-names l = length l.tokens - l.at
