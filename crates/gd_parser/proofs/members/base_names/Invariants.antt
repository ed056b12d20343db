use Rattle.gd_syntax.specs.Reading.{Look, Loop, Outcome}
use Rattle.gd_syntax.specs.TokenReading.{mark_at}
use Rattle.gd_syntax.specs.MemberGrammar.{base_by}
use Rattle.std.proofs.Common.{List, [], length, ℕ, ◌-◌, ◌<◌, ◌≤◌}
use Rattle.gd_parser.proofs.members.base_names.Given as goal

abbrev pub invariant-names : goal.invariant-names
invariant-names l = record { reads : (o : Outcome (List (List ℕ))) → Loop (λ sofar. Look (mark_at l.tokens) (base_by l.tokens sofar)) l.names l.at o → Loop (λ sofar. Look (mark_at l.tokens) (base_by l.tokens sofar)) [] l.start o; after : l.start ≤ l.at; within : l.at < length l.tokens }

abbrev pub decreases-names : goal.decreases-names
decreases-names l = length l.tokens - l.at
