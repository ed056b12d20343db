use Rattle.std.proofs.Common.{length, ◌-◌, ◌<◌, ◌≤◌}
use Rattle.gd_syntax.specs.Reading.{Outcome, Loop}
use Rattle.gdrun.specs.Taken.{further_call}
use Rattle.gdrun.proofs.taken.further_calls.Given as goal

abbrev pub invariant-calls : goal.invariant-calls
invariant-calls l = record { reads : (o : Outcome (Unit {0})) → Loop (further_call l.tokens) tt l.at o → Loop (further_call l.tokens) tt l.start o; after : l.start ≤ l.at; within : l.at < length l.tokens }

abbrev pub decreases-calls : goal.decreases-calls
decreases-calls l = length l.tokens - l.at
