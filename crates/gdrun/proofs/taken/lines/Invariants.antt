use Rattle.std.proofs.Common.{length, ◌-◌, ◌<◌, ◌≤◌}
use Rattle.gd_syntax.specs.Reading.{Outcome, Loop}
use Rattle.gdrun.specs.Taken.{further_line}
use Rattle.gdrun.proofs.taken.lines.Given as goal

abbrev pub invariant-lines : goal.invariant-lines
invariant-lines l = record { reads : (o : Outcome (Unit {0})) → Loop (further_line l.tokens) tt l.at o → Loop (further_line l.tokens) tt l.start o; within : l.at < length l.tokens }

abbrev pub decreases-lines : goal.decreases-lines
decreases-lines l = length l.tokens - l.at
