use Rattle.std.proofs.Common.{length, ◌-◌, ◌<◌, ◌≤◌, ◌+◌, ℕ}
use Rattle.gd_syntax.specs.Reading.{Outcome, Loop}
use Rattle.gdrun.specs.Taken.{further_argument}
use Rattle.gdrun.proofs.taken.further_arguments.Given as goal

abbrev pub invariant-arguments : goal.invariant-arguments
invariant-arguments l = record { reads : (o : Outcome ℕ) → Loop (further_argument l.tokens) l.count l.at o → Loop (further_argument l.tokens) 1 l.start o; few : l.count ≤ l.at + 1; after : l.start ≤ l.at; within : l.at < length l.tokens }

abbrev pub decreases-arguments : goal.decreases-arguments
decreases-arguments l = length l.tokens - l.at
