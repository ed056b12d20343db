use Rattle.std.proofs.Common.{length, ◌-◌, ◌<◌, ◌≤◌, ◌+◌, ℕ}
use Rattle.gd_syntax.specs.Reading.{Outcome, Loop}
use Rattle.gdrun.specs.Taken.{operator}
use Rattle.gdrun.proofs.taken.operators.Given as goal

abbrev pub invariant-operators : goal.invariant-operators
invariant-operators l = record { reads : (o : Outcome ℕ) → Loop (operator l.tokens) l.count l.at o → Loop (operator l.tokens) 0 l.start o; few : l.count ≤ l.at + 1; after : l.start ≤ l.at; within : l.at < length l.tokens }

abbrev pub decreases-operators : goal.decreases-operators
decreases-operators l = length l.tokens - l.at
