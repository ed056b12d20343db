use Rattle.turn_lock.specs.Passes.{IsPassOf}
use Rattle.turn_lock.specs.declared.tests.Journal.{Journal}
use Rattle.turn_lock.proofs.tests.write_waiting.Given as goal

abbrev pub invariant-loop-number : goal.invariant-loop-number
invariant-loop-number g l = IsPassOf (λ (j : Journal). j.owner) l.lock l.pass
