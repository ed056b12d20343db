use Rattle.turn_lock.specs.Passes.{IsPassOf}
use Rattle.turn_lock.specs.declared.tests.Journal.{Journal}
use Rattle.turn_lock.proofs.tests.write_lines.Given as goal

abbrev pub invariant-loop : goal.invariant-loop
invariant-loop g l = IsPassOf (λ (j : Journal). j.owner) l.lock l.pass
