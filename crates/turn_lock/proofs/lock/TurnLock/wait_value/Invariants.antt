use Rattle.turn_lock.specs.Passes.{IsPassOf, KeepsHistory, KeepsTurns}
use Rattle.turn_lock.proofs.lock.TurnLock.wait_value.Given as goal

abbrev pub invariant-loop : goal.invariant-loop
invariant-loop g l =
    (goal.iterator-loop g).can_next l.iterator' × (goal.iterator-loop g).is_finite l.iterator' × IsPassOf g.T.Told.project l.self l.pass × KeepsHistory l.initial.pass l.pass × KeepsTurns l.initial.pass l.pass
