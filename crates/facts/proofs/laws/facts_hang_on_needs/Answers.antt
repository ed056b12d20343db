use Rattle.facts.proofs.Derivations.{parts_resolved, needs_resolved}
use Rattle.facts.proofs.Cycles.{needs_itself, unresolved_round}
use Rattle.facts.proofs.laws.facts_hang_on_needs.Goals as goal

pub returns-clause-given : goal.returns-clause-given
returns-clause-given g c = parts_resolved

pub returns-clause-needed : goal.returns-clause-needed
returns-clause-needed g c = needs_resolved

pub returns-clause-cycle : goal.returns-clause-cycle
returns-clause-cycle g c = unresolved_round

pub returns-clause-back : goal.returns-clause-back
returns-clause-back g c = needs_itself
