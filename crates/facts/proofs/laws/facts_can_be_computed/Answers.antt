use Rattle.facts.proofs.Evaluation.{evaluated_has, failed_at_fault, waits_requires}
use Rattle.facts.proofs.laws.facts_can_be_computed.Goals as goal

pub returns-clause-fact : goal.returns-clause-fact
returns-clause-fact g c = evaluated_has

pub returns-clause-fault : goal.returns-clause-fault
returns-clause-fault g c = failed_at_fault

pub returns-clause-needed : goal.returns-clause-needed
returns-clause-needed g c = waits_requires
