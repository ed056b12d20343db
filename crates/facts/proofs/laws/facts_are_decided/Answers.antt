use Rattle.facts.proofs.Decision.{decide}
use Rattle.facts.proofs.FaultDecision.{fault_or}
use Rattle.facts.proofs.laws.facts_are_decided.Goals as goal

pub returns-clause-fact : goal.returns-clause-fact
returns-clause-fact g c rules = decide rules

pub returns-clause-fault : goal.returns-clause-fault
returns-clause-fault g c rules all closed rank ranked numbers = fault_or rules all closed rank ranked numbers
