use Rattle.facts.proofs.Derivations.{only_runs}
use Rattle.facts.proofs.OneFault.{only_fault, resolved_apart_fault}
use Rattle.facts.proofs.laws.a_node_has_one_fact.Goals as goal

pub returns-clause-fact : goal.returns-clause-fact
returns-clause-fact g c rules n f h = only_runs rules n (rules.rule n) f h

pub returns-clause-fault : goal.returns-clause-fault
returns-clause-fault g c = only_fault

pub returns-clause-apart : goal.returns-clause-apart
returns-clause-apart g c = resolved_apart_fault
