use Rattle.facts.proofs.FaultSearch.{fault_behind}
use Rattle.facts.proofs.laws.a_node_without_a_fact_leads_to_a_fault.Goals as goal

pub returns : goal.returns
returns g c rules all closed rank ranked = fault_behind rules all closed rank ranked
