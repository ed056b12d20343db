use Rattle.folder_rules.proofs.Decided.{fact_or, fault_of_node}
use Rattle.folder_rules.proofs.laws.nodes_of_folders_are_decided.Goals as goal

pub returns-clause-fact : goal.returns-clause-fact
returns-clause-fact c = fact_or

pub returns-clause-fault : goal.returns-clause-fault
returns-clause-fault c = fault_of_node
