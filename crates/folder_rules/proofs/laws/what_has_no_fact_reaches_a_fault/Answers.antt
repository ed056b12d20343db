use Rattle.folder_rules.proofs.Behind.{fact_or_fault}
use Rattle.folder_rules.proofs.laws.what_has_no_fact_reaches_a_fault.Goals as goal

pub returns : goal.returns
returns c = fact_or_fault
