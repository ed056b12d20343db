use Rattle.token_laws.specs.FaultOrder.{faults_in}
use Rattle.token_laws.proofs.FirstOfFaults.{first_counts, one_first}
use Rattle.token_laws.proofs.the_first_fault_counts.Goals as goal

pub returns-clause-first : goal.returns-clause-first
returns-clause-first c = first_counts c.args.text.now

pub returns-clause-one : goal.returns-clause-one
returns-clause-one c = one_first (faults_in c.args.text.now)
