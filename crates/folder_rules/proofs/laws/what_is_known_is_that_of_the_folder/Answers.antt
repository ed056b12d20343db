use Rattle.folder_rules.proofs.SolvedAlike.{known_solving}
use Rattle.folder_rules.proofs.Knowing.{known_facts, known_faults}
use Rattle.folder_rules.proofs.laws.what_is_known_is_that_of_the_folder.Goals as goal

pub returns-clause-facts : goal.returns-clause-facts
returns-clause-facts c = known_facts

pub returns-clause-faults : goal.returns-clause-faults
returns-clause-faults c = known_faults

pub returns-clause-solving : goal.returns-clause-solving
returns-clause-solving c = known_solving
