use Rattle.folder_rules.proofs.Alike.{same_facts, same_faults, same_file_faults}
use Rattle.folder_rules.proofs.laws.files_hang_on_what_they_read.Goals as goal

pub returns-clause-facts : goal.returns-clause-facts
returns-clause-facts c = same_facts

pub returns-clause-faults : goal.returns-clause-faults
returns-clause-faults c = same_faults

pub returns-clause-files : goal.returns-clause-files
returns-clause-files c = same_file_faults
