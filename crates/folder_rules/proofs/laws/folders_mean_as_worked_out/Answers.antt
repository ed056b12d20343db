use Rattle.folder_rules.proofs.BaseRowsProved.{base_rows}
use Rattle.folder_rules.proofs.InnerRowsProved.{inner_rows}
use Rattle.folder_rules.proofs.laws.folders_mean_as_worked_out.Goals as goal

pub returns-clause-bases : goal.returns-clause-bases
returns-clause-bases c = base_rows

pub returns-clause-classes : goal.returns-clause-classes
returns-clause-classes c = inner_rows
