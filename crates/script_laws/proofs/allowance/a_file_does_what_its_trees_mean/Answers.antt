use Rattle.script_laws.proofs.TwiceFile.{file_is_of_trees}
use Rattle.script_laws.proofs.allowance.a_file_does_what_its_trees_mean.Goals as goal

pub returns : goal.returns
returns c = record { trees = file_is_of_trees }
