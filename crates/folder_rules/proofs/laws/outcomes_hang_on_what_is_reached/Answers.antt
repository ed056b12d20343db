use Rattle.folder_rules.proofs.Alike.{same_outcomes}
use Rattle.folder_rules.proofs.laws.outcomes_hang_on_what_is_reached.Goals as goal

pub returns : goal.returns
returns c folder other file alike k reached v i = same_outcomes folder other file alike k reached v i
