use Rattle.folder_rules.proofs.Behind.{done_ancestors}
use Rattle.folder_rules.proofs.laws.done_at_stage_two_has_ancestors.Goals as goal

pub returns : goal.returns
returns c = done_ancestors
