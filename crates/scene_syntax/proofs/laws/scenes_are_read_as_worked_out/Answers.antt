use Rattle.scene_syntax.proofs.SceneRowsProved.{scene_rows}
use Rattle.scene_syntax.proofs.laws.scenes_are_read_as_worked_out.Goals as goal

pub returns : goal.returns
returns c = scene_rows
