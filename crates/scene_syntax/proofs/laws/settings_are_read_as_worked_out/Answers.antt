use Rattle.scene_syntax.proofs.ProjectRowsProved.{project_rows}
use Rattle.scene_syntax.proofs.laws.settings_are_read_as_worked_out.Goals as goal

pub returns : goal.returns
returns c = project_rows
