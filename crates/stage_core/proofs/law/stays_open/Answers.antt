use Rattle.stage_core.proofs.Grow.{open_later}
use Rattle.stage_core.proofs.law.stays_open.Goals as goal

pub returns : goal.returns
returns g c log later file stage begins task = open_later g.O.StageOut log later file stage begins task
