use Rattle.stage_core.proofs.Legal.{Laws}
use Rattle.stage_core.proofs.Schedule.{consistent}
use Rattle.stage_core.proofs.law.every_schedule.Goals as goal

pub returns : goal.returns
returns g c project events allowed =
    let laws : Laws g.O.StageOut = record { links_of_value = g.met.O.StageOut.links_of_value; walk_of_value = g.met.O.StageOut.walk_of_value; links_in_range = g.met.O.StageOut.links_in_range; walk_in_range = g.met.O.StageOut.walk_in_range; walk_within_links = g.met.O.StageOut.walk_within_links } in
    consistent g.O.StageOut laws project events allowed
