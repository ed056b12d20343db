use Rattle.std.proofs.Common.{subst, ap}
use Rattle.stage_core.specs.CoreState.{state_of}
use Rattle.stage_core.specs.Rows.{log_of}
use Rattle.stage_core.specs.Schedule.{IsConsistent}
use Rattle.stage_core.proofs.Legal.{Laws}
use Rattle.stage_core.proofs.Schedule.{sound_is_consistent}
use Rattle.stage_core.proofs.engine.Core.is_consistent.Goals as goal

pub returns : goal.returns
returns g c =
    let i = c.self.inside in
    let laws : Laws g.O.StageOut = record { links_of_value = g.met.O.StageOut.links_of_value; walk_of_value = g.met.O.StageOut.walk_of_value; links_in_range = g.met.O.StageOut.links_in_range; walk_in_range = g.met.O.StageOut.walk_in_range; walk_within_links = g.met.O.StageOut.walk_within_links } in
    record { consistent = subst (λ s. IsConsistent g.O.StageOut s.project s) (ap (λ v. v.state) c.self.view_is) (sound_is_consistent g.O.StageOut laws (state_of i.project.value (log_of i.rows.items) i.in_progress.items) c.self.invariant.sound) }
