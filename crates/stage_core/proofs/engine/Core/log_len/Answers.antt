use Rattle.std.proofs.Common.{arith, subst, ◌≤◌, ◌*◌, length, ap}
use Rattle.std.proofs.lemmas.List.{length-map}
use Rattle.stage_core.specs.Rows.{log_of, entry_of}
use Rattle.stage_core.proofs.Legal.{Laws}
use Rattle.stage_core.proofs.Room.{few}
use Rattle.stage_core.proofs.engine.Core.log_len.Goals as goal

pub returns-clause-few : goal.returns-clause-few
returns-clause-few g c =
    let i = c.self.inside in
    let laws : Laws g.O.StageOut = record { links_of_value = g.met.O.StageOut.links_of_value; walk_of_value = g.met.O.StageOut.walk_of_value; links_in_range = g.met.O.StageOut.links_in_range; walk_in_range = g.met.O.StageOut.walk_in_range; walk_within_links = g.met.O.StageOut.walk_within_links } in
    let f : length (log_of i.rows.items) ≤ 11 * g.O.StageOut.files c.args.self.now.state.project = subst (λ s. length (log_of i.rows.items) ≤ 11 * g.O.StageOut.files s.project) (ap (λ v. v.state) c.self.view_is) (few g.O.StageOut i.project.value laws (log_of i.rows.items) c.self.invariant.sound.legal) in
    omega (arith, length-map i.rows.items entry_of, i.rows.ok.0)
