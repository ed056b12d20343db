use Rattle.std.proofs.Common.{◌≤◌, ◌*◌, subst₂, arith, sym, ap, subst, ◌<◌, length}
use Rattle.stage_core.specs.CoreState.{state_of}
use Rattle.stage_core.specs.Rows.{log_of}
use Rattle.stage_core.specs.Machine.{IsOpen, outcomes}
use Rattle.stage_core.proofs.Legal.{Laws}
use Rattle.stage_core.proofs.CoreSteps.{log_few, give_back_keeps, known_row}
use Rattle.stage_core.proofs.engine.Core.give_back.Goals as goal

pub index_mut-requires : goal.index_mut-requires
index_mut-requires g c =
    let i = c.self.inside in
    let t = c.claim.inside in
    let laws : Laws g.O.StageOut = record { links_of_value = g.met.O.StageOut.links_of_value; walk_of_value = g.met.O.StageOut.walk_of_value; links_in_range = g.met.O.StageOut.links_in_range; walk_in_range = g.met.O.StageOut.walk_in_range; walk_within_links = g.met.O.StageOut.walk_within_links } in
    let file = ap (λ k. k.file) c.claim.view_is in
    let stage = ap (λ k. k.stage) c.claim.view_is in
    let task : IsOpen g.O.StageOut (log_of i.rows.items) t.file t.stage = subst₂ (λ k s. IsOpen g.O.StageOut s.log k.file k.stage) (sym c.claim.view_is) (sym (ap (λ v. v.state) c.self.view_is)) c.requires.task in
    omega (arith, known_row g.O.StageOut laws i.project.value i.rows.items i.in_progress.items i.files _ _ _ c.self.invariant t.file t.stage task, i.in_progress.ok.0)

pub invariant_of-self : goal.invariant_of-self
invariant_of-self g c =
    let i = c.self.inside in
    let t = c.claim.inside in
    let laws : Laws g.O.StageOut = record { links_of_value = g.met.O.StageOut.links_of_value; walk_of_value = g.met.O.StageOut.walk_of_value; links_in_range = g.met.O.StageOut.links_in_range; walk_in_range = g.met.O.StageOut.walk_in_range; walk_within_links = g.met.O.StageOut.walk_within_links } in
    let file = ap (λ k. k.file) c.claim.view_is in
    let stage = ap (λ k. k.stage) c.claim.view_is in
    let task : IsOpen g.O.StageOut (log_of i.rows.items) t.file t.stage = subst₂ (λ k s. IsOpen g.O.StageOut s.log k.file k.stage) (sym c.claim.view_is) (sym (ap (λ v. v.state) c.self.view_is)) c.requires.task in
    let less : length (outcomes (log_of i.rows.items) t.file) < t.stage = subst (λ ls. length (outcomes (log_of ls) t.file) < t.stage) c.deref.ensures.value (omega (arith, c.outcome_count.ensures, c.if-stage-outcome_count.true)) in
    give_back_keeps g.O.StageOut laws i.project.value i.rows.items i.in_progress.items i.files _ _ _ c.self.invariant t.file t.stage task less

pub returns-then-stage-outcome_count-clause-few : goal.returns-then-stage-outcome_count-clause-few
returns-then-stage-outcome_count-clause-few g c =
    let i = c.self.inside in
    let laws : Laws g.O.StageOut = record { links_of_value = g.met.O.StageOut.links_of_value; walk_of_value = g.met.O.StageOut.walk_of_value; links_in_range = g.met.O.StageOut.links_in_range; walk_in_range = g.met.O.StageOut.walk_in_range; walk_within_links = g.met.O.StageOut.walk_within_links } in
    log_few g.O.StageOut laws (state_of i.project.value (log_of i.rows.items) i.in_progress.items) i.files _ _ _ c.self.invariant

pub returns-else-stage-outcome_count-clause-few : goal.returns-else-stage-outcome_count-clause-few
returns-else-stage-outcome_count-clause-few g c =
    let i = c.self.inside in
    let laws : Laws g.O.StageOut = record { links_of_value = g.met.O.StageOut.links_of_value; walk_of_value = g.met.O.StageOut.walk_of_value; links_in_range = g.met.O.StageOut.links_in_range; walk_in_range = g.met.O.StageOut.walk_in_range; walk_within_links = g.met.O.StageOut.walk_within_links } in
    subst (λ s. length s.log ≤ 11 * g.O.StageOut.files s.project) (ap (λ v. v.state) c.self.view_is) (log_few g.O.StageOut laws (state_of i.project.value (log_of i.rows.items) i.in_progress.items) i.files _ _ _ c.self.invariant)
