use Rattle.std.proofs.Common.{◌≤◌, ◌*◌, ◌++◌, ◌∷◌, [], slice_set, subst₂, arith, refl, sym, ap, subst, ◌<◌, length}
use Rattle.stage_core.specs.CoreState.{state_of}
use Rattle.stage_core.specs.declared.log_rows.LogRow.TheVariants as row
use Rattle.stage_core.specs.Rows.{log_of}
use Rattle.stage_core.specs.Machine.{IsOpen, HoldsValue, outcomes}
use Rattle.stage_core.specs.Log.{value_of}
use Rattle.stage_core.proofs.Legal.{Laws}
use Rattle.stage_core.proofs.Logs.{prefix_joins}
use Rattle.stage_core.proofs.CoreSteps.{log_few, log_grows, publish_room, publish_keeps, known_row}
use Rattle.stage_core.proofs.engine.Core.publish.Goals as goal

pub push_reserved-requires : goal.push_reserved-requires
push_reserved-requires g c =
    let i = c.self.inside in
    let t = c.claim.inside in
    let laws : Laws g.O.StageOut = record { links_of_value = g.met.O.StageOut.links_of_value; walk_of_value = g.met.O.StageOut.walk_of_value; links_in_range = g.met.O.StageOut.links_in_range; walk_in_range = g.met.O.StageOut.walk_in_range; walk_within_links = g.met.O.StageOut.walk_within_links } in
    let file = ap (λ k. k.file) c.claim.view_is in
    let stage = ap (λ k. k.stage) c.claim.view_is in
    let task : IsOpen g.O.StageOut (log_of i.rows.items) t.file t.stage = subst₂ (λ k s. IsOpen g.O.StageOut s.log k.file k.stage) (sym c.claim.view_is) (sym (ap (λ v. v.state) c.self.view_is)) c.requires.task in
    let value : HoldsValue g.O.StageOut i.project.value t.file t.stage (value_of c.args.outcome) = rw (file, stage) (subst (λ s. HoldsValue g.O.StageOut s.project c.args.claim.file c.args.claim.stage (value_of c.args.outcome)) (sym (ap (λ v. v.state) c.self.view_is)) c.requires.value) in
    let less : length (outcomes (log_of i.rows.items) t.file) < t.stage = subst (λ ls. length (outcomes (log_of ls) t.file) < t.stage) c.deref.ensures.value (omega (arith, c.outcome_count.ensures, c.if-stage-outcome_count.true)) in
    omega (arith, publish_room g.O.StageOut laws i.project.value i.rows.items i.in_progress.items i.files _ _ _ c.self.invariant t.file t.stage c.args.outcome task value less, i.rows.ok.0)

pub index_mut-requires : goal.index_mut-requires
index_mut-requires g c =
    let i = c.self.inside in
    let t = c.claim.inside in
    let laws : Laws g.O.StageOut = record { links_of_value = g.met.O.StageOut.links_of_value; walk_of_value = g.met.O.StageOut.walk_of_value; links_in_range = g.met.O.StageOut.links_in_range; walk_in_range = g.met.O.StageOut.walk_in_range; walk_within_links = g.met.O.StageOut.walk_within_links } in
    let file = ap (λ k. k.file) c.claim.view_is in
    let stage = ap (λ k. k.stage) c.claim.view_is in
    let task : IsOpen g.O.StageOut (log_of i.rows.items) t.file t.stage = subst₂ (λ k s. IsOpen g.O.StageOut s.log k.file k.stage) (sym c.claim.view_is) (sym (ap (λ v. v.state) c.self.view_is)) c.requires.task in
    omega (arith, known_row g.O.StageOut laws i.project.value i.rows.items i.in_progress.items i.files _ _ _ c.self.invariant t.file t.stage task, i.in_progress.ok.0)

pub invariant_of-self : goal.invariant_of-self
invariant_of-self g c =
    let i = c.self.inside in
    let t = c.claim.inside in
    let laws : Laws g.O.StageOut = record { links_of_value = g.met.O.StageOut.links_of_value; walk_of_value = g.met.O.StageOut.walk_of_value; links_in_range = g.met.O.StageOut.links_in_range; walk_in_range = g.met.O.StageOut.walk_in_range; walk_within_links = g.met.O.StageOut.walk_within_links } in
    let file = ap (λ k. k.file) c.claim.view_is in
    let stage = ap (λ k. k.stage) c.claim.view_is in
    let task : IsOpen g.O.StageOut (log_of i.rows.items) t.file t.stage = subst₂ (λ k s. IsOpen g.O.StageOut s.log k.file k.stage) (sym c.claim.view_is) (sym (ap (λ v. v.state) c.self.view_is)) c.requires.task in
    let value : HoldsValue g.O.StageOut i.project.value t.file t.stage (value_of c.args.outcome) = rw (file, stage) (subst (λ s. HoldsValue g.O.StageOut s.project c.args.claim.file c.args.claim.stage (value_of c.args.outcome)) (sym (ap (λ v. v.state) c.self.view_is)) c.requires.value) in
    let less : length (outcomes (log_of i.rows.items) t.file) < t.stage = subst (λ ls. length (outcomes (log_of ls) t.file) < t.stage) c.deref.ensures.value (omega (arith, c.outcome_count.ensures, c.if-stage-outcome_count.true)) in
    rw (c.push_reserved.ensures.items, c.push_reserved.ensures.capacity) (publish_keeps g.O.StageOut laws i.project.value i.rows.items i.in_progress.items i.files _ _ _ c.self.invariant t.file t.stage c.args.outcome task value less)

pub returns-then-stage-outcome_count-clause-few : goal.returns-then-stage-outcome_count-clause-few
returns-then-stage-outcome_count-clause-few g c =
    let i = c.self.inside in
    let t = c.claim.inside in
    let laws : Laws g.O.StageOut = record { links_of_value = g.met.O.StageOut.links_of_value; walk_of_value = g.met.O.StageOut.walk_of_value; links_in_range = g.met.O.StageOut.links_in_range; walk_in_range = g.met.O.StageOut.walk_in_range; walk_within_links = g.met.O.StageOut.walk_within_links } in
    let file = ap (λ k. k.file) c.claim.view_is in
    let stage = ap (λ k. k.stage) c.claim.view_is in
    let task : IsOpen g.O.StageOut (log_of i.rows.items) t.file t.stage = subst₂ (λ k s. IsOpen g.O.StageOut s.log k.file k.stage) (sym c.claim.view_is) (sym (ap (λ v. v.state) c.self.view_is)) c.requires.task in
    let value : HoldsValue g.O.StageOut i.project.value t.file t.stage (value_of c.args.outcome) = rw (file, stage) (subst (λ s. HoldsValue g.O.StageOut s.project c.args.claim.file c.args.claim.stage (value_of c.args.outcome)) (sym (ap (λ v. v.state) c.self.view_is)) c.requires.value) in
    let less : length (outcomes (log_of i.rows.items) t.file) < t.stage = subst (λ ls. length (outcomes (log_of ls) t.file) < t.stage) c.deref.ensures.value (omega (arith, c.outcome_count.ensures, c.if-stage-outcome_count.true)) in
    let keeps = publish_keeps g.O.StageOut laws i.project.value i.rows.items i.in_progress.items i.files _ _ _ c.self.invariant t.file t.stage c.args.outcome task value less in
    rw c.push_reserved.ensures.items (log_few g.O.StageOut laws (state_of i.project.value (log_of (i.rows.items ++ row.Publish t.file t.stage c.args.outcome ∷ [])) (slice_set i.in_progress.items t.file 0)) i.files _ _ _ keeps)

pub returns-else-stage-outcome_count-clause-few : goal.returns-else-stage-outcome_count-clause-few
returns-else-stage-outcome_count-clause-few g c =
    let i = c.self.inside in
    let laws : Laws g.O.StageOut = record { links_of_value = g.met.O.StageOut.links_of_value; walk_of_value = g.met.O.StageOut.walk_of_value; links_in_range = g.met.O.StageOut.links_in_range; walk_in_range = g.met.O.StageOut.walk_in_range; walk_within_links = g.met.O.StageOut.walk_within_links } in
    subst (λ s. length s.log ≤ 11 * g.O.StageOut.files s.project) (ap (λ v. v.state) c.self.view_is) (log_few g.O.StageOut laws (state_of i.project.value (log_of i.rows.items) i.in_progress.items) i.files _ _ _ c.self.invariant)

pub returns-then-stage-outcome_count-clause-grows : goal.returns-then-stage-outcome_count-clause-grows
returns-then-stage-outcome_count-clause-grows g c = log_grows _ _ c.self.inside.rows.items _ _ (ap (λ v. v.state) c.self.view_is) refl c.push_reserved.ensures.items

pub returns-then-stage-outcome_count-clause-extends : goal.returns-then-stage-outcome_count-clause-extends
returns-then-stage-outcome_count-clause-extends g c extends p = prefix_joins extends _ _ p (log_grows _ _ c.self.inside.rows.items _ _ (ap (λ v. v.state) c.self.view_is) refl c.push_reserved.ensures.items)
