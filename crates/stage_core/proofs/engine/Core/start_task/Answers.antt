use Rattle.std.proofs.Common.{arith, sym, subst, refl, ◌≡◌, ◌∙◌, false, true, append-nil, ap}
use Rattle.stage_core.specs.Rows.{log_of}
use Rattle.stage_core.specs.Machine.{is_claimed, IsReady}
use Rattle.stage_core.specs.CoreState.{state_of}
use Rattle.stage_core.proofs.Legal.{Laws}
use Rattle.stage_core.proofs.Grow.{outcomes-push, open_stays}
use Rattle.stage_core.proofs.Sound.{ready_is_open}
use Rattle.stage_core.proofs.Logs.{prefix_joins}
use Rattle.stage_core.proofs.CoreSteps.{log_grows, claim_room, claim_keeps_new, claim_keeps_old, ready_row, log_push}
use Rattle.stage_core.specs.Log.{Claim}
use Rattle.stage_core.proofs.engine.Core.start_task.Goals as goal

pub index_mut-requires : goal.index_mut-requires
index_mut-requires g c =
    let i = c.self.inside in
    let laws : Laws g.O.StageOut = record { links_of_value = g.met.O.StageOut.links_of_value; walk_of_value = g.met.O.StageOut.walk_of_value; links_in_range = g.met.O.StageOut.links_in_range; walk_in_range = g.met.O.StageOut.walk_in_range; walk_within_links = g.met.O.StageOut.walk_within_links } in
    let ready : IsReady g.O.StageOut (log_of i.rows.items) i.in_progress.items c.args.file c.args.stage = subst (λ s. IsReady g.O.StageOut s.log s.in_progress c.args.file c.args.stage) (sym (ap (λ v. v.state) c.self.view_is)) c.requires in
    omega (arith, ready_row g.O.StageOut laws i.project.value i.rows.items i.in_progress.items i.files _ _ _ c.self.invariant c.args.file c.args.stage ready, i.in_progress.ok.0)

pub push_reserved-requires : goal.push_reserved-requires
push_reserved-requires g c =
    let i = c.self.inside in
    let laws : Laws g.O.StageOut = record { links_of_value = g.met.O.StageOut.links_of_value; walk_of_value = g.met.O.StageOut.walk_of_value; links_in_range = g.met.O.StageOut.links_in_range; walk_in_range = g.met.O.StageOut.walk_in_range; walk_within_links = g.met.O.StageOut.walk_within_links } in
    let ready : IsReady g.O.StageOut (log_of i.rows.items) i.in_progress.items c.args.file c.args.stage = subst (λ s. IsReady g.O.StageOut s.log s.in_progress c.args.file c.args.stage) (sym (ap (λ v. v.state) c.self.view_is)) c.requires in
    let new : is_claimed (log_of i.rows.items) c.args.file c.args.stage ≡ false = subst (λ ls. is_claimed (log_of ls) c.args.file c.args.stage ≡ false) c.deref.ensures.value (sym c.has_claim.ensures ∙ c.if-not-has_claim.true) in
    omega (arith, claim_room g.O.StageOut laws i.project.value i.rows.items i.in_progress.items i.files _ _ _ c.self.invariant c.args.file c.args.stage ready new, i.rows.ok.0)

pub invariant_of-self : goal.invariant_of-self
invariant_of-self g c =
    let i = c.self.inside in
    let laws : Laws g.O.StageOut = record { links_of_value = g.met.O.StageOut.links_of_value; walk_of_value = g.met.O.StageOut.walk_of_value; links_in_range = g.met.O.StageOut.links_in_range; walk_in_range = g.met.O.StageOut.walk_in_range; walk_within_links = g.met.O.StageOut.walk_within_links } in
    let ready : IsReady g.O.StageOut (log_of i.rows.items) i.in_progress.items c.args.file c.args.stage = subst (λ s. IsReady g.O.StageOut s.log s.in_progress c.args.file c.args.stage) (sym (ap (λ v. v.state) c.self.view_is)) c.requires in
    let new : is_claimed (log_of i.rows.items) c.args.file c.args.stage ≡ false = subst (λ ls. is_claimed (log_of ls) c.args.file c.args.stage ≡ false) c.deref.ensures.value (sym c.has_claim.ensures ∙ c.if-not-has_claim.true) in
    rw (c.push_reserved.ensures.items, c.push_reserved.ensures.capacity) (claim_keeps_new g.O.StageOut laws i.project.value i.rows.items i.in_progress.items i.files _ _ _ c.self.invariant c.args.file c.args.stage ready new)

pub invariant_of-self-else-not-has_claim : goal.invariant_of-self-else-not-has_claim
invariant_of-self-else-not-has_claim g c =
    let i = c.self.inside in
    let laws : Laws g.O.StageOut = record { links_of_value = g.met.O.StageOut.links_of_value; walk_of_value = g.met.O.StageOut.walk_of_value; links_in_range = g.met.O.StageOut.links_in_range; walk_in_range = g.met.O.StageOut.walk_in_range; walk_within_links = g.met.O.StageOut.walk_within_links } in
    let ready : IsReady g.O.StageOut (log_of i.rows.items) i.in_progress.items c.args.file c.args.stage = subst (λ s. IsReady g.O.StageOut s.log s.in_progress c.args.file c.args.stage) (sym (ap (λ v. v.state) c.self.view_is)) c.requires in
    let old : is_claimed (log_of i.rows.items) c.args.file c.args.stage ≡ true = subst (λ ls. is_claimed (log_of ls) c.args.file c.args.stage ≡ true) c.deref.ensures.value (sym c.has_claim.ensures ∙ c.if-not-has_claim.false) in
    claim_keeps_old g.O.StageOut laws i.project.value i.rows.items i.in_progress.items i.files _ _ _ c.self.invariant c.args.file c.args.stage ready old

pub returns-then-not-has_claim-clause-open : goal.returns-then-not-has_claim-clause-open
returns-then-not-has_claim-clause-open g c =
    let i = c.self.inside in
    let laws : Laws g.O.StageOut = record { links_of_value = g.met.O.StageOut.links_of_value; walk_of_value = g.met.O.StageOut.walk_of_value; links_in_range = g.met.O.StageOut.links_in_range; walk_in_range = g.met.O.StageOut.walk_in_range; walk_within_links = g.met.O.StageOut.walk_within_links } in
    let ready : IsReady g.O.StageOut (log_of i.rows.items) i.in_progress.items c.args.file c.args.stage = subst (λ s. IsReady g.O.StageOut s.log s.in_progress c.args.file c.args.stage) (sym (ap (λ v. v.state) c.self.view_is)) c.requires in
    let task = ready_is_open g.O.StageOut (state_of i.project.value (log_of i.rows.items) i.in_progress.items) c.args.file c.args.stage ready in
    rw (c.push_reserved.ensures.items, log_push) (open_stays g.O.StageOut (log_of i.rows.items) (Claim c.args.file c.args.stage) c.args.file c.args.stage task)

pub returns-else-not-has_claim-clause-open : goal.returns-else-not-has_claim-clause-open
returns-else-not-has_claim-clause-open g c =
    let i = c.self.inside in
    let laws : Laws g.O.StageOut = record { links_of_value = g.met.O.StageOut.links_of_value; walk_of_value = g.met.O.StageOut.walk_of_value; links_in_range = g.met.O.StageOut.links_in_range; walk_in_range = g.met.O.StageOut.walk_in_range; walk_within_links = g.met.O.StageOut.walk_within_links } in
    let ready : IsReady g.O.StageOut (log_of i.rows.items) i.in_progress.items c.args.file c.args.stage = subst (λ s. IsReady g.O.StageOut s.log s.in_progress c.args.file c.args.stage) (sym (ap (λ v. v.state) c.self.view_is)) c.requires in
    ready_is_open g.O.StageOut (state_of i.project.value (log_of i.rows.items) i.in_progress.items) c.args.file c.args.stage ready

pub returns-then-not-has_claim-clause-grows : goal.returns-then-not-has_claim-clause-grows
returns-then-not-has_claim-clause-grows g c = log_grows _ _ c.self.inside.rows.items _ _ (ap (λ v. v.state) c.self.view_is) refl c.push_reserved.ensures.items

pub returns-then-not-has_claim-clause-next : goal.returns-then-not-has_claim-clause-next
returns-then-not-has_claim-clause-next g c =
    let i = c.self.inside in
    let ready : IsReady g.O.StageOut (log_of i.rows.items) i.in_progress.items c.args.file c.args.stage = subst (λ s. IsReady g.O.StageOut s.log s.in_progress c.args.file c.args.stage) (sym (ap (λ v. v.state) c.self.view_is)) c.requires in
    rw (c.push_reserved.ensures.items, log_push, outcomes-push, append-nil) ready.next

pub returns-else-not-has_claim-clause-next : goal.returns-else-not-has_claim-clause-next
returns-else-not-has_claim-clause-next g c =
    let i = c.self.inside in
    let ready : IsReady g.O.StageOut (log_of i.rows.items) i.in_progress.items c.args.file c.args.stage = subst (λ s. IsReady g.O.StageOut s.log s.in_progress c.args.file c.args.stage) (sym (ap (λ v. v.state) c.self.view_is)) c.requires in
    ready.next

pub returns-then-not-has_claim-clause-extends : goal.returns-then-not-has_claim-clause-extends
returns-then-not-has_claim-clause-extends g c extends p = prefix_joins extends _ _ p (log_grows _ _ c.self.inside.rows.items _ _ (ap (λ v. v.state) c.self.view_is) refl c.push_reserved.ensures.items)
