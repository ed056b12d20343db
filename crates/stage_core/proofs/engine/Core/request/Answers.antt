use Rattle.std.proofs.Common.{arith, refl, sym, subst, ◌≡◌, ◌<◌, ◌∙◌, false, ap}
use Rattle.stage_core.specs.Rows.{log_of}
use Rattle.stage_core.specs.Machine.{is_requested}
use Rattle.stage_core.proofs.Legal.{Laws}
use Rattle.stage_core.proofs.Logs.{prefix_joins}
use Rattle.stage_core.proofs.CoreSteps.{log_grows, request_room, request_keeps}
use Rattle.stage_core.proofs.engine.Core.request.Goals as goal

pub push_reserved-requires : goal.push_reserved-requires
push_reserved-requires g c =
    let i = c.self.inside in
    let laws : Laws g.O.StageOut = record { links_of_value = g.met.O.StageOut.links_of_value; walk_of_value = g.met.O.StageOut.walk_of_value; links_in_range = g.met.O.StageOut.links_in_range; walk_in_range = g.met.O.StageOut.walk_in_range; walk_within_links = g.met.O.StageOut.walk_within_links } in
    let l : c.args.file < g.O.StageOut.files i.project.value = subst (λ s. c.args.file < g.O.StageOut.files s.project) (sym (ap (λ v. v.state) c.self.view_is)) c.requires in
    let e : is_requested (log_of i.rows.items) c.args.file ≡ false = subst (λ ls. is_requested (log_of ls) c.args.file ≡ false) c.deref.ensures.value (sym c.has_request.ensures ∙ c.if-not-has_request.true) in
    omega (arith, request_room g.O.StageOut laws i.project.value i.rows.items i.in_progress.items i.files _ _ _ c.self.invariant c.args.file l e, i.rows.ok.0)

pub invariant_of-self : goal.invariant_of-self
invariant_of-self g c =
    let i = c.self.inside in
    let laws : Laws g.O.StageOut = record { links_of_value = g.met.O.StageOut.links_of_value; walk_of_value = g.met.O.StageOut.walk_of_value; links_in_range = g.met.O.StageOut.links_in_range; walk_in_range = g.met.O.StageOut.walk_in_range; walk_within_links = g.met.O.StageOut.walk_within_links } in
    let l : c.args.file < g.O.StageOut.files i.project.value = subst (λ s. c.args.file < g.O.StageOut.files s.project) (sym (ap (λ v. v.state) c.self.view_is)) c.requires in
    let e : is_requested (log_of i.rows.items) c.args.file ≡ false = subst (λ ls. is_requested (log_of ls) c.args.file ≡ false) c.deref.ensures.value (sym c.has_request.ensures ∙ c.if-not-has_request.true) in
    rw (c.push_reserved.ensures.items, c.push_reserved.ensures.capacity) (request_keeps g.O.StageOut laws i.project.value i.rows.items i.in_progress.items i.files _ _ _ c.self.invariant c.args.file l e)

pub returns-then-not-has_request-clause-grows : goal.returns-then-not-has_request-clause-grows
returns-then-not-has_request-clause-grows g c = log_grows _ _ c.self.inside.rows.items _ _ (ap (λ v. v.state) c.self.view_is) refl c.push_reserved.ensures.items

pub returns-then-not-has_request-clause-extends : goal.returns-then-not-has_request-clause-extends
returns-then-not-has_request-clause-extends g c extends p = prefix_joins extends _ _ p (log_grows _ _ c.self.inside.rows.items _ _ (ap (λ v. v.state) c.self.view_is) refl c.push_reserved.ensures.items)
