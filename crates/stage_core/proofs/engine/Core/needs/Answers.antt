use Rattle.std.proofs.Common.{sym, ap, subst, subst₂, ◌≡◌, ◌<◌, ◌∙◌, ℕ, false, true, Contains, cond, eqb, All, ◌↔◌}
use Rattle.stage_core.specs.Rows.{log_of}
use Rattle.stage_core.specs.FileSets.{with_file}
use Rattle.stage_core.specs.Machine.{IsOpen, edges, direct_needs}
use Rattle.stage_core.specs.Stages.{Reaches}
use Rattle.stage_core.specs.Needs.{AreNeeds, IsNeedOutcome}
use Rattle.stage_core.proofs.Legal.{Laws}
use Rattle.stage_core.proofs.Reach.{empty_file_set, with_file_set, first_file}
use Rattle.stage_core.proofs.CoreSteps.{in_range, known_row}
use Rattle.stage_core.specs.Value.{IsTaskOf, AreNeedsOf}
use Rattle.stage_core.proofs.NeedValues.{needs_have_values, no_needs_of, open_is_task}
use Rattle.stage_core.proofs.NeedOutcomes.{no_needs, needs_are}
use Rattle.stage_core.proofs.engine.Core.needs.Goals as goal

pub returns-then-stage-lt2-clause-by_log : goal.returns-then-stage-lt2-clause-by_log
returns-then-stage-lt2-clause-by_log g c =
    rw c.new.ensures.items (no_needs g.O.StageOut _ _ _ _ (subst (λ t. t.stage < 2) c.claim.view_is c.if-stage-lt2.true))

pub add_file-requires-clause-in_range : goal.add_file-requires-clause-in_range
add_file-requires-clause-in_range g c =
    let i = c.self.inside in
    let t = c.claim.inside in
    let laws : Laws g.O.StageOut = record { links_of_value = g.met.O.StageOut.links_of_value; walk_of_value = g.met.O.StageOut.walk_of_value; links_in_range = g.met.O.StageOut.links_in_range; walk_in_range = g.met.O.StageOut.walk_in_range; walk_within_links = g.met.O.StageOut.walk_within_links } in
    let file = ap (λ k. k.file) c.claim.view_is in
    let stage = ap (λ k. k.stage) c.claim.view_is in
    let task : IsOpen g.O.StageOut (log_of i.rows.items) t.file t.stage = subst₂ (λ k s. IsOpen g.O.StageOut s.log k.file k.stage) (sym c.claim.view_is) (sym (ap (λ v. v.state) c.self.view_is)) c.requires.task in
    (known_row g.O.StageOut laws i.project.value i.rows.items i.in_progress.items i.files _ _ _ c.self.invariant t.file t.stage task).0

pub add_file-requires-clause-visited : goal.add_file-requires-clause-visited
add_file-requires-clause-visited g c = rw c.in_ok-visited.ensures.items (empty_file_set _)

pub add_reachable-requires-clause-in_range : goal.add_reachable-requires-clause-in_range
add_reachable-requires-clause-in_range g c a b =
    let i = c.self.inside in
    let t = c.claim.inside in
    let laws : Laws g.O.StageOut = record { links_of_value = g.met.O.StageOut.links_of_value; walk_of_value = g.met.O.StageOut.walk_of_value; links_in_range = g.met.O.StageOut.links_in_range; walk_in_range = g.met.O.StageOut.walk_in_range; walk_within_links = g.met.O.StageOut.walk_within_links } in
    let file = ap (λ k. k.file) c.claim.view_is in
    let stage = ap (λ k. k.stage) c.claim.view_is in
    let task : IsOpen g.O.StageOut (log_of i.rows.items) t.file t.stage = subst₂ (λ k s. IsOpen g.O.StageOut s.log k.file k.stage) (sym c.claim.view_is) (sym (ap (λ v. v.state) c.self.view_is)) c.requires.task in
    let r = in_range g.O.StageOut laws i.project.value i.rows.items i.in_progress.items i.files _ _ _ c.self.invariant in
    rw c.deref.ensures.value (elim (eqb t.stage 2) as (λ x. Contains (edges (cond x g.O.StageOut.walk g.O.StageOut.links) (log_of i.rows.items) a) b → b < i.files) [ true ↦ r.by_walk a b | false ↦ r.by_links a b ])

pub add_reachable-requires-clause-visited : goal.add_reachable-requires-clause-visited
add_reachable-requires-clause-visited g c =
    let i = c.self.inside in
    let t = c.claim.inside in
    let laws : Laws g.O.StageOut = record { links_of_value = g.met.O.StageOut.links_of_value; walk_of_value = g.met.O.StageOut.walk_of_value; links_in_range = g.met.O.StageOut.links_in_range; walk_in_range = g.met.O.StageOut.walk_in_range; walk_within_links = g.met.O.StageOut.walk_within_links } in
    let file = ap (λ k. k.file) c.claim.view_is in
    let stage = ap (λ k. k.stage) c.claim.view_is in
    let task : IsOpen g.O.StageOut (log_of i.rows.items) t.file t.stage = subst₂ (λ k s. IsOpen g.O.StageOut s.log k.file k.stage) (sym c.claim.view_is) (sym (ap (λ v. v.state) c.self.view_is)) c.requires.task in
    rw c.add_file.ensures.after (with_file_set _ _ _ (known_row g.O.StageOut laws i.project.value i.rows.items i.in_progress.items i.files _ _ _ c.self.invariant t.file t.stage task).0 (rw c.in_ok-visited.ensures.items (empty_file_set _)))

pub all_needs-requires-clause-done : goal.all_needs-requires-clause-done
all_needs-requires-clause-done g c other there =
    let i = c.self.inside in
    let t = c.claim.inside in
    let laws : Laws g.O.StageOut = record { links_of_value = g.met.O.StageOut.links_of_value; walk_of_value = g.met.O.StageOut.walk_of_value; links_in_range = g.met.O.StageOut.links_in_range; walk_in_range = g.met.O.StageOut.walk_in_range; walk_within_links = g.met.O.StageOut.walk_within_links } in
    let file = ap (λ k. k.file) c.claim.view_is in
    let stage = ap (λ k. k.stage) c.claim.view_is in
    let task : IsOpen g.O.StageOut (log_of i.rows.items) t.file t.stage = subst₂ (λ k s. IsOpen g.O.StageOut s.log k.file k.stage) (sym c.claim.view_is) (sym (ap (λ v. v.state) c.self.view_is)) c.requires.task in
    let reached : (b : ℕ) → Contains c.add_reachable.new.visited.items b ↔ ((a : ℕ) × Contains (with_file c.in_ok-visited.visited.items t.file) a × Reaches (direct_needs g.O.StageOut (log_of i.rows.items) t.stage) a b) =
    subst₂ (λ ls first. (b : ℕ) → Contains c.add_reachable.new.visited.items b ↔ ((a : ℕ) × Contains first a × Reaches (direct_needs g.O.StageOut (log_of ls) t.stage) a b)) c.deref.ensures.value c.add_file.ensures.after c.add_reachable.ensures.reached in
    let from = (reached other).0 (subst (λ xs. Contains xs other) c.deref-3.ensures.value there) in
    let same : t.file ≡ from.0 = first_file _ _ _ c.in_ok-visited.ensures.items from.1 in
    rw c.deref-2.ensures.value (task.needs other (record { above = c.if-stage-lt2.false; reached = subst (λ a. Reaches (direct_needs g.O.StageOut (log_of i.rows.items) t.stage) a other) (sym same) from.2 }))

pub returns-clause-by_log : goal.returns-clause-by_log
returns-clause-by_log g c =
    let i = c.self.inside in
    let t = c.claim.inside in
    let laws : Laws g.O.StageOut = record { links_of_value = g.met.O.StageOut.links_of_value; walk_of_value = g.met.O.StageOut.walk_of_value; links_in_range = g.met.O.StageOut.links_in_range; walk_in_range = g.met.O.StageOut.walk_in_range; walk_within_links = g.met.O.StageOut.walk_within_links } in
    let file = ap (λ k. k.file) c.claim.view_is in
    let stage = ap (λ k. k.stage) c.claim.view_is in
    let task : IsOpen g.O.StageOut (log_of i.rows.items) t.file t.stage = subst₂ (λ k s. IsOpen g.O.StageOut s.log k.file k.stage) (sym c.claim.view_is) (sym (ap (λ v. v.state) c.self.view_is)) c.requires.task in
    let reached : (b : ℕ) → Contains c.add_reachable.new.visited.items b ↔ ((a : ℕ) × Contains (with_file c.in_ok-visited.visited.items t.file) a × Reaches (direct_needs g.O.StageOut (log_of i.rows.items) t.stage) a b) =
    subst₂ (λ ls first. (b : ℕ) → Contains c.add_reachable.new.visited.items b ↔ ((a : ℕ) × Contains first a × Reaches (direct_needs g.O.StageOut (log_of ls) t.stage) a b)) c.deref.ensures.value c.add_file.ensures.after c.add_reachable.ensures.reached in
    let needs = c.in_ok-needs.needs.items in
    let r = needs_are g.O.StageOut i.files (log_of i.rows.items) t.file t.stage c.if-stage-lt2.false c.in_ok-visited.visited.items c.add_reachable.new.visited.items needs c.in_ok-visited.ensures.items reached c.add_reachable.ensures.visited (c.in_ok-needs.ensures.of ∙ c.deref-3.ensures.value) (subst (λ ls. All (IsNeedOutcome (log_of ls) t.file t.stage) needs) c.deref-2.ensures.value c.in_ok-needs.ensures.handed) in
    let files : i.files ≡ g.O.StageOut.files i.project.value = c.self.invariant.all_files in
    subst (λ k. AreNeeds g.O.StageOut (g.O.StageOut.files c.args.self.now.state.project) c.args.self.now.state.log k.file k.stage needs) c.claim.view_is
    (subst (λ s. AreNeeds g.O.StageOut (g.O.StageOut.files s.project) s.log t.file t.stage needs) (ap (λ v. v.state) c.self.view_is) (subst (λ n. AreNeeds g.O.StageOut n (log_of i.rows.items) t.file t.stage needs) files r))

pub returns-then-stage-lt2-clause-values : goal.returns-then-stage-lt2-clause-values
returns-then-stage-lt2-clause-values g c =
    rw c.new.ensures.items (no_needs_of g.O.StageOut _ _ _ (subst (λ t. t.stage < 2) c.claim.view_is c.if-stage-lt2.true))

pub returns-clause-values : goal.returns-clause-values
returns-clause-values g c =
    let i = c.self.inside in
    let t = c.claim.inside in
    let laws : Laws g.O.StageOut = record { links_of_value = g.met.O.StageOut.links_of_value; walk_of_value = g.met.O.StageOut.walk_of_value; links_in_range = g.met.O.StageOut.links_in_range; walk_in_range = g.met.O.StageOut.walk_in_range; walk_within_links = g.met.O.StageOut.walk_within_links } in
    let file = ap (λ k. k.file) c.claim.view_is in
    let stage = ap (λ k. k.stage) c.claim.view_is in
    let task : IsOpen g.O.StageOut (log_of i.rows.items) t.file t.stage = subst₂ (λ k s. IsOpen g.O.StageOut s.log k.file k.stage) (sym c.claim.view_is) (sym (ap (λ v. v.state) c.self.view_is)) c.requires.task in
    let reached : (b : ℕ) → Contains c.add_reachable.new.visited.items b ↔ ((a : ℕ) × Contains (with_file c.in_ok-visited.visited.items t.file) a × Reaches (direct_needs g.O.StageOut (log_of i.rows.items) t.stage) a b) =
    subst₂ (λ ls first. (b : ℕ) → Contains c.add_reachable.new.visited.items b ↔ ((a : ℕ) × Contains first a × Reaches (direct_needs g.O.StageOut (log_of ls) t.stage) a b)) c.deref.ensures.value c.add_file.ensures.after c.add_reachable.ensures.reached in
    let needs = c.in_ok-needs.needs.items in
    let r = needs_are g.O.StageOut i.files (log_of i.rows.items) t.file t.stage c.if-stage-lt2.false c.in_ok-visited.visited.items c.add_reachable.new.visited.items needs c.in_ok-visited.ensures.items reached c.add_reachable.ensures.visited (c.in_ok-needs.ensures.of ∙ c.deref-3.ensures.value) (subst (λ ls. All (IsNeedOutcome (log_of ls) t.file t.stage) needs) c.deref-2.ensures.value c.in_ok-needs.ensures.handed) in
    let v = needs_have_values g.O.StageOut i.project.value laws (log_of i.rows.items) c.self.invariant.sound.legal i.files t.file t.stage needs task.needs r in
    subst (λ k. AreNeedsOf g.O.StageOut c.args.self.now.state.project k.file k.stage needs) c.claim.view_is (subst (λ s. AreNeedsOf g.O.StageOut s.project t.file t.stage needs) (ap (λ v. v.state) c.self.view_is) v)

pub returns-then-stage-lt2-clause-task : goal.returns-then-stage-lt2-clause-task
returns-then-stage-lt2-clause-task g c =
    let i = c.self.inside in
    let laws : Laws g.O.StageOut = record { links_of_value = g.met.O.StageOut.links_of_value; walk_of_value = g.met.O.StageOut.walk_of_value; links_in_range = g.met.O.StageOut.links_in_range; walk_in_range = g.met.O.StageOut.walk_in_range; walk_within_links = g.met.O.StageOut.walk_within_links } in
    let t = c.claim.inside in
    let task : IsOpen g.O.StageOut (log_of i.rows.items) t.file t.stage = subst₂ (λ k s. IsOpen g.O.StageOut s.log k.file k.stage) (sym c.claim.view_is) (sym (ap (λ v. v.state) c.self.view_is)) c.requires.task in
    subst₂ (λ s k. IsTaskOf g.O.StageOut s.project k.file k.stage) (ap (λ v. v.state) c.self.view_is) c.claim.view_is (open_is_task g.O.StageOut i.project.value laws (log_of i.rows.items) c.self.invariant.sound.legal t.file t.stage task)

pub returns-clause-task : goal.returns-clause-task
returns-clause-task g c =
    let i = c.self.inside in
    let laws : Laws g.O.StageOut = record { links_of_value = g.met.O.StageOut.links_of_value; walk_of_value = g.met.O.StageOut.walk_of_value; links_in_range = g.met.O.StageOut.links_in_range; walk_in_range = g.met.O.StageOut.walk_in_range; walk_within_links = g.met.O.StageOut.walk_within_links } in
    let t = c.claim.inside in
    let task : IsOpen g.O.StageOut (log_of i.rows.items) t.file t.stage = subst₂ (λ k s. IsOpen g.O.StageOut s.log k.file k.stage) (sym c.claim.view_is) (sym (ap (λ v. v.state) c.self.view_is)) c.requires.task in
    subst₂ (λ s k. IsTaskOf g.O.StageOut s.project k.file k.stage) (ap (λ v. v.state) c.self.view_is) c.claim.view_is (open_is_task g.O.StageOut i.project.value laws (log_of i.rows.items) c.self.invariant.sound.legal t.file t.stage task)
