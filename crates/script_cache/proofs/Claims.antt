-- What an entry that claims leaves to its pass.
use Rattle.std.proofs.Common.{◌≡◌, ◌∙◌, ℕ, ◌<◌, List, [], ◌∷◌, Result, Ok, Err, length, sym, subst, arith}
use Rattle.std.specs.Result.{IfOk}
use mathlib.Core.List.{IsPrefix}
use Rattle.stage_core.specs.declared.work.StageOut.{Ghosts}
use Rattle.stage_core.specs.declared.log.Entry.{Entry}
use Rattle.stage_core.specs.CoreState.{Task}
use Rattle.stage_core.specs.Log.{State, Event, GivesBack}
use Rattle.stage_core.specs.Machine.{outcomes, claimed, IsReady}
use Rattle.stage_core.proofs.Logs.{begins_from_prefix}
use Rattle.turn_lock.specs.declared.lock.Pass.{Pass}
use Rattle.turn_lock.specs.Passes.{seen_by}
use Rattle.script_cache.specs.declared.errors.NoRaise.{NoRaise}
use Rattle.script_cache.specs.declared.shared_core.SharedCore.{SharedCore}
use Rattle.script_cache.specs.Entries.{HasClaimed, HasMade, HasRetried, IsBack, IsTaskOfPass, IsTurn}
use Rattle.script_cache.proofs.Logged.{begins_same, claim_logged, claimed_later, outcomes_grow}

module _ {O P : Type 0} (g : Ghosts O P) (project : P) (p q : Pass (SharedCore O P) P (Entry O) (List ℕ)) where
  -- the turn found the core `found` and left it as `left`
  pub claimed_job : (r : Result (Task P O) NoRaise) (found left : State P O) → IsTurn project found left p q → IfOk r (λ job. IsReady g found.log found.in_progress job.file job.stage × (left ≡ claimed found job.file job.stage)) → IfOk r (λ job. HasClaimed g project job.file job.stage [] p q)
  claimed_job (Ok job) found left turn d = record { found = found; ready = d.0; entry = subst (λ s. IsTurn project found s p q) d.1 turn }
  claimed_job (Err none) found left turn d = tt

  pub job_of_pass : (r : Result (Task P O) NoRaise) (before after : State P O) → before.project ≡ project → seen_by q ≡ after.log → IfOk r (λ job. (job.project ≡ before.project) × (job.log ≡ after.log)) → IfOk r (λ job. IsTaskOfPass project job q)
  job_of_pass (Ok job) before after same log d = record { its_project = d.0 ∙ same; seen = begins_same _ _ (d.1 ∙ sym log) }
  job_of_pass (Err none) before after same log d = tt

  -- the task was not published in what the pass had seen
  pub claimed_past : (file stage : ℕ) (events : List (Event O)) → HasClaimed g project file stage events p q → length (outcomes (seen_by p) file) < stage
  claimed_past file stage events h = omega (arith, h.ready.next, outcomes_grow (seen_by p) h.found.log file (begins_from_prefix (seen_by p) h.found.log h.entry.begins))

  pub retried : (between : Pass (SharedCore O P) P (Entry O) (List ℕ)) (job back : Task P O) → back ≡ job → HasClaimed g project job.file job.stage [] p between → HasMade project (GivesBack back.file back.stage ∷ []) between q → IsBack g back.file back.stage q → IsPrefix (seen_by between) (seen_by q) → HasRetried g project p q
  retried between job back same claimed given stands grows = record {
    between = between;
    file = job.file;
    stage = job.stage;
    claimed = claimed;
    given_back = subst (λ j. HasMade project (GivesBack j.file j.stage ∷ []) between q) same given;
    logged = claimed_later (seen_by between) (seen_by q) job.file job.stage grows (claim_logged claimed.found (seen_by between) job.file job.stage claimed.entry.log);
    back = subst (λ j. IsBack g j.file j.stage q) same stands;
  }
