-- What stands in a log after an event.
use Rattle.std.proofs.Common.{◌≡◌, ℕ, ◌+◌, ◌≤◌, true, false, cond, nat_le, List, [], ◌∷◌, ◌++◌, length, slice_set, ◌∙◌, refl, ap, subst₂, arith, append-nil, length-append}
use mathlib.Core.List.{IsPrefix}
use Rattle.std.proofs.lemmas.Bool.Decides.{nat_tests}
use Rattle.std.proofs.lemmas.List.Folds.{list_any-append}
use Rattle.stage_core.specs.declared.log.Entry.{Entry}
use Rattle.stage_core.specs.declared.log.OutcomeValue.{OutcomeValue}
use Rattle.stage_core.specs.declared.log.Entry.TheVariants.{Request, Claim, Publish}
use Rattle.stage_core.specs.Begins.{Begins}
use Rattle.stage_core.specs.Log.{State}
use Rattle.stage_core.specs.Machine.{outcomes, is_claim_of, is_claimed, is_request_of, is_requested, requested, claimed, published}
use Rattle.script_cache.specs.Tasks.{FinishedTask}
use Rattle.stage_core.proofs.Grow.{outcomes-push, outcomes_begin, added}

module _ {O : Type 0} where
  request_added : (log : List (Entry O)) (file : ℕ) → is_requested (log ++ Request file ∷ []) file ≡ true
  unfolding is_requested
  request_added log file = grind (arith, nat_tests, list_any-append (is_request_of file) log (Request file ∷ []))

  claim_added : (log : List (Entry O)) (file stage : ℕ) → is_claimed (log ++ Claim file stage ∷ []) file stage ≡ true
  unfolding is_claimed
  claim_added log file stage = grind (arith, nat_tests, list_any-append (is_claim_of file stage) log (Claim file stage ∷ []))

  publish_added : (log : List (Entry O)) (file stage : ℕ) (o : OutcomeValue O) → length (outcomes (log ++ Publish file stage o ∷ []) file) ≡ length (outcomes log file) + 1
  publish_added log file stage o = rw outcomes-push (grind (arith, nat_tests, length-append (outcomes log file) (added file (Publish file stage o))))

module _ {P O : Type 0} (s : State P O) (log : List (Entry O)) where
  pub request_logged : (file : ℕ) → log ≡ (requested s file).log → is_requested log file ≡ true
  request_logged file e =
      rw e (elim (is_requested s.log file) as (λ b. is_requested s.log file ≡ b → is_requested (cond b s.log (s.log ++ Request file ∷ [])) file ≡ true) [
        | true ↦ λ h. h
        | false ↦ λ h. request_added s.log file
      ] refl)

  pub claim_logged : (file stage : ℕ) → log ≡ (claimed s file stage).log → is_claimed log file stage ≡ true
  claim_logged file stage e =
      rw e (elim (is_claimed s.log file stage) as (λ b. is_claimed s.log file stage ≡ b → is_claimed (cond b s.log (s.log ++ Claim file stage ∷ [])) file stage ≡ true) [
        | true ↦ λ h. h
        | false ↦ λ h. claim_added s.log file stage
      ] refl)

  publish_there : (file stage : ℕ) (o : OutcomeValue O) → stage ≤ length (outcomes s.log file) + 1 → log ≡ (published s file stage o).log → stage ≤ length (outcomes log file)
  publish_there file stage o begun e =
      rw e (elim (nat_le stage (length (outcomes s.log file))) as (λ b. nat_le stage (length (outcomes s.log file)) ≡ b → stage ≤ length (outcomes (cond b s (record { project = s.project; log = s.log ++ Publish file stage o ∷ []; in_progress = slice_set s.in_progress file 0 })).log file)) [
        | true ↦ λ h. grind (arith, nat_tests)
        | false ↦ λ h. omega (arith, publish_added s.log file stage o)
      ] refl)

  pub publish_logged : (t : FinishedTask P O) (file stage : ℕ) (o : OutcomeValue O) → file ≡ t.task.file → stage ≡ t.task.stage → stage ≤ length (outcomes s.log file) + 1 → log ≡ (published s file stage o).log → t.task.stage ≤ length (outcomes log t.task.file)
  publish_logged t file stage o f k begun e = subst₂ (λ a b. b ≤ length (outcomes log a)) f k (publish_there file stage o begun e)

-- a log has no more outcomes than one that begins with it
pub outcomes_grow : {O : Type 0} (log later : List (Entry O)) (file : ℕ) → Begins log later → length (outcomes log file) ≤ length (outcomes later file)
outcomes_grow log later file b =
    let os = outcomes_begin log later file b in
    omega (arith, length-append (outcomes log file) os.rest, ap length os.joins)

pub begins_same : {X : Type 0} (xs ys : List X) → xs ≡ ys → Begins xs ys
begins_same xs ys e = record { rest = []; joins = append-nil xs ∙ e }

pub claimed_later : {O : Type 0} (log later : List (Entry O)) (file stage : ℕ) → IsPrefix log later → is_claimed log file stage ≡ true → is_claimed later file stage ≡ true
unfolding is_claimed
claimed_later log later file stage p h = rw (← p.1) (grind (arith, list_any-append (is_claim_of file stage) log p.0))
