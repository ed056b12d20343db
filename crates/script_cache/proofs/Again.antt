-- A task that is claimed and given back in one entry is ready again.
use Rattle.std.proofs.Common.{◌≡◌, ◌∙◌, ℕ, ◌+◌, true, false, cond, nat_le, List, [], ◌∷◌, ◌++◌, ◌-◌, ◌≤◌, ◌⊎◌, inl, inr, length, take, slice_index, slice_set, refl, sym, ap, subst, arith, append-nil}
use Rattle.std.proofs.lemmas.Bool.Decides.{nat_tests}
use Rattle.std.proofs.lemmas.List.{take_all}
use Rattle.std.proofs.lemmas.Grind.{common_steps}
use Rattle.stage_core.specs.declared.work.StageOut.{Ghosts}
use Rattle.stage_core.specs.declared.log.Entry.{Entry}
use Rattle.stage_core.specs.declared.log.Entry.TheVariants.{Claim}
use Rattle.stage_core.specs.Log.{State}
use Rattle.stage_core.specs.Machine.{outcomes, is_claimed, is_done_at, claimed, given_back, has_final, IsOpen, IsReady}
use Rattle.script_cache.proofs.Logged.{claim_logged}
use Rattle.stage_core.proofs.Grow.{outcomes-push, known_stays, needs_stay}

module _ {O P : Type 0} (g : Ghosts O P) where
  claim_same : (log : List (Entry O)) (file stage : ℕ) → outcomes (log ++ Claim file stage ∷ []) file ≡ outcomes log file
  claim_same log file stage = outcomes-push log (Claim file stage) file ∙ append-nil (outcomes log file)

  -- with its first claim in the log, and no task of the file under way
  ready_push : (log : List (Entry O)) (old left : List ℕ) (file stage : ℕ) → slice_index left file ≡ 0 → IsReady g log old file stage → IsReady g (log ++ Claim file stage ∷ []) left file stage
  ready_push log old left file stage free r =
      let same = claim_same log file stage in
      record {
        known = known_stays g log (Claim file stage) file r.known;
        next = rw same r.next;
        unfinished = rw same r.unfinished;
        free = free;
        needs = needs_stay g log (Claim file stage) file stage r.needs;
      }

  ready_same : (log : List (Entry O)) (old left : List ℕ) (file stage : ℕ) → slice_index left file ≡ 0 → IsReady g log old file stage → IsReady g log left file stage
  ready_same log old left file stage free r = record { known = r.known; next = r.next; unfinished = r.unfinished; free = free; needs = r.needs }

  cleared : (xs : List ℕ) (file : ℕ) → slice_index (slice_set xs file 0) file ≡ 0
  cleared xs file = grind (arith, common_steps)

  ready_claimed : (s : State P O) (left : List ℕ) (file stage : ℕ) → slice_index left file ≡ 0 → IsReady g s.log s.in_progress file stage → IsReady g (claimed s file stage).log left file stage
  ready_claimed s left file stage free r =
      elim (is_claimed s.log file stage) as (λ b. IsReady g (cond b s.log (s.log ++ Claim file stage ∷ [])) left file stage) [
        | true ↦ ready_same s.log s.in_progress left file stage free r
        | false ↦ ready_push s.log s.in_progress left file stage free r
      ]

  not_there : (log : List (Entry O)) (old : List ℕ) (file stage : ℕ) → IsReady g log old file stage → nat_le stage (length (outcomes log file)) ≡ false
  not_there log old file stage r = let next = r.next in grind (arith, nat_tests)

  pub ready_again : (s t : State P O) (file stage : ℕ) → t ≡ given_back (claimed s file stage) file stage → IsReady g s.log s.in_progress file stage → IsReady g t.log t.in_progress file stage
  ready_again s t file stage is r =
      let c = claimed s file stage in
      let free = cleared c.in_progress file in
      let left = slice_set c.in_progress file 0 in
      let again = ready_claimed s left file stage free r in
      let unpublished = not_there c.log left file stage again in
      subst (λ u. IsReady g u.log u.in_progress file stage) (sym is)
      (subst (λ b. IsReady g (cond b c (record c { in_progress = left })).log (cond b c (record c { in_progress = left })).in_progress file stage) (sym unpublished) again)

  pub given_back_logged : (s t : State P O) (log : List (Entry O)) (file stage : ℕ) → t ≡ given_back (claimed s file stage) file stage → log ≡ t.log → is_claimed log file stage ≡ true
  given_back_logged s t log file stage is e =
      let c = claimed s file stage in
      claim_logged s log file stage (e ∙ (ap (λ u. u.log) is ∙ elim (nat_le stage (length (outcomes c.log file))) as (λ b. (cond b c (record c { in_progress = slice_set c.in_progress file 0 })).log ≡ c.log) [ true ↦ refl | false ↦ refl ]))

  open_ready : (log : List (Entry O)) (left : List ℕ) (file stage : ℕ) → IsOpen g log file stage → nat_le stage (length (outcomes log file)) ≡ false → slice_index left file ≡ 0 → IsReady g log left file stage
  unfolding is_done_at
  open_ready log left file stage o e free =
      let next : stage ≡ length (outcomes log file) + 1 = let begun = o.begun in grind (arith, nat_tests) in
      let whole : take (stage - 1) (outcomes log file) ≡ outcomes log file = take_all (stage - 1) (outcomes log file) (omega arith) in
      let none : has_final (outcomes log file) ≡ false = subst (λ os. has_final os ≡ false) whole o.earlier_done in
      let five = o.to_five in
      record { known = o.known; next = next; unfinished = grind (arith, nat_tests); free = free; needs = o.needs }

  -- what a task that is given back is then
  pub stands : (s t : State P O) (log : List (Entry O)) (file stage : ℕ) → t ≡ given_back s file stage → log ≡ t.log → IsOpen g s.log file stage → IsReady g log t.in_progress file stage ⊎ (stage ≤ length (outcomes log file))
  stands s t log file stage is e o =
      rw (e, is) (elim (nat_le stage (length (outcomes s.log file))) as (λ b. nat_le stage (length (outcomes s.log file)) ≡ b → IsReady g (cond b s (record s { in_progress = slice_set s.in_progress file 0 })).log (cond b s (record s { in_progress = slice_set s.in_progress file 0 })).in_progress file stage ⊎ (stage ≤ length (outcomes (cond b s (record s { in_progress = slice_set s.in_progress file 0 })).log file))) [
        | true ↦ λ h. inr (grind (arith, nat_tests))
        | false ↦ λ h. inl (open_ready s.log (slice_set s.in_progress file 0) file stage o h (cleared s.in_progress file))
      ] refl)
