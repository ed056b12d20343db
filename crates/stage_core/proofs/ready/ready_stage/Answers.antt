use Rattle.std.proofs.Common.{◌≡◌, ℕ, Fits, w8, ◌+◌, ◌<◌, ◌∙◌, false, sym, arith, length}
use Rattle.std.proofs.lemmas.Bool.Decides.{nat_tests}
use Rattle.stage_core.specs.Machine.{is_done_at}
use Rattle.stage_core.proofs.ready.ready_stage.Goals as goal

few : {O : Type 0} (os : _) → is_done_at {O = O} os 5 ≡ false → length os < 5
unfolding is_done_at
few os h = grind (arith, nat_tests)

few_fits : (n : ℕ) → n < 5 → Fits w8 n
few_fits n h = omega arith

more_fits : (n : ℕ) → n < 5 → Fits w8 (n + 1)
more_fits n h = omega arith

pub overflow_cast-stage : goal.overflow_cast-stage
overflow_cast-stage g c = few_fits c.outcome_count.result (rw c.outcome_count.ensures (few _ (sym c.is_done.ensures ∙ c.if-is_done.false)))

pub overflow_add-stage : goal.overflow_add-stage
overflow_add-stage g c = more_fits c.outcome_count.result (rw c.outcome_count.ensures (few _ (sym c.is_done.ensures ∙ c.if-is_done.false)))
