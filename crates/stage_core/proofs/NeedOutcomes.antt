-- What is at a place among a file's outcomes.
use Rattle.std.proofs.Common.{◌≡◌, ℕ, zero, suc, ◌-◌, ◌<◌, ◌≤◌, min, true, List, [], ◌∷◌, ◌++◌, length, Some, None, slice_get, refl, arith, sym, subst}
use Rattle.std.proofs.lemmas.Bool.Decides.{nat_tests}
use Rattle.std.specs.Prelude.{Contains, map, All, ◌↔◌}
use Rattle.stage_core.specs.declared.work.StageOut.{Ghosts}
use Rattle.stage_core.specs.declared.work.Need.{Need}
use Rattle.stage_core.specs.FileSets.{IsFileSet, with_file}
use Rattle.stage_core.specs.Needs.{AreNeeds, IsNeedOutcome}
use Rattle.stage_core.proofs.Reach.{empty_file_set, with_file_has, first_file}
use Rattle.stage_core.specs.Log.{OutcomeValue, Entry}
use Rattle.stage_core.specs.Machine.{has_final, is_done_at, direct_needs}
use Rattle.stage_core.specs.Stages.{stage_needed, Reaches}

pub slice_get_seam : {X : Type 0} (xs ys : List X) (x : X) → slice_get (xs ++ x ∷ ys) (length xs) ≡ Some x
slice_get_seam [] ys x = refl
slice_get_seam (z ∷ xs) ys x = slice_get_seam xs ys x

pub some_outcome : {O : Type 0} (os : List (OutcomeValue O)) (k : ℕ) → 1 ≤ k → is_done_at os k ≡ true → 1 ≤ length os
unfolding is_done_at has_final
some_outcome [] k h d = grind (arith, nat_tests)
some_outcome (o ∷ os) k h d = omega arith

pub in_place : {O : Type 0} (os : List (OutcomeValue O)) (n k : ℕ) → n ≡ length os → 1 ≤ k → is_done_at os k ≡ true → (1 ≤ min n k) × (min n k - 1 < length os)
in_place os n k is h d = let s = some_outcome os k h d in (omega arith, omega arith)

pub needed_pos : (file stage other : ℕ) → 2 ≤ stage → 1 ≤ stage_needed file stage other
needed_pos file stage other h = grind (arith, nat_tests)

pub not_none : {X : Type 0} (xs : List X) (i : ℕ) → i < length xs → slice_get xs i ≡ None → ⊥
not_none [] i l e = omega arith
not_none (x ∷ xs) zero l e = cc
not_none (x ∷ xs) (suc i) l e = not_none xs i (omega arith) e

module _ {O P : Type 0} (g : Ghosts O P) (files : ℕ) (log : List (Entry O)) (file stage : ℕ) where
  pub no_needs : stage < 2 → AreNeeds g files log file stage []
  no_needs l = record { each = λ other. (λ c. absurd (omega arith), λ n. absurd (let above = n.above in omega arith)); once = empty_file_set files; handed = λ k d h. absurd (omega arith) }

  -- the files that the walk from the file has reached
  pub needs_are : 2 ≤ stage → (first visited : List ℕ) (needs : List (Need O)) → first ≡ [] → ((other : ℕ) → Contains visited other ↔ ((a : ℕ) × Contains (with_file first file) a × Reaches (direct_needs g log stage) a other))
      → IsFileSet files visited → map (λ n. n.file) needs ≡ visited → All (IsNeedOutcome log file stage) needs → AreNeeds g files log file stage needs
  needs_are above first visited needs none all once of handed = record {
    each = λ other. (
      λ c. let from = (all other).0 (subst (λ xs. Contains xs other) of c) in record { above = above; reached = subst (λ a. Reaches (direct_needs g log stage) a other) (sym (first_file first file from.0 none from.1)) from.2 },
      λ n. subst (λ xs. Contains xs other) (sym of) ((all other).1 (file, with_file_has first file, n.reached)),
    );
    once = subst (IsFileSet files) (sym of) once;
    handed = handed;
  }
