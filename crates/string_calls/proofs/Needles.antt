-- Where a search of bytes finds a text in another.
use Rattle.std.proofs.Common.{◌≡◌, ℕ, zero, suc, ◌+◌, ◌<◌, ◌≤◌, List, ◌++◌, length, take, drop, refl, sym, ap, subst, ◌∙◌, arith, Option, Some, None, length-append}
use Rattle.std.specs.Prelude.{IsCharBoundary, IsUtf8, IfSome}
use Rattle.std.specs.Str.Pattern.{LacksTextAt}
use Rattle.std.proofs.iter.Find.{text_at, after_front}
use Rattle.std.proofs.Math.Seq.{take-append_seam}
use Rattle.std.proofs.lemmas.List.{length-drop}
use Rattle.std.proofs.lemmas.Str.{IsCharBoundary-start}
use Rattle.memchr.specs.Find.{FindsNeedle, NoneBefore, OccursAt}
use Rattle.memchr.proofs.lemmas.MatchLemmas.{OccursAt-part, OccursAt-from_part, OccursAt-split}
use Rattle.variant_values.specs.StringMethods.{first_place}
use Rattle.string_calls.proofs.Places.{place_found, place_missing}

module _ (text what : List ℕ) where
  lacks : (k : ℕ) → k ≤ length text → (OccursAt text what k → ⊥) → LacksTextAt what text k
  lacks k within none = λ rest is.
      let fits : k + length what ≤ length text = omega (arith, ap length is, length-append what rest, length-drop k text) in
      none (OccursAt-from_part text what k fits (ap (take (length what)) is ∙ take-append_seam what rest))

  pub needle_is_place : (r : Option ℕ) → FindsNeedle text what 0 r → r ≡ first_place what text
  needle_is_place None h = place_missing what text (λ k within. lacks k within (h k (omega arith) (omega arith)))
  needle_is_place (Some i) h = place_found what text _ i (omega (arith, h.1.fits)) (OccursAt-split text what i h.1) (λ k below. lacks k (omega (arith, h.1.fits)) (h.0.before k (omega arith) below))

  -- an empty needle is found at the start
  first_of_empty : (i : ℕ) → NoneBefore (OccursAt text what) 0 (length text + 1) i → length what ≡ 0 → i ≡ 0
  first_of_empty zero none empty = refl
  first_of_empty (suc i) none empty = absurd (none.before 0 (omega arith) (omega arith) (record { fits = omega arith; reads = λ j l. absurd (omega arith) }))

  pub needle_starts : (r : Option ℕ) → IsUtf8 text → IsUtf8 what → FindsNeedle text what 0 r → IfSome r (λ i. IsCharBoundary text i)
  needle_starts None u v h = tt
  needle_starts (Some i) u v h =
      let at = text_at text what i u v h.1.fits (OccursAt-part text what i h.1) (λ empty. subst (λ k. IsCharBoundary text k) (sym (first_of_empty i h.0 empty)) (IsCharBoundary-start text u)) in
      after_front text i u (omega (arith, h.1.fits)) at.1

  pub needle_ends : (r : Option ℕ) → IsUtf8 text → IsUtf8 what → FindsNeedle text what 0 r → IfSome r (λ i. IsCharBoundary text (i + length what))
  needle_ends None u v h = tt
  needle_ends (Some i) u v h =
      let at = text_at text what i u v h.1.fits (OccursAt-part text what i h.1) (λ empty. subst (λ k. IsCharBoundary text k) (sym (first_of_empty i h.0 empty)) (IsCharBoundary-start text u)) in
      at.0.after

  pub needle_within : (r : Option ℕ) → FindsNeedle text what 0 r → IfSome r (λ i. i + length what ≤ length text)
  needle_within None h = tt
  needle_within (Some i) h = h.1.fits
