-- A change that cannot be refused for the heap's weight.
use Rattle.std.proofs.Common.{◌≡◌, ◌∙◌, ap, Result, Ok, Err, inl, inr}
use Rattle.std.specs.Prelude.{◌↔◌, ◌⊎◌}
use Rattle.variant_values.specs.declared.faults.RunFault.TheVariants.{HeapFull}
use Rattle.variant_values.specs.declared.faults.Trouble.{Trouble}
use Rattle.variant_values.specs.declared.faults.Trouble.TheVariants.{Fault, NoMemory}
use Rattle.variant_values.specs.Heaps.{Heap}
use Rattle.variant_values.specs.Changes.{HasGiven}

pub never_full : (r : Result (Unit {0}) Trouble) (e : Trouble) (old new then : Heap) (heavy : Type 0) → r ≡ Err e → (r ≡ Err (Fault HeapFull)) ↔ heavy → (heavy → ⊥) → (e ≡ Fault HeapFull) ⊎ (e ≡ NoMemory) → HasGiven {A = Unit {0}} (Err e) old new (Ok (tt, then))
never_full r (Fault f) old new then heavy is full light only = elim only [
  | inl h ↦ absurd (light (full.0 (is ∙ ap Err h)))
  | inr out ↦ cc
]
never_full r NoMemory old new then heavy is full light only = tt
