-- What a caller retains over a call of values.
use Rattle.std.specs.Prelude.{◌≡◌, ℕ, Result, Ok, Err}
use Rattle.variant_values.specs.declared.faults.RunFault.{RunFault}
use Rattle.variant_values.specs.Heaps.{Heap, held_at}

-- as much is retained of each cell
abbrev pub IsSteady : {A : Type 0} → Heap → Result (A × Heap) RunFault → Type 0
IsSteady h (Ok (v, g)) = (x : ℕ) → held_at g x ≡ held_at h x
IsSteady h (Err fault) = Unit {0}

-- What a call gives leaves as much of each cell retained as there was.
pub record Kept {A : Type 0} (h : Heap) (given : Result (A × Heap) RunFault) : Type 0 where
  pub steady : IsSteady h given
