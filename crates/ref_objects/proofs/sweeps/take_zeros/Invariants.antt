use Rattle.std.proofs.Common.{◌≡◌, ◌≤◌, ℕ, false}
use Rattle.ref_objects.specs.Slots.{IsEmptying, is_zero, slot_at}
use Rattle.ref_objects.proofs.sweeps.take_zeros.Given as goal

abbrev pub invariant-loop-left : goal.invariant-loop-left
invariant-loop-left l = IsEmptying l.fn.slots.items l.slots.items l.left × (l.left ≤ l.before) × (l.before ≤ l.total) × (l.left ≡ l.before → (x : ℕ) → is_zero (slot_at l.slots.items x) ≡ false)

abbrev pub decreases-loop-left : goal.decreases-loop-left
decreases-loop-left l = l.before
