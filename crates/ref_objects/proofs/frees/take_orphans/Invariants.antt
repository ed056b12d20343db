use Rattle.std.proofs.Common.{◌≡◌, ◌≤◌, ℕ, List, false}
use Rattle.ref_objects.specs.declared.slots.Slot.{Slot}
use Rattle.ref_objects.specs.Slots.{IsFreeing, IsKept, cells_of, is_orphan}
use Rattle.ref_objects.proofs.frees.take_orphans.Given as goal

abbrev pub invariant-loop-left : goal.invariant-loop-left
invariant-loop-left l = ((first : List Slot) (top : ℕ) → IsFreeing first l.fn.slots.items l.total top → IsFreeing first l.slots.items l.left top) × IsKept l.slots.items l.left × (l.left ≤ l.before) × (l.left ≡ l.before → (x : ℕ) → is_orphan (cells_of l.slots.items) x ≡ false)

abbrev pub decreases-loop-left : goal.decreases-loop-left
decreases-loop-left l = l.before
