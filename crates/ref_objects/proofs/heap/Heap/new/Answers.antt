use Rattle.std.proofs.Common.{List, ◌++◌, ◌∷◌, [], ap, ◌∙◌}
use Rattle.ref_objects.specs.declared.slots.Slot.{Slot}
use Rattle.ref_objects.specs.Slots.{gone}
use Rattle.ref_objects.proofs.Whole.{whole_none}
use Rattle.ref_objects.proofs.heap.Heap.new.Goals as goal

pub invariant_of-result : goal.invariant_of-result
invariant_of-result c = whole_none c.push.new.self.items c.new.result.items (c.in_ok-push.ensures.items ∙ ap (λ (s : List Slot). s ++ gone ∷ []) c.new-slots.ensures.items) c.new.ensures.items
