use Rattle.std.proofs.Common.{List, ap, sym, ◌∙◌}
use Rattle.ref_objects.specs.declared.slots.Slot.{Slot}
use Rattle.ref_objects.specs.Slots.{cells_of, is_orphan}
use Rattle.ref_objects.proofs.Freeing.{orphan_object, free_pass_more}
use Rattle.ref_objects.proofs.frees.take_if_orphan.Goals as goal

pub take_object-requires-clause-object : goal.take_object-requires-clause-object
take_object-requires-clause-object c = orphan_object (cells_of c.args.slots.now.items) c.args.x (ap (λ (s : List Slot). is_orphan (cells_of s) c.args.x) (sym c.as_slice.ensures.value) ∙ sym c.is_orphan.ensures ∙ c.if-is_orphan.true)

pub returns-then-is_orphan : goal.returns-then-is_orphan
returns-then-is_orphan c = λ first most p. free_pass_more first c.args.slots.now.items c.take_object.new.slots.items most c.args.total c.take_object.result c.args.x p (ap (λ (s : List Slot). is_orphan (cells_of s) c.args.x) (sym c.as_slice.ensures.value) ∙ sym c.is_orphan.ensures ∙ c.if-is_orphan.true) c.take_object.ensures.kept c.take_object.ensures.lost c.take_object.ensures.less
