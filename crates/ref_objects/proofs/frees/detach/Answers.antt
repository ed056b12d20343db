use Rattle.std.proofs.Common.{◌≡◌, List, subst, Some}
use Rattle.variant_values.specs.Heaps.{cell_at}
use Rattle.variant_values.specs.Trees.{parent_of}
use Rattle.ref_objects.specs.declared.slots.Slot.{Slot}
use Rattle.ref_objects.specs.Slots.{cells_of}
use Rattle.ref_objects.proofs.Freeing.{parent_object, detached_some}
use Rattle.ref_objects.proofs.frees.detach.Goals as goal

pub drop_child-requires-clause-object : goal.drop_child-requires-clause-object
drop_child-requires-clause-object c =
    let P : List Slot → Type 0 = λ s. Some c.in-Some.parent ≡ parent_of (cell_at (cells_of s) c.args.x) in
    parent_object c.args.slots.now.items c.args.x c.args.total c.requires.kept c.requires.rooted c.in-Some.parent (subst P c.as_slice.ensures.value c.in-Some.ensures)

pub returns-in-Some : goal.returns-in-Some
returns-in-Some c =
    let P : List Slot → Type 0 = λ s. Some c.in-Some.parent ≡ parent_of (cell_at (cells_of s) c.args.x) in
    detached_some c.args.slots.now.items c.args.x c.args.total c.requires.kept c.requires.rooted c.drop_child.new.slots.items c.in-Some.parent (subst P c.as_slice.ensures.value c.in-Some.ensures) c.drop_child.ensures
