use Rattle.ref_objects.proofs.Whole.{whole_put}
use Rattle.ref_objects.proofs.Shaping.{field_kin}
use Rattle.variant_values.specs.Heaps.{cell_at, field_put}
use Rattle.ref_objects.specs.Slots.{cells_of}
use Rattle.ref_objects.proofs.Steady.{steady_now, field_apart}
use Rattle.ref_objects.proofs.heap.Heap.set_field.Goals as goal

pub invariant_of-self-2 : goal.invariant_of-self-2
invariant_of-self-2 c =
    let slots = c.self.inside.slots.items in
    let s = cell_at (cells_of slots) c.args.of.0 in
    let steady = steady_now slots c.store_field.new.slots.items c.args.of.0 c.self.inside.total c.in_ok-self-inside.field-0 (field_put c.args.index c.args.to (cell_at (cells_of slots) c.args.of.0)) c.self.invariant.steady c.in_ok-self-inside.ensures.ok (field_apart c.args.index c.args.to (cell_at (cells_of slots) c.args.of.0)) in
    whole_put slots c.store_field.new.slots.items c.args.of.0 c.self.inside.total c.in_ok-self-inside.field-0 (field_put c.args.index c.args.to s) c.self.inside.queued.items c.self.invariant steady c.in_ok-self-inside.ensures.ok.cells_are (field_kin c.args.index c.args.to s) (field_apart c.args.index c.args.to s).links
