use Rattle.variant_values.specs.Heaps.{cell_at, items_of, items_put, spliced}
use Rattle.ref_objects.specs.Slots.{cells_of}
use Rattle.ref_objects.proofs.Shaping.{items_kin}
use Rattle.ref_objects.proofs.Steady.{steady_now, items_apart}
use Rattle.ref_objects.proofs.Whole.{whole_put}
use Rattle.ref_objects.proofs.heap.Heap.splice.Goals as goal

pub invariant_of-self-2 : goal.invariant_of-self-2
invariant_of-self-2 c =
    let s = cell_at (cells_of c.self.inside.slots.items) c.args.of.0 in
    let vs = spliced (items_of s) c.args.at c.args.out c.args.put.items in
    let steady = steady_now c.self.inside.slots.items c.store_splice.new.slots.items c.args.of.0 c.self.inside.total c.in_ok-self-inside.field-0 (items_put vs s) c.self.invariant.steady c.in_ok-self-inside.ensures.ok (items_apart vs s) in
    whole_put c.self.inside.slots.items c.store_splice.new.slots.items c.args.of.0 c.self.inside.total c.in_ok-self-inside.field-0 (items_put vs s) c.self.inside.queued.items c.self.invariant steady c.in_ok-self-inside.ensures.ok.cells_are (items_kin vs s) (items_apart vs s).links
