use Rattle.ref_objects.proofs.Whole.{whole_put}
use Rattle.ref_objects.proofs.Shaping.{entries_kin}
use Rattle.variant_values.specs.Keys.{with_entry}
use Rattle.variant_values.specs.Heaps.{cell_at, entries_of, entries_put}
use Rattle.ref_objects.specs.Slots.{cells_of}
use Rattle.ref_objects.proofs.Steady.{steady_now, entries_apart}
use Rattle.ref_objects.proofs.heap.Heap.set_entry.Goals as goal

pub invariant_of-self-2 : goal.invariant_of-self-2
invariant_of-self-2 c =
    let s = cell_at (cells_of c.self.inside.slots.items) c.args.of.0 in
    let es = with_entry (entries_of s) c.args.key c.args.to in
    let steady = steady_now c.self.inside.slots.items c.store_entry.new.slots.items c.args.of.0 c.self.inside.total c.in_ok-self-inside.field-0 (entries_put es s) c.self.invariant.steady c.in_ok-self-inside.ensures.ok (entries_apart es s) in
    whole_put c.self.inside.slots.items c.store_entry.new.slots.items c.args.of.0 c.self.inside.total c.in_ok-self-inside.field-0 (entries_put es s) c.self.inside.queued.items c.self.invariant steady c.in_ok-self-inside.ensures.ok.cells_are (entries_kin es s) (entries_apart es s).links
