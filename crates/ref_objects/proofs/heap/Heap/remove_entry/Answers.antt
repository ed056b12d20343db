use Rattle.variant_values.specs.Keys.{without_entry}
use Rattle.variant_values.specs.Heaps.{cell_at, entries_of, entries_put}
use Rattle.ref_objects.specs.Slots.{cells_of}
use Rattle.ref_objects.proofs.Shaping.{entries_kin}
use Rattle.ref_objects.proofs.Steady.{steady_now, entries_apart}
use Rattle.ref_objects.proofs.Whole.{whole_put}
use Rattle.ref_objects.proofs.heap.Heap.remove_entry.Goals as goal

pub invariant_of-self : goal.invariant_of-self
invariant_of-self c =
    let s = cell_at (cells_of c.self.inside.slots.items) c.args.of.0 in
    let es = without_entry (entries_of s) c.args.key.now in
    let steady = steady_now c.self.inside.slots.items c.drop_entry.new.slots.items c.args.of.0 c.self.inside.total c.in-Some.left (entries_put es s) c.self.invariant.steady c.in-Some.ensures.some (entries_apart es s) in
    whole_put c.self.inside.slots.items c.drop_entry.new.slots.items c.args.of.0 c.self.inside.total c.in-Some.left (entries_put es s) c.self.inside.queued.items c.self.invariant steady c.in-Some.ensures.some.cells_are (entries_kin es s) (entries_apart es s).links

pub invariant_of-self-in-None : goal.invariant_of-self-in-None
invariant_of-self-in-None c =
    let s = cell_at (cells_of c.self.inside.slots.items) c.args.of.0 in
    let es = without_entry (entries_of s) c.args.key.now in
    let steady = steady_now c.self.inside.slots.items c.drop_entry.new.slots.items c.args.of.0 c.self.inside.total c.self.inside.total (entries_put es s) c.self.invariant.steady c.in-None.ensures.none (entries_apart es s) in
    whole_put c.self.inside.slots.items c.drop_entry.new.slots.items c.args.of.0 c.self.inside.total c.self.inside.total (entries_put es s) c.self.inside.queued.items c.self.invariant steady c.in-None.ensures.none.cells_are (entries_kin es s) (entries_apart es s).links
