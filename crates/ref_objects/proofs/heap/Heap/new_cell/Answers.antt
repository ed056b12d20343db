use Rattle.ref_objects.proofs.Whole.{whole_grown}
use Rattle.ref_objects.proofs.Steady.{steady_grown}
use Rattle.ref_objects.proofs.heap.Heap.new_cell.Goals as goal

pub invariant_of-self-2 : goal.invariant_of-self-2
invariant_of-self-2 c = whole_grown c.self.inside.slots.items c.add_cell.new.slots.items c.self.inside.total c.in_ok-self-inside.field-0 c.args.cell c.self.inside.queued.items c.self.invariant (steady_grown c.self.inside.slots.items c.add_cell.new.slots.items c.self.inside.total c.in_ok-self-inside.field-0 c.args.cell c.self.invariant.steady c.requires.fresh c.in_ok-self-inside.ensures.ok) c.requires.fresh c.in_ok-self-inside.ensures.ok
