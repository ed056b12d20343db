use Rattle.ref_objects.proofs.Whole.{whole_child}
use Rattle.std.proofs.Common.{ap}
use Rattle.ref_objects.specs.Views.{HeapView}
use Rattle.ref_objects.proofs.Adopting.{child_steady, child_heap}
use Rattle.ref_objects.proofs.heap.Heap.add_child.Goals as goal

pub invariant_of-self-2 : goal.invariant_of-self-2
invariant_of-self-2 c = whole_child c.self.inside.slots.items c.self.inside.queued.items c.self.inside.total c.args.self.now.state (ap (λ (v : HeapView). v.state) c.self.view_is) c.self.invariant c.place_node.new.slots.items c.self.inside.total (child_steady c.self.inside.slots.items c.adopt_node.new.slots.items c.place_node.new.slots.items c.args.parent c.args.child c.self.inside.total c.self.inside.links c.self.inside.queued.items c.args.self.now.state (ap (λ (v : HeapView). v.state) c.self.view_is) c.requires.parent c.requires.child c.requires.above c.self.invariant.steady c.in_ok-adopt_node.ensures.ok c.place_node.ensures) c.args.parent c.args.child c.requires.parent c.requires.child c.requires.orphan c.requires.above (child_heap c.self.inside.slots.items c.adopt_node.new.slots.items c.place_node.new.slots.items c.args.parent c.args.child c.self.inside.total c.self.inside.links c.self.inside.queued.items c.args.self.now.state (ap (λ (v : HeapView). v.state) c.self.view_is) c.requires.parent c.requires.child c.requires.above c.self.invariant.steady c.in_ok-adopt_node.ensures.ok c.place_node.ensures)

pub returns-clause-ok : goal.returns-clause-ok
returns-clause-ok c = child_heap c.self.inside.slots.items c.adopt_node.new.slots.items c.place_node.new.slots.items c.args.parent c.args.child c.self.inside.total c.self.inside.links c.self.inside.queued.items c.args.self.now.state (ap (λ (v : HeapView). v.state) c.self.view_is) c.requires.parent c.requires.child c.requires.above c.self.invariant.steady c.in_ok-adopt_node.ensures.ok c.place_node.ensures
