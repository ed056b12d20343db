use Rattle.ref_objects.proofs.Whole.{whole_named}
use Rattle.std.proofs.Common.{ap}
use Rattle.ref_objects.specs.Views.{HeapView}
use Rattle.ref_objects.proofs.Adopting.{named_steady, named_heap}
use Rattle.ref_objects.proofs.heap.Heap.set_name.Goals as goal

pub invariant_of-self : goal.invariant_of-self
invariant_of-self c = whole_named c.self.inside.slots.items c.self.inside.queued.items c.self.inside.total c.args.self.now.state (ap (λ (v : HeapView). v.state) c.self.view_is) c.self.invariant c.name_node.new.slots.items c.self.inside.total (named_steady c.self.inside.slots.items c.name_node.new.slots.items c.args.of.0 c.self.inside.total c.self.inside.links c.self.inside.queued.items c.args.self.now.state (ap (λ (v : HeapView). v.state) c.self.view_is) c.requires c.self.invariant.steady c.args.name c.name_node.ensures) c.args.of.0 c.args.name (named_heap c.self.inside.slots.items c.name_node.new.slots.items c.args.of.0 c.self.inside.total c.self.inside.links c.self.inside.queued.items c.args.self.now.state (ap (λ (v : HeapView). v.state) c.self.view_is) c.requires c.self.invariant.steady c.args.name c.name_node.ensures)

pub returns : goal.returns
returns c = named_heap c.self.inside.slots.items c.name_node.new.slots.items c.args.of.0 c.self.inside.total c.self.inside.links c.self.inside.queued.items c.args.self.now.state (ap (λ (v : HeapView). v.state) c.self.view_is) c.requires c.self.invariant.steady c.args.name c.name_node.ensures
