use Rattle.ref_objects.proofs.Whole.{whole_unlinked}
use Rattle.std.proofs.Common.{ap}
use Rattle.ref_objects.specs.Views.{HeapView}
use Rattle.ref_objects.proofs.Linking.{removed_steady, removed_heap}
use Rattle.ref_objects.proofs.heap.Heap.remove_connection.Goals as goal

pub invariant_of-self : goal.invariant_of-self
invariant_of-self c = whole_unlinked c.self.inside.slots.items c.self.inside.queued.items c.self.inside.total c.args.self.now.state (ap (λ (v : HeapView). v.state) c.self.view_is) c.self.invariant c.drop_link.new.slots.items c.self.inside.total (removed_steady c.self.inside.slots.items c.drop_link.new.slots.items c.args.from.0 c.self.inside.total c.self.inside.links c.self.inside.queued.items c.args.self.now.state (ap (λ (v : HeapView). v.state) c.self.view_is) c.requires c.self.invariant.steady c.args.signal.now c.args.to c.args.method.now c.drop_link.ensures) c.args.from.0 c.args.signal.now c.args.to c.args.method.now c.requires (removed_heap c.self.inside.slots.items c.drop_link.new.slots.items c.args.from.0 c.self.inside.total c.self.inside.links c.self.inside.queued.items c.args.self.now.state (ap (λ (v : HeapView). v.state) c.self.view_is) c.requires c.self.invariant.steady c.args.signal.now c.args.to c.args.method.now c.drop_link.ensures)

pub returns-clause-after : goal.returns-clause-after
returns-clause-after c = removed_heap c.self.inside.slots.items c.drop_link.new.slots.items c.args.from.0 c.self.inside.total c.self.inside.links c.self.inside.queued.items c.args.self.now.state (ap (λ (v : HeapView). v.state) c.self.view_is) c.requires c.self.invariant.steady c.args.signal.now c.args.to c.args.method.now c.drop_link.ensures
