use Rattle.std.proofs.Common.{length, nat_lt}
use Rattle.std.proofs.lemmas.Bool.{and_parts}
use Rattle.variant_values.proofs.Freed.{freed_keeps, freed_only}
use Rattle.ref_objects.proofs.Whole.{whole_freed}
use Rattle.std.proofs.Common.{ap}
use Rattle.ref_objects.specs.Views.{HeapView}
use Rattle.std.proofs.Common.{subst}
use Rattle.variant_values.specs.Heaps.{Heap}
use Rattle.variant_values.specs.Trees.{IsFreed}
use Rattle.ref_objects.specs.Slots.{heap_of}
use Rattle.ref_objects.proofs.Freeing.{pruned_freed, pruned_steady}
use Rattle.ref_objects.proofs.heap.Heap.free_node.Goals as goal

pub invariant_of-self : goal.invariant_of-self
invariant_of-self c = whole_freed c.self.inside.slots.items c.free_tree-self-inside.new.slots.items c.self.inside.total c.free_tree-self-inside.result c.args.of.0 c.self.inside.queued.items c.self.invariant (pruned_steady c.self.inside.slots.items c.free_tree-self-inside.new.slots.items c.args.of.0 c.free_tree-self-inside.ensures.pruned c.self.inside.total c.free_tree-self-inside.result c.self.invariant.steady c.free_tree-self-inside.ensures.kept) (pruned_freed c.self.inside.slots.items c.free_tree-self-inside.new.slots.items c.args.of.0 c.free_tree-self-inside.ensures.pruned c.self.inside.queued.items)

pub returns-clause-ok : goal.returns-clause-ok
returns-clause-ok c =
    let P : Heap → Type 0 = λ h. IsFreed h (heap_of c.free_tree-self-inside.new.slots.items c.self.inside.queued.items) c.args.of.0 in
    subst P (ap (λ (v : HeapView). v.state) c.self.view_is) (pruned_freed c.self.inside.slots.items c.free_tree-self-inside.new.slots.items c.args.of.0 c.free_tree-self-inside.ensures.pruned c.self.inside.queued.items)

pub returns-clause-freed : goal.returns-clause-freed
returns-clause-freed c = freed_only c.args.self.now.state _ c.args.of.0 (returns-clause-ok c)

pub returns-clause-keeps : goal.returns-clause-keeps
returns-clause-keeps c = λ v k. freed_keeps c.args.self.now.state _ c.args.of.0 (and_parts (nat_lt c.args.of.0 (length c.args.self.now.state.cells)) _ (and_parts (nat_lt 0 c.args.of.0) _ c.requires.of).1).1 (returns-clause-ok c) v k
