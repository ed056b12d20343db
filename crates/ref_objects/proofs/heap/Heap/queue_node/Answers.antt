use Rattle.std.proofs.Common.{List, ap, subst, sym}
use Rattle.variant_values.specs.declared.values.Serial.{Serial}
use Rattle.ref_objects.specs.Slots.{IsWhole}
use Rattle.ref_objects.specs.Views.{HeapView}
use Rattle.ref_objects.proofs.Whole.{whole_queued}
use Rattle.ref_objects.proofs.heap.Heap.queue_node.Goals as goal

pub invariant_of-self-2 : goal.invariant_of-self-2
invariant_of-self-2 c =
    let P : List Serial → Type 0 = λ q. IsWhole c.self.inside.slots.items q c.self.inside.total c.self.inside.links in
    subst P (sym c.in_ok-push.ensures.items) (whole_queued c.self.inside.slots.items c.self.inside.queued.items c.self.inside.total c.args.self.now.state (ap (λ (v : HeapView). v.state) c.self.view_is) c.self.invariant c.args.of c.requires)
