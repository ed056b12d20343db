use Rattle.ref_objects.specs.Views.{HeapView}
use Rattle.std.proofs.Common.{◌≡◌, true, false, ap, ◌∙◌, subst, List}
use Rattle.variant_values.specs.Heaps.{Heap, is_living, refs}
use Rattle.ref_objects.specs.declared.slots.Slot.{Slot}
use Rattle.ref_objects.specs.Slots.{count_at}
use Rattle.ref_objects.proofs.Sound.{count_is, count_gone}
use Rattle.ref_objects.proofs.heap.Heap.count_of.Goals as goal

pub returns-clause-living : goal.returns-clause-living
returns-clause-living c =
    let P : Heap → Type 0 = λ h. is_living h.cells c.args.of.0 ≡ true → c.count.result ≡ refs h c.args.of.0 in
    subst P (ap (λ (v : HeapView). v.state) c.self.view_is) (λ l. c.count.ensures ∙ ap (λ (s : List Slot). count_at s c.args.of.0) c.as_slice.ensures.value ∙ count_is c.self.inside.slots.items c.self.inside.total c.args.of.0 c.self.inside.queued.items c.self.invariant.steady l)

pub returns-clause-gone : goal.returns-clause-gone
returns-clause-gone c =
    let P : Heap → Type 0 = λ h. is_living h.cells c.args.of.0 ≡ false → c.count.result ≡ 0 in
    subst P (ap (λ (v : HeapView). v.state) c.self.view_is) (λ l. c.count.ensures ∙ ap (λ (s : List Slot). count_at s c.args.of.0) c.as_slice.ensures.value ∙ count_gone c.self.inside.slots.items c.self.inside.total c.args.of.0 c.self.invariant.steady l)
