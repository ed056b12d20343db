use Rattle.std.proofs.Common.{ap}
use Rattle.ref_objects.specs.Views.{HeapView}
use Rattle.std.proofs.Common.{subst, arith}
use Rattle.variant_values.specs.Heaps.{Heap}
use Rattle.variant_values.specs.Sound.{IsSound}
use Rattle.ref_objects.proofs.Sound.{heap_sound}
use Rattle.ref_objects.proofs.heap.Heap.is_sound.Goals as goal

pub returns : goal.returns
returns c = subst (λ (h : Heap). IsSound h) (ap (λ (v : HeapView). v.state) c.self.view_is) (heap_sound c.self.inside.slots.items c.self.inside.total c.self.inside.queued.items c.self.invariant (omega (arith, c.self.inside.slots.ok, c.self.inside.slots.small)))
