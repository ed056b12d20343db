use Rattle.std.proofs.Common.{◌≡◌, take, length}
use Rattle.std.specs.List.{sum_by}
use Rattle.variant_values.specs.Links.{connections_of}
use Rattle.ref_objects.specs.Slots.{cells_of}
use Rattle.ref_objects.proofs.objects.count_links.Given as goal

abbrev pub invariant-loop-x : goal.invariant-loop-x
invariant-loop-x l = (l.count ≡ sum_by (λ s. length (connections_of s)) (take l.x (cells_of l.slots)))
