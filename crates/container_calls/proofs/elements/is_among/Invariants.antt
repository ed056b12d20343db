use Rattle.std.proofs.Common.{◌≡◌, false, take}
use Rattle.std.specs.List.{list_any}
use Rattle.variant_values.specs.Classes.{same_class}
use Rattle.container_calls.proofs.elements.is_among.Given as goal

abbrev pub invariant-loop-tag : goal.invariant-loop-tag
invariant-loop-tag l = list_any (same_class l.class) (take l.tag-index l.tags) ≡ false
