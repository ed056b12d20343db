use Rattle.std.proofs.Common.{◌≡◌, take, map}
use Rattle.variant_values.specs.DictMethods.{value_of_key}
use Rattle.container_calls.proofs.dicts.list_keys.Given as goal

abbrev pub invariant-loop-i : goal.invariant-loop-i
invariant-loop-i l = l.list.items ≡ map (λ e. value_of_key e.0) (take l.i l.entries)
