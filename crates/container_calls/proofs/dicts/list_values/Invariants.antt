use Rattle.std.proofs.Common.{◌≡◌, take, map}
use Rattle.container_calls.proofs.dicts.list_values.Given as goal

abbrev pub invariant-loop-i : goal.invariant-loop-i
invariant-loop-i l = l.list.items ≡ map (λ e. e.1) (take l.i l.entries)
