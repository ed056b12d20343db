use Rattle.std.proofs.Common.{sym, subst, List}
use Rattle.variant_values.specs.declared.values.Key.{Key}
use Rattle.variant_values.specs.declared.values.Value.{Value}
use Rattle.variant_values.specs.Heaps.{KnowsEntries}
use Rattle.container_calls.proofs.dicts.duplicate.Goals as goal

pub new_dict-requires : goal.new_dict-requires
new_dict-requires c = subst (λ (es : List (Key × Value)). KnowsEntries c.args.heap.now.state.cells es) (sym c.in_ok-copy.ensures) c.entries.ensures.known
