use Rattle.std.proofs.Common.{◌∙◌, ap, sym, subst, List, map}
use Rattle.variant_values.specs.declared.values.Key.{Key}
use Rattle.variant_values.specs.declared.values.Value.{Value}
use Rattle.variant_values.specs.Heaps.{KnowsAll}
use Rattle.container_calls.proofs.Entries.{keys_known}
use Rattle.container_calls.proofs.dicts.keys.Goals as goal

pub new_array-requires : goal.new_array-requires
new_array-requires c = subst (λ (vs : List Value). KnowsAll c.args.heap.now.state.cells vs) (sym c.in_ok-list.ensures) (keys_known c.args.heap.now.state.cells c.entries.result.now c.entries.ensures.known)
