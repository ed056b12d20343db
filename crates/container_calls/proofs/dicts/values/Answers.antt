use Rattle.std.proofs.Common.{◌∙◌, ap, sym, subst, List, map}
use Rattle.variant_values.specs.declared.values.Value.{Value}
use Rattle.variant_values.specs.Heaps.{KnowsAll}
use Rattle.container_calls.proofs.Entries.{values_known}
use Rattle.container_calls.proofs.dicts.values.Goals as goal

pub new_array-requires : goal.new_array-requires
new_array-requires c = subst (λ (vs : List Value). KnowsAll c.args.heap.now.state.cells vs) (sym c.in_ok-list.ensures) (values_known c.args.heap.now.state.cells c.entries.result.now c.entries.ensures.known)
