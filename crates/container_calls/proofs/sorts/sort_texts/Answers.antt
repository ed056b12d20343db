use Rattle.std.proofs.Common.{◌≡◌, true, subst, sym, List}
use Rattle.variant_values.specs.declared.values.Value.{Value}
use Rattle.variant_values.specs.Heaps.{knows, KnowsAll}
use Rattle.variant_values.specs.ArrayMethods.{text_before}
use Rattle.container_calls.proofs.Sorting.{order_all}
use Rattle.container_calls.proofs.sorts.sort_texts.Goals as goal

pub change-requires-clause-put : goal.change-requires-clause-put
change-requires-clause-put c = subst (λ (vs : List Value). KnowsAll c.args.heap.now.state.cells vs) (sym c.in_ok-list.ensures) (order_all text_before (λ (v : Value). knows c.args.heap.now.state.cells v ≡ true) c.items.result.now c.items.ensures.known)
