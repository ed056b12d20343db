use Rattle.std.proofs.Common.{◌≡◌, true, subst, sym, List, ◌++◌}
use Rattle.std.proofs.lemmas.List.Elements.{All-append}
use Rattle.variant_values.specs.declared.values.Value.{Value}
use Rattle.variant_values.specs.Heaps.{knows, KnowsAll}
use Rattle.container_calls.proofs.operations.join_arrays.Goals as goal

pub new_array-requires : goal.new_array-requires
new_array-requires c = subst (λ (vs : List Value). KnowsAll c.args.heap.now.state.cells vs) (sym c.in_ok-both.ensures) (All-append (λ (v : Value). knows c.args.heap.now.state.cells v ≡ true) c.items.result.now c.items-2.result.now c.items.ensures.known c.items-2.ensures.known)
