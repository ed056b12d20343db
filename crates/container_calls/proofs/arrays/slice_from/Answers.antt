use Rattle.std.proofs.Common.{◌≡◌, ◌-◌, true, subst, sym, List, drop, take}
use Rattle.std.proofs.lemmas.List.Elements.{All-take, All-drop}
use Rattle.variant_values.specs.declared.values.Value.{Value}
use Rattle.variant_values.specs.Heaps.{knows, KnowsAll}
use Rattle.container_calls.proofs.arrays.slice_from.Goals as goal

pub new_array-requires : goal.new_array-requires
new_array-requires c = subst (λ (vs : List Value). KnowsAll c.args.heap.now.state.cells vs) (sym c.in_ok-part.ensures) (All-take (λ (v : Value). knows c.args.heap.now.state.cells v ≡ true) _ _ (All-drop (λ (v : Value). knows c.args.heap.now.state.cells v ≡ true) _ c.items-all.result.now c.items-all.ensures.known))
