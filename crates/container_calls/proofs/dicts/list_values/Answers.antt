use Rattle.std.proofs.Common.{◌∙◌, ap, sym, List, [], ◌∷◌, ◌++◌, take, map}
use Rattle.variant_values.specs.declared.values.Key.{Key}
use Rattle.variant_values.specs.declared.values.Value.{Value}
use Rattle.variant_values.specs.DictMethods.{value_of_key}
use Rattle.container_calls.proofs.Entries.{map_next}
use Rattle.container_calls.proofs.dicts.list_values.Goals as goal

pub loop-i-preserved : goal.loop-i-preserved
loop-i-preserved c =
    let next = map_next (λ (e : Key × Value). e.1) c.args.entries.now c.loop-i.i (c.entry_at.result.0.now, c.entry_at.result.1.now) c.entry_at.ensures in
    c.in_ok-push_copy.ensures
    ∙ ap (λ (vs : List Value). vs ++ c.entry_at.result.1.now ∷ []) c.loop-i.invariant
    ∙ sym next
