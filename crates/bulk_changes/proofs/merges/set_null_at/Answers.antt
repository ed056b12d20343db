use Rattle.std.proofs.Common.{◌≡◌, ◌∙◌, ap, arith, true, is_some, rules}
use Rattle.std.specs.Map.{lookup}
use Rattle.variant_values.specs.declared.values.Key.{Key}
use Rattle.variant_values.specs.Keys.{same_key}
use Rattle.variant_values.specs.DictMethods.{entries_in}
use Rattle.bulk_changes.proofs.Merging.{null_light}
use Rattle.bulk_changes.proofs.merges.set_null_at.Goals as goal

pub enter-requires-clause-room : goal.enter-requires-clause-room
enter-requires-clause-room c =
    let key : c.in_ok-key.key ≡ c.entry_at.result.0.now = search rules in
    let there : is_some (lookup (same_key c.entry_at.result.0.now) (entries_in c.args.heap.now.state c.args.of.0)) ≡ true = search rules in
    omega (arith, null_light c.args.heap.now.state c.args.of.0 c.in_ok-key.key c.requires.dict (ap (λ (k : Key). is_some (lookup (same_key k) (entries_in c.args.heap.now.state c.args.of.0))) key ∙ there), c.is_sound.ensures.light)
