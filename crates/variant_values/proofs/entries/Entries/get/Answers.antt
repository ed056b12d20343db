use Rattle.std.proofs.Common.{◌∙◌, ap, List, Bool}
use Rattle.std.specs.Map.{lookup}
use Rattle.variant_values.specs.declared.values.Key.{Key}
use Rattle.variant_values.specs.declared.values.Value.{Value}
use Rattle.variant_values.specs.Keys.{same_key}
use Rattle.variant_values.proofs.KeyLemmas.{derived_test}
use Rattle.variant_values.proofs.entries.Entries.get.Goals as goal

pub returns : goal.returns
returns c =
    c.get.ensures.value
    ∙ ap (λ (t : Key → Bool). lookup t c.self.inside.map.entries) (derived_test c.args.key.now)
    ∙ ap (λ (es : List (Key × Value)). lookup (same_key c.args.key.now) es) c.self.view_is
