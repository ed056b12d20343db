use Rattle.std.proofs.Common.{◌∙◌, ap, List, Bool}
use Rattle.std.specs.Map.{lookup}
use Rattle.variant_values.specs.declared.values.Key.{Key}
use Rattle.variant_values.specs.declared.values.Value.{Value}
use Rattle.variant_values.specs.Keys.{same_key, without_entry}
use Rattle.variant_values.proofs.KeyLemmas.{derived_test, removed}
use Rattle.variant_values.proofs.entries.Entries.remove.Goals as goal

pub returns-clause-value : goal.returns-clause-value
returns-clause-value c =
    c.shift_remove.ensures.value
    ∙ ap (λ (t : Key → Bool). lookup t c.self.inside.map.entries) (derived_test c.args.key.now)
    ∙ ap (λ (es : List (Key × Value)). lookup (same_key c.args.key.now) es) c.self.view_is

pub returns-clause-new : goal.returns-clause-new
returns-clause-new c =
    c.shift_remove.ensures.entries
    ∙ removed c.self.inside.map.entries c.args.key.now
    ∙ ap (λ (es : List (Key × Value)). without_entry es c.args.key.now) c.self.view_is
