use Rattle.std.proofs.Common.{◌∙◌, ap, List, Bool}
use Rattle.std.specs.Map.{lookup}
use Rattle.variant_values.specs.declared.values.Key.{Key}
use Rattle.variant_values.specs.declared.values.Value.{Value}
use Rattle.variant_values.specs.Keys.{same_key, with_entry}
use Rattle.variant_values.proofs.KeyLemmas.{derived_test, inserted}
use Rattle.variant_values.proofs.entries.Entries.insert.Goals as goal

pub returns-clause-before : goal.returns-clause-before
returns-clause-before c =
    c.in_ok-insert.ensures.old
    ∙ ap (λ (t : Key → Bool). lookup t c.self.inside.map.entries) (derived_test c.args.key)
    ∙ ap (λ (es : List (Key × Value)). lookup (same_key c.args.key) es) c.self.view_is

pub returns-clause-ok : goal.returns-clause-ok
returns-clause-ok c =
    c.in_ok-insert.ensures.entries
    ∙ inserted c.self.inside.map.entries c.args.key c.args.to
    ∙ ap (λ (es : List (Key × Value)). with_entry es c.args.key c.args.to) c.self.view_is
