use Rattle.std.proofs.Common.{subst, List}
use Rattle.variant_values.specs.declared.values.Key.{Key}
use Rattle.variant_values.specs.declared.values.Value.{Value}
use Rattle.variant_values.specs.Keys.{HasKeysOnce}
use Rattle.variant_values.proofs.KeyLemmas.{keys_once}
use Rattle.variant_values.proofs.entries.Entries.keys_once.Goals as goal

pub returns : goal.returns
returns c = subst (λ (es : List (Key × Value)). HasKeysOnce es) c.self.view_is (keys_once c.self.inside.map.entries c.len-len.ensures.unique)
