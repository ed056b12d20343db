use Rattle.std.proofs.Common.{arith, ap, List, length}
use Rattle.variant_values.specs.declared.values.Key.{Key}
use Rattle.variant_values.specs.declared.values.Value.{Value}
use Rattle.call_support.proofs.Few.{few_entries}
use Rattle.call_support.proofs.views.entries.Goals as goal

pub returns-clause-few : goal.returns-clause-few
returns-clause-few c = omega (arith, few_entries c.args.heap.now.state c.is_sound.ensures c.args.of.0, ap (λ (es : List (Key × Value)). length es) c.entries_of-found.ensures.value)
