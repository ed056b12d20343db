use Rattle.std.proofs.Common.{◌∙◌, ap, List}
use Rattle.variant_values.specs.declared.values.Key.{Key}
use Rattle.variant_values.specs.declared.values.Value.{Value}
use Rattle.variant_values.specs.Keys.{with_entry}
use Rattle.call_support.proofs.Once.{taken_next}
use Rattle.call_support.proofs.copies.copied_entries.Goals as goal

pub loop-i-preserved : goal.loop-i-preserved
loop-i-preserved c =
    c.in_ok-enter_copy.ensures.ok
    ∙ ap (λ (es : List (Key × Value)). with_entry es c.entry_at.result.0.now c.entry_at.result.1.now) c.loop-i.invariant
    ∙ taken_next c.args.entries.now c.loop-i.i (c.entry_at.result.0.now, c.entry_at.result.1.now) c.requires c.entry_at.ensures
