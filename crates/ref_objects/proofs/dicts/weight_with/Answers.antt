use Rattle.std.proofs.Common.{◌∙◌, ap, arith, List}
use Rattle.std.specs.Map.{lookup}
use Rattle.variant_values.specs.declared.values.Key.{Key}
use Rattle.variant_values.specs.declared.values.Value.{Value}
use Rattle.variant_values.specs.Keys.{same_key}
use Rattle.ref_objects.proofs.Entering.{weight_some, weight_none, text_light}
use Rattle.ref_objects.proofs.dicts.weight_with.Goals as goal

pub overflow_sub-result : goal.overflow_sub-result
overflow_sub-result c = omega (arith, c.text_weight.ensures.weight, text_light c.args.slots.now c.args.x c.args.total c.requires.kept c.requires.within c.requires.dict c.args.key.now c.args.to.now c.in-Some.before.now (c.in-Some.ensures ∙ ap (λ (es : List (Key × Value)). lookup (same_key c.args.key.now) es) c.entries_at.ensures))

pub returns-in-Some : goal.returns-in-Some
returns-in-Some c = omega (arith, c.text_weight.ensures.weight, c.text_weight-in-Some.ensures.weight, weight_some c.args.slots.now c.args.x c.args.total c.requires.kept c.requires.within c.requires.dict c.args.key.now c.args.to.now c.in-Some.before.now (c.in-Some.ensures ∙ ap (λ (es : List (Key × Value)). lookup (same_key c.args.key.now) es) c.entries_at.ensures))

pub returns-in-None : goal.returns-in-None
returns-in-None c = omega (arith, c.entry_weight.ensures.weight, weight_none c.args.slots.now c.args.x c.args.total c.requires.kept c.requires.within c.requires.dict c.args.key.now c.args.to.now (c.in-None.ensures ∙ ap (λ (es : List (Key × Value)). lookup (same_key c.args.key.now) es) c.entries_at.ensures))
