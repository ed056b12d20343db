use Rattle.std.proofs.Common.{◌∙◌, sym, ap}
use Rattle.variant_values.specs.Comparisons.{verdict, same_value}
use Rattle.container_calls.proofs.Walking.{at_is}
use Rattle.container_calls.proofs.comparisons.same_value.Goals as goal

pub returns : goal.returns
unfolding same_value
returns c = c.verdict.ensures ∙ ap (λ r. verdict r) (c.same_at.ensures ∙ sym (at_is c.args.heap.now.state.cells 64 c.args.a.now c.args.b.now 1048576))
