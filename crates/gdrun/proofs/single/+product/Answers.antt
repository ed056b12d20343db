use Rattle.std.proofs.Common.{sym, ap, ◌∙◌}
use Rattle.gdrun.proofs.Chains.{no_chain}
use Rattle.gdrun.proofs.single.+product.Goals as goal

pub returns-in_default : goal.returns-in_default
returns-in_default t c = c.one_number-in_default.ensures ∙ ap (λ x. x.product) (sym (no_chain c.args.expr.now c.in_default.not-Literal c.in_default.not-Binary))
