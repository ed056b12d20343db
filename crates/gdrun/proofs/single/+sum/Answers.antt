use Rattle.std.proofs.Common.{sym, ap, ◌∙◌}
use Rattle.gdrun.specs.Single.{one_product}
use Rattle.gdrun.proofs.Chains.{no_chain}
use Rattle.gdrun.proofs.single.+sum.Goals as goal

pub returns-in_default : goal.returns-in_default
returns-in_default t c =
    c.one_product-in_default.ensures ∙ ap one_product c.one_number-in_default.ensures ∙ ap (λ x. x.sum) (sym (no_chain c.args.expr.now c.in_default.not-Literal c.in_default.not-Binary))
