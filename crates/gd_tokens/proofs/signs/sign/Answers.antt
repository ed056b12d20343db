use Rattle.std.proofs.Common.{◌∙◌, sym, ap, arith, length}
use Rattle.gd_syntax.specs.declared.token.Kind.TheVariants.{Mark as Marked}
use Rattle.gd_syntax.specs.Spellings.{spelled, token}
use Rattle.gd_tokens.proofs.Scans.{sign_some, sign_none, spelled_is, front_fits}
use Rattle.gd_tokens.proofs.signs.sign.Goals as goal

pub returns-in-Some-clause-value : goal.returns-in-Some-clause-value
returns-in-Some-clause-value c =
    ap (λ text. token (Marked c.in-Some.mark) (length text)) c.as_str.ensures
    ∙ sym (sign_some c.loop-n.n c.args.text.now c.in-Some.mark (omega arith) (sym (c.signs_for-signs.ensures c.loop-n.n (omega arith)) ∙ ap (spelled c.signs_for-signs.result.now) (sym c.front.ensures) ∙ sym c.spelled_by.ensures ∙ c.in-Some.is)) ∙ c.loop-n.invariant

pub loop-n-preserved : goal.loop-n-preserved
loop-n-preserved c = sign_none c.loop-n.n c.args.text.now (omega arith) (sym (c.signs_for-signs.ensures c.loop-n.n (omega arith)) ∙ ap (spelled c.signs_for-signs.result.now) (sym c.front.ensures) ∙ sym c.spelled_by.ensures ∙ c.in_default.is) ∙ c.loop-n.invariant

pub returns-in-Some-clause-bound : goal.returns-in-Some-clause-bound
returns-in-Some-clause-bound c =
    front_fits c.loop-n.n c.args.text.now c.as_str.result.now
    (c.as_str.ensures ∙ spelled_is c.signs_for-signs.result.now c.front.result.now c.in-Some.mark (sym c.spelled_by.ensures ∙ c.in-Some.is) ∙ c.front.ensures)
