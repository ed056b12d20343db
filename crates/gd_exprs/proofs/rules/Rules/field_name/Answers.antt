use Rattle.gd_syntax.proofs.Steps.{exit}
use Rattle.gd_syntax.specs.Reading.{Read}
use Rattle.gd_syntax.specs.Reading.Look.{looks}
use Rattle.gd_syntax.specs.Reading.Then.{goes, halts}
use Rattle.std.proofs.Common.{ap, refl, sym, ◌∙◌}
use Rattle.gd_exprs.proofs.Parts.{plain_none, plain_some, plain_other}
use Rattle.gd_exprs.proofs.rules.Rules.field_name.Goals as goal

pub returns-then-not-is_plain-clause-reads : goal.returns-then-not-is_plain-clause-reads
returns-then-not-is_plain-clause-reads g c = rw (c.refuse.ensures) (looks (plain_none _ _ (sym c.kind_at.ensures ∙ c.in-Name.is) (sym c.is_plain.ensures ∙ c.if-not-is_plain.true)) refl)

pub returns-in_err-fits-in-Name-clause-reads : goal.returns-in_err-fits-in-Name-clause-reads
returns-in_err-fits-in-Name-clause-reads g c = exit _ _ _ _ _ c.from_residual.ensures.1 (λ f h. looks (plain_some _ _ (sym c.kind_at.ensures ∙ c.in-Name.is) (sym c.is_plain.ensures ∙ c.if-not-is_plain.false)) (halts h)) c.in_err-fits-in-Name.ensures.reads

pub returns-in_ok-name-in-Name-clause-reads : goal.returns-in_ok-name-in-Name-clause-reads
returns-in_ok-name-in-Name-clause-reads g c = looks (plain_some _ _ (sym c.kind_at.ensures ∙ c.in-Name.is) (sym c.is_plain.ensures ∙ c.if-not-is_plain.false)) (goes c.in_ok-fits-in-Name.ensures.reads (goes (ap (λ n. Read tt n) c.skip.ensures.next) (rw (c.place_at-place.ensures, c.in_ok-name-in-Name.ensures.cases))))

pub returns-in_default-clause-reads : goal.returns-in_default-clause-reads
returns-in_default-clause-reads g c = rw (c.refuse-in_default.ensures) (looks (plain_other _ (λ text e. c.in_default.not-Name text (c.kind_at.ensures ∙ e))) refl)
