use Rattle.std.proofs.Common.{sym, ◌∙◌}
use Rattle.gd_syntax.specs.TokenReading.{OneOf}
use Rattle.gd_exprs.proofs.Parts.{plain_some, plain_none, plain_other}
use Rattle.gd_exprs.proofs.reader.plain_name.Goals as goal

pub returns-then-not-is_plain-clause-reads : goal.returns-then-not-is_plain-clause-reads
returns-then-not-is_plain-clause-reads c = rw (c.refuse.ensures) (OneOf.missing (plain_none _ _ (sym c.kind_at.ensures ∙ c.in-Name.is) (sym c.is_plain.ensures ∙ c.if-not-is_plain.true)))

pub returns-in_ok-name-in-Name-clause-reads : goal.returns-in_ok-name-in-Name-clause-reads
returns-in_ok-name-in-Name-clause-reads c = rw (c.skip.ensures.next, c.in_ok-name-in-Name.ensures.cases) (OneOf.found (plain_some _ _ (sym c.kind_at.ensures ∙ c.in-Name.is) (sym c.is_plain.ensures ∙ c.if-not-is_plain.false)))

pub returns-in_default-clause-reads : goal.returns-in_default-clause-reads
returns-in_default-clause-reads c = rw (c.refuse-in_default.ensures) (OneOf.missing (plain_other _ (λ text e. c.in_default.not-Name text (c.kind_at.ensures ∙ e))))
