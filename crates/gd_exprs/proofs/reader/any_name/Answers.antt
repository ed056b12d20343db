use Rattle.std.proofs.Common.{ap, sym, ◌∙◌}
use Rattle.gd_syntax.specs.TokenReading.{OneOf}
use Rattle.gd_syntax.specs.TokenReading.{any_name as any_view}
use Rattle.gd_exprs.proofs.Parts.{any_other}
use Rattle.gd_exprs.proofs.reader.any_name.Goals as goal

pub returns-in_ok-name-in-Name-clause-reads : goal.returns-in_ok-name-in-Name-clause-reads
returns-in_ok-name-in-Name-clause-reads c = rw (c.skip.ensures.next, c.in_ok-name-in-Name.ensures.cases) (OneOf.found (ap any_view (sym c.kind_at.ensures ∙ c.in-Name.is)))

pub returns-in_default-clause-reads : goal.returns-in_default-clause-reads
returns-in_default-clause-reads c = rw (c.refuse.ensures) (OneOf.missing (any_other _ (λ text e. c.in_default.not-Name text (c.kind_at.ensures ∙ e))))
