use Rattle.gd_syntax.proofs.Steps.{exit}
use Rattle.gd_syntax.specs.Reading.Then.{goes, halts}
use Rattle.gd_syntax.specs.Reading.Look.{looks}
use Rattle.gd_syntax.specs.Reading.{Read}
use Rattle.gd_exprs.proofs.Parts.{any_other}
use Rattle.gd_syntax.specs.TokenReading.{any_name}
use Rattle.std.proofs.Common.{ap, refl, sym, ◌∙◌}
use Rattle.gd_parser.proofs.functions.param.Goals as goal

pub returns-in_err-below-in-Name-clause-reads : goal.returns-in_err-below-in-Name-clause-reads
returns-in_err-below-in-Name-clause-reads c = exit _ _ _ _ _ c.from_residual.ensures.1 (λ f h. looks (ap any_name (sym c.kind_at.ensures ∙ c.in-Name.is)) (halts h)) (rw (c.len.ensures) at c.in_err-below-in-Name.ensures.reads)

pub returns-in_err-what-in-Name-clause-reads : goal.returns-in_err-what-in-Name-clause-reads
returns-in_err-what-in-Name-clause-reads c = exit _ _ _ _ _ c.from_residual-in_err-what-in-Name.ensures.1 (λ f h. looks (ap any_name (sym c.kind_at.ensures ∙ c.in-Name.is)) (goes (rw (c.len.ensures) at c.in_ok-below-in-Name.ensures.reads) (goes (ap (λ n. Read tt n) c.skip.ensures.next) (halts h)))) c.in_err-what-in-Name.ensures.reads

pub returns-in_ok-what-in-Name-clause-reads : goal.returns-in_ok-what-in-Name-clause-reads
returns-in_ok-what-in-Name-clause-reads c = looks (ap any_name (sym c.kind_at.ensures ∙ c.in-Name.is)) (goes (rw (c.len.ensures) at c.in_ok-below-in-Name.ensures.reads) (goes (ap (λ n. Read tt n) c.skip.ensures.next) (goes c.in_ok-what-in-Name.ensures.reads (rw (c.place_at-place.ensures, c.in_ok-name-in-Name.ensures.cases)))))

pub returns-in_default-clause-reads : goal.returns-in_default-clause-reads
returns-in_default-clause-reads c = rw (c.refuse.ensures) (looks (any_other _ (λ text e. c.in_default.not-Name text (c.kind_at.ensures ∙ e))) refl)
