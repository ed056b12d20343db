use Rattle.gd_syntax.proofs.Steps.{exit}
use Rattle.gd_syntax.specs.Reading.{Read}
use Rattle.gd_syntax.specs.Reading.Look.{looks}
use Rattle.gd_syntax.specs.Reading.Then.{goes, halts}
use Rattle.gd_syntax.specs.TokenReading.{literal_of}
use Rattle.std.proofs.Common.{ap, refl, sym, ◌∙◌}
use Rattle.gd_parser.proofs.patterns.Patterns.key.Goals as goal

pub returns-in_err-fits-in-Some-clause-reads : goal.returns-in_err-fits-in-Some-clause-reads
returns-in_err-fits-in-Some-clause-reads g c = exit _ _ _ _ _ c.from_residual-in_err-fits-in-Some.ensures.1 (λ f h. looks (ap literal_of (sym c.kind_at.ensures) ∙ sym c.in_ok-value.ensures ∙ c.in-Some.is) (halts h)) c.in_err-fits-in-Some.ensures.reads

pub returns-in_ok-fits-in-Some-clause-reads : goal.returns-in_ok-fits-in-Some-clause-reads
returns-in_ok-fits-in-Some-clause-reads g c = looks (ap literal_of (sym c.kind_at.ensures) ∙ sym c.in_ok-value.ensures ∙ c.in-Some.is) (goes c.in_ok-fits-in-Some.ensures.reads (goes (ap (λ n. Read tt n) c.skip.ensures.next) refl))

pub returns-in-None-clause-reads : goal.returns-in-None-clause-reads
returns-in-None-clause-reads g c = rw (c.refuse.ensures) (looks (ap literal_of (sym c.kind_at.ensures) ∙ sym c.in_ok-value.ensures ∙ c.in-None.is) refl)
