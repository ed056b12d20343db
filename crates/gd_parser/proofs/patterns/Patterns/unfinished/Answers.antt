use Rattle.gd_syntax.proofs.Steps.{answers_by}
use Rattle.gd_syntax.proofs.Targets.{binds-Literal}
use Rattle.gd_syntax.specs.Reading.Look.{looks}
use Rattle.gd_syntax.specs.Reading.Then.{goes}
use Rattle.gd_syntax.specs.TokenReading.{literal_of}
use Rattle.std.proofs.Common.{ap, arith, refl, sym, ◌∙◌}
use Rattle.gd_parser.proofs.patterns.Patterns.unfinished.Goals as goal

pub returns-in-Some-clause-reads : goal.returns-in-Some-clause-reads
returns-in-Some-clause-reads g c = rw (c.skip.ensures.next, c.place_at.ensures) (looks (ap literal_of (sym c.kind_at.ensures) ∙ sym c.in_ok-value.ensures ∙ c.in-Some.is) (goes refl refl))

pub returns-in-Some-clause-found : goal.returns-in-Some-clause-found
returns-in-Some-clause-found g c = record { binds = sym (binds-Literal _ _ _); after = omega (arith, c.skip.ensures.next); within = c.skip.ensures.within }

pub returns-in-None-clause-reads : goal.returns-in-None-clause-reads
returns-in-None-clause-reads g c = answers_by _ _ _ _ c.other.result (λ x a. looks (ap literal_of (sym c.kind_at.ensures) ∙ sym c.in_ok-value.ensures ∙ c.in-None.is) a) (λ x a. looks (ap literal_of (sym c.kind_at.ensures) ∙ sym c.in_ok-value.ensures ∙ c.in-None.is) a) c.other.ensures.reads
