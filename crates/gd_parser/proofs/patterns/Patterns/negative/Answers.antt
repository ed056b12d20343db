use Rattle.gd_syntax.proofs.Targets.{binds-Literal}
use Rattle.gd_syntax.specs.Reading.{Read}
use Rattle.gd_syntax.specs.Reading.Then.{goes, halts}
use Rattle.gd_syntax.specs.TokenReading.{OneOf, literal_of}
use Rattle.std.proofs.Common.{ap, arith, refl, sym, ◌∙◌}
use Rattle.gd_parser.proofs.patterns.Patterns.negative.Goals as goal

pub returns-in-Some-clause-reads : goal.returns-in-Some-clause-reads
returns-in-Some-clause-reads g c = rw (c.skip.ensures.next, c.place_at-place.ensures) (goes (ap (λ n. Read tt n) c.skip-start.ensures.next) (goes (OneOf.found (ap literal_of (sym c.kind_at.ensures) ∙ sym c.in_ok-value.ensures ∙ c.in-Some.is)) refl))

pub returns-in-Some-clause-found : goal.returns-in-Some-clause-found
returns-in-Some-clause-found g c = record { binds = sym (binds-Literal _ _ _); after = omega (arith, c.skip.ensures.next, c.skip-start.ensures.next); within = c.skip.ensures.within }

pub returns-in-None-clause-reads : goal.returns-in-None-clause-reads
returns-in-None-clause-reads g c = rw (c.refuse.ensures) (goes (ap (λ n. Read tt n) c.skip-start.ensures.next) (halts (OneOf.missing (ap literal_of (sym c.kind_at.ensures) ∙ sym c.in_ok-value.ensures ∙ c.in-None.is))))
