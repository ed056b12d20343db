use Rattle.gd_syntax.specs.Reading.Then.{goes}
use Rattle.gd_syntax.specs.Reading.Look.{looks}
use Rattle.gd_exprs.proofs.Parts.{any_other}
use Rattle.gd_syntax.specs.TokenReading.{any_name}
use Rattle.std.proofs.Common.{ap, refl, sym, ◌∙◌}
use Rattle.gd_parser.proofs.members.enum_name.Goals as goal

pub returns-in_ok-name-in-Name-clause-reads : goal.returns-in_ok-name-in-Name-clause-reads
returns-in_ok-name-in-Name-clause-reads c = rw (c.skip.ensures.next, c.in_ok-name-in-Name.ensures.cases, c.place_at-place.ensures) (looks (ap any_name (sym c.kind_at.ensures ∙ c.in-Name.is)) (goes refl refl))

pub returns-in_default-clause-reads : goal.returns-in_default-clause-reads
returns-in_default-clause-reads c = looks (any_other _ (λ text e. c.in_default.not-Name text (c.kind_at.ensures ∙ e))) refl
