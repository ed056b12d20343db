use Rattle.std.proofs.Common.{ap, sym, refl, ◌∙◌}
use Rattle.gd_syntax.specs.Reading.Look.{looks}
use Rattle.gdrun.specs.Taken.{is_number}
use Rattle.gdrun.proofs.TakenSteps.{number_other}
use Rattle.gdrun.proofs.taken.number.Goals as goal

pub returns-in-Int-clause-reads : goal.returns-in-Int-clause-reads
returns-in-Int-clause-reads c = rw (c.skip.ensures.next) (looks (ap is_number (sym c.kind_at.ensures ∙ c.in-Int.is)) refl)

pub returns-in_default-clause-reads : goal.returns-in_default-clause-reads
returns-in_default-clause-reads c = rw (c.unbuilt.ensures) (looks (number_other _ (λ n e. c.in_default.not-Int n (c.kind_at.ensures ∙ e))) refl)
