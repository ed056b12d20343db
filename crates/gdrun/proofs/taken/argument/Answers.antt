use Rattle.std.proofs.Common.{ap, sym, refl, ◌∙◌}
use Rattle.gd_syntax.proofs.Steps.{answers_by}
use Rattle.gd_syntax.specs.Reading.Look.{looks}
use Rattle.gd_syntax.specs.Reading.Then.{goes}
use Rattle.gd_syntax.specs.Reading.{Read}
use Rattle.gdrun.proofs.TakenSteps.{argument_other}
use Rattle.gdrun.proofs.taken.argument.Goals as goal

pub returns-in-Text-clause-reads : goal.returns-in-Text-clause-reads
returns-in-Text-clause-reads c = rw (c.skip.ensures.next) (looks (sym c.kind_at.ensures ∙ c.in-Text.is) refl)

pub returns-in-Int-clause-reads : goal.returns-in-Int-clause-reads
returns-in-Int-clause-reads c = answers_by _ _ _ _ c.operators.result (λ x a. looks (sym c.kind_at.ensures ∙ c.in-Int.is) (goes (ap (λ n. Read tt n) c.skip-in-Int.ensures.next) a)) (λ x a. looks (sym c.kind_at.ensures ∙ c.in-Int.is) (goes (ap (λ n. Read tt n) c.skip-in-Int.ensures.next) a)) c.operators.ensures.reads

pub returns-in_default-clause-reads : goal.returns-in_default-clause-reads
returns-in_default-clause-reads c = rw (c.unbuilt.ensures) (argument_other c.args.tokens.now c.args.at _ (λ text e. c.in_default.not-Text text (c.kind_at.ensures ∙ e)) (λ n e. c.in_default.not-Int n (c.kind_at.ensures ∙ e)) refl)
