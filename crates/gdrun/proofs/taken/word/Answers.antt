use Rattle.std.proofs.Common.{ap, sym, refl, ◌∙◌}
use Rattle.gd_syntax.specs.Reading.Look.{looks}
use Rattle.gdrun.specs.Taken.{is_word}
use Rattle.gdrun.proofs.TakenSteps.{word_other}
use Rattle.gdrun.proofs.taken.word.Goals as goal

pub returns-then-is_word-clause-reads : goal.returns-then-is_word-clause-reads
returns-then-is_word-clause-reads c = rw (c.skip.ensures.next) (looks (ap (is_word c.args.text.now) (sym c.kind_at.ensures ∙ c.in-Name.is) ∙ sym c.is_word.ensures ∙ c.if-is_word.true) refl)

pub returns-else-is_word-clause-reads : goal.returns-else-is_word-clause-reads
returns-else-is_word-clause-reads c = rw (c.unbuilt.ensures) (looks (ap (is_word c.args.text.now) (sym c.kind_at.ensures ∙ c.in-Name.is) ∙ sym c.is_word.ensures ∙ c.if-is_word.false) refl)

pub returns-in_default-clause-reads : goal.returns-in_default-clause-reads
returns-in_default-clause-reads c = rw (c.unbuilt-in_default.ensures) (looks (word_other _ _ (λ name e. c.in_default.not-Name name (c.kind_at.ensures ∙ e))) refl)
