use Rattle.gd_syntax.proofs.Steps.{answers_by, exit}
use Rattle.gd_syntax.specs.Reading.Look.{looks}
use Rattle.gd_syntax.specs.Reading.Then.{goes, halts}
use Rattle.std.proofs.Common.{refl, sym, ◌∙◌}
use Rattle.gd_parser.proofs.patterns.Patterns.entries.Goals as goal

pub returns-then-ends_items-clause-reads : goal.returns-then-ends_items-clause-reads
returns-then-ends_items-clause-reads g c = rw (c.new.ensures) (looks (rw (c.mark_at.ensures) at (sym c.ends_items.ensures ∙ c.if-ends_items.true)) refl)

pub returns-in_err-first-clause-reads : goal.returns-in_err-first-clause-reads
returns-in_err-first-clause-reads g c = exit _ _ _ _ _ c.from_residual.ensures.1 (λ f h. looks (rw (c.mark_at.ensures) at (sym c.ends_items.ensures ∙ c.if-ends_items.false)) (halts h)) c.in_err-first.ensures.reads

pub returns-clause-reads : goal.returns-clause-reads
returns-clause-reads g c = answers_by _ _ _ _ c.more_entries.result (λ x a. looks (rw (c.mark_at.ensures) at (sym c.ends_items.ensures ∙ c.if-ends_items.false)) (goes c.in_ok-first.ensures.reads a)) (λ x a. looks (rw (c.mark_at.ensures) at (sym c.ends_items.ensures ∙ c.if-ends_items.false)) (goes c.in_ok-first.ensures.reads a)) c.more_entries.ensures.reads
