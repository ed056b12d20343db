use Rattle.gd_syntax.proofs.Steps.{exit}
use Rattle.gd_syntax.specs.Reading.Look.{looks}
use Rattle.gd_syntax.specs.Reading.Then.{goes, halts}
use Rattle.std.proofs.Common.{refl, sym, ◌∙◌}
use Rattle.gd_exprs.proofs.types.read_type.Goals as goal

pub returns-in_err-name-clause-reads : goal.returns-in_err-name-clause-reads
returns-in_err-name-clause-reads c = exit _ _ _ _ _ c.from_residual.ensures.1 (λ f h. halts h) c.in_err-name.ensures.reads

pub returns-in_err-names-clause-reads : goal.returns-in_err-names-clause-reads
returns-in_err-names-clause-reads c = exit _ _ _ _ _ c.from_residual-in_err-names.ensures.1 (λ f h. goes c.in_ok-name.ensures.reads (halts h)) (rw (c.in_ok-first.ensures) at c.in_err-names.ensures.reads)

pub returns-in-Some-clause-reads : goal.returns-in-Some-clause-reads
returns-in-Some-clause-reads c = rw (c.fault_at.ensures) (let is = (rw (c.mark_at.ensures) at (sym c.bracket_form.ensures ∙ c.in-Some.is)) in goes c.in_ok-name.ensures.reads (goes (rw (c.in_ok-first.ensures) at c.in_ok-names.ensures.reads) (looks is refl)))

pub returns-in-None-clause-reads : goal.returns-in-None-clause-reads
returns-in-None-clause-reads c = let is = (rw (c.mark_at.ensures) at (sym c.bracket_form.ensures ∙ c.in-None.is)) in goes c.in_ok-name.ensures.reads (goes (rw (c.in_ok-first.ensures) at c.in_ok-names.ensures.reads) (looks is (rw (c.place_at-place.ensures))))
