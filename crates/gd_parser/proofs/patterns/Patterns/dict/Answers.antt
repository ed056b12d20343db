use Rattle.gd_syntax.proofs.Steps.{exit}
use Rattle.gd_syntax.proofs.Targets.{binds-Dict}
use Rattle.gd_syntax.specs.Reading.{Read}
use Rattle.gd_syntax.specs.Reading.Then.{goes, halts}
use Rattle.std.proofs.Common.{ap, arith, refl, sym, ◌∙◌}
use Rattle.gd_parser.proofs.patterns.Patterns.dict.Goals as goal

pub returns-in_err-items-clause-reads : goal.returns-in_err-items-clause-reads
returns-in_err-items-clause-reads g c = exit _ _ _ _ _ c.from_residual.ensures.1 (λ f h. goes (ap (λ n. Read tt n) c.skip.ensures.next) (halts (halts h))) c.in_err-items.ensures.reads

pub returns-in_err-unended-clause-reads : goal.returns-in_err-unended-clause-reads
returns-in_err-unended-clause-reads g c = exit _ _ _ _ _ c.from_residual-in_err-unended.ensures.1 (λ f h. goes (ap (λ n. Read tt n) c.skip.ensures.next) (halts (goes c.in_ok-items.ensures.reads (halts h)))) c.in_err-unended.ensures.reads

pub returns-in_err-end-clause-reads : goal.returns-in_err-end-clause-reads
returns-in_err-end-clause-reads g c = exit _ _ _ _ _ c.from_residual-in_err-end.ensures.1 (λ f h. goes (ap (λ n. Read tt n) c.skip.ensures.next) (halts (goes c.in_ok-items.ensures.reads (goes c.in_ok-unended.ensures.reads (halts h))))) c.in_err-end.ensures.reads

pub returns-clause-reads : goal.returns-clause-reads
returns-clause-reads g c = goes (ap (λ n. Read tt n) c.skip.ensures.next) (goes (goes c.in_ok-items.ensures.reads (goes c.in_ok-unended.ensures.reads (goes c.in_ok-end.ensures.reads refl))) (rw (c.place_at-place.ensures)))

pub returns-clause-found : goal.returns-clause-found
returns-clause-found g c = record { binds = c.in_ok-items.ensures.found.binds ∙ sym (binds-Dict _ _ _); after = omega (arith, c.in_ok-items.ensures.found.after, c.in_ok-unended.ensures.after, c.in_ok-end.ensures.next, c.skip.ensures.next); within = c.in_ok-end.ensures.within }
