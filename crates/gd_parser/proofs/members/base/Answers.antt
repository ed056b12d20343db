use Rattle.gd_syntax.proofs.Steps.{exit}
use Rattle.gd_syntax.specs.Reading.Then.{goes, halts}
use Rattle.gd_parser.proofs.members.base.Goals as goal

pub returns-in_err-first-clause-reads : goal.returns-in_err-first-clause-reads
returns-in_err-first-clause-reads c = exit _ _ _ _ _ c.from_residual.ensures.1 (λ f h. halts h) c.in_err-first.ensures.reads

pub returns-in_err-names-clause-reads : goal.returns-in_err-names-clause-reads
returns-in_err-names-clause-reads c = exit _ _ _ _ _ c.from_residual-in_err-names.ensures.1 (λ f h. goes c.in_ok-first.ensures.reads (halts h)) c.in_err-names.ensures.reads

pub returns-clause-reads : goal.returns-clause-reads
returns-clause-reads c = goes c.in_ok-first.ensures.reads (goes c.in_ok-names.ensures.reads (rw (c.place_at-place.ensures)))
