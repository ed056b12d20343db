use Rattle.gd_syntax.proofs.Steps.{exit}
use Rattle.gd_syntax.specs.Reading.Then.{goes, halts}
use Rattle.gd_parser.proofs.script.rest.Goals as goal

pub returns-in_err-members : goal.returns-in_err-members
returns-in_err-members c = record { reads = exit _ _ _ _ _ c.from_residual.ensures.1 (λ f h. halts h) c.in_err-members.ensures.reads }

pub returns-in_err-past : goal.returns-in_err-past
returns-in_err-past c = record { reads = exit _ _ _ _ _ c.from_residual-in_err-past.ensures.1 (λ f h. goes c.in_ok-members.ensures.reads (halts h)) c.in_err-past.ensures.reads }

pub returns : goal.returns
returns c = record { reads = goes c.in_ok-members.ensures.reads (goes c.in_ok-past.ensures.reads (rw (c.place_at-place.ensures))) }
