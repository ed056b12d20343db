use Rattle.gd_syntax.proofs.Steps.{exit}
use Rattle.gd_syntax.specs.Reading.Then.{goes, halts}
use Rattle.std.proofs.Common.{refl}
use Rattle.gd_parser.proofs.functions.params.Goals as goal

pub returns-in_err-all-clause-reads : goal.returns-in_err-all-clause-reads
returns-in_err-all-clause-reads c = exit _ _ _ _ _ c.from_residual.ensures.1 (λ f h. halts h) c.in_err-all.ensures.reads

pub returns-in_err-next-clause-reads : goal.returns-in_err-next-clause-reads
returns-in_err-next-clause-reads c = exit _ _ _ _ _ c.from_residual-in_err-next.ensures.1 (λ f h. goes c.in_ok-all.ensures.reads (halts h)) c.in_err-next.ensures.reads

pub returns-clause-reads : goal.returns-clause-reads
returns-clause-reads c = goes c.in_ok-all.ensures.reads (goes c.in_ok-next.ensures.reads refl)
