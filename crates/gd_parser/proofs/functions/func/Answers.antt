use Rattle.gd_syntax.proofs.Steps.{exit}
use Rattle.gd_syntax.specs.Reading.Then.{goes, halts}
use Rattle.std.proofs.Common.{refl}
use Rattle.gd_parser.proofs.functions.func.Goals as goal

pub returns-in_err-name-clause-reads : goal.returns-in_err-name-clause-reads
returns-in_err-name-clause-reads c = exit _ _ _ _ _ c.from_residual.ensures.1 (λ f h. halts h) c.in_err-name.ensures.reads

pub returns-in_err-first-clause-reads : goal.returns-in_err-first-clause-reads
returns-in_err-first-clause-reads c = exit _ _ _ _ _ c.from_residual-in_err-first.ensures.1 (λ f h. goes c.in_ok-name.ensures.reads (halts h)) c.in_err-first.ensures.reads

pub returns-in_err-all-clause-reads : goal.returns-in_err-all-clause-reads
returns-in_err-all-clause-reads c = exit _ _ _ _ _ c.from_residual-in_err-all.ensures.1 (λ f h. goes c.in_ok-name.ensures.reads (goes c.in_ok-first.ensures.reads (halts h))) c.in_err-all.ensures.reads

pub returns-in_err-kind-clause-reads : goal.returns-in_err-kind-clause-reads
returns-in_err-kind-clause-reads c = exit _ _ _ _ _ c.from_residual-in_err-kind.ensures.1 (λ f h. goes c.in_ok-name.ensures.reads (goes c.in_ok-first.ensures.reads (goes c.in_ok-all.ensures.reads (halts h)))) c.in_err-kind.ensures.reads

pub returns-in_err-start-clause-reads : goal.returns-in_err-start-clause-reads
returns-in_err-start-clause-reads c = exit _ _ _ _ _ c.from_residual-in_err-start.ensures.1 (λ f h. goes c.in_ok-name.ensures.reads (goes c.in_ok-first.ensures.reads (goes c.in_ok-all.ensures.reads (goes c.in_ok-kind.ensures.reads (halts h))))) c.in_err-start.ensures.reads

pub returns-in_err-body-clause-reads : goal.returns-in_err-body-clause-reads
returns-in_err-body-clause-reads c = exit _ _ _ _ _ c.from_residual-in_err-body.ensures.1 (λ f h. goes c.in_ok-name.ensures.reads (goes c.in_ok-first.ensures.reads (goes c.in_ok-all.ensures.reads (goes c.in_ok-kind.ensures.reads (goes c.in_ok-start.ensures.reads (halts h)))))) c.in_err-body.ensures.reads

pub returns-clause-reads : goal.returns-clause-reads
returns-clause-reads c = goes c.in_ok-name.ensures.reads (goes c.in_ok-first.ensures.reads (goes c.in_ok-all.ensures.reads (goes c.in_ok-kind.ensures.reads (goes c.in_ok-start.ensures.reads (goes c.in_ok-body.ensures.reads refl)))))
