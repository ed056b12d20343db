use Rattle.gd_syntax.proofs.Steps.{exit}
use Rattle.gd_syntax.specs.Reading.Then.{goes, halts}
use Rattle.std.proofs.Common.{refl}
use Rattle.gd_exprs.proofs.rules.Rules.entry.Goals as goal

pub returns-in_err-key-clause-reads : goal.returns-in_err-key-clause-reads
returns-in_err-key-clause-reads g c = exit _ _ _ _ _ c.from_residual.ensures.1 (λ f h. halts h) c.in_err-key.ensures.reads

pub returns-in_err-at-clause-reads : goal.returns-in_err-at-clause-reads
returns-in_err-at-clause-reads g c = exit _ _ _ _ _ c.from_residual-in_err-at.ensures.1 (λ f h. goes c.in_ok-key.ensures.reads (halts h)) c.in_err-at.ensures.reads

pub returns-in_err-value-clause-reads : goal.returns-in_err-value-clause-reads
returns-in_err-value-clause-reads g c = exit _ _ _ _ _ c.from_residual-in_err-value.ensures.1 (λ f h. goes c.in_ok-key.ensures.reads (goes c.in_ok-at.ensures.reads (halts h))) c.in_err-value.ensures.reads

pub returns-clause-reads : goal.returns-clause-reads
returns-clause-reads g c = goes c.in_ok-key.ensures.reads (goes c.in_ok-at.ensures.reads (goes c.in_ok-value.ensures.reads refl))
