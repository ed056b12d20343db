use Rattle.gd_syntax.proofs.Steps.{exit}
use Rattle.gd_syntax.specs.Reading.Then.{goes, halts}
use Rattle.std.proofs.Common.{refl}
use Rattle.gd_exprs.proofs.rules.Rules.args.Goals as goal

pub returns-in_err-items-clause-reads : goal.returns-in_err-items-clause-reads
returns-in_err-items-clause-reads g c = exit _ _ _ _ _ c.from_residual.ensures.1 (λ f h. halts h) c.in_err-items.ensures.reads

pub returns-in_err-at-clause-reads : goal.returns-in_err-at-clause-reads
returns-in_err-at-clause-reads g c = exit _ _ _ _ _ c.from_residual-in_err-at.ensures.1 (λ f h. goes c.in_ok-items.ensures.reads (halts h)) c.in_err-at.ensures.reads

pub returns-clause-reads : goal.returns-clause-reads
returns-clause-reads g c = goes c.in_ok-items.ensures.reads (goes c.in_ok-at.ensures.reads refl)
