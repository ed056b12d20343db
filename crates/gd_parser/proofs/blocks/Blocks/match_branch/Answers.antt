use Rattle.gd_syntax.proofs.Steps.{exit}
use Rattle.gd_syntax.specs.Reading.Then.{goes, halts}
use Rattle.std.proofs.Common.{refl}
use Rattle.gd_parser.proofs.blocks.Blocks.match_branch.Goals as goal

pub returns-in_err-all-clause-reads : goal.returns-in_err-all-clause-reads
returns-in_err-all-clause-reads g c = exit _ _ _ _ _ c.from_residual.ensures.1 (λ f h. halts h) c.in_err-all.ensures.reads

pub returns-in_err-open-clause-reads : goal.returns-in_err-open-clause-reads
returns-in_err-open-clause-reads g c = exit _ _ _ _ _ c.from_residual-in_err-open.ensures.1 (λ f h. goes c.in_ok-all.ensures.reads (halts h)) c.in_err-open.ensures.reads

pub returns-in_err-body-clause-reads : goal.returns-in_err-body-clause-reads
returns-in_err-body-clause-reads g c = exit _ _ _ _ _ c.from_residual-in_err-body.ensures.1 (λ f h. goes c.in_ok-all.ensures.reads (goes c.in_ok-open.ensures.reads (halts h))) c.in_err-body.ensures.reads

pub returns-clause-reads : goal.returns-clause-reads
returns-clause-reads g c = goes c.in_ok-all.ensures.reads (goes c.in_ok-open.ensures.reads (goes c.in_ok-body.ensures.reads refl))
