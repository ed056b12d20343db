use Rattle.gd_syntax.proofs.Steps.{exit}
use Rattle.gd_syntax.specs.Reading.Then.{goes, halts}
use Rattle.std.proofs.Common.{refl}
use Rattle.gd_parser.proofs.blocks.Blocks.if_statement.Goals as goal

pub returns-in_err-branch-clause-reads : goal.returns-in_err-branch-clause-reads
returns-in_err-branch-clause-reads g c = exit _ _ _ _ _ c.from_residual.ensures.1 (λ f h. halts h) c.in_err-branch.ensures.reads

pub returns-in_err-all-clause-reads : goal.returns-in_err-all-clause-reads
returns-in_err-all-clause-reads g c = exit _ _ _ _ _ c.from_residual-in_err-all.ensures.1 (λ f h. goes c.in_ok-branch.ensures.reads (halts h)) (rw (c.in_ok-first.ensures) at c.in_err-all.ensures.reads)

pub returns-in_err-other-clause-reads : goal.returns-in_err-other-clause-reads
returns-in_err-other-clause-reads g c = exit _ _ _ _ _ c.from_residual-in_err-other.ensures.1 (λ f h. goes c.in_ok-branch.ensures.reads (goes (rw (c.in_ok-first.ensures) at c.in_ok-all.ensures.reads) (halts h))) c.in_err-other.ensures.reads

pub returns-clause-reads : goal.returns-clause-reads
returns-clause-reads g c = rw (c.place_at-place.ensures) (goes c.in_ok-branch.ensures.reads (goes (rw (c.in_ok-first.ensures) at c.in_ok-all.ensures.reads) (goes c.in_ok-other.ensures.reads refl)))
