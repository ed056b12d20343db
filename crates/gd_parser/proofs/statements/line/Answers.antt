use Rattle.gd_syntax.proofs.Steps.{exit}
use Rattle.gd_syntax.specs.Reading.Then.{goes, halts}
use Rattle.std.proofs.Common.{refl}
use Rattle.gd_parser.proofs.statements.line.Goals as goal

pub returns-in_err-tree-clause-reads : goal.returns-in_err-tree-clause-reads
returns-in_err-tree-clause-reads c = exit _ _ _ _ _ c.from_residual.ensures.1 (λ f h. halts h) c.in_err-tree.ensures.reads

pub returns-in_err-all-clause-reads : goal.returns-in_err-all-clause-reads
returns-in_err-all-clause-reads c = exit _ _ _ _ _ c.from_residual-in_err-all.ensures.1 (λ f h. goes c.in_ok-tree.ensures.reads (halts h)) (rw (c.in_ok-first.ensures) at c.in_err-all.ensures.reads)

pub returns-in_err-end-clause-reads : goal.returns-in_err-end-clause-reads
returns-in_err-end-clause-reads c = exit _ _ _ _ _ c.from_residual-in_err-end.ensures.1 (λ f h. goes c.in_ok-tree.ensures.reads (goes (rw (c.in_ok-first.ensures) at c.in_ok-all.ensures.reads) (halts h))) c.in_err-end.ensures.reads

pub returns-clause-reads : goal.returns-clause-reads
returns-clause-reads c = rw (c.place_at-place.ensures) (goes c.in_ok-tree.ensures.reads (goes (rw (c.in_ok-first.ensures) at c.in_ok-all.ensures.reads) (goes c.in_ok-end.ensures.reads refl)))
