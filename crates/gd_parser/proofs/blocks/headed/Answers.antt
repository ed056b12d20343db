use Rattle.gd_syntax.proofs.Steps.{exit}
use Rattle.gd_syntax.specs.Reading.Then.{goes, halts}
use Rattle.gd_parser.proofs.blocks.headed.Goals as goal

pub returns-in_err-tree-clause-reads : goal.returns-in_err-tree-clause-reads
returns-in_err-tree-clause-reads c = exit _ _ _ _ _ c.from_residual.ensures.1 (λ f h. halts h) c.in_err-tree.ensures.reads

pub returns-in_err-end-clause-reads : goal.returns-in_err-end-clause-reads
returns-in_err-end-clause-reads c = exit _ _ _ _ _ c.from_residual-in_err-end.ensures.1 (λ f h. goes c.in_ok-tree.ensures.reads (halts h)) c.in_err-end.ensures.reads

pub returns-clause-reads : goal.returns-clause-reads
returns-clause-reads c = goes c.in_ok-tree.ensures.reads (goes c.in_ok-end.ensures.reads (rw (c.in_ok-boxed.ensures)))
