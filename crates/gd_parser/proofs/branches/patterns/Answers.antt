use Rattle.gd_syntax.proofs.Steps.{answers_by, exit}
use Rattle.gd_syntax.specs.Reading.Then.{goes, halts}
use Rattle.gd_parser.proofs.branches.patterns.Goals as goal

pub returns-in_err-tree-clause-reads : goal.returns-in_err-tree-clause-reads
returns-in_err-tree-clause-reads c = exit _ _ _ _ _ c.from_residual.ensures.1 (λ f h. halts h) c.in_err-tree.ensures.reads

pub returns-clause-reads : goal.returns-clause-reads
returns-clause-reads c = answers_by _ _ _ _ c.further_patterns.result (λ x a. goes c.in_ok-tree.ensures.reads a) (λ x a. goes c.in_ok-tree.ensures.reads a) (rw (c.in_ok-first.ensures, c.in_ok-tree.ensures.found.binds) at c.further_patterns.ensures.reads)
