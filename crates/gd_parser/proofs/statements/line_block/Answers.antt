use Rattle.gd_syntax.proofs.Steps.{exit}
use Rattle.gd_syntax.specs.Reading.Then.{goes, halts}
use Rattle.std.proofs.Common.{refl}
use Rattle.gd_parser.proofs.statements.line_block.Goals as goal

pub returns-in_err-tree-clause-reads : goal.returns-in_err-tree-clause-reads
returns-in_err-tree-clause-reads c = exit _ _ _ _ _ c.from_residual.ensures.1 (λ f h. halts h) c.in_err-tree.ensures.reads

pub returns-clause-reads : goal.returns-clause-reads
returns-clause-reads c = rw (c.in_ok-all.ensures) (goes c.in_ok-tree.ensures.reads refl)
