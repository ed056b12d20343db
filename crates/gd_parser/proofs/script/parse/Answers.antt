use Rattle.gd_parser.proofs.HeadSteps.{parse_fails, only_fault, only_tree}
use Rattle.gd_parser.proofs.script.parse.Goals as goal

pub returns-in_err-tree-clause-reads : goal.returns-in_err-tree-clause-reads
returns-in_err-tree-clause-reads c = parse_fails c.args.tokens.now c.args.header_end _ _ c.from_residual.ensures.1 c.in_err-tree.ensures.reads

pub returns-in_err-tree-clause-only : goal.returns-in_err-tree-clause-only
returns-in_err-tree-clause-only c = λ o x. only_fault c.args.tokens.now c.args.header_end _ _ o c.from_residual.ensures.1 c.in_err-tree.ensures.reads x

pub returns-clause-reads : goal.returns-clause-reads
returns-clause-reads c = (_, c.in_ok-tree.ensures.reads)

pub returns-clause-only : goal.returns-clause-only
returns-clause-only c = λ o x. only_tree c.args.tokens.now c.args.header_end _ _ o c.in_ok-tree.ensures.reads x
