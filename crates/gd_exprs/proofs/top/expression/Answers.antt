use Rattle.gd_syntax.proofs.Steps.{exit_only}
use Rattle.std.proofs.Common.{◌-◌}
use Rattle.gd_syntax.proofs.OnlyExprs.{only_expression}
use Rattle.gd_syntax.specs.TokenReading.{max_levels}
use Rattle.gd_exprs.proofs.top.expression.Goals as goal

pub returns-in_err-tree-clause-only : goal.returns-in_err-tree-clause-only
returns-in_err-tree-clause-only c = exit_only _ _ _ _ c.from_residual.ensures.1 (only_expression c.args.tokens.now (max_levels - c.args.depth) 13 c.args.at) c.in_err-tree.ensures.reads

pub returns-clause-only : goal.returns-clause-only
returns-clause-only c = λ o h. only_expression c.args.tokens.now (max_levels - c.args.depth) 13 c.args.at o _ h (rw (c.into_inner.ensures) c.in_ok-tree.ensures.reads)
