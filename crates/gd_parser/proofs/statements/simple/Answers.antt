use Rattle.gd_syntax.specs.declared.token.Mark.TheVariants as m
use Rattle.gd_parser.proofs.BlockParts.{none_differs}
use Rattle.gd_syntax.proofs.StatementSteps.{simple_assignment}
use Rattle.gd_syntax.proofs.Steps.{answers_by}
use Rattle.gd_parser.proofs.statements.simple.Goals as goal

pub returns-in-None-clause-reads : goal.returns-in-None-clause-reads
returns-in-None-clause-reads c = answers_by _ _ _ _ c.assignment.result (λ x a. simple_assignment c.args.tokens.now _ c.args.at _ (none_differs _ _ m.Pass c.in-None.is c.mark_at.ensures) (none_differs _ _ m.Break c.in-None.is c.mark_at.ensures) (none_differs _ _ m.Continue c.in-None.is c.mark_at.ensures) (none_differs _ _ m.Return c.in-None.is c.mark_at.ensures) (none_differs _ _ m.Var c.in-None.is c.mark_at.ensures) (none_differs _ _ m.At c.in-None.is c.mark_at.ensures) (none_differs _ _ m.Const c.in-None.is c.mark_at.ensures) (none_differs _ _ m.Assert c.in-None.is c.mark_at.ensures) a) (λ x a. simple_assignment c.args.tokens.now _ c.args.at _ (none_differs _ _ m.Pass c.in-None.is c.mark_at.ensures) (none_differs _ _ m.Break c.in-None.is c.mark_at.ensures) (none_differs _ _ m.Continue c.in-None.is c.mark_at.ensures) (none_differs _ _ m.Return c.in-None.is c.mark_at.ensures) (none_differs _ _ m.Var c.in-None.is c.mark_at.ensures) (none_differs _ _ m.At c.in-None.is c.mark_at.ensures) (none_differs _ _ m.Const c.in-None.is c.mark_at.ensures) (none_differs _ _ m.Assert c.in-None.is c.mark_at.ensures) a) (rw (c.place_at.ensures) at c.assignment.ensures.reads)
