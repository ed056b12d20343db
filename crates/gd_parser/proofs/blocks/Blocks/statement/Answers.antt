use Rattle.gd_syntax.specs.declared.token.Mark.TheVariants as m
use Rattle.gd_parser.proofs.BlockParts.{none_differs}
use Rattle.gd_parser.specs.BlockForms.{inner}
use Rattle.gd_syntax.proofs.StatementSteps.{stmt_line}
use Rattle.gd_syntax.proofs.Steps.{answers_by}
use Rattle.gd_parser.proofs.blocks.Blocks.statement.Goals as goal

pub returns-in-None-clause-reads : goal.returns-in-None-clause-reads
returns-in-None-clause-reads g c = answers_by _ _ _ _ c.line.result (λ x a. stmt_line c.args.self.now.tokens.now (inner c.args.self.now.tokens.now c.args.self.now.room) _ c.args.at _ (none_differs _ _ m.If c.in-None.is c.mark_at.ensures) (none_differs _ _ m.For c.in-None.is c.mark_at.ensures) (none_differs _ _ m.While c.in-None.is c.mark_at.ensures) (none_differs _ _ m.Match c.in-None.is c.mark_at.ensures) a) (λ x a. stmt_line c.args.self.now.tokens.now (inner c.args.self.now.tokens.now c.args.self.now.room) _ c.args.at _ (none_differs _ _ m.If c.in-None.is c.mark_at.ensures) (none_differs _ _ m.For c.in-None.is c.mark_at.ensures) (none_differs _ _ m.While c.in-None.is c.mark_at.ensures) (none_differs _ _ m.Match c.in-None.is c.mark_at.ensures) a) (c.line.ensures.reads)
