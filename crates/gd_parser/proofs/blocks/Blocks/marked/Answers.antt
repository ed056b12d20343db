use Rattle.gd_parser.proofs.BlockParts.{mark_differs}
use Rattle.gd_parser.specs.BlockForms.{inner}
use Rattle.gd_syntax.proofs.StatementSteps.{stmt_line}
use Rattle.gd_syntax.proofs.Steps.{answers_by}
use Rattle.gd_syntax.specs.Reading.Look.{looks}
use Rattle.std.proofs.Common.{Some, ap, ◌∙◌}
use Rattle.gd_parser.proofs.blocks.Blocks.marked.Goals as goal

pub returns-in-If-clause-reads : goal.returns-in-If-clause-reads
returns-in-If-clause-reads g c = answers_by _ _ _ _ c.if_statement.result (λ x a. looks (c.requires.begins ∙ ap Some c.in-If.is) a) (λ x a. looks (c.requires.begins ∙ ap Some c.in-If.is) a) (c.if_statement.ensures.reads)

pub returns-in-For-clause-reads : goal.returns-in-For-clause-reads
returns-in-For-clause-reads g c = answers_by _ _ _ _ c.for_statement.result (λ x a. looks (c.requires.begins ∙ ap Some c.in-For.is) a) (λ x a. looks (c.requires.begins ∙ ap Some c.in-For.is) a) (c.for_statement.ensures.reads)

pub returns-in-While-clause-reads : goal.returns-in-While-clause-reads
returns-in-While-clause-reads g c = answers_by _ _ _ _ c.while_statement.result (λ x a. looks (c.requires.begins ∙ ap Some c.in-While.is) a) (λ x a. looks (c.requires.begins ∙ ap Some c.in-While.is) a) (c.while_statement.ensures.reads)

pub returns-in-Match-clause-reads : goal.returns-in-Match-clause-reads
returns-in-Match-clause-reads g c = answers_by _ _ _ _ c.match_statement.result (λ x a. looks (c.requires.begins ∙ ap Some c.in-Match.is) a) (λ x a. looks (c.requires.begins ∙ ap Some c.in-Match.is) a) (c.match_statement.ensures.reads)

pub returns-in_default-clause-reads : goal.returns-in_default-clause-reads
returns-in_default-clause-reads g c = answers_by _ _ _ _ c.line.result (λ x a. stmt_line c.args.self.now.tokens.now (inner c.args.self.now.tokens.now c.args.self.now.room) _ c.args.at _ (mark_differs _ _ _ c.requires.begins c.in_default.not-If) (mark_differs _ _ _ c.requires.begins c.in_default.not-For) (mark_differs _ _ _ c.requires.begins c.in_default.not-While) (mark_differs _ _ _ c.requires.begins c.in_default.not-Match) a) (λ x a. stmt_line c.args.self.now.tokens.now (inner c.args.self.now.tokens.now c.args.self.now.room) _ c.args.at _ (mark_differs _ _ _ c.requires.begins c.in_default.not-If) (mark_differs _ _ _ c.requires.begins c.in_default.not-For) (mark_differs _ _ _ c.requires.begins c.in_default.not-While) (mark_differs _ _ _ c.requires.begins c.in_default.not-Match) a) (c.line.ensures.reads)
