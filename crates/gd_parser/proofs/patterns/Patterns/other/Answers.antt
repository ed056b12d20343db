use Rattle.gd_syntax.specs.declared.token.Mark.TheVariants as m
use Rattle.gd_parser.proofs.PatternParts.{other_path}
use Rattle.gd_syntax.proofs.Steps.{answers_by}
use Rattle.std.proofs.Common.{◌∙◌}
use Rattle.gd_parser.proofs.patterns.Patterns.other.Goals as goal

pub returns-in_default-clause-reads : goal.returns-in_default-clause-reads
returns-in_default-clause-reads g c = answers_by _ _ _ _ c.path.result (λ x a. other_path c.args.self.now.tokens.now c.args.self.now.free c.args.self.now.room _ c.args.at _ (λ e. c.in_default.not-Mark m.Var (c.kind_at.ensures ∙ e)) (λ e. c.in_default.not-Mark m.Minus (c.kind_at.ensures ∙ e)) (λ e. c.in_default.not-Mark m.LBracket (c.kind_at.ensures ∙ e)) (λ e. c.in_default.not-Mark m.LBrace (c.kind_at.ensures ∙ e)) a) (λ x a. other_path c.args.self.now.tokens.now c.args.self.now.free c.args.self.now.room _ c.args.at _ (λ e. c.in_default.not-Mark m.Var (c.kind_at.ensures ∙ e)) (λ e. c.in_default.not-Mark m.Minus (c.kind_at.ensures ∙ e)) (λ e. c.in_default.not-Mark m.LBracket (c.kind_at.ensures ∙ e)) (λ e. c.in_default.not-Mark m.LBrace (c.kind_at.ensures ∙ e)) a) c.path.ensures.reads
