use Rattle.gd_syntax.specs.declared.token.Kind.TheVariants as k
use Rattle.gd_parser.proofs.PatternParts.{marked_other, other_path}
use Rattle.gd_syntax.proofs.Steps.{answers_by}
use Rattle.gd_syntax.specs.Reading.Look.{looks}
use Rattle.std.proofs.Common.{ap, ◌∙◌}
use Rattle.gd_parser.proofs.patterns.Patterns.marked.Goals as goal

pub returns-in-Var-clause-reads : goal.returns-in-Var-clause-reads
returns-in-Var-clause-reads g c = answers_by _ _ _ _ c.bind.result (λ x a. looks (c.requires.begins ∙ ap k.Mark c.in-Var.is) a) (λ x a. looks (c.requires.begins ∙ ap k.Mark c.in-Var.is) a) c.bind.ensures.reads

pub returns-in-Minus-clause-reads : goal.returns-in-Minus-clause-reads
returns-in-Minus-clause-reads g c = answers_by _ _ _ _ c.negative.result (λ x a. looks (c.requires.begins ∙ ap k.Mark c.in-Minus.is) a) (λ x a. looks (c.requires.begins ∙ ap k.Mark c.in-Minus.is) a) c.negative.ensures.reads

pub returns-in-LBracket-clause-reads : goal.returns-in-LBracket-clause-reads
returns-in-LBracket-clause-reads g c = answers_by _ _ _ _ c.array.result (λ x a. looks (c.requires.begins ∙ ap k.Mark c.in-LBracket.is) a) (λ x a. looks (c.requires.begins ∙ ap k.Mark c.in-LBracket.is) a) c.array.ensures.reads

pub returns-in-LBrace-clause-reads : goal.returns-in-LBrace-clause-reads
returns-in-LBrace-clause-reads g c = answers_by _ _ _ _ c.dict.result (λ x a. looks (c.requires.begins ∙ ap k.Mark c.in-LBrace.is) a) (λ x a. looks (c.requires.begins ∙ ap k.Mark c.in-LBrace.is) a) c.dict.ensures.reads

pub returns-in_default-clause-reads : goal.returns-in_default-clause-reads
returns-in_default-clause-reads g c = answers_by _ _ _ _ c.path.result (λ x a. other_path c.args.self.now.tokens.now c.args.self.now.free c.args.self.now.room _ c.args.at _ (marked_other _ _ _ c.requires.begins c.in_default.not-Var) (marked_other _ _ _ c.requires.begins c.in_default.not-Minus) (marked_other _ _ _ c.requires.begins c.in_default.not-LBracket) (marked_other _ _ _ c.requires.begins c.in_default.not-LBrace) a) (λ x a. other_path c.args.self.now.tokens.now c.args.self.now.free c.args.self.now.room _ c.args.at _ (marked_other _ _ _ c.requires.begins c.in_default.not-Var) (marked_other _ _ _ c.requires.begins c.in_default.not-Minus) (marked_other _ _ _ c.requires.begins c.in_default.not-LBracket) (marked_other _ _ _ c.requires.begins c.in_default.not-LBrace) a) c.path.ensures.reads
