use Rattle.gd_exprs.proofs.Ladder.{not_word}
use Rattle.gd_syntax.proofs.Steps.{answers_by}
use Rattle.gd_syntax.specs.ExprGrammar.{BinaryTurn}
use Rattle.gd_syntax.specs.Operators.{level_of, operator_of}
use Rattle.gd_syntax.specs.TokenReading.{mark_at}
use Rattle.std.proofs.Common.{ap, arith, sym, ◌∙◌, ◌≡◌}
use Rattle.gd_exprs.proofs.rules.Rules.operated.Goals as goal

pub returns-in-Some-clause-reads : goal.returns-in-Some-clause-reads
returns-in-Some-clause-reads g c = answers_by _ _ _ _ c.binary.result (λ x a. BinaryTurn.operated c.requires.begins a) (λ x a. BinaryTurn.operated c.requires.begins a) c.binary.ensures.reads

pub returns-in-None-clause-reads : goal.returns-in-None-clause-reads
returns-in-None-clause-reads g c = answers_by _ _ _ _ c.not_in.result (λ x a. BinaryTurn.operated c.requires.begins a) (λ x a. BinaryTurn.operated c.requires.begins a) c.not_in.ensures.reads

pub not_in-requires-clause-begins : goal.not_in-requires-clause-begins
not_in-requires-clause-begins g c = not_word _ (sym (ap operator_of c.mark_at.ensures) ∙ sym c.operator_of.ensures ∙ c.in-None.is) (let l : level_of (mark_at c.args.self.now.tokens.now c.args.left.at) ≡ c.args.level = c.requires.begins in omega (arith, c.requires.loose))
