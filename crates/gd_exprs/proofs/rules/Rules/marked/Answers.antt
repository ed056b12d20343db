use Rattle.gd_exprs.specs.Forms.{inner}
use Rattle.gd_syntax.proofs.ExprSteps.{other_none}
use Rattle.gd_syntax.specs.ExprGrammar.{is_other_operand}
use Rattle.gd_syntax.specs.TokenReading.{kind_at, place_at}
use Rattle.std.proofs.Common.{ap, arith, false, refl, rules, ◌∙◌, ◌≡◌}
use Rattle.std.proofs.lemmas.Grind.{common_steps}
use Rattle.gd_exprs.proofs.rules.Rules.marked.Goals as goal

pub returns-in_default-clause-reads : goal.returns-in_default-clause-reads
returns-in_default-clause-reads g c = let none : is_other_operand (kind_at c.args.self.now.tokens.now c.args.at) ≡ false = ap is_other_operand c.requires.begins ∙ first_of (search rules, grind (arith, common_steps)) in rw (c.refuse.ensures) (other_none c.args.self.now.tokens.now c.args.self.now.room (inner c.args.self.now.tokens.now c.args.self.now.room) (place_at c.args.self.now.tokens.now c.args.at) c.args.at _ none refl)
