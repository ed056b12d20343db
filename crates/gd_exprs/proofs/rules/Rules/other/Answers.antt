use Rattle.gd_exprs.specs.Forms.{inner}
use Rattle.gd_syntax.proofs.ExprSteps.{other_none}
use Rattle.gd_syntax.specs.ExprGrammar.{is_other_operand}
use Rattle.gd_syntax.specs.TokenReading.{kind_at, place_at}
use Rattle.std.proofs.Common.{ap, false, refl, sym, ◌∙◌, ◌≡◌}
use Rattle.gd_exprs.proofs.rules.Rules.other.Goals as goal

pub returns-in-Int-clause-reads : goal.returns-in-Int-clause-reads
returns-in-Int-clause-reads g c = let none : is_other_operand (kind_at c.args.self.now.tokens.now c.args.at) ≡ false = ap is_other_operand (sym c.kind_at.ensures ∙ c.in-Int.is) in rw (c.refuse.ensures) (other_none c.args.self.now.tokens.now c.args.self.now.room (inner c.args.self.now.tokens.now c.args.self.now.room) (place_at c.args.self.now.tokens.now c.args.at) c.args.at _ none refl)

pub returns-in-Text-clause-reads : goal.returns-in-Text-clause-reads
returns-in-Text-clause-reads g c = let none : is_other_operand (kind_at c.args.self.now.tokens.now c.args.at) ≡ false = ap is_other_operand (sym c.kind_at.ensures ∙ c.in-Text.is) in rw (c.refuse-in-Text.ensures) (other_none c.args.self.now.tokens.now c.args.self.now.room (inner c.args.self.now.tokens.now c.args.self.now.room) (place_at c.args.self.now.tokens.now c.args.at) c.args.at _ none refl)
