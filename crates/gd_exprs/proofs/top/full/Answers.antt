use Rattle.gd_syntax.specs.ExprGrammar.{begins}
use Rattle.gd_syntax.specs.TokenReading.{kind_at}
use Rattle.std.proofs.Common.{ap, false, sym, true, ◌∙◌, ◌≡◌}
use Rattle.gd_exprs.proofs.top.full.Goals as goal

pub returns-then-begins : goal.returns-then-begins
returns-then-begins c = rw (c.fault_at.ensures) (let is : begins c.args.level (kind_at c.args.tokens.now c.args.at) ≡ true = sym (ap (begins c.args.level) c.kind_at.ensures) ∙ sym c.begins.ensures ∙ c.if-begins.true in rw is)

pub returns-else-begins : goal.returns-else-begins
returns-else-begins c = rw (c.refuse.ensures) (let is : begins c.args.level (kind_at c.args.tokens.now c.args.at) ≡ false = sym (ap (begins c.args.level) c.kind_at.ensures) ∙ sym c.begins.ensures ∙ c.if-begins.false in rw is)
