use Rattle.gd_syntax.proofs.ExprSteps.{expression_full}
use Rattle.gd_syntax.proofs.Steps.{answers_by}
use Rattle.std.proofs.Common.{arith, subst, sym, ℕ}
use Rattle.gd_syntax.specs.ExprGrammar.{expression, full}
use Rattle.gd_syntax.specs.Reading.{Fails}
use Rattle.gd_syntax.proofs.Steps.{fails_by}
use Rattle.gd_exprs.proofs.Parts.{expression_of}
use Rattle.gd_exprs.proofs.top.+expression_at.Goals as goal

pub returns-then-room-eq0-clause-reads : goal.returns-then-room-eq0-clause-reads
returns-then-room-eq0-clause-reads t c = let P : ℕ → Type 0 = λ room. Fails c.full.result (expression c.args.tokens.now room c.args.level c.args.at) in subst P (sym c.if-room-eq0.true) (fails_by (full c.args.tokens.now c.args.level c.args.at) (expression c.args.tokens.now 0 c.args.level c.args.at) c.full.result (λ f h. expression_full c.args.tokens.now c.args.level c.args.at _ h) c.full.ensures)

pub returns-clause-reads : goal.returns-clause-reads
returns-clause-reads t c = answers_by _ _ _ _ c.form.result (λ x a. expression_of c.args.tokens.now c.args.room c.args.level c.args.at _ (omega arith) a) (λ x a. expression_of c.args.tokens.now c.args.room c.args.level c.args.at _ (omega arith) a) c.form.ensures.reads
