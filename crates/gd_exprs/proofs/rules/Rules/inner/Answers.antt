use Rattle.gd_syntax.proofs.ExprSteps.{deeper_is}
use Rattle.gd_syntax.proofs.Steps.{answers_by}
use Rattle.std.proofs.Common.{◌-◌}
use Rattle.gd_exprs.proofs.rules.Rules.inner.Goals as goal

pub returns-clause-reads : goal.returns-clause-reads
returns-clause-reads g c = answers_by _ _ _ _ c.inner.result (λ x a. deeper_is c.args.self.now.tokens.now (c.args.self.now.room - 1) c.args.more c.args.level c.args.at _ a) (λ x a. deeper_is c.args.self.now.tokens.now (c.args.self.now.room - 1) c.args.more c.args.level c.args.at _ a) (c.requires.nests.reads c.args.self.now.alloc c.args.self.now.tokens c.args.at (c.args.self.now.room - 1 - c.args.more) c.args.level _ c.inner.ensures)
