use Rattle.gd_exprs.specs.Forms.{inner}
use Rattle.gd_syntax.proofs.ExprSteps.{super_none}
use Rattle.std.proofs.Common.{refl}
use Rattle.gd_exprs.proofs.rules.Rules.after_super.Goals as goal

pub returns-clause-reads : goal.returns-clause-reads
returns-clause-reads g c = rw (c.refuse.ensures) (super_none c.args.self.now.tokens.now c.args.self.now.room (inner c.args.self.now.tokens.now c.args.self.now.room) c.args.place c.args.at _ (c.sees.ensures.no c.if-sees.false) (c.sees-2.ensures.no c.if-sees-2.false) refl)
