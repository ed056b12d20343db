use Rattle.gd_exprs.proofs.Ladder.{level_after, negation_stops}
use Rattle.gd_exprs.specs.Forms.{inner}
use Rattle.gd_syntax.proofs.Steps.{answers_by, exit}
use Rattle.std.proofs.Common.{arith}
use Rattle.gd_exprs.proofs.rules.Rules.level_from_not.Goals as goal

pub returns-in_err-left-clause-reads : goal.returns-in_err-left-clause-reads
returns-in_err-left-clause-reads g c = exit _ _ _ _ _ c.from_residual.ensures.1 (λ f h. negation_stops c.args.self.now.tokens.now c.args.self.now.room (inner c.args.self.now.tokens.now c.args.self.now.room) c.args.start c.args.least f c.requires.loose h) c.in_err-left.ensures.reads

pub returns-clause-reads : goal.returns-clause-reads
returns-clause-reads g c = let all = level_after c.args.self.now.tokens.now c.args.self.now.room (inner c.args.self.now.tokens.now c.args.self.now.room) c.args.start 9 c.args.least c.in_ok-left.left.tree c.in_ok-left.left.at in let h = rw (c.place_at-place.ensures) at c.climb.ensures.reads in answers_by _ _ _ _ c.climb.result (λ x a. all _ (λ eight. absurd (omega arith)) c.requires.loose c.in_ok-left.ensures.reads a) (λ x a. all _ (λ eight. absurd (omega arith)) c.requires.loose c.in_ok-left.ensures.reads a) h
