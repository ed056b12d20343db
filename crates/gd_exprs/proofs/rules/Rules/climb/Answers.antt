use Rattle.gd_exprs.proofs.Ladder.{after_ends, after_stops, after_turn}
use Rattle.gd_exprs.specs.Forms.{inner}
use Rattle.gd_syntax.proofs.Steps.{exit}
use Rattle.gd_syntax.specs.Operators.{level_of}
use Rattle.gd_syntax.specs.TokenReading.{mark_at}
use Rattle.std.proofs.Common.{ap, arith, inl, inr, sym, ◌<◌, ◌∙◌, ◌≡◌, ◌≤◌, ◌⊎◌}
use Rattle.gd_exprs.proofs.rules.Rules.climb.Goals as goal

pub returns-then-level-done-clause-reads : goal.returns-then-level-done-clause-reads
returns-then-level-done-clause-reads g c = let is : level_of (mark_at c.args.self.now.tokens.now c.operators.left.at) ≡ c.level_of-level.result = sym (ap level_of c.mark_at.ensures) ∙ sym c.level_of-level.ensures.value in let other : (level_of (mark_at c.args.self.now.tokens.now c.operators.left.at) ≤ c.operators.done) ⊎ (c.args.least < level_of (mark_at c.args.self.now.tokens.now c.operators.left.at)) = elim c.then-level-done.either [ inl x ↦ inl (rw is x) | inr x ↦ inr (rw is x.1) ] in c.operators.invariant.reads _ (after_ends c.args.self.now.tokens.now c.args.self.now.room (inner c.args.self.now.tokens.now c.args.self.now.room) c.args.place c.operators.done c.args.least c.operators.left.tree c.operators.left.at other)

pub returns-in_err-left-clause-reads : goal.returns-in_err-left-clause-reads
returns-in_err-left-clause-reads g c = exit _ _ _ _ _ c.from_residual.ensures.1 (λ f h. let is : level_of (mark_at c.args.self.now.tokens.now c.operators.left.at) ≡ c.level_of-level.result = sym (ap level_of c.mark_at.ensures) ∙ sym c.level_of-level.ensures.value in c.operators.invariant.reads _ (after_stops c.args.self.now.tokens.now c.args.self.now.room (inner c.args.self.now.tokens.now c.args.self.now.room) c.args.place c.operators.done c.level_of-level.result c.args.least _ _ _ is c.if-level-done.false c.if-least-level.false c.level_of-level.ensures.binary h)) c.in_err-left.ensures.reads

pub operators-preserved : goal.operators-preserved
operators-preserved g c = let f = c.in_ok-left.ensures.found in let is : level_of (mark_at c.args.self.now.tokens.now c.operators.left.at) ≡ c.level_of-level.result = sym (ap level_of c.mark_at.ensures) ∙ sym c.level_of-level.ensures.value in record { reads = λ o rest. c.operators.invariant.reads o (after_turn c.args.self.now.tokens.now c.args.self.now.room (inner c.args.self.now.tokens.now c.args.self.now.room) c.args.place c.operators.done c.level_of-level.result c.args.least _ _ _ _ o is c.if-level-done.false c.if-least-level.false c.level_of-level.ensures.binary c.in_ok-left.ensures.reads rest); part = record { levels = f.levels; fits = f.fits; within = f.within; some = f.some }; goes_on = omega (arith, f.after) }
