use Rattle.gd_exprs.specs.Forms.{inner}
use Rattle.gd_syntax.proofs.ExprSteps.{part_none}
use Rattle.gd_syntax.proofs.Steps.{exit}
use Rattle.gd_syntax.specs.ExprGrammar.{is_part}
use Rattle.gd_syntax.specs.Reading.Then.{goes, halts}
use Rattle.gd_syntax.specs.TokenReading.{place_at}
use Rattle.std.proofs.Common.{ap, arith, sym, ◌∙◌}
use Rattle.gd_syntax.specs.Reading.{Loop}
use Rattle.gd_exprs.proofs.rules.Rules.postfix.Goals as goal

pub returns-in_err-left-clause-reads : goal.returns-in_err-left-clause-reads
returns-in_err-left-clause-reads g c = exit _ _ _ _ _ c.from_residual.ensures.1 (λ f h. halts h) c.in_err-left.ensures.reads

pub parts-init : goal.parts-init
parts-init g c = record { reads = λ o rest. goes c.in_ok-left.ensures.reads rest; found = c.in_ok-left.ensures.found; place = c.place_at-place.ensures }

pub returns-in_err-left-2-clause-reads : goal.returns-in_err-left-2-clause-reads
returns-in_err-left-2-clause-reads g c = exit _ _ _ _ _ c.from_residual-in_err-left-2.ensures.1 (λ f h. c.parts.invariant.reads _ (Loop.stop (rw (c.parts.invariant.place) at h))) c.in_err-left-2.ensures.reads

pub parts-preserved : goal.parts-preserved
parts-preserved g c = let now = c.in_ok-left-2.ensures.found in let before = c.parts.invariant.found in record { reads = λ o rest. c.parts.invariant.reads o (Loop.on (rw (c.parts.invariant.place) at c.in_ok-left-2.ensures.reads) rest); found = record { some = now.some; levels = now.levels; fits = now.fits; after = omega (arith, now.after, before.after); within = now.within }; place = c.parts.invariant.place }

pub returns-clause-reads : goal.returns-clause-reads
returns-clause-reads g c = c.parts.invariant.reads _ (Loop.last (part_none c.args.self.now.tokens.now c.args.self.now.room (inner c.args.self.now.tokens.now c.args.self.now.room) (place_at c.args.self.now.tokens.now c.args.start) _ _ (sym (ap is_part c.mark_at.ensures) ∙ sym c.is_part.ensures ∙ c.parts-test.false)))
