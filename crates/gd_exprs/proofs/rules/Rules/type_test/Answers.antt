use Rattle.gd_exprs.specs.Forms.{inner}
use Rattle.gd_syntax.proofs.ExprSteps.{test_none}
use Rattle.gd_syntax.proofs.Steps.{exit}
use Rattle.gd_syntax.specs.Reading.Then.{goes, halts}
use Rattle.gd_syntax.specs.TokenReading.{place_at}
use Rattle.std.proofs.Common.{arith}
use Rattle.gd_syntax.specs.Reading.{Loop}
use Rattle.gd_exprs.proofs.rules.Rules.type_test.Goals as goal

pub returns-in_err-left-clause-reads : goal.returns-in_err-left-clause-reads
returns-in_err-left-clause-reads g c = exit _ _ _ _ _ c.from_residual.ensures.1 (λ f h. halts h) c.in_err-left.ensures.reads

pub tests-init : goal.tests-init
tests-init g c = record { reads = λ o rest. goes c.in_ok-left.ensures.reads rest; found = c.in_ok-left.ensures.found; place = c.place_at-place.ensures }

pub returns-in_err-left-2-clause-reads : goal.returns-in_err-left-2-clause-reads
returns-in_err-left-2-clause-reads g c = exit _ _ _ _ _ c.from_residual-in_err-left-2.ensures.1 (λ f h. c.tests.invariant.reads _ (Loop.stop (rw (c.tests.invariant.place) at h))) c.in_err-left-2.ensures.reads

pub tests-preserved : goal.tests-preserved
tests-preserved g c = let now = c.in_ok-left-2.ensures.found in let before = c.tests.invariant.found in record { reads = λ o rest. c.tests.invariant.reads o (Loop.on (rw (c.tests.invariant.place) at c.in_ok-left-2.ensures.reads) rest); found = record { some = now.some; levels = now.levels; fits = now.fits; after = omega (arith, now.after, before.after); within = now.within }; place = c.tests.invariant.place }

pub returns-clause-reads : goal.returns-clause-reads
returns-clause-reads g c = c.tests.invariant.reads _ (Loop.last (test_none c.args.self.now.tokens.now c.args.self.now.room (inner c.args.self.now.tokens.now c.args.self.now.room) (place_at c.args.self.now.tokens.now c.args.start) _ _ (c.sees.ensures.no c.tests-test.false)))
