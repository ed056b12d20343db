use Rattle.gd_exprs.proofs.Parts.{fits_with}
use Rattle.gd_exprs.specs.Forms.{inner}
use Rattle.gd_syntax.proofs.ExprSteps.{ternary_none}
use Rattle.gd_syntax.proofs.Levels.{levels-Ternary}
use Rattle.gd_syntax.proofs.Steps.{exit}
use Rattle.gd_syntax.specs.Levels.{levels}
use Rattle.gd_syntax.specs.Reading.{Read}
use Rattle.gd_syntax.specs.Reading.Look.{looks}
use Rattle.gd_syntax.specs.Reading.Then.{goes, halts}
use Rattle.gd_syntax.specs.TokenReading.{place_at}
use Rattle.std.proofs.Common.{ap, arith, ◌+◌, ◌≤◌}
use Rattle.gd_exprs.proofs.rules.Rules.ternary.Goals as goal

pub returns-in_err-left-clause-reads : goal.returns-in_err-left-clause-reads
returns-in_err-left-clause-reads g c = exit _ _ _ _ _ c.from_residual.ensures.1 (λ f h. halts h) c.in_err-left.ensures.reads

pub returns-then-not-sees-clause-reads : goal.returns-then-not-sees-clause-reads
returns-then-not-sees-clause-reads g c = goes c.in_ok-left.ensures.reads (ternary_none c.args.self.now.tokens.now c.args.self.now.room (inner c.args.self.now.tokens.now c.args.self.now.room) (place_at c.args.self.now.tokens.now c.args.start) _ _ (c.sees.ensures.no c.if-not-sees.true))

pub returns-in_err-fits_over-clause-reads : goal.returns-in_err-fits_over-clause-reads
returns-in_err-fits_over-clause-reads g c = exit _ _ _ _ _ c.from_residual-in_err-fits_over.ensures.1 (λ f h. goes c.in_ok-left.ensures.reads (looks (c.sees.ensures.yes c.if-not-sees.false) (halts (fits_with _ _ _ _ 1 _ c.in_ok-left.ensures.found.levels h)))) c.in_err-fits_over.ensures.reads

pub returns-in_err-condition-clause-reads : goal.returns-in_err-condition-clause-reads
returns-in_err-condition-clause-reads g c = exit _ _ _ _ _ c.from_residual-in_err-condition.ensures.1 (λ f h. goes c.in_ok-left.ensures.reads (looks (c.sees.ensures.yes c.if-not-sees.false) (goes (fits_with _ _ _ _ 1 _ c.in_ok-left.ensures.found.levels c.in_ok-fits_over.ensures.reads) (goes (ap (λ n. Read tt n) c.skip.ensures.next) (halts h))))) c.in_err-condition.ensures.reads

pub returns-in_err-at-clause-reads : goal.returns-in_err-at-clause-reads
returns-in_err-at-clause-reads g c = exit _ _ _ _ _ c.from_residual-in_err-at.ensures.1 (λ f h. goes c.in_ok-left.ensures.reads (looks (c.sees.ensures.yes c.if-not-sees.false) (goes (fits_with _ _ _ _ 1 _ c.in_ok-left.ensures.found.levels c.in_ok-fits_over.ensures.reads) (goes (ap (λ n. Read tt n) c.skip.ensures.next) (goes c.in_ok-condition.ensures.reads (halts h)))))) c.in_err-at.ensures.reads

pub returns-in_err-otherwise-clause-reads : goal.returns-in_err-otherwise-clause-reads
returns-in_err-otherwise-clause-reads g c = exit _ _ _ _ _ c.from_residual-in_err-otherwise.ensures.1 (λ f h. goes c.in_ok-left.ensures.reads (looks (c.sees.ensures.yes c.if-not-sees.false) (goes (fits_with _ _ _ _ 1 _ c.in_ok-left.ensures.found.levels c.in_ok-fits_over.ensures.reads) (goes (ap (λ n. Read tt n) c.skip.ensures.next) (goes c.in_ok-condition.ensures.reads (goes c.in_ok-at.ensures.reads (halts h))))))) c.in_err-otherwise.ensures.reads

pub returns-clause-reads : goal.returns-clause-reads
returns-clause-reads g c = goes c.in_ok-left.ensures.reads (looks (c.sees.ensures.yes c.if-not-sees.false) (goes (fits_with _ _ _ _ 1 _ c.in_ok-left.ensures.found.levels c.in_ok-fits_over.ensures.reads) (goes (ap (λ n. Read tt n) c.skip.ensures.next) (goes c.in_ok-condition.ensures.reads (goes c.in_ok-at.ensures.reads (goes c.in_ok-otherwise.ensures.reads (rw (c.in_ok-new.ensures, c.place_at-place.ensures))))))))

pub returns-clause-found : goal.returns-clause-found
returns-clause-found g c = let a = c.in_ok-left.ensures.found in let f = c.in_ok-condition.ensures.found in let h = c.in_ok-otherwise.ensures.found in let room : c.in_ok-left.left.levels + 1 ≤ c.args.self.now.room = c.in_ok-fits_over.ensures.fits in record { some = omega arith; levels = omega (arith, levels-Ternary c.place_at-place.result c.in_ok-left.left.tree c.in_ok-condition.field-0.tree c.in_ok-otherwise.field-0.tree, ap levels c.in_ok-new.ensures, a.levels, f.levels, h.levels); fits = omega (arith, f.fits, h.fits, room); after = omega (arith, a.after, f.after, c.skip.ensures.next, h.after, c.in_ok-at.ensures.next); within = h.within }
