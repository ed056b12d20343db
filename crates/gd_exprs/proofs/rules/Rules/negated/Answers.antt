use Rattle.gd_exprs.specs.Forms.{inner}
use Rattle.gd_syntax.proofs.ExprSteps.{level_suc}
use Rattle.gd_syntax.proofs.Levels.{levels-Not}
use Rattle.gd_syntax.proofs.Steps.{exit}
use Rattle.gd_syntax.specs.Levels.{levels}
use Rattle.gd_syntax.specs.Reading.{Read}
use Rattle.gd_syntax.specs.Reading.Look.{looks}
use Rattle.gd_syntax.specs.Reading.Then.{goes, halts}
use Rattle.std.proofs.Common.{ap, arith, ◌≤◌}
use Rattle.gd_exprs.proofs.rules.Rules.negated.Goals as goal

pub returns-in_err-fits-clause-reads : goal.returns-in_err-fits-clause-reads
returns-in_err-fits-clause-reads g c = exit _ _ _ _ _ c.from_residual.ensures.1 (λ f h. level_suc c.args.self.now.tokens.now c.args.self.now.room (inner c.args.self.now.tokens.now c.args.self.now.room) 8 c.args.start _ (looks c.requires.begins (halts h))) c.in_err-fits.ensures.reads

pub returns-in_err-tree-clause-reads : goal.returns-in_err-tree-clause-reads
returns-in_err-tree-clause-reads g c = exit _ _ _ _ _ c.from_residual-in_err-tree.ensures.1 (λ f h. level_suc c.args.self.now.tokens.now c.args.self.now.room (inner c.args.self.now.tokens.now c.args.self.now.room) 8 c.args.start _ (looks c.requires.begins (goes c.in_ok-fits.ensures.reads (goes (ap (λ n. Read tt n) c.skip.ensures.next) (halts h))))) c.in_err-tree.ensures.reads

pub returns-clause-reads : goal.returns-clause-reads
returns-clause-reads g c = level_suc c.args.self.now.tokens.now c.args.self.now.room (inner c.args.self.now.tokens.now c.args.self.now.room) 8 c.args.start _ (looks c.requires.begins (goes c.in_ok-fits.ensures.reads (goes (ap (λ n. Read tt n) c.skip.ensures.next) (goes c.in_ok-tree.ensures.reads (rw (c.in_ok-new.ensures, c.place_at-place.ensures))))))

pub returns-clause-found : goal.returns-clause-found
returns-clause-found g c = let f = c.in_ok-tree.ensures.found in let room : 2 ≤ c.args.self.now.room = c.in_ok-fits.ensures.fits in record { some = omega arith; levels = omega (arith, levels-Not c.place_at-place.result c.in_ok-tree.field-0.tree, ap levels c.in_ok-new.ensures, f.levels, room); fits = omega (arith, f.fits, room); after = omega (arith, f.after, c.skip.ensures.next); within = f.within }
