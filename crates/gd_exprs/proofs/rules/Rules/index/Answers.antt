use Rattle.gd_exprs.proofs.Parts.{fits_with}
use Rattle.gd_syntax.proofs.Levels.{levels-Index}
use Rattle.gd_syntax.proofs.Steps.{exit}
use Rattle.gd_syntax.specs.Levels.{levels}
use Rattle.gd_syntax.specs.Reading.{Read}
use Rattle.gd_syntax.specs.Reading.Look.{looks}
use Rattle.gd_syntax.specs.Reading.Then.{goes, halts}
use Rattle.std.proofs.Common.{ap, arith, ◌+◌, ◌≤◌}
use Rattle.gd_exprs.proofs.rules.Rules.index.Goals as goal

pub returns-in_err-fits_over-clause-reads : goal.returns-in_err-fits_over-clause-reads
returns-in_err-fits_over-clause-reads g c = exit _ _ _ _ _ c.from_residual.ensures.1 (λ f h. looks c.requires.begins (halts (fits_with _ _ _ _ 1 _ c.requires.part.levels h))) c.in_err-fits_over.ensures.reads

pub returns-in_err-index-clause-reads : goal.returns-in_err-index-clause-reads
returns-in_err-index-clause-reads g c = exit _ _ _ _ _ c.from_residual-in_err-index.ensures.1 (λ f h. looks c.requires.begins (goes (fits_with _ _ _ _ 1 _ c.requires.part.levels c.in_ok-fits_over.ensures.reads) (goes (ap (λ n. Read tt n) c.skip.ensures.next) (halts h)))) c.in_err-index.ensures.reads

pub returns-in_err-end-clause-reads : goal.returns-in_err-end-clause-reads
returns-in_err-end-clause-reads g c = exit _ _ _ _ _ c.from_residual-in_err-end.ensures.1 (λ f h. looks c.requires.begins (goes (fits_with _ _ _ _ 1 _ c.requires.part.levels c.in_ok-fits_over.ensures.reads) (goes (ap (λ n. Read tt n) c.skip.ensures.next) (goes c.in_ok-index.ensures.reads (halts h))))) c.in_err-end.ensures.reads

pub returns-clause-reads : goal.returns-clause-reads
returns-clause-reads g c = looks c.requires.begins (goes (fits_with _ _ _ _ 1 _ c.requires.part.levels c.in_ok-fits_over.ensures.reads) (goes (ap (λ n. Read tt n) c.skip.ensures.next) (goes c.in_ok-index.ensures.reads (goes c.in_ok-end.ensures.reads (rw (c.in_ok-new.ensures))))))

pub returns-clause-found : goal.returns-clause-found
returns-clause-found g c = let f = c.in_ok-index.ensures.found in let p = c.requires.part in let room : c.args.left.levels + 1 ≤ c.args.self.now.room = c.in_ok-fits_over.ensures.fits in record { some = omega arith; levels = omega (arith, levels-Index c.args.place c.args.left.tree c.in_ok-index.field-0.tree, ap levels c.in_ok-new.ensures, f.levels, p.levels, room); fits = omega (arith, f.fits, p.fits, room); after = omega (arith, f.after, c.skip.ensures.next, c.in_ok-end.ensures.next); within = c.in_ok-end.ensures.within }
