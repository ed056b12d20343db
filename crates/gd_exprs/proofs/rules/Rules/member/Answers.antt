use Rattle.gd_exprs.proofs.Parts.{fits_with}
use Rattle.gd_syntax.proofs.Levels.{levels-Member}
use Rattle.gd_syntax.proofs.Steps.{exit}
use Rattle.gd_syntax.specs.Levels.{levels}
use Rattle.gd_syntax.specs.Reading.{Read}
use Rattle.gd_syntax.specs.Reading.Look.{looks}
use Rattle.gd_syntax.specs.Reading.Then.{goes, halts}
use Rattle.std.proofs.Common.{ap, arith, ◌+◌, ◌≤◌}
use Rattle.gd_exprs.proofs.rules.Rules.member.Goals as goal

pub returns-in_err-fits_over-clause-reads : goal.returns-in_err-fits_over-clause-reads
returns-in_err-fits_over-clause-reads g c = exit _ _ _ _ _ c.from_residual.ensures.1 (λ f h. looks c.requires.begins (halts (fits_with _ _ _ _ 1 _ c.requires.part.levels h))) c.in_err-fits_over.ensures.reads

pub returns-in_err-name-clause-reads : goal.returns-in_err-name-clause-reads
returns-in_err-name-clause-reads g c = exit _ _ _ _ _ c.from_residual-in_err-name.ensures.1 (λ f h. looks c.requires.begins (goes (fits_with _ _ _ _ 1 _ c.requires.part.levels c.in_ok-fits_over.ensures.reads) (goes (ap (λ n. Read tt n) c.skip.ensures.next) (halts h)))) c.in_err-name.ensures.reads

pub returns-clause-reads : goal.returns-clause-reads
returns-clause-reads g c = looks c.requires.begins (goes (fits_with _ _ _ _ 1 _ c.requires.part.levels c.in_ok-fits_over.ensures.reads) (goes (ap (λ n. Read tt n) c.skip.ensures.next) (goes c.in_ok-name.ensures.reads (rw (c.in_ok-new.ensures)))))

pub returns-clause-found : goal.returns-clause-found
returns-clause-found g c = let p = c.requires.part in let room : c.args.left.levels + 1 ≤ c.args.self.now.room = c.in_ok-fits_over.ensures.fits in record { some = omega arith; levels = omega (arith, levels-Member c.args.place c.args.left.tree c.in_ok-name.name, ap levels c.in_ok-new.ensures, p.levels, room); fits = omega (arith, p.fits, room); after = omega (arith, c.skip.ensures.next, c.in_ok-name.ensures.next); within = c.in_ok-name.ensures.within }
