use Rattle.gd_syntax.proofs.Levels.{levels-Super}
use Rattle.gd_syntax.proofs.Steps.{exit}
use Rattle.gd_syntax.specs.Levels.{levels}
use Rattle.gd_syntax.specs.Reading.{Read}
use Rattle.gd_syntax.specs.Reading.Look.{looks}
use Rattle.gd_syntax.specs.Reading.Then.{goes, halts}
use Rattle.std.proofs.Common.{ap, arith, ◌≤◌}
use Rattle.gd_exprs.proofs.rules.Rules.super_arguments.Goals as goal

pub returns-in_err-items-clause-reads : goal.returns-in_err-items-clause-reads
returns-in_err-items-clause-reads g c = exit _ _ _ _ _ c.from_residual.ensures.1 (λ f h. looks c.requires.begins (goes (ap (λ n. Read tt n) c.skip.ensures.next) (halts h))) c.in_err-items.ensures.reads

pub returns-clause-reads : goal.returns-clause-reads
returns-clause-reads g c = looks c.requires.begins (goes (ap (λ n. Read tt n) c.skip.ensures.next) (goes c.in_ok-items.ensures.reads (rw (c.in_ok-new.ensures))))

pub returns-clause-found : goal.returns-clause-found
returns-clause-found g c = let f = c.in_ok-items.ensures.found in let room : 1 ≤ c.args.self.now.room = c.requires.some in record { some = omega arith; levels = omega (arith, levels-Super c.args.place c.in_ok-items.field-0.items, ap levels c.in_ok-new.ensures, f.levels, room); fits = omega (arith, f.fits, room); after = omega (arith, f.after, c.skip.ensures.next); within = f.within }
