use Rattle.gd_syntax.proofs.Levels.{levels-Preload}
use Rattle.gd_syntax.proofs.Steps.{exit}
use Rattle.gd_syntax.specs.Levels.{levels}
use Rattle.gd_syntax.specs.Reading.{Read}
use Rattle.gd_syntax.specs.Reading.Look.{looks}
use Rattle.gd_syntax.specs.Reading.Then.{goes, halts}
use Rattle.std.proofs.Common.{ap, arith, ◌≤◌}
use Rattle.gd_exprs.proofs.rules.Rules.preload.Goals as goal

pub returns-in_err-start-clause-reads : goal.returns-in_err-start-clause-reads
returns-in_err-start-clause-reads g c = exit _ _ _ _ _ c.from_residual.ensures.1 (λ f h. looks c.requires.begins (goes (ap (λ n. Read tt n) c.skip.ensures.next) (halts h))) c.in_err-start.ensures.reads

pub returns-in_err-path-clause-reads : goal.returns-in_err-path-clause-reads
returns-in_err-path-clause-reads g c = exit _ _ _ _ _ c.from_residual-in_err-path.ensures.1 (λ f h. looks c.requires.begins (goes (ap (λ n. Read tt n) c.skip.ensures.next) (goes c.in_ok-start.ensures.reads (halts h)))) c.in_err-path.ensures.reads

pub returns-in_err-end-clause-reads : goal.returns-in_err-end-clause-reads
returns-in_err-end-clause-reads g c = exit _ _ _ _ _ c.from_residual-in_err-end.ensures.1 (λ f h. looks c.requires.begins (goes (ap (λ n. Read tt n) c.skip.ensures.next) (goes c.in_ok-start.ensures.reads (goes c.in_ok-path.ensures.reads (halts h))))) c.in_err-end.ensures.reads

pub returns-clause-reads : goal.returns-clause-reads
returns-clause-reads g c = looks c.requires.begins (goes (ap (λ n. Read tt n) c.skip.ensures.next) (goes c.in_ok-start.ensures.reads (goes c.in_ok-path.ensures.reads (goes c.in_ok-end.ensures.reads (rw (c.in_ok-new.ensures, c.place_at-place.ensures))))))

pub returns-clause-found : goal.returns-clause-found
returns-clause-found g c = let room : 1 ≤ c.args.self.now.room = c.requires.some in record { some = omega arith; levels = omega (arith, levels-Preload c.place_at-place.result c.in_ok-path.path, ap levels c.in_ok-new.ensures, room); fits = omega (arith, room); after = omega (arith, c.skip.ensures.next, c.in_ok-start.ensures.next, c.in_ok-path.ensures.next, c.in_ok-end.ensures.next); within = c.in_ok-end.ensures.within }
