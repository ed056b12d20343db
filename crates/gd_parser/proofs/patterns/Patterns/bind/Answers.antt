use Rattle.gd_parser.proofs.PatternParts.{free_bind}
use Rattle.gd_syntax.proofs.Steps.{exit}
use Rattle.gd_syntax.proofs.Targets.{binds-Bind}
use Rattle.gd_syntax.specs.Reading.{Read}
use Rattle.gd_syntax.specs.Reading.Then.{goes, halts}
use Rattle.std.proofs.Common.{ap, arith, refl, sym}
use Rattle.gd_parser.proofs.patterns.Patterns.bind.Goals as goal

pub returns-in_err-name-clause-reads : goal.returns-in_err-name-clause-reads
returns-in_err-name-clause-reads g c = rw (c.if-not-self.false) (exit _ _ _ _ _ c.from_residual.ensures.1 (λ f h. goes (ap (λ n. Read tt n) c.skip.ensures.next) (halts h)) c.in_err-name.ensures.reads)

pub returns-clause-reads : goal.returns-clause-reads
returns-clause-reads g c = rw (c.place_at-place.ensures) (free_bind c.args.self.now.tokens.now c.args.self.now.free c.args.self.now.room _ c.args.at _ c.if-not-self.false (goes (ap (λ n. Read tt n) c.skip.ensures.next) (goes c.in_ok-name.ensures.reads refl)))

pub returns-clause-found : goal.returns-clause-found
returns-clause-found g c = record { binds = sym (binds-Bind _ _); after = omega (arith, c.in_ok-name.ensures.next, c.skip.ensures.next); within = c.in_ok-name.ensures.within }
