use Rattle.gd_parser.proofs.PatternParts.{path_binds}
use Rattle.gd_syntax.proofs.Steps.{exit}
use Rattle.gd_syntax.specs.Reading.Then.{goes, halts}
use Rattle.std.proofs.Common.{arith, sym}
use Rattle.gd_parser.proofs.patterns.Patterns.path.Goals as goal

pub returns-in_err-name-clause-reads : goal.returns-in_err-name-clause-reads
returns-in_err-name-clause-reads g c = exit _ _ _ _ _ c.from_residual.ensures.1 (λ f h. halts h) c.in_err-name.ensures.reads

pub returns-in_err-names-clause-reads : goal.returns-in_err-names-clause-reads
returns-in_err-names-clause-reads g c = exit _ _ _ _ _ c.from_residual-in_err-names.ensures.1 (λ f h. goes c.in_ok-name.ensures.reads (halts h)) (rw (c.in_ok-first.ensures) at c.in_err-names.ensures.reads)

pub returns-clause-reads : goal.returns-clause-reads
returns-clause-reads g c = goes c.in_ok-name.ensures.reads (goes (rw (c.in_ok-first.ensures) at c.in_ok-names.ensures.reads) (rw (c.path_pattern.ensures, c.place_at-place.ensures)))

pub returns-clause-found : goal.returns-clause-found
returns-clause-found g c = record { binds = rw (c.path_pattern.ensures) (sym (path_binds c.place_at-place.result c.in_ok-names.names)); after = omega (arith, c.in_ok-names.ensures.after, c.in_ok-name.ensures.next); within = c.in_ok-names.ensures.within }
