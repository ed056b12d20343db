use Rattle.gd_syntax.proofs.Steps.{exit}
use Rattle.gd_syntax.specs.Reading.{Read}
use Rattle.gd_syntax.specs.Reading.Then.{goes, halts}
use Rattle.std.proofs.Common.{ap, refl}
use Rattle.gd_parser.proofs.statements.assigned.Goals as goal

pub returns-in_err-value-clause-reads : goal.returns-in_err-value-clause-reads
returns-in_err-value-clause-reads c = exit _ _ _ _ _ c.from_residual.ensures.1 (λ f h. goes (ap (λ n. Read tt n) c.skip.ensures.next) (halts h)) c.in_err-value.ensures.reads

pub returns-clause-reads : goal.returns-clause-reads
returns-clause-reads c = goes (ap (λ n. Read tt n) c.skip.ensures.next) (goes c.in_ok-value.ensures.reads refl)
