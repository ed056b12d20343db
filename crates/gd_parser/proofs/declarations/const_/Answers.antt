use Rattle.gd_syntax.proofs.Steps.{exit}
use Rattle.gd_syntax.specs.Reading.Then.{goes, halts}
use Rattle.gd_syntax.specs.Reading.{Read}
use Rattle.std.proofs.Common.{ap, refl}
use Rattle.gd_parser.proofs.declarations.const_.Goals as goal

pub returns-in_err-name-clause-reads : goal.returns-in_err-name-clause-reads
returns-in_err-name-clause-reads c = exit _ _ _ _ _ c.from_residual.ensures.1 (λ f h. goes (ap (λ n. Read tt n) c.skip.ensures.next) (halts h)) c.in_err-name.ensures.reads

pub returns-in_err-kind-clause-reads : goal.returns-in_err-kind-clause-reads
returns-in_err-kind-clause-reads c = exit _ _ _ _ _ c.from_residual-in_err-kind.ensures.1 (λ f h. goes (ap (λ n. Read tt n) c.skip.ensures.next) (goes c.in_ok-name.ensures.reads (halts h))) c.in_err-kind.ensures.reads

pub returns-in_err-value_at-clause-reads : goal.returns-in_err-value_at-clause-reads
returns-in_err-value_at-clause-reads c = exit _ _ _ _ _ c.from_residual-in_err-value_at.ensures.1 (λ f h. goes (ap (λ n. Read tt n) c.skip.ensures.next) (goes c.in_ok-name.ensures.reads (goes c.in_ok-kind.ensures.reads (halts h)))) c.in_err-value_at.ensures.reads

pub returns-in_err-value-clause-reads : goal.returns-in_err-value-clause-reads
returns-in_err-value-clause-reads c = exit _ _ _ _ _ c.from_residual-in_err-value.ensures.1 (λ f h. goes (ap (λ n. Read tt n) c.skip.ensures.next) (goes c.in_ok-name.ensures.reads (goes c.in_ok-kind.ensures.reads (goes c.in_ok-value_at.ensures.reads (halts h))))) c.in_err-value.ensures.reads

pub returns-clause-reads : goal.returns-clause-reads
returns-clause-reads c = goes (ap (λ n. Read tt n) c.skip.ensures.next) (goes c.in_ok-name.ensures.reads (goes c.in_ok-kind.ensures.reads (goes c.in_ok-value_at.ensures.reads (goes c.in_ok-value.ensures.reads refl))))
