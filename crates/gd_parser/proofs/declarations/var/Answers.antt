use Rattle.gd_syntax.proofs.Steps.{exit, answers_by}
use Rattle.gd_syntax.specs.Reading.Then.{goes, halts}
use Rattle.gd_syntax.specs.Reading.{Read}
use Rattle.std.proofs.Common.{ap}
use Rattle.gd_parser.proofs.declarations.var.Goals as goal

pub returns-in_err-name-clause-reads : goal.returns-in_err-name-clause-reads
returns-in_err-name-clause-reads c = exit _ _ _ _ _ c.from_residual.ensures.1 (λ f h. goes (ap (λ n. Read tt n) c.skip.ensures.next) (halts h)) c.in_err-name.ensures.reads

pub returns-in_err-what-clause-reads : goal.returns-in_err-what-clause-reads
returns-in_err-what-clause-reads c = exit _ _ _ _ _ c.from_residual-in_err-what.ensures.1 (λ f h. goes (ap (λ n. Read tt n) c.skip.ensures.next) (goes c.in_ok-name.ensures.reads (halts h))) c.in_err-what.ensures.reads

pub returns-clause-reads : goal.returns-clause-reads
returns-clause-reads c = answers_by _ _ _ _ c.var_end.result (λ x a. goes (ap (λ n. Read tt n) c.skip.ensures.next) (goes c.in_ok-name.ensures.reads (goes c.in_ok-what.ensures.reads a))) (λ x a. goes (ap (λ n. Read tt n) c.skip.ensures.next) (goes c.in_ok-name.ensures.reads (goes c.in_ok-what.ensures.reads a))) c.var_end.ensures.reads
