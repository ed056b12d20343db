use Rattle.gd_syntax.proofs.Steps.{exit, answers_by}
use Rattle.gd_syntax.specs.Reading.Then.{goes, halts}
use Rattle.gd_parser.proofs.functions.func_param.Goals as goal

pub returns-in_err-what-clause-reads : goal.returns-in_err-what-clause-reads
returns-in_err-what-clause-reads c = exit _ _ _ _ _ c.from_residual.ensures.1 (λ f h. halts h) c.in_err-what.ensures.reads

pub returns-clause-reads : goal.returns-clause-reads
returns-clause-reads c = let h = rw (c.requires.is_due) at c.defaulted.ensures.reads in answers_by _ _ _ _ c.defaulted.result (λ x a. goes c.in_ok-what.ensures.reads a) (λ x a. goes c.in_ok-what.ensures.reads a) h
