use Rattle.gd_syntax.proofs.Steps.{exit}
use Rattle.gd_syntax.specs.Reading.Then.{goes, halts}
use Rattle.gd_syntax.specs.Reading.{Read}
use Rattle.std.proofs.Common.{ap, refl}
use Rattle.gd_parser.proofs.members.enum_tree.Goals as goal

pub returns-in_err-name-clause-reads : goal.returns-in_err-name-clause-reads
returns-in_err-name-clause-reads c = exit _ _ _ _ _ c.from_residual.ensures.1 (λ f h. goes (ap (λ n. Read tt n) c.skip.ensures.next) (halts h)) c.in_err-name.ensures.reads

pub returns-in_err-first-clause-reads : goal.returns-in_err-first-clause-reads
returns-in_err-first-clause-reads c = exit _ _ _ _ _ c.from_residual-in_err-first.ensures.1 (λ f h. goes (ap (λ n. Read tt n) c.skip.ensures.next) (goes c.in_ok-name.ensures.reads (halts h))) c.in_err-first.ensures.reads

pub returns-in_err-items-clause-reads : goal.returns-in_err-items-clause-reads
returns-in_err-items-clause-reads c = exit _ _ _ _ _ c.from_residual-in_err-items.ensures.1 (λ f h. goes (ap (λ n. Read tt n) c.skip.ensures.next) (goes c.in_ok-name.ensures.reads (goes c.in_ok-first.ensures.reads (halts (halts h))))) c.in_err-items.ensures.reads

pub returns-in_err-end-clause-reads : goal.returns-in_err-end-clause-reads
returns-in_err-end-clause-reads c = exit _ _ _ _ _ c.from_residual-in_err-end.ensures.1 (λ f h. goes (ap (λ n. Read tt n) c.skip.ensures.next) (goes c.in_ok-name.ensures.reads (goes c.in_ok-first.ensures.reads (halts (goes c.in_ok-items.ensures.reads (halts h)))))) c.in_err-end.ensures.reads

pub returns-clause-reads : goal.returns-clause-reads
returns-clause-reads c = goes (ap (λ n. Read tt n) c.skip.ensures.next) (goes c.in_ok-name.ensures.reads (goes c.in_ok-first.ensures.reads (goes (goes c.in_ok-items.ensures.reads (goes c.in_ok-end.ensures.reads refl)) refl)))
