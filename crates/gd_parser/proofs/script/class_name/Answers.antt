use Rattle.gd_syntax.proofs.Steps.{exit}
use Rattle.gd_syntax.specs.Reading.Then.{goes, halts}
use Rattle.gd_syntax.specs.Reading.{Read}
use Rattle.std.proofs.Common.{ap}
use Rattle.gd_parser.proofs.script.class_name.Goals as goal

pub returns-in_err-name-clause-reads : goal.returns-in_err-name-clause-reads
returns-in_err-name-clause-reads c = exit _ _ _ _ _ c.from_residual.ensures.1 (λ f h. goes (ap (λ n. Read tt n) c.skip.ensures.next) (halts h)) c.in_err-name.ensures.reads

pub returns-in_err-tree-clause-reads : goal.returns-in_err-tree-clause-reads
returns-in_err-tree-clause-reads c = exit _ _ _ _ _ c.from_residual-in_err-tree.ensures.1 (λ f h. goes (ap (λ n. Read tt n) c.skip.ensures.next) (goes c.in_ok-name.ensures.reads (halts h))) c.in_err-tree.ensures.reads

pub returns-in_err-line-clause-reads : goal.returns-in_err-line-clause-reads
returns-in_err-line-clause-reads c = exit _ _ _ _ _ c.from_residual-in_err-line.ensures.1 (λ f h. goes (ap (λ n. Read tt n) c.skip.ensures.next) (goes c.in_ok-name.ensures.reads (goes c.in_ok-tree.ensures.reads (halts h)))) c.in_err-line.ensures.reads

pub returns-clause-reads : goal.returns-clause-reads
returns-clause-reads c = goes (ap (λ n. Read tt n) c.skip.ensures.next) (goes c.in_ok-name.ensures.reads (goes c.in_ok-tree.ensures.reads (goes c.in_ok-line.ensures.reads (rw (c.place_at-place.ensures)))))
