use Rattle.gd_syntax.proofs.Steps.{exit}
use Rattle.gd_syntax.specs.Reading.Then.{goes, halts}
use Rattle.gd_syntax.specs.Reading.Look.{looks}
use Rattle.std.proofs.Common.{refl}
use Rattle.gd_parser.proofs.members.var_line.Goals as goal

pub returns-in_err-tree-clause-reads : goal.returns-in_err-tree-clause-reads
returns-in_err-tree-clause-reads c = exit _ _ _ _ _ c.from_residual.ensures.1 (λ f h. looks c.requires.begins (halts h)) c.in_err-tree.ensures.reads

pub returns-in_err-next-clause-reads : goal.returns-in_err-next-clause-reads
returns-in_err-next-clause-reads c = exit _ _ _ _ _ c.from_residual-in_err-next.ensures.1 (λ f h. looks c.requires.begins (goes c.in_ok-tree.ensures.reads (halts h))) c.in_err-next.ensures.reads

pub returns-clause-reads : goal.returns-clause-reads
returns-clause-reads c = looks c.requires.begins (goes c.in_ok-tree.ensures.reads (goes c.in_ok-next.ensures.reads refl))
