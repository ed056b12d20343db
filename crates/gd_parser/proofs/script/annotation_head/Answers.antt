use Rattle.gd_syntax.proofs.Steps.{exit}
use Rattle.gd_syntax.specs.Reading.Then.{goes, halts}
use Rattle.gd_syntax.specs.Reading.{Read, On}
use Rattle.gd_syntax.specs.ScriptGrammar.{Heads}
use Rattle.std.proofs.Common.{ap}
use Rattle.gd_parser.proofs.script.annotation_head.Goals as goal

pub returns-in_err-tree-clause-reads : goal.returns-in_err-tree-clause-reads
returns-in_err-tree-clause-reads c = exit _ _ _ _ _ c.from_residual.ensures.1 (λ f h. halts h) (rw (c.requires.flags.field, c.requires.flags.head) at c.in_err-tree.ensures.reads)

pub returns-clause-reads : goal.returns-clause-reads
returns-clause-reads c = goes (rw (c.requires.flags.field, c.requires.flags.head) at c.in_ok-tree.ensures.reads) (ap (λ (x : Heads). Read (On x) c.in_ok-tree.next) c.in_ok-more.ensures.heads)
