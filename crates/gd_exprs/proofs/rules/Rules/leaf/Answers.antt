use Rattle.gd_syntax.specs.Reading.{Read}
use Rattle.gd_syntax.specs.Reading.Then.{goes}
use Rattle.std.proofs.Common.{ap}
use Rattle.gd_exprs.proofs.rules.Rules.leaf.Goals as goal

pub returns-clause-reads : goal.returns-clause-reads
returns-clause-reads g c = goes (ap (λ n. Read tt n) c.skip.ensures.next) (rw (c.in_ok-tree.ensures))
