use Rattle.gd_syntax.proofs.Steps.{exit}
use Rattle.gd_syntax.specs.Reading.Then.{goes, halts}
use Rattle.std.proofs.Common.{refl}
use Rattle.gd_parser.proofs.blocks.Blocks.while_statement.Goals as goal

pub returns-in_err-branch-clause-reads : goal.returns-in_err-branch-clause-reads
returns-in_err-branch-clause-reads g c = exit _ _ _ _ _ c.from_residual.ensures.1 (λ f h. halts h) c.in_err-branch.ensures.reads

pub returns-clause-reads : goal.returns-clause-reads
returns-clause-reads g c = rw (c.place_at-place.ensures) (goes c.in_ok-branch.ensures.reads refl)
