use Rattle.gd_parser.proofs.BlockParts.{headed_then}
use Rattle.gd_syntax.proofs.Steps.{exit}
use Rattle.gd_syntax.specs.Reading.{Read}
use Rattle.gd_syntax.specs.Reading.Then.{goes, halts}
use Rattle.std.proofs.Common.{ap}
use Rattle.gd_parser.proofs.blocks.Blocks.branch.Goals as goal

pub returns-in_err-condition-clause-reads : goal.returns-in_err-condition-clause-reads
returns-in_err-condition-clause-reads g c = exit _ _ _ _ _ c.from_residual.ensures.1 (λ f h. goes (ap (λ n. Read tt n) c.skip.ensures.next) (headed_then c.args.self.now.tokens.now _ _ _ (halts h))) c.in_err-condition.ensures.reads

pub returns-in_err-body-clause-reads : goal.returns-in_err-body-clause-reads
returns-in_err-body-clause-reads g c = exit _ _ _ _ _ c.from_residual-in_err-body.ensures.1 (λ f h. goes (ap (λ n. Read tt n) c.skip.ensures.next) (headed_then c.args.self.now.tokens.now _ _ _ (goes c.in_ok-condition.ensures.reads (halts h)))) c.in_err-body.ensures.reads

pub returns-clause-reads : goal.returns-clause-reads
returns-clause-reads g c = goes (ap (λ n. Read tt n) c.skip.ensures.next) (headed_then c.args.self.now.tokens.now _ _ _ (goes c.in_ok-condition.ensures.reads (goes c.in_ok-body.ensures.reads (rw (c.into_inner.ensures, c.place_at-place.ensures)))))
