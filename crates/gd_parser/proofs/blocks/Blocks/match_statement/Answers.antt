use Rattle.gd_parser.proofs.BlockParts.{headed_then}
use Rattle.gd_syntax.proofs.Steps.{exit}
use Rattle.gd_syntax.specs.Reading.{Read}
use Rattle.gd_syntax.specs.Reading.Then.{goes, halts}
use Rattle.std.proofs.Common.{ap, refl}
use Rattle.gd_parser.proofs.blocks.Blocks.match_statement.Goals as goal

pub returns-in_err-subject-clause-reads : goal.returns-in_err-subject-clause-reads
returns-in_err-subject-clause-reads g c = exit _ _ _ _ _ c.from_residual.ensures.1 (λ f h. goes (ap (λ n. Read tt n) c.skip.ensures.next) (headed_then c.args.self.now.tokens.now _ _ _ (halts h))) c.in_err-subject.ensures.reads

pub returns-in_err-open-clause-reads : goal.returns-in_err-open-clause-reads
returns-in_err-open-clause-reads g c = exit _ _ _ _ _ c.from_residual-in_err-open.ensures.1 (λ f h. goes (ap (λ n. Read tt n) c.skip.ensures.next) (headed_then c.args.self.now.tokens.now _ _ _ (goes (c.in_ok-subject.ensures.reads) (halts h)))) c.in_err-open.ensures.reads

pub returns-in_err-start-clause-reads : goal.returns-in_err-start-clause-reads
returns-in_err-start-clause-reads g c = exit _ _ _ _ _ c.from_residual-in_err-start.ensures.1 (λ f h. goes (ap (λ n. Read tt n) c.skip.ensures.next) (headed_then c.args.self.now.tokens.now _ _ _ (goes (c.in_ok-subject.ensures.reads) (goes (c.in_ok-open.ensures.reads) (halts h))))) c.in_err-start.ensures.reads

pub returns-in_err-branches-clause-reads : goal.returns-in_err-branches-clause-reads
returns-in_err-branches-clause-reads g c = exit _ _ _ _ _ c.from_residual-in_err-branches.ensures.1 (λ f h. goes (ap (λ n. Read tt n) c.skip.ensures.next) (headed_then c.args.self.now.tokens.now _ _ _ (goes (c.in_ok-subject.ensures.reads) (goes (c.in_ok-open.ensures.reads) (goes (c.in_ok-start.ensures.reads) (halts h)))))) c.in_err-branches.ensures.reads

pub returns-in_err-end-clause-reads : goal.returns-in_err-end-clause-reads
returns-in_err-end-clause-reads g c = exit _ _ _ _ _ c.from_residual-in_err-end.ensures.1 (λ f h. goes (ap (λ n. Read tt n) c.skip.ensures.next) (headed_then c.args.self.now.tokens.now _ _ _ (goes (c.in_ok-subject.ensures.reads) (goes (c.in_ok-open.ensures.reads) (goes (c.in_ok-start.ensures.reads) (goes (c.in_ok-branches.ensures.reads) (halts h))))))) c.in_err-end.ensures.reads

pub returns-clause-reads : goal.returns-clause-reads
returns-clause-reads g c = rw (c.into_inner.ensures, c.place_at-place.ensures) (goes (ap (λ n. Read tt n) c.skip.ensures.next) (headed_then c.args.self.now.tokens.now _ _ _ (goes (c.in_ok-subject.ensures.reads) (goes (c.in_ok-open.ensures.reads) (goes (c.in_ok-start.ensures.reads) (goes (c.in_ok-branches.ensures.reads) (goes (c.in_ok-end.ensures.reads) (refl))))))))
