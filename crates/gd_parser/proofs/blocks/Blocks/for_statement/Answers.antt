use Rattle.gd_parser.proofs.BlockParts.{headed_then}
use Rattle.gd_syntax.proofs.Steps.{exit}
use Rattle.gd_syntax.specs.Reading.{Read}
use Rattle.gd_syntax.specs.Reading.Then.{goes, halts}
use Rattle.std.proofs.Common.{ap, refl}
use Rattle.gd_parser.proofs.blocks.Blocks.for_statement.Goals as goal

pub returns-in_err-name-clause-reads : goal.returns-in_err-name-clause-reads
returns-in_err-name-clause-reads g c = exit _ _ _ _ _ c.from_residual.ensures.1 (λ f h. goes (ap (λ n. Read tt n) c.skip.ensures.next) (halts h)) c.in_err-name.ensures.reads

pub returns-in_err-type_name-clause-reads : goal.returns-in_err-type_name-clause-reads
returns-in_err-type_name-clause-reads g c = exit _ _ _ _ _ c.from_residual-in_err-type_name.ensures.1 (λ f h. goes (ap (λ n. Read tt n) c.skip.ensures.next) (goes (c.in_ok-name.ensures.reads) (halts h))) c.in_err-type_name.ensures.reads

pub returns-in_err-start-clause-reads : goal.returns-in_err-start-clause-reads
returns-in_err-start-clause-reads g c = exit _ _ _ _ _ c.from_residual-in_err-start.ensures.1 (λ f h. goes (ap (λ n. Read tt n) c.skip.ensures.next) (goes (c.in_ok-name.ensures.reads) (goes (c.in_ok-type_name.ensures.reads) (halts h)))) c.in_err-start.ensures.reads

pub returns-in_err-subject-clause-reads : goal.returns-in_err-subject-clause-reads
returns-in_err-subject-clause-reads g c = exit _ _ _ _ _ c.from_residual-in_err-subject.ensures.1 (λ f h. goes (ap (λ n. Read tt n) c.skip.ensures.next) (goes (c.in_ok-name.ensures.reads) (goes (c.in_ok-type_name.ensures.reads) (goes (c.in_ok-start.ensures.reads) (headed_then c.args.self.now.tokens.now _ _ _ (halts h)))))) c.in_err-subject.ensures.reads

pub returns-in_err-body-clause-reads : goal.returns-in_err-body-clause-reads
returns-in_err-body-clause-reads g c = exit _ _ _ _ _ c.from_residual-in_err-body.ensures.1 (λ f h. goes (ap (λ n. Read tt n) c.skip.ensures.next) (goes (c.in_ok-name.ensures.reads) (goes (c.in_ok-type_name.ensures.reads) (goes (c.in_ok-start.ensures.reads) (headed_then c.args.self.now.tokens.now _ _ _ (goes c.in_ok-subject.ensures.reads (halts h))))))) c.in_err-body.ensures.reads

pub returns-clause-reads : goal.returns-clause-reads
returns-clause-reads g c = rw (c.into_inner.ensures, c.place_at-place.ensures) (goes (ap (λ n. Read tt n) c.skip.ensures.next) (goes (c.in_ok-name.ensures.reads) (goes (c.in_ok-type_name.ensures.reads) (goes (c.in_ok-start.ensures.reads) (headed_then c.args.self.now.tokens.now _ _ _ (goes c.in_ok-subject.ensures.reads (goes c.in_ok-body.ensures.reads refl)))))))
