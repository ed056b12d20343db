use Rattle.gd_syntax.proofs.Steps.{answers_by}
use Rattle.gd_syntax.specs.Reading.Then.{goes}
use Rattle.gd_syntax.specs.Reading.Look.{looks}
use Rattle.gd_syntax.specs.Reading.{Read}
use Rattle.gd_syntax.proofs.MemberSteps.{signal_none}
use Rattle.std.proofs.Common.{ap, refl}
use Rattle.gd_parser.proofs.functions.signal_params.Goals as goal

pub returns-then-not-sees-clause-reads : goal.returns-then-not-sees-clause-reads
returns-then-not-sees-clause-reads c = rw (c.new.ensures) (signal_none c.args.tokens.now c.args.at _ (c.sees.ensures.no c.if-not-sees.true) refl)

pub returns-clause-reads : goal.returns-clause-reads
returns-clause-reads c = answers_by _ _ _ _ c.params.result (λ x a. looks (c.sees.ensures.yes c.if-not-sees.false) (goes (ap (λ n. Read tt n) c.skip.ensures.next) a)) (λ x a. looks (c.sees.ensures.yes c.if-not-sees.false) (goes (ap (λ n. Read tt n) c.skip.ensures.next) a)) c.params.ensures.reads
