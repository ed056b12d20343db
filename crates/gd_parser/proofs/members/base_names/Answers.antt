use Rattle.gd_syntax.proofs.Steps.{exit}
use Rattle.gd_syntax.specs.Reading.Then.{goes, halts}
use Rattle.gd_syntax.specs.Reading.Look.{looks}
use Rattle.gd_syntax.specs.Reading.{Look, Loop, Read}
use Rattle.gd_syntax.specs.TokenReading.{mark_at}
use Rattle.gd_syntax.specs.MemberGrammar.{base_by}
use Rattle.gd_syntax.proofs.MemberSteps.{base_none}
use Rattle.std.proofs.Common.{List, ap, arith, refl, subst, ℕ}
use Rattle.gd_parser.proofs.members.base_names.Goals as goal

pub returns-in_err-name-clause-reads : goal.returns-in_err-name-clause-reads
returns-in_err-name-clause-reads c = exit _ _ _ _ _ c.from_residual.ensures.1 (λ f h. c.names.invariant.reads _ (Loop.stop (looks (c.sees.ensures.yes c.names-test.true) (goes (ap (λ n. Read tt n) c.skip.ensures.next) (halts h))))) c.in_err-name.ensures.reads

pub names-preserved : goal.names-preserved
names-preserved c = record { reads = λ o rest. c.names.invariant.reads o (Loop.on (looks (c.sees.ensures.yes c.names-test.true) (goes (ap (λ n. Read tt n) c.skip.ensures.next) (goes c.in_ok-name.ensures.reads refl))) (let P : List (List ℕ) → Type 0 = λ all. Loop (λ sofar. Look (mark_at c.args.tokens.now) (base_by c.args.tokens.now sofar)) all c.in_ok-name.next o in subst P c.in_ok-push.ensures.ok rest)); after = omega (arith, c.in_ok-name.ensures.next, c.skip.ensures.next); within = c.in_ok-name.ensures.within }

pub returns-clause-reads : goal.returns-clause-reads
returns-clause-reads c = c.names.invariant.reads _ (Loop.last (base_none c.args.tokens.now _ _ _ (c.sees.ensures.no c.names-test.false) refl))
