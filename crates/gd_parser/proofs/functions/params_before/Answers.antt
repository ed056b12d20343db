use Rattle.gd_syntax.proofs.Steps.{exit, comma_none}
use Rattle.gd_syntax.specs.Reading.Then.{goes, halts}
use Rattle.gd_syntax.specs.Reading.Look.{looks}
use Rattle.gd_syntax.specs.Reading.{Look, Loop}
use Rattle.gd_syntax.specs.TokenReading.{mark_at}
use Rattle.gd_syntax.specs.declared.tree.member.Param.{Param}
use Rattle.gd_parser.specs.Parameters.{what}
use Rattle.gd_syntax.specs.MemberGrammar.{params_by}
use Rattle.gd_syntax.proofs.MemberSteps.{params_further}
use Rattle.gd_parser.proofs.Others.{due_further}
use Rattle.std.proofs.Common.{List, arith, refl, subst, ◌+◌}
use Rattle.gd_parser.proofs.functions.params_before.Goals as goal

pub returns-in_err-item-clause-reads : goal.returns-in_err-item-clause-reads
returns-in_err-item-clause-reads c = exit _ _ _ _ _ c.from_residual.ensures.1 (λ f h. c.params.invariant.reads _ (Loop.stop (params_further c.args.tokens.now (what c.args.tokens.now c.args.owner) _ _ _ (c.sees.ensures.no c.params-test.true) (halts h)))) c.in_err-item.ensures.reads

pub returns-then-not-goes_on-clause-reads : goal.returns-then-not-goes_on-clause-reads
returns-then-not-goes_on-clause-reads c = rw c.in_ok-push.ensures.ok (c.params.invariant.reads _ (Loop.last (params_further c.args.tokens.now (what c.args.tokens.now c.args.owner) _ _ _ (c.sees.ensures.no c.params-test.true) (goes c.in_ok-item.ensures.reads (comma_none c.args.tokens.now _ _ (c.sees-goes_on.ensures.no c.if-not-goes_on.true))))))

pub params-preserved : goal.params-preserved
params-preserved c = record { reads = λ o rest. c.params.invariant.reads o (Loop.on (params_further c.args.tokens.now (what c.args.tokens.now c.args.owner) _ _ _ (c.sees.ensures.no c.params-test.true) (goes c.in_ok-item.ensures.reads (looks (c.sees-goes_on.ensures.yes c.if-not-goes_on.false) (goes refl refl)))) (let P : List Param → Type 0 = λ all. Loop (λ sofar. Look (mark_at c.args.tokens.now) (params_by c.args.tokens.now (what c.args.tokens.now c.args.owner) sofar)) all (c.in_ok-item.next + 1) o in subst P c.in_ok-push.ensures.ok (rw (c.skip-at.ensures.next) at rest))); is_due = rw c.in_ok-push.ensures.ok (due_further c.params.all c.in_ok-item.item _ _ c.params.invariant.is_due c.has_default-is_due.ensures); after = omega (arith, c.in_ok-item.ensures.after, c.skip-at.ensures.next); within = c.skip-at.ensures.within }

pub returns-clause-reads : goal.returns-clause-reads
returns-clause-reads c = c.params.invariant.reads _ (Loop.last (looks (c.sees.ensures.yes c.params-test.false) refl))
