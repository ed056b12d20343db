use Rattle.gd_syntax.proofs.Steps.{exit}
use Rattle.gd_syntax.specs.Reading.Then.{goes, halts}
use Rattle.gd_syntax.specs.Reading.Look.{looks}
use Rattle.gd_syntax.specs.Reading.{Look, Loop}
use Rattle.gd_syntax.specs.TokenReading.{mark_at}
use Rattle.gd_syntax.specs.declared.tree.member.Annotation.{Annotation}
use Rattle.gd_syntax.specs.DeclarationGrammar.{annots_by}
use Rattle.gd_parser.specs.Annotations.{may}
use Rattle.gd_syntax.proofs.DeclarationSteps.{annots_none}
use Rattle.std.proofs.Common.{List, arith, refl, subst}
use Rattle.gd_parser.proofs.declarations.annots.Goals as goal

pub returns-in_err-annotation-clause-reads : goal.returns-in_err-annotation-clause-reads
returns-in_err-annotation-clause-reads c = exit _ _ _ _ _ c.from_residual.ensures.1 (λ f h. c.annotations.invariant.reads _ (Loop.stop (looks (c.sees.ensures.yes c.annotations-test.true) (halts h)))) c.in_err-annotation.ensures.reads

pub annotations-preserved : goal.annotations-preserved
annotations-preserved c = record { reads = λ o rest. c.annotations.invariant.reads o (Loop.on (looks (c.sees.ensures.yes c.annotations-test.true) (goes c.in_ok-annotation.ensures.reads refl)) (let P : List Annotation → Type 0 = λ all. Loop (λ sofar. Look (mark_at c.args.tokens.now) (annots_by c.args.tokens.now (may c.args.owner) sofar)) all c.in_ok-annotation.next o in subst P c.in_ok-push.ensures.ok rest)); after = omega (arith, c.in_ok-annotation.ensures.after); within = c.in_ok-annotation.ensures.within }

pub returns-clause-reads : goal.returns-clause-reads
returns-clause-reads c = c.annotations.invariant.reads _ (Loop.last (annots_none c.args.tokens.now (may c.args.owner) _ _ _ (c.sees.ensures.no c.annotations-test.false) refl))
