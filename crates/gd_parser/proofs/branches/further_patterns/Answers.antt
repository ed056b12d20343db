use Rattle.gd_parser.proofs.BlockParts.{pats_goes, pats_refused}
use Rattle.gd_parser.specs.BlockForms.{pats_turn}
use Rattle.gd_syntax.proofs.StatementSteps.{pats_none}
use Rattle.gd_syntax.proofs.Steps.{exit}
use Rattle.gd_syntax.specs.Reading.{Loop, Read}
use Rattle.gd_syntax.specs.Reading.Look.{looks}
use Rattle.gd_syntax.specs.Reading.Then.{goes, halts}
use Rattle.gd_syntax.specs.declared.tree.pattern.Pattern.{Pattern}
use Rattle.std.proofs.Common.{List, ap, arith, refl, subst}
use Rattle.gd_parser.proofs.branches.further_patterns.Goals as goal

pub returns-then-bound-clause-reads : goal.returns-then-bound-clause-reads
returns-then-bound-clause-reads c = rw (c.refuse.ensures) (c.patterns.invariant.reads _ (Loop.stop (looks (c.sees.ensures.yes c.patterns-test.true) (pats_refused c.args.tokens.now c.args.bound _ _ _ c.if-bound.true refl))))

pub returns-in_err-tree-clause-reads : goal.returns-in_err-tree-clause-reads
returns-in_err-tree-clause-reads c = exit _ _ _ _ _ c.from_residual.ensures.1 (λ f h. c.patterns.invariant.reads _ (Loop.stop (looks (c.sees.ensures.yes c.patterns-test.true) (pats_goes c.args.tokens.now c.args.bound _ _ _ c.if-bound.false (goes (ap (λ n. Read tt n) c.skip.ensures.next) (halts h)))))) c.in_err-tree.ensures.reads

pub patterns-preserved : goal.patterns-preserved
patterns-preserved c = record { reads = λ o rest. c.patterns.invariant.reads o (Loop.on (looks (c.sees.ensures.yes c.patterns-test.true) (pats_goes c.args.tokens.now c.args.bound _ _ _ c.if-bound.false (goes (ap (λ n. Read tt n) c.skip.ensures.next) (goes c.in_ok-tree.ensures.reads refl)))) (let P : List Pattern → Type 0 = λ all. Loop (pats_turn c.args.tokens.now c.args.bound) all c.in_ok-tree.field-0.at o in subst P c.in_ok-push.ensures.ok rest)); after = omega (arith, c.in_ok-tree.ensures.found.after, c.skip.ensures.next, c.patterns.invariant.after); within = c.in_ok-tree.ensures.found.within }

pub returns-clause-reads : goal.returns-clause-reads
returns-clause-reads c = c.patterns.invariant.reads _ (Loop.last (pats_none c.args.tokens.now c.args.bound _ _ _ (c.sees.ensures.no c.patterns-test.false) refl))
