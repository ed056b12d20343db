use Rattle.gd_parser.specs.BlockForms.{line_turn}
use Rattle.gd_syntax.proofs.StatementSteps.{line_none, parted_none}
use Rattle.gd_syntax.proofs.Steps.{exit}
use Rattle.gd_syntax.specs.Reading.{Loop, Read}
use Rattle.gd_syntax.specs.Reading.Look.{looks}
use Rattle.gd_syntax.specs.Reading.Then.{goes, halts}
use Rattle.gd_syntax.specs.declared.tree.statement.Simple.{Simple}
use Rattle.std.proofs.Common.{List, ap, arith, refl, subst}
use Rattle.gd_parser.proofs.statements.further.Goals as goal

pub returns-then-sees-clause-reads : goal.returns-then-sees-clause-reads
returns-then-sees-clause-reads c = c.statements.invariant.reads _ (Loop.last (looks (c.sees.ensures.yes c.statements-test.true) (goes (ap (λ n. Read tt n) c.skip-at.ensures.next) (looks (c.sees-in-statements.ensures.yes c.if-sees.true) refl))))

pub returns-in_err-tree-clause-reads : goal.returns-in_err-tree-clause-reads
returns-in_err-tree-clause-reads c = exit _ _ _ _ _ c.from_residual.ensures.1 (λ f h. c.statements.invariant.reads _ (Loop.stop (looks (c.sees.ensures.yes c.statements-test.true) (goes (ap (λ n. Read tt n) c.skip-at.ensures.next) (parted_none c.args.tokens.now _ _ _ (c.sees-in-statements.ensures.no c.if-sees.false) (halts h)))))) c.in_err-tree.ensures.reads

pub statements-preserved : goal.statements-preserved
statements-preserved c = record { reads = λ o rest. c.statements.invariant.reads o (Loop.on (looks (c.sees.ensures.yes c.statements-test.true) (goes (ap (λ n. Read tt n) c.skip-at.ensures.next) (parted_none c.args.tokens.now _ _ _ (c.sees-in-statements.ensures.no c.if-sees.false) (goes c.in_ok-tree.ensures.reads refl)))) (let P : List Simple → Type 0 = λ all. Loop (line_turn c.args.tokens.now) all c.in_ok-tree.next o in subst P c.in_ok-push.ensures.ok rest)); after = omega (arith, c.in_ok-tree.ensures.after, c.skip-at.ensures.next, c.statements.invariant.after); within = c.in_ok-tree.ensures.within }

pub returns-clause-reads : goal.returns-clause-reads
returns-clause-reads c = c.statements.invariant.reads _ (Loop.last (line_none c.args.tokens.now _ _ _ (c.sees.ensures.no c.statements-test.false) refl))
