use Rattle.gd_parser.specs.BlockForms.{body_turn, inner}
use Rattle.gd_syntax.proofs.StatementSteps.{body_further}
use Rattle.gd_syntax.proofs.Steps.{exit}
use Rattle.gd_syntax.specs.Reading.{Loop}
use Rattle.gd_syntax.specs.Reading.Look.{looks}
use Rattle.gd_syntax.specs.Reading.Then.{goes, halts}
use Rattle.gd_syntax.specs.declared.tree.statement.Stmt.{Stmt}
use Rattle.std.proofs.Common.{List, arith, refl, subst}
use Rattle.gd_parser.proofs.blocks.Blocks.body.Goals as goal

pub returns-in_err-tree-clause-reads : goal.returns-in_err-tree-clause-reads
returns-in_err-tree-clause-reads g c = exit _ _ _ _ _ c.from_residual.ensures.1 (λ f h. c.statements.invariant.reads _ (Loop.stop (body_further c.args.self.now.tokens.now (inner c.args.self.now.tokens.now c.args.self.now.room) _ _ _ (c.sees.ensures.no c.statements-test.true) (halts h)))) c.in_err-tree.ensures.reads

pub statements-preserved : goal.statements-preserved
statements-preserved g c = record { reads = λ o rest. c.statements.invariant.reads o (Loop.on (body_further c.args.self.now.tokens.now (inner c.args.self.now.tokens.now c.args.self.now.room) _ _ _ (c.sees.ensures.no c.statements-test.true) (goes c.in_ok-tree.ensures.reads refl)) (let P : List Stmt → Type 0 = λ all. Loop (body_turn c.args.self.now.tokens.now c.args.self.now.room) all c.in_ok-tree.next o in subst P c.in_ok-push.ensures.ok rest)); after = omega (arith, c.in_ok-tree.ensures.after, c.statements.invariant.after); within = c.in_ok-tree.ensures.within }

pub returns-clause-reads : goal.returns-clause-reads
returns-clause-reads g c = c.statements.invariant.reads _ (Loop.last (looks (c.sees.ensures.yes c.statements-test.false) refl))
