use Rattle.gd_parser.specs.BlockForms.{inner, match_turn}
use Rattle.gd_syntax.proofs.StatementSteps.{match_further}
use Rattle.gd_syntax.proofs.Steps.{exit}
use Rattle.gd_syntax.specs.Reading.{Loop}
use Rattle.gd_syntax.specs.Reading.Look.{looks}
use Rattle.gd_syntax.specs.Reading.Then.{goes, halts}
use Rattle.gd_syntax.specs.declared.tree.statement.MatchBranch.{MatchBranch}
use Rattle.std.proofs.Common.{List, arith, refl, subst}
use Rattle.gd_parser.proofs.blocks.Blocks.match_branches.Goals as goal

pub returns-in_err-branch-clause-reads : goal.returns-in_err-branch-clause-reads
returns-in_err-branch-clause-reads g c = exit _ _ _ _ _ c.from_residual.ensures.1 (λ f h. c.branches.invariant.reads _ (Loop.stop (match_further c.args.self.now.tokens.now (inner c.args.self.now.tokens.now c.args.self.now.room) _ _ _ (c.sees.ensures.no c.branches-test.true) (halts h)))) c.in_err-branch.ensures.reads

pub branches-preserved : goal.branches-preserved
branches-preserved g c = record { reads = λ o rest. c.branches.invariant.reads o (Loop.on (match_further c.args.self.now.tokens.now (inner c.args.self.now.tokens.now c.args.self.now.room) _ _ _ (c.sees.ensures.no c.branches-test.true) (goes c.in_ok-branch.ensures.reads refl)) (let P : List MatchBranch → Type 0 = λ all. Loop (match_turn c.args.self.now.tokens.now c.args.self.now.room) all c.in_ok-branch.next o in subst P c.in_ok-push.ensures.ok rest)); after = omega (arith, c.in_ok-branch.ensures.after, c.branches.invariant.after); within = c.in_ok-branch.ensures.within }

pub returns-clause-reads : goal.returns-clause-reads
returns-clause-reads g c = c.branches.invariant.reads _ (Loop.last (looks (c.sees.ensures.yes c.branches-test.false) refl))
