use Rattle.gd_syntax.proofs.Levels.{most_push}
use Rattle.gd_syntax.proofs.Steps.{comma_none, exit}
use Rattle.gd_syntax.specs.Levels.{levels, most}
use Rattle.gd_syntax.specs.Reading.Look.{looks}
use Rattle.gd_syntax.specs.Reading.Then.{goes, halts}
use Rattle.gd_syntax.specs.TokenReading.Item.{closed, further}
use Rattle.std.proofs.Common.{List, ap, arith, map, refl, subst, ◌+◌}
use Rattle.gd_syntax.specs.declared.tree.expr.Expr.{Expr}
use Rattle.gd_syntax.specs.Reading.{Loop}
use Rattle.gd_exprs.specs.Forms.{args_before}
use Rattle.gd_exprs.proofs.rules.Rules.args_before.Goals as goal

pub returns-in_err-tree-clause-reads : goal.returns-in_err-tree-clause-reads
returns-in_err-tree-clause-reads g c = exit _ _ _ _ _ c.from_residual.ensures.1 (λ f h. c.items.invariant.reads _ (Loop.stop (further (c.sees.ensures.no c.items-test.true) (halts h)))) c.in_err-tree.ensures.reads

pub returns-then-not-goes_on-clause-reads : goal.returns-then-not-goes_on-clause-reads
returns-then-not-goes_on-clause-reads g c = let grown = rw (c.into_inner.ensures) at c.in_ok-push.ensures.ok in rw grown (c.items.invariant.reads _ (Loop.last (further (c.sees.ensures.no c.items-test.true) (goes c.in_ok-tree.ensures.reads (comma_none c.args.self.now.tokens.now _ _ (c.sees-goes_on.ensures.no c.if-not-goes_on.true))))))

pub returns-then-not-goes_on-clause-found : goal.returns-then-not-goes_on-clause-found
returns-then-not-goes_on-clause-found g c = let f = c.in_ok-tree.ensures.found in let grown = rw (c.into_inner.ensures) at c.in_ok-push.ensures.ok in let grows = ap (λ (all : List Expr). most (map levels all)) grown in record { levels = omega (arith, grows, most_push levels c.items.items c.in_ok-tree.field-0.tree, f.levels); fits = omega (arith, f.fits); after = omega (arith, f.after); within = f.within }

pub items-preserved : goal.items-preserved
items-preserved g c = let f = c.in_ok-tree.ensures.found in let grown = rw (c.into_inner.ensures) at c.in_ok-push.ensures.ok in let grows = ap (λ (all : List Expr). most (map levels all)) grown in record { reads = λ o rest. c.items.invariant.reads o (Loop.on (further (c.sees.ensures.no c.items-test.true) (goes c.in_ok-tree.ensures.reads (looks (c.sees-goes_on.ensures.yes c.if-not-goes_on.false) (goes refl refl)))) (let P : List Expr → Type 0 = λ all. args_before c.args.self.now.tokens.now c.args.self.now.room c.args.closing all (c.in_ok-tree.field-0.at + 1) o in subst P grown (rw (c.skip-at.ensures.next) at rest))); levels = omega (arith, grows, most_push levels c.items.items c.in_ok-tree.field-0.tree, f.levels); fits = omega (arith, f.fits); after = omega (arith, f.after); within = c.skip-at.ensures.within }

pub returns-clause-reads : goal.returns-clause-reads
returns-clause-reads g c = c.items.invariant.reads _ (Loop.last (closed (c.sees.ensures.yes c.items-test.false)))
