use Rattle.gd_syntax.proofs.Levels.{most_push}
use Rattle.gd_syntax.proofs.Steps.{comma_none, exit}
use Rattle.gd_syntax.specs.Levels.{levels, most}
use Rattle.gd_syntax.specs.Reading.Look.{looks}
use Rattle.gd_syntax.specs.Reading.Then.{goes, halts}
use Rattle.gd_syntax.specs.TokenReading.Item.{closed, further}
use Rattle.std.proofs.Common.{List, ap, arith, map, max, refl, subst, ◌+◌}
use Rattle.gd_syntax.specs.declared.tree.expr.Expr.{Expr}
use Rattle.gd_syntax.specs.Reading.{Loop}
use Rattle.gd_exprs.specs.Forms.{entries_before}
use Rattle.gd_exprs.proofs.rules.Rules.entries_before.Goals as goal

pub returns-in_err-key-clause-reads : goal.returns-in_err-key-clause-reads
returns-in_err-key-clause-reads g c = exit _ _ _ _ _ c.from_residual.ensures.1 (λ f h. c.items.invariant.reads _ (Loop.stop (further (c.sees.ensures.no c.items-test.true) (halts h)))) c.in_err-key.ensures.reads

pub returns-then-not-goes_on-clause-reads : goal.returns-then-not-goes_on-clause-reads
returns-then-not-goes_on-clause-reads g c = let grown = rw (c.into_inner.ensures, c.into_inner-in-items.ensures) at c.in_ok-push.ensures.ok in rw grown (c.items.invariant.reads _ (Loop.last (further (c.sees.ensures.no c.items-test.true) (goes c.in_ok-key.ensures.reads (comma_none c.args.self.now.tokens.now _ _ (c.sees-goes_on.ensures.no c.if-not-goes_on.true))))))

pub returns-then-not-goes_on-clause-found : goal.returns-then-not-goes_on-clause-found
returns-then-not-goes_on-clause-found g c = let f = c.in_ok-key.ensures.found in let grown = rw (c.into_inner.ensures, c.into_inner-in-items.ensures) at c.in_ok-push.ensures.ok in let grows = ap (λ (all : List (Expr × Expr)). most (map (λ x. max (levels x.0) (levels x.1)) all)) grown in record { levels = omega (arith, grows, most_push (λ x. max (levels x.0) (levels x.1)) c.items.items (c.in_ok-key.field-0.key, c.in_ok-key.field-0.value), f.levels); fits = omega (arith, f.fits); after = omega (arith, f.after); within = f.within }

pub items-preserved : goal.items-preserved
items-preserved g c = let f = c.in_ok-key.ensures.found in let grown = rw (c.into_inner.ensures, c.into_inner-in-items.ensures) at c.in_ok-push.ensures.ok in let grows = ap (λ (all : List (Expr × Expr)). most (map (λ x. max (levels x.0) (levels x.1)) all)) grown in record { reads = λ o rest. c.items.invariant.reads o (Loop.on (further (c.sees.ensures.no c.items-test.true) (goes c.in_ok-key.ensures.reads (looks (c.sees-goes_on.ensures.yes c.if-not-goes_on.false) (goes refl refl)))) (let P : List (Expr × Expr) → Type 0 = λ all. entries_before c.args.self.now.tokens.now c.args.self.now.room c.args.closing all (c.in_ok-key.field-0.at + 1) o in subst P grown (rw (c.skip-at.ensures.next) at rest))); levels = omega (arith, grows, most_push (λ x. max (levels x.0) (levels x.1)) c.items.items (c.in_ok-key.field-0.key, c.in_ok-key.field-0.value), f.levels); fits = omega (arith, f.fits); after = omega (arith, f.after); within = c.skip-at.ensures.within }

pub returns-clause-reads : goal.returns-clause-reads
returns-clause-reads g c = c.items.invariant.reads _ (Loop.last (closed (c.sees.ensures.yes c.items-test.false)))
