use Rattle.gd_syntax.proofs.Steps.{exit, comma_none}
use Rattle.gd_syntax.specs.Reading.Then.{goes, halts}
use Rattle.gd_syntax.specs.Reading.Look.{looks}
use Rattle.gd_syntax.specs.Reading.{Loop}
use Rattle.gd_syntax.specs.TokenReading.{Item}
use Rattle.gd_syntax.specs.TokenReading.Item.{closed, further}
use Rattle.gd_syntax.specs.declared.tree.member.EnumItem.{EnumItem}
use Rattle.gd_syntax.specs.MemberGrammar.{item}
use Rattle.std.proofs.Common.{List, arith, refl, subst, ◌+◌}
use Rattle.gd_syntax.specs.declared.token.Mark.TheVariants as m
use Rattle.gd_parser.proofs.members.enum_items.Goals as goal

pub returns-in_err-item-clause-reads : goal.returns-in_err-item-clause-reads
returns-in_err-item-clause-reads c = exit _ _ _ _ _ c.from_residual.ensures.1 (λ f h. c.items.invariant.reads _ (Loop.stop (further (c.sees.ensures.no c.items-test.true) (halts h)))) c.in_err-item.ensures.reads

pub returns-then-not-goes_on-clause-reads : goal.returns-then-not-goes_on-clause-reads
returns-then-not-goes_on-clause-reads c = rw c.in_ok-push.ensures.ok (c.items.invariant.reads _ (Loop.last (further (c.sees.ensures.no c.items-test.true) (goes c.in_ok-item.ensures.reads (comma_none c.args.tokens.now _ _ (c.sees-goes_on.ensures.no c.if-not-goes_on.true))))))

pub items-preserved : goal.items-preserved
items-preserved c = record { reads = λ o rest. c.items.invariant.reads o (Loop.on (further (c.sees.ensures.no c.items-test.true) (goes c.in_ok-item.ensures.reads (looks (c.sees-goes_on.ensures.yes c.if-not-goes_on.false) (goes refl refl)))) (let P : List EnumItem → Type 0 = λ all. Loop (Item c.args.tokens.now (item c.args.tokens.now) m.RBrace) all (c.in_ok-item.next + 1) o in subst P c.in_ok-push.ensures.ok (rw (c.skip-at.ensures.next) at rest))); after = omega (arith, c.in_ok-item.ensures.after, c.skip-at.ensures.next); within = c.skip-at.ensures.within }

pub returns-clause-reads : goal.returns-clause-reads
returns-clause-reads c = c.items.invariant.reads _ (Loop.last (closed (c.sees.ensures.yes c.items-test.false)))
