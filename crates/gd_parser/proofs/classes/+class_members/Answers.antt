use Rattle.gd_syntax.proofs.Steps.{exit, answers_by}
use Rattle.gd_syntax.specs.Reading.Then.{goes, halts}
use Rattle.gd_syntax.specs.Reading.Look.{looks}
use Rattle.gd_syntax.specs.Reading.{Loop, Read, Fails}
use Rattle.gd_syntax.specs.TokenReading.{place_at}
use Rattle.gd_syntax.specs.declared.tree.member.Member.{Member}
use Rattle.gd_syntax.proofs.StatementSteps.{class_full}
use Rattle.gd_syntax.specs.MemberGrammar.{is_member, members, class_block}
use Rattle.gd_parser.proofs.Others.{member_plain, member_plain_stops, class_of}
use Rattle.std.proofs.Common.{List, ap, arith, refl, subst, sym, ℕ, ◌∙◌}
use Rattle.gd_parser.proofs.classes.+class_members.Goals as goal

pub member_list-returns-in_err-below-clause-reads : goal.member_list-returns-in_err-below-clause-reads
member_list-returns-in_err-below-clause-reads t c = exit _ _ _ _ _ c.from_residual.ensures.1 (λ f h. c.members.invariant.reads _ (Loop.stop (looks (sym (c.is_member.ensures ∙ ap is_member c.mark_at.ensures) ∙ c.members-test.true) (halts h)))) (rw (c.len.ensures) at c.in_err-below.ensures.reads)

pub member_list-returns-in_err-found-clause-reads : goal.member_list-returns-in_err-found-clause-reads
member_list-returns-in_err-found-clause-reads t c = exit _ _ _ _ _ c.from_residual-in_err-found.ensures.1 (λ f h. c.members.invariant.reads _ (Loop.stop (looks (sym (c.is_member.ensures ∙ ap is_member c.mark_at.ensures) ∙ c.members-test.true) (goes (rw (c.len.ensures) at c.in_ok-below.ensures.reads) (halts h))))) c.in_err-found.ensures.reads

pub member_list-members-preserved : goal.member_list-members-preserved
member_list-members-preserved t c = record { reads = λ o rest. c.members.invariant.reads o (Loop.on (looks (sym (c.is_member.ensures ∙ ap is_member c.mark_at.ensures) ∙ c.members-test.true) (goes (rw (c.len.ensures) at c.in_ok-below.ensures.reads) (goes c.in_ok-found.ensures.reads refl))) (let P : List Member → Type 0 = λ all. members c.args.tokens.now (class_block c.args.tokens.now c.args.room) (all, c.in_ok-found.found.classes) c.in_ok-found.found.at o in subst P c.in_ok-push.ensures.ok rest)); after = omega (arith, c.in_ok-found.ensures.after); within = c.in_ok-found.ensures.within }

pub member_list-returns-clause-reads : goal.member_list-returns-clause-reads
member_list-returns-clause-reads t c = c.members.invariant.reads _ (Loop.last (looks (sym (c.is_member.ensures ∙ ap is_member c.mark_at.ensures) ∙ c.members-test.false) refl))

pub class_block-returns-then-room-eq0-clause-reads : goal.class_block-returns-then-room-eq0-clause-reads
class_block-returns-then-room-eq0-clause-reads t c = let P : ℕ → Type 0 = λ room. Fails c.fault_at.result (class_block c.args.tokens.now room c.args.classes c.args.at) in subst P (sym c.if-room-eq0.true) (rw (c.fault_at.ensures) (class_full c.args.tokens.now c.args.classes c.args.at _ refl))

pub class_block-returns-in_err-indent-clause-reads : goal.class_block-returns-in_err-indent-clause-reads
class_block-returns-in_err-indent-clause-reads t c = exit _ _ _ _ _ c.from_residual.ensures.1 (λ f h. class_of c.args.tokens.now c.args.room c.args.classes c.args.at _ (omega arith) (halts h)) c.in_err-indent.ensures.reads

pub class_block-returns-in_err-start-clause-reads : goal.class_block-returns-in_err-start-clause-reads
class_block-returns-in_err-start-clause-reads t c = exit _ _ _ _ _ c.from_residual-in_err-start.ensures.1 (λ f h. class_of c.args.tokens.now c.args.room c.args.classes c.args.at _ (omega arith) (goes c.in_ok-indent.ensures.reads (halts h))) c.in_err-start.ensures.reads

pub class_block-returns-in_err-members-clause-reads : goal.class_block-returns-in_err-members-clause-reads
class_block-returns-in_err-members-clause-reads t c = exit _ _ _ _ _ c.from_residual-in_err-members.ensures.1 (λ f h. class_of c.args.tokens.now c.args.room c.args.classes c.args.at _ (omega arith) (goes c.in_ok-indent.ensures.reads (goes c.in_ok-start.ensures.reads (halts h)))) (rw (c.new.ensures) at c.in_err-members.ensures.reads)

pub class_block-returns-in_err-end-clause-reads : goal.class_block-returns-in_err-end-clause-reads
class_block-returns-in_err-end-clause-reads t c = exit _ _ _ _ _ c.from_residual-in_err-end.ensures.1 (λ f h. class_of c.args.tokens.now c.args.room c.args.classes c.args.at _ (omega arith) (goes c.in_ok-indent.ensures.reads (goes c.in_ok-start.ensures.reads (goes (rw (c.new.ensures) at c.in_ok-members.ensures.reads) (halts h))))) c.in_err-end.ensures.reads

pub class_block-returns-clause-reads : goal.class_block-returns-clause-reads
class_block-returns-clause-reads t c = class_of c.args.tokens.now c.args.room c.args.classes c.args.at _ (omega arith) (goes c.in_ok-indent.ensures.reads (goes c.in_ok-start.ensures.reads (goes (rw (c.new.ensures) at c.in_ok-members.ensures.reads) (goes c.in_ok-end.ensures.reads refl))))

pub inner_class-returns-in_err-below-clause-reads : goal.inner_class-returns-in_err-below-clause-reads
inner_class-returns-in_err-below-clause-reads t c = exit _ _ _ _ _ c.from_residual.ensures.1 (λ f h. halts h) c.in_err-below.ensures.reads

pub inner_class-returns-in_err-name-clause-reads : goal.inner_class-returns-in_err-name-clause-reads
inner_class-returns-in_err-name-clause-reads t c = exit _ _ _ _ _ c.from_residual-in_err-name.ensures.1 (λ f h. goes c.in_ok-below.ensures.reads (goes (ap (λ n. Read tt n) c.skip.ensures.next) (halts h))) c.in_err-name.ensures.reads

pub inner_class-returns-in_err-base-clause-reads : goal.inner_class-returns-in_err-base-clause-reads
inner_class-returns-in_err-base-clause-reads t c = exit _ _ _ _ _ c.from_residual-in_err-base.ensures.1 (λ f h. goes c.in_ok-below.ensures.reads (goes (ap (λ n. Read tt n) c.skip.ensures.next) (goes c.in_ok-name.ensures.reads (halts h)))) c.in_err-base.ensures.reads

pub inner_class-returns-in_err-start-clause-reads : goal.inner_class-returns-in_err-start-clause-reads
inner_class-returns-in_err-start-clause-reads t c = exit _ _ _ _ _ c.from_residual-in_err-start.ensures.1 (λ f h. goes c.in_ok-below.ensures.reads (goes (ap (λ n. Read tt n) c.skip.ensures.next) (goes c.in_ok-name.ensures.reads (goes c.in_ok-base.ensures.reads (halts h))))) c.in_err-start.ensures.reads

pub inner_class-returns-in_err-members-clause-reads : goal.inner_class-returns-in_err-members-clause-reads
inner_class-returns-in_err-members-clause-reads t c = exit _ _ _ _ _ c.from_residual-in_err-members.ensures.1 (λ f h. goes c.in_ok-below.ensures.reads (goes (ap (λ n. Read tt n) c.skip.ensures.next) (goes c.in_ok-name.ensures.reads (goes c.in_ok-base.ensures.reads (goes c.in_ok-start.ensures.reads (halts h)))))) c.in_err-members.ensures.reads

pub inner_class-returns-clause-reads : goal.inner_class-returns-clause-reads
inner_class-returns-clause-reads t c = goes c.in_ok-below.ensures.reads (goes (ap (λ n. Read tt n) c.skip.ensures.next) (goes c.in_ok-name.ensures.reads (goes c.in_ok-base.ensures.reads (goes c.in_ok-start.ensures.reads (goes c.in_ok-members.ensures.reads (rw (c.place_at-place.ensures)))))))

pub member-returns-then-sees-clause-reads : goal.member-returns-then-sees-clause-reads
member-returns-then-sees-clause-reads t c = answers_by _ _ _ _ c.inner_class.result (λ x a. looks (c.sees.ensures.yes c.if-sees.true) a) (λ x a. looks (c.sees.ensures.yes c.if-sees.true) a) c.inner_class.ensures.reads

pub member-returns-in_err-tree-clause-reads : goal.member-returns-in_err-tree-clause-reads
member-returns-in_err-tree-clause-reads t c = exit _ _ _ _ _ c.from_residual.ensures.1 (λ f h. member_plain_stops c.args.tokens.now (class_block c.args.tokens.now c.args.room) c.args.classes (place_at c.args.tokens.now c.args.at) c.args.at (c.sees.ensures.no c.if-sees.false) h) c.in_err-tree.ensures.reads

pub member-returns-clause-reads : goal.member-returns-clause-reads
member-returns-clause-reads t c = member_plain c.args.tokens.now (class_block c.args.tokens.now c.args.room) c.args.classes (place_at c.args.tokens.now c.args.at) c.args.at (c.sees.ensures.no c.if-sees.false) c.in_ok-tree.ensures.reads
