use Rattle.gd_syntax.proofs.Steps.{exit}
use Rattle.gd_syntax.specs.Reading.Then.{goes, halts}
use Rattle.std.specs.Option.{option_copied}
use Rattle.gd_parser.proofs.HeadSteps.{nothing_behind, member_refused, member_read}
use Rattle.gd_parser.specs.Files.{anywhere}
use Rattle.std.proofs.Common.{ap, refl, sym, ◌∙◌}
use Rattle.gd_parser.proofs.script.first_member.Goals as goal

pub returns-in-None-clause-reads : goal.returns-in-None-clause-reads
returns-in-None-clause-reads c = rw (c.new-members.ensures) (nothing_behind c.args.tokens.now anywhere c.args.behind c.args.at _ (sym c.get.ensures.value ∙ ap option_copied c.in-None.is) refl)

pub returns-then-behind_head-clause-reads : goal.returns-then-behind_head-clause-reads
returns-then-behind_head-clause-reads c = rw (c.refuse.ensures) (member_refused c.args.tokens.now anywhere c.args.behind c.args.at _ _ (sym c.get.ensures.value ∙ ap option_copied c.in-Some.is) (sym c.requires.flags ∙ c.if-behind_head.true) refl)

pub returns-in_err-tree-clause-reads : goal.returns-in_err-tree-clause-reads
returns-in_err-tree-clause-reads c = exit _ _ _ _ _ c.from_residual.ensures.1 (λ f h. member_read c.args.tokens.now anywhere c.args.behind c.args.at _ _ (sym c.get.ensures.value ∙ ap option_copied c.in-Some.is) (sym c.requires.flags ∙ c.if-behind_head.false) (halts h)) c.in_err-tree.ensures.reads

pub returns-clause-reads : goal.returns-clause-reads
returns-clause-reads c = rw (c.in_ok-push.ensures.ok, c.new-members.ensures) (member_read c.args.tokens.now anywhere c.args.behind c.args.at _ _ (sym c.get.ensures.value ∙ ap option_copied c.in-Some.is) (sym c.requires.flags ∙ c.if-behind_head.false) (goes c.in_ok-tree.ensures.reads refl))
