use Rattle.gd_syntax.proofs.Steps.{answers_by}
use Rattle.gd_syntax.specs.Reading.Then.{goes, halts}
use Rattle.gd_parser.proofs.HeadSteps.{no_member_refused, no_member_given}
use Rattle.gd_parser.specs.Files.{anywhere}
use Rattle.std.proofs.Common.{refl, sym, ◌∙◌}
use Rattle.gd_parser.proofs.script.without_first_member.Goals as goal

pub returns-then-behind_field : goal.returns-then-behind_field
returns-then-behind_field c = record { reads = rw (c.refuse.ensures) (halts (no_member_refused c.args.tokens.now anywhere c.args.sofar.behind.items c.args.at _ (sym c.requires.flags.field ∙ c.if-behind_field.true) refl)) }

pub returns : goal.returns
returns c = record { reads = let h = rw (c.in_ok-all.ensures, c.new.ensures) at c.rest.ensures.reads in answers_by _ _ _ _ c.rest.result (λ x a. goes (no_member_given c.args.tokens.now anywhere c.args.sofar.behind.items c.args.at _ (sym c.requires.flags.field ∙ c.if-behind_field.false) refl) a) (λ x a. goes (no_member_given c.args.tokens.now anywhere c.args.sofar.behind.items c.args.at _ (sym c.requires.flags.field ∙ c.if-behind_field.false) refl) a) h }
