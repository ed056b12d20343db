use Rattle.gd_syntax.specs.TokenReading.{OneOf}
use Rattle.gd_parser.specs.Annotations.{may}
use Rattle.gd_parser.proofs.Sorts.{word_some, word_none, word_other}
use Rattle.std.proofs.Common.{sym, ◌∙◌}
use Rattle.gd_parser.proofs.declarations.annotation_name.Goals as goal

pub returns-then-not-may_be-clause-reads : goal.returns-then-not-may_be-clause-reads
returns-then-not-may_be-clause-reads c = rw (c.refuse.ensures) (OneOf.missing (word_none (may c.args.owner) _ _ (sym c.kind_at.ensures ∙ c.in-Name.is) (sym c.may_be.ensures ∙ c.if-not-may_be.true)))

pub returns-in_ok-name-in-Name-clause-reads : goal.returns-in_ok-name-in-Name-clause-reads
returns-in_ok-name-in-Name-clause-reads c = rw (c.skip.ensures.next, c.in_ok-name-in-Name.ensures.cases) (OneOf.found (word_some (may c.args.owner) _ _ (sym c.kind_at.ensures ∙ c.in-Name.is) (sym c.may_be.ensures ∙ c.if-not-may_be.false)))

pub returns-in_default-clause-reads : goal.returns-in_default-clause-reads
returns-in_default-clause-reads c = rw (c.refuse-in_default.ensures) (OneOf.missing (word_other (may c.args.owner) _ (λ text e. c.in_default.not-Name text (c.kind_at.ensures ∙ e))))
