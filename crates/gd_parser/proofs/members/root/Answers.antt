use Rattle.gd_syntax.specs.TokenReading.{OneOf}
use Rattle.gd_parser.proofs.Others.{root_other}
use Rattle.gd_syntax.specs.MemberGrammar.{root_of}
use Rattle.std.proofs.Common.{ap, sym, ◌∙◌}
use Rattle.gd_parser.proofs.members.root.Goals as goal

pub returns-in_ok-path-in-Text-clause-reads : goal.returns-in_ok-path-in-Text-clause-reads
returns-in_ok-path-in-Text-clause-reads c = rw (c.skip.ensures.next, c.in_ok-path-in-Text.ensures.cases) (OneOf.found (ap root_of (sym c.kind_at.ensures ∙ c.in-Text.is)))

pub returns-in_ok-name-in-Name-clause-reads : goal.returns-in_ok-name-in-Name-clause-reads
returns-in_ok-name-in-Name-clause-reads c = rw (c.skip-in-Name.ensures.next, c.in_ok-name-in-Name.ensures.cases) (OneOf.found (ap root_of (sym c.kind_at.ensures ∙ c.in-Name.is)))

pub returns-in_default-clause-reads : goal.returns-in_default-clause-reads
returns-in_default-clause-reads c = rw (c.refuse.ensures) (OneOf.missing (root_other _ (λ text e. c.in_default.not-Text text (c.kind_at.ensures ∙ e)) (λ text e. c.in_default.not-Name text (c.kind_at.ensures ∙ e))))
