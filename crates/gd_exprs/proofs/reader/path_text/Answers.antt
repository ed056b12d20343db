use Rattle.gd_syntax.proofs.Steps.{path_none}
use Rattle.gd_syntax.specs.Reading.Look.{looks}
use Rattle.gd_syntax.specs.TokenReading.{place_at}
use Rattle.std.proofs.Common.{refl, sym, ◌∙◌}
use Rattle.gd_exprs.proofs.Parts.{path_uid, path_some}
use Rattle.gd_exprs.proofs.reader.path_text.Goals as goal

pub returns-then-is_uid-clause-reads : goal.returns-then-is_uid-clause-reads
returns-then-is_uid-clause-reads c = rw (c.fault_at.ensures) (looks (sym c.kind_at.ensures ∙ c.in-Text.is) (path_uid c.args.tokens.now c.args.sought (place_at c.args.tokens.now c.args.at) c.in-Text.text c.args.at (sym c.is_uid.ensures ∙ c.if-is_uid.true)))

pub returns-in_ok-text-in-Text-clause-reads : goal.returns-in_ok-text-in-Text-clause-reads
returns-in_ok-text-in-Text-clause-reads c = rw (c.skip.ensures.next, c.in_ok-text-in-Text.ensures.cases, c.place_at-place.ensures) (looks (sym c.kind_at.ensures ∙ c.in-Text.is) (path_some c.args.tokens.now c.args.sought (place_at c.args.tokens.now c.args.at) c.in-Text.text c.args.at (sym c.is_uid.ensures ∙ c.if-is_uid.false)))

pub returns-in_default-clause-reads : goal.returns-in_default-clause-reads
returns-in_default-clause-reads c = rw (c.refuse.ensures) (path_none c.args.tokens.now c.args.sought c.args.at _ (λ text e. c.in_default.not-Text text (c.kind_at.ensures ∙ e)) refl)
