use Rattle.std.proofs.Common.{Some, ap, sym, ◌∙◌}
use denote.Enum.Bare.{same_true}
use Rattle.gd_syntax.specs.contracts.token.Mark.{the_type}
use Rattle.gd_exprs.proofs.reader.sees.Goals as goal

pub returns-in-Some-clause-yes : goal.returns-in-Some-clause-yes
returns-in-Some-clause-yes c = λ e. sym c.mark_at.ensures ∙ c.in-Some.is ∙ ap Some (same_true the_type tt _ _ (sym c.eq.ensures ∙ e))
