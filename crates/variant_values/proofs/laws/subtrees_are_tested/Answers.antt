use Rattle.variant_values.proofs.Subtrees.{under_is, is_under_only, no_loop}
use Rattle.variant_values.proofs.laws.subtrees_are_tested.Goals as goal

pub returns-clause-under : goal.returns-clause-under
returns-clause-under c = under_is

pub returns-clause-only : goal.returns-clause-only
returns-clause-only c = is_under_only

pub returns-clause-ends : goal.returns-clause-ends
returns-clause-ends c = λ cells x p grounded. no_loop cells x (grounded x) p
