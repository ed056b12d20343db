use Rattle.value_laws.proofs.Comparing.{value_same, value_other, equality_same, equality_other}
use Rattle.value_laws.proofs.a_comparison_is_by_contents.Goals as goal

pub returns-clause-same : goal.returns-clause-same
returns-clause-same c = value_same

pub returns-clause-other : goal.returns-clause-other
returns-clause-other c = value_other

pub returns-clause-equal : goal.returns-clause-equal
returns-clause-equal c = equality_same

pub returns-clause-unequal : goal.returns-clause-unequal
returns-clause-unequal c = equality_other
