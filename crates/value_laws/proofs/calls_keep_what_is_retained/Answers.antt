use Rattle.value_laws.proofs.Keeping.{array_kept, dict_kept, string_kept, operator_kept, put_kept}
use Rattle.value_laws.proofs.calls_keep_what_is_retained.Goals as goal

pub returns-clause-arrays : goal.returns-clause-arrays
returns-clause-arrays c = array_kept

pub returns-clause-dicts : goal.returns-clause-dicts
returns-clause-dicts c = dict_kept

pub returns-clause-strings : goal.returns-clause-strings
returns-clause-strings c = string_kept

pub returns-clause-operators : goal.returns-clause-operators
returns-clause-operators c = operator_kept

pub returns-clause-indexes : goal.returns-clause-indexes
returns-clause-indexes c = put_kept
