use Rattle.native_calls.proofs.Calls.{method_missing, global_missing}
use Rattle.native_calls.proofs.there_is_no_method_without_a_row.Goals as goal

pub returns-clause-methods : goal.returns-clause-methods
returns-clause-methods c = method_missing

pub returns-clause-globals : goal.returns-clause-globals
returns-clause-globals c = global_missing
