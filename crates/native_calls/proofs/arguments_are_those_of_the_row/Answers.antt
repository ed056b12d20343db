use Rattle.native_calls.proofs.Counts.{count_out}
use Rattle.native_calls.proofs.Calls.{method_refused, global_refused}
use Rattle.native_calls.proofs.arguments_are_those_of_the_row.Goals as goal

pub returns-clause-methods : goal.returns-clause-methods
returns-clause-methods c = method_refused

pub returns-clause-globals : goal.returns-clause-globals
returns-clause-globals c = global_refused

pub returns-clause-numbers : goal.returns-clause-numbers
returns-clause-numbers c = count_out
