use Rattle.script_laws.proofs.KnownRuns.{calls_known, new_known, runs_known, expression_known, statement_known, constants_known}
use Rattle.script_laws.proofs.knowing.what_is_named_is_known.Goals as goal

pub returns-clause-calls : goal.returns-clause-calls
returns-clause-calls c = calls_known

pub returns-clause-new : goal.returns-clause-new
returns-clause-new c = new_known

pub returns-clause-runs : goal.returns-clause-runs
returns-clause-runs c = runs_known

pub returns-clause-expressions : goal.returns-clause-expressions
returns-clause-expressions c = expression_known

pub returns-clause-statements : goal.returns-clause-statements
returns-clause-statements c = statement_known

pub returns-clause-constants : goal.returns-clause-constants
returns-clause-constants c = constants_known
