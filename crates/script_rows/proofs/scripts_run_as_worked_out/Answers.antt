use Rattle.script_rows.proofs.TypeRowsProved.{type_rows}
use Rattle.script_rows.proofs.FirstRowsProved.{first_rows}
use Rattle.script_rows.proofs.ExpressionRowsProved.{expression_rows}
use Rattle.script_rows.proofs.NativeRowsProved.{native_rows}
use Rattle.script_rows.proofs.CallRowsProved.{call_rows}
use Rattle.script_rows.proofs.NameRowsProved.{name_rows}
use Rattle.script_rows.proofs.ClassRowsProved.{class_rows}
use Rattle.script_rows.proofs.VariableRowsProved.{variable_rows}
use Rattle.script_rows.proofs.StatementRowsProved.{statement_rows}
use Rattle.script_rows.proofs.PatternRowsProved.{pattern_rows}
use Rattle.script_rows.proofs.EmissionRowsProved.{emission_rows}
use Rattle.script_rows.proofs.SignalRowsProved.{signal_rows}
use Rattle.script_rows.proofs.TreeRowsProved.{tree_rows}
use Rattle.script_rows.proofs.scripts_run_as_worked_out.Goals as goal

pub returns-clause-first : goal.returns-clause-first
returns-clause-first c = first_rows

pub returns-clause-expressions : goal.returns-clause-expressions
returns-clause-expressions c = expression_rows

pub returns-clause-natives : goal.returns-clause-natives
returns-clause-natives c = native_rows

pub returns-clause-calls : goal.returns-clause-calls
returns-clause-calls c = call_rows

pub returns-clause-names : goal.returns-clause-names
returns-clause-names c = name_rows

pub returns-clause-classes : goal.returns-clause-classes
returns-clause-classes c = class_rows

pub returns-clause-variables : goal.returns-clause-variables
returns-clause-variables c = variable_rows

pub returns-clause-statements : goal.returns-clause-statements
returns-clause-statements c = statement_rows

pub returns-clause-patterns : goal.returns-clause-patterns
returns-clause-patterns c = pattern_rows

pub returns-clause-emissions : goal.returns-clause-emissions
returns-clause-emissions c = emission_rows

pub returns-clause-signals : goal.returns-clause-signals
returns-clause-signals c = signal_rows

pub returns-clause-trees : goal.returns-clause-trees
returns-clause-trees c = tree_rows

pub returns-clause-types : goal.returns-clause-types
returns-clause-types c = type_rows
