use Rattle.gd_syntax.proofs.OnlyTypes.{only_type_name, only_result_type}
use Rattle.gd_syntax.proofs.OnlyPatterns.{only_pattern}
use Rattle.gd_syntax.proofs.OnlyExprs.{only_expression}
use Rattle.grammar_laws.proofs.Exists.{has_one}
use Rattle.grammar_laws.proofs.ExistsTypes.{takes_type_name, takes_result_type}
use Rattle.grammar_laws.proofs.ExistsPatterns.{takes_pattern}
use Rattle.grammar_laws.proofs.ExistsExprs.{form_expression}
use Rattle.gd_syntax.proofs.OnlyStatements.{only_block}
use Rattle.gd_syntax.proofs.OnlyMembers.{only_class_block}
use Rattle.gd_syntax.proofs.OnlyScripts.{only_script}
use Rattle.grammar_laws.proofs.ExistsStatements.{takes_block}
use Rattle.grammar_laws.proofs.ExistsMembers.{takes_class_block}
use Rattle.grammar_laws.proofs.ExistsScripts.{takes_script}
use Rattle.grammar_laws.proofs.one_outcome.Goals as goal

pub returns-clause-types : goal.returns-clause-types
returns-clause-types c tokens sought at = has_one _ at (only_type_name tokens sought) ((takes_type_name tokens sought).some at)

pub returns-clause-results : goal.returns-clause-results
returns-clause-results c tokens at = has_one _ at (only_result_type tokens) ((takes_result_type tokens).some at)

pub returns-clause-patterns : goal.returns-clause-patterns
returns-clause-patterns c tokens room at = has_one _ at (only_pattern tokens room) ((takes_pattern tokens room).some at)

pub returns-clause-expressions : goal.returns-clause-expressions
returns-clause-expressions c tokens room level at = has_one _ at (only_expression tokens room level) ((form_expression tokens room level).takes.some at)

pub returns-clause-blocks : goal.returns-clause-blocks
returns-clause-blocks c tokens room at = has_one _ at (only_block tokens room) ((takes_block tokens room).some at)

pub returns-clause-classes : goal.returns-clause-classes
returns-clause-classes c tokens room classes at = has_one _ at (only_class_block tokens room classes) ((takes_class_block tokens room classes).some at)

pub returns-clause-script : goal.returns-clause-script
returns-clause-script c tokens header_end at = has_one _ at (only_script tokens header_end) ((takes_script tokens header_end).some at)
