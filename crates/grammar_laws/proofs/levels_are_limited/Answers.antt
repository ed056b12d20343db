use Rattle.grammar_laws.proofs.LevelsOfExprs.{low_expression}
use Rattle.grammar_laws.proofs.LevelsOfPatterns.{pattern_low, unbound_low}
use Rattle.grammar_laws.proofs.levels_are_limited.Goals as goal

pub returns-clause-expressions : goal.returns-clause-expressions
returns-clause-expressions c tokens = low_expression tokens

pub returns-clause-patterns : goal.returns-clause-patterns
returns-clause-patterns c tokens = pattern_low tokens

pub returns-clause-unbound : goal.returns-clause-unbound
returns-clause-unbound c tokens = unbound_low tokens
