use Rattle.grammar_laws.proofs.LimitsOfScripts.{kept_script}
use Rattle.grammar_laws.proofs.scripts_are_limited.Goals as goal

pub returns : goal.returns
returns c tokens header_end at next tree = kept_script tokens header_end at next tree
