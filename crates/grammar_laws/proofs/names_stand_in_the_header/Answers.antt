use Rattle.grammar_laws.proofs.NamesOfScripts.{script_names}
use Rattle.grammar_laws.proofs.names_stand_in_the_header.Goals as goal

pub returns : goal.returns
returns c tokens header_end at next tree = script_names tokens header_end at next tree
