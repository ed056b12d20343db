use Rattle.grammar_laws.proofs.Exists.{has_one}
use Rattle.gdrun.proofs.TakenForms.{only_file, takes_file}
use Rattle.gdrun.proofs.laws.what_is_taken.Goals as goal

pub returns : goal.returns
returns c = record { one = λ tokens at. has_one _ at (only_file tokens) ((takes_file tokens).some at) }
