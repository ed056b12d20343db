use Rattle.gd_bytecode.proofs.Goings.{enough_goings}
use Rattle.gd_bytecode.proofs.laws.goings_back_suffice.Goals as goal

pub returns : goal.returns
returns c = enough_goings
