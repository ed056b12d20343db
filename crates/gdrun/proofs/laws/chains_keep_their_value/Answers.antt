use Rattle.gdrun.proofs.Values.{chain_value}
use Rattle.gdrun.proofs.laws.chains_keep_their_value.Goals as goal

pub returns : goal.returns
returns c = chain_value
