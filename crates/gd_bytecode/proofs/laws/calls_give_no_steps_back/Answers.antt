use Rattle.gd_bytecode.proofs.Goings.{calls_are_frugal}
use Rattle.gd_bytecode.proofs.laws.calls_give_no_steps_back.Goals as goal

pub returns : goal.returns
returns c = calls_are_frugal
