use Rattle.native_calls.proofs.Rows.{named_once}
use Rattle.native_calls.proofs.names_stand_once.Goals as goal

pub returns : goal.returns
returns c = named_once
