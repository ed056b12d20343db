use Rattle.token_laws.proofs.FirstFaults.{first_fault}
use Rattle.token_laws.proofs.first_fault.Goals as goal

pub returns : goal.returns
returns c = first_fault c.args.text.now
