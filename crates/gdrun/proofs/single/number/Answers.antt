use Rattle.gdrun.proofs.Chains.{no_number}
use Rattle.gdrun.proofs.single.number.Goals as goal

pub returns-in_default : goal.returns-in_default
returns-in_default c = no_number c.args.expr.now c.in_default.not-Literal
