use Rattle.std.proofs.Common.{w64}
use Rattle.std.proofs.lemmas.Int.{wrapping_mul_is}
use Rattle.gd_machine.proofs.values.times.Goals as goal

pub returns : goal.returns
returns c = wrapping_mul_is w64 c.args.value c.args.factor c.ranges.value c.ranges.factor
