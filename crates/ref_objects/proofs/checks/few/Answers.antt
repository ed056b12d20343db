use Rattle.std.proofs.Common.{◌<◌, arith}
use Rattle.std.proofs.lemmas.Bool.{ltb-true}
use Rattle.ref_objects.proofs.Holding.{get_or-held_of}
use Rattle.ref_objects.proofs.checks.few.Goals as goal

pub returns : goal.returns
returns c = λ t.
    let few : c.count.result < 1000000 = ltb-true c.count.result 1000000 t in
    omega (arith, get_or-held_of c.args.slots.now c.args.x, few, c.count.ensures)
