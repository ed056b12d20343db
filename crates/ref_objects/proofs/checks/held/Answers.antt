use Rattle.std.proofs.Common.{◌<◌, arith}
use Rattle.std.proofs.lemmas.Bool.{ltb-true}
use Rattle.ref_objects.proofs.Holding.{get_or-held_of}
use Rattle.ref_objects.proofs.checks.held.Goals as goal

pub returns : goal.returns
returns c = λ t.
    let some : c.places.result < c.count.result = ltb-true c.places.result c.count.result t in
    omega (arith, get_or-held_of c.args.slots.now c.args.x, some, c.places.ensures, c.count.ensures)
