use Rattle.std.proofs.Common.{◌∙◌, arith}
use Rattle.gd_tokens.proofs.Scans.{repeats_turn, turn_length}
use Rattle.gd_tokens.proofs.strings.repeats.Goals as goal

pub loop-left-preserved : goal.loop-left-preserved
loop-left-preserved c =
    let one = c.in-len1-up.len_at_least in
    (repeats_turn c.args.quote c.c-item.result c.loop-left.left c.loop-left.rest.now (omega arith) one c.c-item.is c.if-c-quote.false ∙ c.loop-left.invariant.0, omega (arith, turn_length c.loop-left.rest.now one))
