use Rattle.std.proofs.Common.{◌<◌, length, get_or, ap, arith}
use Rattle.std.proofs.lemmas.Str.{IsCharBoundary-after_ascii}
use Rattle.string_calls.proofs.edges.without_front.Goals as goal

pub split_at-requires : goal.split_at-requires
split_at-requires c =
    let low : get_or c.loop-rest.rest.now 0 0 < 128 = omega (arith, ap (λ t. get_or t 0 0) c.as_bytes.ensures.value) in
    IsCharBoundary-after_ascii c.loop-rest.rest.now 0 c.loop-rest.invariant.utf8 (omega arith) low
