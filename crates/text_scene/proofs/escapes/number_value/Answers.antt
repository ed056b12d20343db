use Rattle.std.proofs.Common.{arith}
use Rattle.gd_tokens.proofs.Scans.{too_large}
use Rattle.text_scene.proofs.escapes.number_value.Goals as goal

pub returns-in_default-with_digit : goal.returns-in_default-with_digit
returns-in_default-with_digit c =
    let value = c.value_of.ensures.value in
    let refused = c.in_default-with_digit.ensures.value in
    let large = too_large 16 c.loop-rest.value c.c-item.result c.loop-rest.rest.now (omega arith) c.in-len1-up.len_at_least c.c-item.is c.if-c-ne95.true (λ fits. refused (rw value fits)) in
    λ fits. absurd (omega (arith, large, c.loop-rest.invariant.0, fits))
