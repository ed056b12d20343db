use Rattle.std.proofs.Common.{◌≡◌}
use Rattle.gd_syntax.specs.Spellings.{sign_at}
use Rattle.gd_tokens.proofs.signs.sign.Given as goal

abbrev pub invariant-loop-n : goal.invariant-loop-n
invariant-loop-n l = sign_at l.n l.fn.text ≡ sign_at 3 l.fn.text

abbrev pub decreases-loop-n : goal.decreases-loop-n
decreases-loop-n l = l.n
