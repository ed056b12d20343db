use Rattle.std.proofs.Common.{◌≡◌, bytes_eq, length}
use Rattle.gd_tokens.proofs.signs.is_spelling.Given as goal

abbrev pub invariant-loop-left : goal.invariant-loop-left
invariant-loop-left l = bytes_eq l.left l.rest ≡ bytes_eq l.fn.spelling l.fn.text

abbrev pub decreases-loop-left : goal.decreases-loop-left
decreases-loop-left l = length l.left
