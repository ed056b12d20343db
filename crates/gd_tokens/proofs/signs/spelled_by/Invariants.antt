use Rattle.std.proofs.Common.{◌≡◌, length}
use Rattle.gd_syntax.specs.Spellings.{spelled}
use Rattle.gd_tokens.proofs.signs.spelled_by.Given as goal

abbrev pub invariant-loop-left : goal.invariant-loop-left
invariant-loop-left l = spelled l.left l.fn.text ≡ spelled l.fn.marks l.fn.text

abbrev pub decreases-loop-left : goal.decreases-loop-left
decreases-loop-left l = length l.left
