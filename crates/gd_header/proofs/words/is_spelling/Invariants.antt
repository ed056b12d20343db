use Rattle.std.proofs.Common.{◌≡◌, bytes_eq, length}
use Rattle.std.specs.Str.{chars, IsUtf8}
use Rattle.gd_header.proofs.words.is_spelling.Given as goal

abbrev pub invariant-loop-left : goal.invariant-loop-left
invariant-loop-left l = (bytes_eq l.left (chars l.rest) ≡ bytes_eq l.fn.spelling (chars l.fn.text)) × IsUtf8 l.rest

abbrev pub decreases-loop-left : goal.decreases-loop-left
decreases-loop-left l = length l.left
