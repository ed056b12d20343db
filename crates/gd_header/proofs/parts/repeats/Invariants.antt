use Rattle.std.proofs.Common.{◌≡◌}
use Rattle.std.specs.Str.{chars, IsUtf8}
use Rattle.gd_syntax.specs.Spellings.{repeats}
use Rattle.gd_header.proofs.parts.repeats.Given as goal

abbrev pub invariant-loop-left : goal.invariant-loop-left
invariant-loop-left l = (repeats l.fn.quote l.left (chars l.rest) ≡ repeats l.fn.quote l.fn.count (chars l.fn.text)) × IsUtf8 l.rest

abbrev pub decreases-loop-left : goal.decreases-loop-left
decreases-loop-left l = l.left
