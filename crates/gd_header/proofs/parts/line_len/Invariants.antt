use Rattle.std.proofs.Common.{◌≡◌, ◌+◌, ◌≤◌, length}
use Rattle.std.specs.Str.{chars, IsUtf8}
use Rattle.gd_syntax.specs.Spellings.{line_len}
use Rattle.gd_header.proofs.parts.line_len.Given as goal

abbrev pub invariant-loop-after : goal.invariant-loop-after
invariant-loop-after l = (l.n + line_len (chars l.rest) ≡ line_len (chars l.fn.text)) × IsUtf8 l.rest × (l.n + length l.rest ≤ length l.fn.text)

abbrev pub decreases-loop-after : goal.decreases-loop-after
decreases-loop-after l = length l.rest
