use Rattle.std.proofs.Common.{◌≡◌, ◌+◌, ◌≤◌, length}
use Rattle.std.specs.List.{prefix_len}
use Rattle.std.specs.Str.{chars, IsUtf8}
use Rattle.gd_syntax.specs.Spellings.{is_blank}
use Rattle.gd_header.proofs.parts.blanks_len.Given as goal

abbrev pub invariant-loop-c : goal.invariant-loop-c
invariant-loop-c l = (l.n + prefix_len is_blank (chars l.rest) ≡ prefix_len is_blank (chars l.fn.text)) × IsUtf8 l.rest × (l.n + length l.rest ≤ length l.fn.text)

abbrev pub decreases-loop-c : goal.decreases-loop-c
decreases-loop-c l = length l.rest
