use Rattle.std.proofs.Common.{◌≡◌, ◌≤◌, [], length}
use Rattle.gd_syntax.specs.Layout.{lines_of, pieces}
use Rattle.gd_tokens.specs.LineParts.{front_of, lines_from}
use Rattle.gd_tokens.proofs.lines.read_line.Given as goal

abbrev pub invariant-loop-line : goal.invariant-loop-line
invariant-loop-line l = (lines_from (front_of l.line) l.reader.place l.reader.rest.now ≡ lines_of [] (pieces 0 l.fn.reader.place l.fn.reader.rest.now)) × (length l.reader.rest.now ≤ length l.fn.reader.rest.now)

abbrev pub decreases-loop-line : goal.decreases-loop-line
decreases-loop-line l = length l.reader.rest.now
