use Rattle.std.proofs.Common.{◌≡◌, [], length, map}
use Rattle.gd_syntax.specs.Layout.{before_byte, front, lines_of, pieces, tokens_before, tokens_of}
use Rattle.gd_tokens.specs.LayoutParts.{layout_of}
use Rattle.gd_tokens.proofs.texts.list_tokens.Given as goal

abbrev pub invariant-loop-out : goal.invariant-loop-out
invariant-loop-out l = front l.out.items (tokens_of (layout_of l.layout) (map (before_byte l.bad) (lines_of [] (pieces 0 l.reader.place l.reader.rest.now)))) ≡ tokens_before l.bad l.text

abbrev pub decreases-loop-out : goal.decreases-loop-out
decreases-loop-out l = length l.reader.rest.now
