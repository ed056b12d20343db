use Rattle.std.proofs.Common.{◌≡◌, ◌≤◌, length, reverse}
use Rattle.gd_syntax.specs.Layout.{kept}
use Rattle.gd_tokens.proofs.layout.close_deeper.Given as goal

abbrev pub invariant-loop-depths : goal.invariant-loop-depths
invariant-loop-depths l = (kept l.depth (reverse l.depths.items) ≡ kept l.depth (reverse l.fn.depths.items)) × (length l.depths.items ≤ length l.fn.depths.items)

abbrev pub decreases-loop-depths : goal.decreases-loop-depths
decreases-loop-depths l = length l.depths.items
