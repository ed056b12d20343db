use Rattle.std.proofs.Common.{◌≡◌, ◌≤◌, ◌+◌, length}
use Rattle.std.specs.Prelude.{is_some}
use Rattle.scene_syntax.specs.Lines.{lines}
use Rattle.text_scene.specs.Drafts.{start, whole}
use Rattle.text_scene.proofs.project.read_lines.Given as goal

abbrev pub invariant-loop-rest : goal.invariant-loop-rest
invariant-loop-rest l = (whole l.bad l.draft (lines (is_some l.bad) 0 l.number l.rest) ≡ whole l.bad start (lines (is_some l.bad) 0 1 l.fn.text)) × (l.number + length l.rest ≤ 1 + length l.fn.text) × (length l.rest ≤ length l.fn.text)

abbrev pub decreases-loop-rest : goal.decreases-loop-rest
decreases-loop-rest l = length l.rest
