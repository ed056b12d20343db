use Rattle.std.proofs.Common.{◌≡◌, ◌≤◌, ◌+◌, length}
use Rattle.scene_syntax.specs.Values.{outside, value_len}
use Rattle.text_scene.specs.ValueParts.{inside_of}
use Rattle.text_scene.proofs.ValueTurns.{more}
use Rattle.text_scene.proofs.values.value_len.Given as goal

abbrev pub invariant-loop-rest : goal.invariant-loop-rest
invariant-loop-rest l = (more l.n (value_len (inside_of l.inside) l.depth l.rest) ≡ value_len outside 0 l.fn.text) × (l.n + length l.rest ≡ length l.fn.text) × (l.depth ≤ l.n)

abbrev pub decreases-loop-rest : goal.decreases-loop-rest
decreases-loop-rest l = length l.rest
