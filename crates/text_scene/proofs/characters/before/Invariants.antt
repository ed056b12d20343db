use Rattle.std.proofs.Common.{◌≡◌, ◌+◌, length}
use Rattle.scene_syntax.specs.Lines.{before}
use Rattle.text_scene.proofs.characters.before.Given as goal

abbrev pub invariant-loop-rest : goal.invariant-loop-rest
invariant-loop-rest l = (l.n + before l.fn.c l.rest ≡ before l.fn.c l.fn.text) × (l.n + length l.rest ≡ length l.fn.text)

abbrev pub decreases-loop-rest : goal.decreases-loop-rest
decreases-loop-rest l = length l.rest
