use Rattle.std.proofs.Common.{◌≡◌, ◌+◌, length}
use Rattle.gd_syntax.specs.Spellings.{line_len}
use Rattle.text_scene.proofs.characters.line_len.Given as goal

abbrev pub invariant-loop-rest : goal.invariant-loop-rest
invariant-loop-rest l = (l.n + line_len l.rest ≡ line_len l.fn.text) × (l.n + length l.rest ≡ length l.fn.text)

abbrev pub decreases-loop-rest : goal.decreases-loop-rest
decreases-loop-rest l = length l.rest
