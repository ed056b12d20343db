use Rattle.std.proofs.Common.{◌≡◌, ◌+◌, length}
use Rattle.gd_syntax.specs.Spellings.{behind, contents}
use Rattle.gd_tokens.proofs.StringParts.{further}
use Rattle.text_scene.proofs.escapes.read_string.Given as goal

abbrev pub invariant-loop-rest : goal.invariant-loop-rest
invariant-loop-rest l = (further l.n (behind l.made (contents 34 1 0 l.rest)) ≡ contents 34 1 0 l.fn.text) × (l.n + length l.rest ≡ length l.fn.text)

abbrev pub decreases-loop-rest : goal.decreases-loop-rest
decreases-loop-rest l = length l.rest
