use Rattle.std.proofs.Common.{◌≡◌, ◌+◌, length}
use Rattle.gd_syntax.specs.Spellings.{behind, contents}
use Rattle.gd_tokens.proofs.StringParts.{further}
use Rattle.gd_tokens.proofs.strings.read_contents.Given as goal

abbrev pub invariant-loop-rest : goal.invariant-loop-rest
invariant-loop-rest l = (further l.n (behind l.made (contents l.fn.quote l.fn.count 0 l.rest)) ≡ contents l.fn.quote l.fn.count 0 l.fn.text) × (l.n + length l.rest ≡ length l.fn.text)

abbrev pub decreases-loop-rest : goal.decreases-loop-rest
decreases-loop-rest l = length l.rest
