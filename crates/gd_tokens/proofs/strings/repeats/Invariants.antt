use Rattle.std.proofs.Common.{◌≡◌, ◌+◌, length}
use Rattle.gd_syntax.specs.Spellings.{repeats}
use Rattle.gd_tokens.proofs.strings.repeats.Given as goal

abbrev pub invariant-loop-left : goal.invariant-loop-left
invariant-loop-left l = (repeats l.fn.quote l.left l.rest ≡ repeats l.fn.quote l.fn.count l.fn.text) × (l.fn.count + length l.rest ≡ l.left + length l.fn.text)

abbrev pub decreases-loop-left : goal.decreases-loop-left
decreases-loop-left l = l.left
