use Rattle.std.proofs.Common.{◌≡◌, ◌+◌, false, length}
use Rattle.gd_syntax.specs.Spellings.{digits_len}
use Rattle.gd_tokens.proofs.numbers.digits_len.Given as goal

abbrev pub invariant-loop-rest : goal.invariant-loop-rest
invariant-loop-rest l = (l.n + digits_len l.fn.radix l.behind l.rest ≡ digits_len l.fn.radix false l.fn.text) × (l.n + length l.rest ≡ length l.fn.text)

abbrev pub decreases-loop-rest : goal.decreases-loop-rest
decreases-loop-rest l = length l.rest
