use Rattle.std.proofs.Common.{◌≡◌, ◌+◌, length}
use Rattle.std.specs.List.{prefix_len}
use Rattle.std.specs.Char.{is_ascii_digit}
use Rattle.string_calls.proofs.directives.digits_len.Given as goal

abbrev pub decreases-loop-rest : goal.decreases-loop-rest
decreases-loop-rest l = length l.rest

abbrev pub invariant-loop-rest : goal.invariant-loop-rest
invariant-loop-rest l = record {
  whole : l.n + length l.rest ≡ length l.bytes;
  prefix : l.n + prefix_len is_ascii_digit l.rest ≡ prefix_len is_ascii_digit l.bytes;
}
