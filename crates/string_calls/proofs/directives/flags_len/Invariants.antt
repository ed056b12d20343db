use Rattle.std.proofs.Common.{◌≡◌, ◌+◌, length}
use Rattle.std.specs.List.{prefix_len}
use Rattle.variant_values.specs.Formats.{is_flag}
use Rattle.string_calls.proofs.directives.flags_len.Given as goal

abbrev pub decreases-loop-rest : goal.decreases-loop-rest
decreases-loop-rest l = length l.rest

abbrev pub invariant-loop-rest : goal.invariant-loop-rest
invariant-loop-rest l = record {
  whole : l.n + length l.rest ≡ length l.bytes;
  prefix : l.n + prefix_len is_flag l.rest ≡ prefix_len is_flag l.bytes;
}
