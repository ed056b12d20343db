use Rattle.std.proofs.Common.{◌≡◌, ◌+◌, ◌≤◌, length}
use Rattle.std.specs.Prelude.{option_map, false}
use Rattle.std.specs.Str.{chars, IsUtf8}
use Rattle.gd_syntax.specs.Header.{quoted_len}
use Rattle.gd_header.proofs.parts.quoted_len.Given as goal

abbrev pub invariant-loop-c : goal.invariant-loop-c
invariant-loop-c l = (option_map (λ more. l.n + more) (quoted_len l.fn.quote l.fn.count l.escaped (chars l.rest)) ≡ quoted_len l.fn.quote l.fn.count false (chars l.fn.text)) × IsUtf8 l.rest × (l.n + length l.rest ≤ length l.fn.text)

abbrev pub decreases-loop-c : goal.decreases-loop-c
decreases-loop-c l = length l.rest
