use Rattle.std.proofs.Common.{◌≡◌, take}
use Rattle.call_support.proofs.copies.copied_entries.Given as goal

abbrev pub invariant-loop-i : goal.invariant-loop-i
invariant-loop-i l = l.copy ≡ take l.i l.entries
