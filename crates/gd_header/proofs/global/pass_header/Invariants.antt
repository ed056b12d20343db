use Rattle.std.proofs.Common.{length}
use Rattle.std.specs.Str.{chars}
use Rattle.gd_header.proofs.Globals.{IsWithin}
use Rattle.gd_header.proofs.global.pass_header.Given as goal

abbrev pub invariant-loop-c : goal.invariant-loop-c
invariant-loop-c l = IsWithin l.fn.cursor.place (chars l.fn.cursor.rest.now) l.starts l.cursor.place (chars l.cursor.rest.now)

abbrev pub decreases-loop-c : goal.decreases-loop-c
decreases-loop-c l = length l.cursor.rest.now
