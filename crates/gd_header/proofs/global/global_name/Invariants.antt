use Rattle.std.proofs.Common.{◌≡◌, length}
use Rattle.std.specs.Str.{chars}
use Rattle.gd_syntax.specs.Header.{name_from}
use Rattle.gd_syntax.specs.Layout.{text_start}
use Rattle.gd_header.proofs.global.global_name.Given as goal

abbrev pub invariant-loop-cursor : goal.invariant-loop-cursor
invariant-loop-cursor l = name_from 0 l.cursor.place (chars l.cursor.rest.now) ≡ name_from 0 text_start (chars l.fn.text)

abbrev pub decreases-loop-cursor : goal.decreases-loop-cursor
decreases-loop-cursor l = length l.cursor.rest.now
