use Rattle.std.proofs.Common.{◌≡◌, ◌≤◌, ◌<◌, length, drop, take}
use Rattle.std.specs.Str.{chars}
use Rattle.gd_syntax.specs.Layout.{past_all}
use Rattle.gd_header.proofs.cursor.Cursor.skip.Given as goal

abbrev pub invariant-loop-left : goal.invariant-loop-left
invariant-loop-left l = (drop l.left (chars l.self.rest.now) ≡ drop l.fn.n (chars l.fn.self.rest.now))
    × (past_all l.self.place (take l.left (chars l.self.rest.now)) ≡ past_all l.fn.self.place (take l.fn.n (chars l.fn.self.rest.now)))
    × (length l.self.rest.now ≤ length l.fn.self.rest.now)
    × (l.left < l.fn.n → 1 ≤ length (chars l.fn.self.rest.now) → length l.self.rest.now < length l.fn.self.rest.now)
    × (l.left ≤ l.fn.n)
    × (l.left ≡ l.fn.n → length (chars l.fn.self.rest.now) ≤ length (chars l.self.rest.now))

abbrev pub decreases-loop-left : goal.decreases-loop-left
decreases-loop-left l = l.left
