use Rattle.std.proofs.Common.{◌≡◌, ◌≤◌, ◌+◌, take}
use Rattle.gd_syntax.specs.Layout.{past_all}
use Rattle.gd_tokens.proofs.reader.Reader.place_at.Given as goal

abbrev pub invariant-loop-c : goal.invariant-loop-c
invariant-loop-c l = (l.place ≡ past_all l.fn.self.place (take l.c-index l.fn.self.rest.now)) × (1 ≤ l.place.column) × (l.place.line + l.place.column ≤ l.fn.self.place.line + l.fn.self.place.column + l.c-index)
