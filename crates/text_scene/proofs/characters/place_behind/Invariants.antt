use Rattle.std.proofs.Common.{◌≡◌, ◌≤◌, ◌+◌, take}
use Rattle.gd_syntax.specs.Layout.{past_all, text_start}
use Rattle.text_scene.proofs.characters.place_behind.Given as goal

abbrev pub invariant-loop-c : goal.invariant-loop-c
invariant-loop-c l = (l.place ≡ past_all text_start (take l.c-index l.text)) × (1 ≤ l.place.column) × (l.place.line + l.place.column ≤ 2 + l.c-index)
