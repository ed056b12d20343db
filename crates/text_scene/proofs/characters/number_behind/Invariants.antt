use Rattle.std.proofs.Common.{◌≡◌, ◌≤◌, ◌+◌, take}
use Rattle.text_scene.specs.LineParts.{numbers}
use Rattle.text_scene.proofs.characters.number_behind.Given as goal

abbrev pub invariant-loop-c : goal.invariant-loop-c
invariant-loop-c l = (l.line ≡ numbers l.number (take l.c-index l.text)) × (l.line ≤ l.number + l.c-index)
