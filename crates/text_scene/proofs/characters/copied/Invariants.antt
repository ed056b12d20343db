use Rattle.std.proofs.Common.{◌≡◌, take}
use Rattle.text_scene.proofs.characters.copied.Given as goal

abbrev pub invariant-loop-c : goal.invariant-loop-c
invariant-loop-c l = l.made ≡ take l.c-index l.text
