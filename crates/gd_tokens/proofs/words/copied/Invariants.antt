use Rattle.std.proofs.Common.{◌≡◌, take}
use Rattle.gd_tokens.proofs.words.copied.Given as goal

abbrev pub invariant-loop-c : goal.invariant-loop-c
invariant-loop-c l = l.made ≡ take l.c-index l.text
