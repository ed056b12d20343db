use Rattle.std.proofs.Common.{◌≡◌, length}
use Rattle.std.specs.List.{list_all}
use Rattle.gd_syntax.specs.Spellings.{is_digit}
use Rattle.text_scene.proofs.escapes.are_digits.Given as goal

abbrev pub invariant-loop-rest : goal.invariant-loop-rest
invariant-loop-rest l = list_all (is_digit 16) l.rest ≡ list_all (is_digit 16) l.fn.text

abbrev pub decreases-loop-rest : goal.decreases-loop-rest
decreases-loop-rest l = length l.rest
