use Rattle.std.proofs.Common.{◌≡◌, ◌<◌, ◌^◌, ◌==◌, not, length}
use Rattle.std.specs.List.{filter}
use Rattle.std.specs.Str.Parse.{digits_value_after}
use Rattle.gd_syntax.specs.Spellings.{number_value}
use Rattle.text_scene.proofs.escapes.number_value.Given as goal

abbrev pub invariant-loop-rest : goal.invariant-loop-rest
invariant-loop-rest l = (digits_value_after 16 l.value (filter (λ c. not (c == 95)) l.rest) ≡ number_value 16 l.fn.digits) × (l.value < 2 ^ 63)

abbrev pub decreases-loop-rest : goal.decreases-loop-rest
decreases-loop-rest l = length l.rest
