use Rattle.std.proofs.Common.{◌≡◌, ◌++◌, drop}
use Rattle.std.specs.List.{flat_map}
use Rattle.variant_values.specs.StringMethods.{plain_text}
use Rattle.string_calls.proofs.joins.write_joined.Given as goal

abbrev pub invariant-loop-v : goal.invariant-loop-v
invariant-loop-v l = l.out ++ flat_map (λ v. l.separator ++ plain_text v) (drop l.v-index l.others) ≡ l.initial.out ++ flat_map (λ v. l.separator ++ plain_text v) l.others
