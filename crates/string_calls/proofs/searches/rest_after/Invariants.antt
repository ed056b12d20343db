use Rattle.std.proofs.Common.{◌≡◌, drop, chars}
use Rattle.std.specs.Str.Iter.{chars_rest}
use Rattle.variant_values.specs.StringMethods.{spelled}
use Rattle.string_calls.proofs.searches.rest_after.Given as goal

abbrev pub invariant-loop : goal.invariant-loop
invariant-loop l = chars_rest l.rest ≡ spelled (drop l.counter (chars l.text))
