use Rattle.std.proofs.Common.{◌∙◌, ap}
use Rattle.std.proofs.lemmas.Int.{wrapping_add_is, wrapping_sub_is}
use Rattle.std.specs.Int.{w64}
use Rattle.variant_values.specs.Operators.{number_of}
use Rattle.variant_values.proofs.operators.int_binary.Goals as goal

pub returns-in-Add : goal.returns-in-Add
returns-in-Add c = rw c.in-Add.is (c.number.ensures ∙ ap number_of (wrapping_add_is w64 c.args.a c.args.b c.ranges.a c.ranges.b))

pub returns-in-Sub : goal.returns-in-Sub
returns-in-Sub c = rw c.in-Sub.is (c.number-in-Sub.ensures ∙ ap number_of (wrapping_sub_is w64 c.args.a c.args.b c.ranges.a c.ranges.b))
