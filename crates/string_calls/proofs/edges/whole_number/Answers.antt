use Rattle.std.proofs.Common.{◌∙◌}
use Rattle.string_calls.proofs.Numerals.{parsed_number}
use Rattle.string_calls.proofs.edges.whole_number.Goals as goal

pub returns : goal.returns
returns c = c.ok.ensures.value ∙ parsed_number c.args.text.now c.parse.result c.parse.ensures.value.0
