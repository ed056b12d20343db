use Rattle.variant_values.specs.Formats.{format_value}
use Rattle.string_calls.proofs.Operator.{text_given}
use Rattle.string_calls.proofs.formats.format_text.Goals as goal

pub returns-clause-operator : goal.returns-clause-operator
returns-clause-operator c = text_given c.args.heap.now.state c.formatted.result (format_value c.args.heap.now.state.cells c.args.names.now c.args.pattern.now c.args.arg.now) c.formatted.ensures
