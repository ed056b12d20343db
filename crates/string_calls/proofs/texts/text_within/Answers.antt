use Rattle.string_calls.proofs.Levels.{answers_string}
use Rattle.string_calls.proofs.texts.text_within.Goals as goal

pub returns-in-Str : goal.returns-in-Str
returns-in-Str c = answers_string c.args.heap.now.state.cells c.args.names.now c.args.v.now c.in-Str.text c.fitting.result c.in-Str.is c.fitting.ensures
