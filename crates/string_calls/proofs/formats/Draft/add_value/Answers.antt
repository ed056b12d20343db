use Rattle.std.proofs.Common.{ap}
use Rattle.string_calls.specs.Directives.{directive_of, letter_of}
use Rattle.string_calls.proofs.Drafting.{text_shown}
use Rattle.string_calls.proofs.formats.Draft.add_value.Goals as goal

pub returns-in_ok-add_text-in-Text : goal.returns-in_ok-add_text-in-Text
returns-in_ok-add_text-in-Text c = (_, (_, (text_shown c.args.heap.now.state.cells c.args.names.now (directive_of c.args.d.now) c.args.v.now (ap letter_of c.in-Text.is), c.in_ok-add_text-in-Text.ensures)))
