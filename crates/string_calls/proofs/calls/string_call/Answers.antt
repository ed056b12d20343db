use Rattle.string_calls.proofs.Known.{known_answer}
use Rattle.string_calls.proofs.calls.string_call.Goals as goal

pub returns-clause-known : goal.returns-clause-known
returns-clause-known c = known_answer c.args.heap.now.state c.answer.new.heap.state c.args.method c.args.of.now c.args.args.now c.answer.result c.answer.ensures.given
