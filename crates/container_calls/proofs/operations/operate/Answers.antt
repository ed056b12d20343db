use Rattle.container_calls.proofs.Plain.{plain_known}
use Rattle.container_calls.proofs.operations.operate.Goals as goal

pub returns-in_default-clause-known : goal.returns-in_default-clause-known
returns-in_default-clause-known c = plain_known c.plain.result c.args.op c.args.a.now c.args.b.now c.args.heap.now.state.cells c.plain.ensures
