use Rattle.variant_values.specs.declared.operators.BinaryOp.TheVariants.{Rem}
use Rattle.container_calls.proofs.Plain.{divided, plain_known}
use Rattle.container_calls.proofs.operations.remainder.Goals as goal

pub returns-clause-value : goal.returns-clause-value
returns-clause-value c = divided c.plain.result c.args.a.now c.args.b.now c.requires c.plain.ensures

pub returns-clause-known : goal.returns-clause-known
returns-clause-known c = λ cells. plain_known c.plain.result Rem c.args.a.now c.args.b.now cells c.plain.ensures
