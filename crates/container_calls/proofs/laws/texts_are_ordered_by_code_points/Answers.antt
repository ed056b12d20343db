use Rattle.container_calls.proofs.CodePoints.{by_code_points}
use Rattle.container_calls.proofs.laws.texts_are_ordered_by_code_points.Goals as goal

pub returns : goal.returns
returns c = by_code_points c.args.a.now c.args.b.now c.utf8.a c.utf8.b
