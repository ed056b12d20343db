use Rattle.std.proofs.Common.{rules}
use Rattle.host_io.proofs.Once.{form-push}
use Rattle.host_io.proofs.host.Walk.add.Goals as goal

pub invariant_of-self : goal.invariant_of-self
invariant_of-self c = record { form = form-push _ c.args.self.now.paths.items _ c.args.path c.args.self.now.form (search rules) c.push.ensures.items }
