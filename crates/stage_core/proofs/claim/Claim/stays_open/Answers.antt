use Rattle.std.proofs.Common.{subst}
use Rattle.stage_core.specs.Machine.{IsOpen}
use Rattle.stage_core.proofs.Grow.{open_later}
use Rattle.stage_core.proofs.claim.Claim.stays_open.Goals as goal

pub returns : goal.returns
returns g c =
    let t = c.self.inside in
    let task : IsOpen g.O.StageOut c.args.self.now.log c.args.self.now.file c.args.self.now.stage = subst (λ k. IsOpen g.O.StageOut k.log k.file k.stage) c.self.view_is c.self.invariant in
    record { «open» = open_later g.O.StageOut c.args.self.now.log c.args.core.now.state.log c.args.self.now.file c.args.self.now.stage c.requires.later task }
