use Rattle.std.proofs.Common.{rules, ap, ◌≡◌}
use Rattle.script_cache.proofs.Again.{stands}
use Rattle.script_cache.proofs.cache.ScriptCache.try_give_back.Goals as goal

pub returns-clause-given_back : goal.returns-clause-given_back
returns-clause-given_back g c = record {
  found = c.in-Ok.turn.value.core.state;
  entry = record {
    turns = search rules;
    found_log = search rules;
    found_tasks = search rules;
    its_project = search rules;
    begins = c.in-Ok.ensures.entered.seen;
    log = search rules;
    in_progress = search rules;
    lost = search rules;
    splits = search rules;
    earlier = search rules;
  };
}

pub returns-clause-stands : goal.returns-clause-stands
returns-clause-stands g c =
    let file : c.job.inside.claim.file ≡ c.args.job.file = ap (λ j. j.file) c.job.view_is in
    let stage : c.job.inside.claim.stage ≡ c.args.job.stage = ap (λ j. j.stage) c.job.view_is in
    rw (← file, ← stage) (record {
      in_progress = c.give_back.new.self.state.in_progress;
      left = search rules;
      stands = stands g.W.Out.StageOut c.value.result.now.core.state c.give_back.new.self.state _ _ _ c.give_back.ensures.after (search rules) c.stays_open.ensures.«open»;
    })
