use Rattle.std.proofs.Common.{rules, ap}
use Rattle.stage_core.specs.Log.{value_of}
use Rattle.script_cache.proofs.Logged.{publish_logged}
use Rattle.script_cache.proofs.cache.ScriptCache.publish.Goals as goal

pub returns-clause-published : goal.returns-clause-published
returns-clause-published g c = record {
  found = c.value.result.now.core.state;
  entry = record {
    turns = search rules;
    found_log = search rules;
    found_tasks = search rules;
    its_project = search rules;
    begins = search rules;
    log = search rules;
    in_progress = search rules;
    lost = search rules;
    splits = search rules;
    earlier = search rules;
  };
}

pub returns-clause-logged : goal.returns-clause-logged
returns-clause-logged g c = publish_logged c.value.result.now.core.state _ c.args.done _ _ (value_of c.done.inside.outcome) (ap (λ d. d.task.file) c.done.view_is) (ap (λ d. d.task.stage) c.done.view_is) c.stays_open.ensures.«open».begun (search rules)
