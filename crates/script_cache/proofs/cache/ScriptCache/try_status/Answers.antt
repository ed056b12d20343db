use Rattle.std.proofs.Common.{rules}
use Rattle.script_cache.proofs.cache.ScriptCache.try_status.Goals as goal

pub returns-clause-looked : goal.returns-clause-looked
returns-clause-looked g c = record {
  found = c.value.result.now.core.state;
  entry = record {
    turns = search rules;
    found_log = search rules;
    found_tasks = search rules;
    its_project = search rules;
    begins = search rules;
    log = search rules;
    in_progress = search rules;
    lost = search rules;
    splits = search rules;
    earlier = search rules;
  };
}
