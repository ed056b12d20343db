use Rattle.std.proofs.Common.{rules}
use Rattle.script_cache.proofs.cache.ScriptCache.answer.Goals as goal

pub returns-in-Ok-clause-looked : goal.returns-in-Ok-clause-looked
returns-in-Ok-clause-looked g c _ = record {
  found = c.enter-turn.result.value.core.state;
  entry = record {
    turns = search rules;
    found_log = search rules;
    found_tasks = search rules;
    its_project = search rules;
    begins = c.enter-turn.ensures.entered.seen;
    log = search rules;
    in_progress = search rules;
    lost = search rules;
    splits = search rules;
    earlier = search rules;
  };
}

pub returns-in-Err-Unfinished-clause-looked : goal.returns-in-Err-Unfinished-clause-looked
returns-in-Err-Unfinished-clause-looked g c _ = record {
  found = c.enter-turn.result.value.core.state;
  entry = record {
    turns = search rules;
    found_log = search rules;
    found_tasks = search rules;
    its_project = search rules;
    begins = c.enter-turn.ensures.entered.seen;
    log = search rules;
    in_progress = search rules;
    lost = search rules;
    splits = search rules;
    earlier = search rules;
  };
}

pub returns-in-Err-NoMemory-clause-looked : goal.returns-in-Err-NoMemory-clause-looked
returns-in-Err-NoMemory-clause-looked g c _ = record {
  found = c.enter-turn.result.value.core.state;
  entry = record {
    turns = search rules;
    found_log = search rules;
    found_tasks = search rules;
    its_project = search rules;
    begins = c.enter-turn.ensures.entered.seen;
    log = search rules;
    in_progress = search rules;
    lost = search rules;
    splits = search rules;
    earlier = search rules;
  };
}
