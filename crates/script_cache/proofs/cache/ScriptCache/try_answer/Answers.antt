use Rattle.std.proofs.Common.{rules, ◌∙◌}
use Rattle.turn_lock.proofs.Logs.{same_log}
use Rattle.script_cache.specs.declared.shared_core.SharedCore.{SharedCore}
use Rattle.script_cache.proofs.cache.ScriptCache.try_answer.Goals as goal

pub leave-requires-clause-log : goal.leave-requires-clause-log
leave-requires-clause-log g c = same_log (λ (s : SharedCore _ _). s.core.state.log) _ _ (c.value.ensures.value ∙ c.in-Ok.ensures.entered.value)

pub returns-in-Ok-answer-clause-looked : goal.returns-in-Ok-answer-clause-looked
returns-in-Ok-answer-clause-looked g c _ _ = record {
  found = c.value.result.now.core.state;
  entry = record {
    turns = search rules;
    found_log = search rules;
    found_tasks = search rules;
    its_project = search rules;
    begins = search rules;
    log = search rules;
    in_progress = search rules;
    lost = search rules;
    splits = search rules;
    earlier = search rules;
  };
}

pub returns-in-Err-Unfinished-clause-looked : goal.returns-in-Err-Unfinished-clause-looked
returns-in-Err-Unfinished-clause-looked g c _ _ = record {
  found = c.value.result.now.core.state;
  entry = record {
    turns = search rules;
    found_log = search rules;
    found_tasks = search rules;
    its_project = search rules;
    begins = search rules;
    log = search rules;
    in_progress = search rules;
    lost = search rules;
    splits = search rules;
    earlier = search rules;
  };
}

pub returns-in-Err-NoMemory-clause-looked : goal.returns-in-Err-NoMemory-clause-looked
returns-in-Err-NoMemory-clause-looked g c _ _ = record {
  found = c.value.result.now.core.state;
  entry = record {
    turns = search rules;
    found_log = search rules;
    found_tasks = search rules;
    its_project = search rules;
    begins = search rules;
    log = search rules;
    in_progress = search rules;
    lost = search rules;
    splits = search rules;
    earlier = search rules;
  };
}
