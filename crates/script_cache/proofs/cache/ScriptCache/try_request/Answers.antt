use Rattle.std.proofs.Common.{rules}
use Rattle.script_cache.proofs.Logged.{request_logged}
use Rattle.script_cache.proofs.cache.ScriptCache.try_request.Goals as goal

pub returns-clause-requested : goal.returns-clause-requested
returns-clause-requested g c = record {
  file = c.in-Some.file;
  at = search rules;
  made = record {
    found = c.in-Ok.turn.value.core.state;
    entry = record {
      turns = search rules;
      found_log = search rules;
      found_tasks = search rules;
      its_project = search rules;
      begins = c.in-Ok.ensures.entered.seen;
      log = search rules;
      in_progress = search rules;
      lost = search rules;
      splits = search rules;
      earlier = search rules;
    };
  };
  logged = request_logged c.in-Ok.turn.value.core.state _ c.in-Some.file (search rules);
}
