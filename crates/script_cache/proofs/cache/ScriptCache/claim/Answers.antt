use Rattle.std.proofs.Common.{rules, subst}
use Rattle.script_cache.proofs.Claims.{claimed_job, job_of_pass}
use Rattle.stage_core.specs.Machine.{IsReady}
use Rattle.script_cache.proofs.Again.{ready_again, given_back_logged}
use Rattle.script_cache.proofs.cache.ScriptCache.claim.Goals as goal

pub returns-clause-claimed : goal.returns-clause-claimed
returns-clause-claimed g c = claimed_job g.W.Out.StageOut _ _ _ c.claim_job-found.result c.value.result.now.core.state c.claim_job-found.new.core.state
    (record {
      turns = search rules;
      found_log = search rules;
      found_tasks = search rules;
      its_project = search rules;
      begins = search rules;
      log = search rules;
      in_progress = search rules;
      lost = search rules;
      splits = search rules;
      earlier = search rules;
    })
    c.claim_job-found.ensures.task

pub returns-clause-job : goal.returns-clause-job
returns-clause-job g c = job_of_pass g.W.Out.StageOut _ c.args.pass.now _ c.claim_job-found.result c.value.result.now.core.state c.claim_job-found.new.core.state (search rules) (search rules) c.claim_job-found.ensures.job

pub returns-clause-all_done : goal.returns-clause-all_done
returns-clause-all_done g c is =
    let d = c.claim_job-found.ensures.all_done is in
    record {
      found = c.value.result.now.core.state;
      all_done = d.0;
      entry = record {
        turns = search rules;
        found_log = search rules;
        found_tasks = search rules;
        its_project = search rules;
        begins = search rules;
        log = search rules;
        in_progress = search rules;
        lost = search rules;
        splits = search rules;
        earlier = search rules;
      };
    }

pub returns-clause-nothing_ready : goal.returns-clause-nothing_ready
returns-clause-nothing_ready g c is =
    let d = c.claim_job-found.ensures.nothing_ready is in
    record {
      found = c.value.result.now.core.state;
      none_ready = d.0;
      unfinished = d.1;
      entry = record {
        turns = search rules;
        found_log = search rules;
        found_tasks = search rules;
        its_project = search rules;
        begins = search rules;
        log = search rules;
        in_progress = search rules;
        lost = search rules;
        splits = search rules;
        earlier = search rules;
      };
    }

pub returns-clause-no_memory : goal.returns-clause-no_memory
returns-clause-no_memory g c is =
    let d = c.claim_job-found.ensures.no_memory is in
    record {
      file = d.0;
      stage = d.1;
      claimed = record {
        found = c.value.result.now.core.state;
        ready = d.2;
        entry = record {
          turns = search rules;
          found_log = search rules;
          found_tasks = search rules;
          its_project = search rules;
          begins = search rules;
          log = search rules;
          in_progress = search rules;
          lost = search rules;
          splits = search rules;
          earlier = search rules;
        };
      };
      logged = given_back_logged g.W.Out.StageOut c.value.result.now.core.state c.claim_job-found.new.core.state _ d.0 d.1 d.3 (search rules);
      in_progress = c.claim_job-found.new.core.state.in_progress;
      left = search rules;
      ready_again = subst (λ l. IsReady g.W.Out.StageOut l c.claim_job-found.new.core.state.in_progress d.0 d.1) (search rules) (ready_again g.W.Out.StageOut c.value.result.now.core.state c.claim_job-found.new.core.state d.0 d.1 d.3 d.2);
    }
