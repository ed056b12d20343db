use Rattle.std.proofs.Common.{rules, subst, Err, ap, ◌≡◌, ◌∙◌}
use Rattle.script_cache.specs.declared.errors.NoRaise.TheVariants.{AllDone, NothingReady, NoMemory}
use Rattle.script_cache.specs.ClaimErrors.{claim_error}
use Rattle.script_cache.proofs.ClaimErrors.{claim_error_tells}
use Rattle.script_cache.proofs.Logged.{claim_logged, begins_same}
use Rattle.stage_core.specs.Machine.{IsReady}
use Rattle.script_cache.proofs.Again.{ready_again, given_back_logged}
use Rattle.script_cache.proofs.cache.ScriptCache.try_claim.Goals as goal

pub returns-in-Ok-found-clause-claimed : goal.returns-in-Ok-found-clause-claimed
returns-in-Ok-found-clause-claimed g c = record {
  found = c.value.result.now.core.state;
  ready = search rules;
  entry = record {
    turns = search rules;
    found_log = search rules;
    found_tasks = search rules;
    its_project = search rules;
    begins = search rules;
    log = search rules;
    in_progress = search rules;
    lost = search rules;
    splits = search rules;
    earlier = search rules;
  };
}

pub returns-in-Ok-found-clause-logged : goal.returns-in-Ok-found-clause-logged
returns-in-Ok-found-clause-logged g c = claim_logged c.value.result.now.core.state _ _ _ (search rules)

pub returns-in-Ok-found-clause-job : goal.returns-in-Ok-found-clause-job
returns-in-Ok-found-clause-job g c = record { its_project = search rules; seen = begins_same _ _ (search rules) }

pub returns-in-Err-clause-all_done : goal.returns-in-Err-clause-all_done
returns-in-Err-clause-all_done g c e =
    let same : claim_error c.in-Err.none ≡ claim_error AllDone = cc in
    let is : c.claim_job-found.result ≡ Err AllDone = c.in-Err.is ∙ ap Err (claim_error_tells _ _ same) in
    let d = c.claim_job-found.ensures.all_done is in
    record {
      found = c.value.result.now.core.state;
      all_done = d.0;
      entry = record {
        turns = search rules;
        found_log = search rules;
        found_tasks = search rules;
        its_project = search rules;
        begins = search rules;
        log = search rules;
        in_progress = search rules;
        lost = search rules;
        splits = search rules;
        earlier = search rules;
      };
    }

pub returns-in-Err-clause-nothing_ready : goal.returns-in-Err-clause-nothing_ready
returns-in-Err-clause-nothing_ready g c e =
    let same : claim_error c.in-Err.none ≡ claim_error NothingReady = cc in
    let is : c.claim_job-found.result ≡ Err NothingReady = c.in-Err.is ∙ ap Err (claim_error_tells _ _ same) in
    let d = c.claim_job-found.ensures.nothing_ready is in
    record {
      found = c.value.result.now.core.state;
      none_ready = d.0;
      unfinished = d.1;
      entry = record {
        turns = search rules;
        found_log = search rules;
        found_tasks = search rules;
        its_project = search rules;
        begins = search rules;
        log = search rules;
        in_progress = search rules;
        lost = search rules;
        splits = search rules;
        earlier = search rules;
      };
    }

pub returns-in-Err-clause-no_memory : goal.returns-in-Err-clause-no_memory
returns-in-Err-clause-no_memory g c e =
    let same : claim_error c.in-Err.none ≡ claim_error NoMemory = cc in
    let is : c.claim_job-found.result ≡ Err NoMemory = c.in-Err.is ∙ ap Err (claim_error_tells _ _ same) in
    let d = c.claim_job-found.ensures.no_memory is in
    record {
      file = d.0;
      stage = d.1;
      claimed = record {
        found = c.value.result.now.core.state;
        ready = d.2;
        entry = record {
          turns = search rules;
          found_log = search rules;
          found_tasks = search rules;
          its_project = search rules;
          begins = search rules;
          log = search rules;
          in_progress = search rules;
          lost = search rules;
          splits = search rules;
          earlier = search rules;
        };
      };
      logged = given_back_logged g.W.Out.StageOut c.value.result.now.core.state c.claim_job-found.new.core.state _ d.0 d.1 d.3 (search rules);
      in_progress = c.claim_job-found.new.core.state.in_progress;
      left = search rules;
      ready_again = subst (λ l. IsReady g.W.Out.StageOut l c.claim_job-found.new.core.state.in_progress d.0 d.1) (search rules) (ready_again g.W.Out.StageOut c.value.result.now.core.state c.claim_job-found.new.core.state d.0 d.1 d.3 d.2);
    }
