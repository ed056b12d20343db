use Rattle.std.proofs.Common.{◌≡◌, ◌∙◌, Err, ap, inr}
use Rattle.script_cache.specs.declared.errors.NoRaise.TheVariants.{AllDone, NothingReady}
use Rattle.script_cache.proofs.Claims.{claimed_past, retried}
use Rattle.script_cache.proofs.cache.ScriptCache.raise.Goals as goal

pub returns-in-Err-clause-all_done : goal.returns-in-Err-clause-all_done
returns-in-Err-clause-all_done g c e =
    let same : c.in-Err.none ≡ AllDone = cc in
    let is : c.claim.result ≡ Err AllDone = c.in-Err.is ∙ ap Err same in
    c.claim.ensures.all_done is

pub returns-in-Err-clause-nothing_ready : goal.returns-in-Err-clause-nothing_ready
returns-in-Err-clause-nothing_ready g c e =
    let same : c.in-Err.none ≡ NothingReady = cc in
    let is : c.claim.result ≡ Err NothingReady = c.in-Err.is ∙ ap Err same in
    c.claim.ensures.nothing_ready is

pub returns-in-Ok-compute-clause-past : goal.returns-in-Ok-compute-clause-past
returns-in-Ok-compute-clause-past g c =
    let past = claimed_past g.W.Out.StageOut _ _ _ _ _ _ c.in-Ok.ensures.claimed in
    let task = c.publish-raised.ensures.task in
    let same = c.in-Ok-compute.ensures.done in
    rw (task.0, task.1, same) past

pub returns-in-Err-compute-clause-no_memory : goal.returns-in-Err-compute-clause-no_memory
returns-in-Err-compute-clause-no_memory g c _ = inr (retried g.W.Out.StageOut _ _ _ _ _ _ c.in-Err-compute.ensures.back c.in-Ok.ensures.claimed c.give_back.ensures.given_back c.give_back.ensures.back c.give_back.ensures.seen)
