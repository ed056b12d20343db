use Rattle.script_cache.specs.Entries.{IsCachePass}
use Rattle.script_cache.proofs.tests.work_on.Given as goal

abbrev pub invariant-loop : goal.invariant-loop
invariant-loop g l = IsCachePass l.cache.lock l.pass
