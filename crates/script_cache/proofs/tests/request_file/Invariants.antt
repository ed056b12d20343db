use Rattle.script_cache.specs.Entries.{IsCachePass}
use Rattle.script_cache.proofs.tests.request_file.Given as goal

abbrev pub invariant-loop : goal.invariant-loop
invariant-loop g l = IsCachePass l.cache.lock l.pass
