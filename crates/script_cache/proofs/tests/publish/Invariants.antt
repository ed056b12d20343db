use Rattle.script_cache.specs.Entries.{IsCachePass, IsTaskOfPass}
use Rattle.script_cache.proofs.tests.publish.Given as goal

abbrev pub invariant-loop : goal.invariant-loop
invariant-loop g l = IsCachePass l.cache.lock l.pass × IsTaskOfPass l.cache.work.project l.done.task l.pass
