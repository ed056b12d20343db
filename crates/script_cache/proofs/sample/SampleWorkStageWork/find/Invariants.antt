use Rattle.std.proofs.Common.{◌≢◌, ℕ, ◌<◌}
use Rattle.stage_core.specs.Sample.{sample_path}
use Rattle.script_cache.proofs.sample.SampleWorkStageWork.find.Given as goal

abbrev pub invariant-loop-file : goal.invariant-loop-file
invariant-loop-file l = (f : ℕ) → f < l.file → sample_path f ≢ l.path
