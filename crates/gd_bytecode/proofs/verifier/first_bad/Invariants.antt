use Rattle.std.proofs.Common.{◌≡◌, ◌*◌, ◌≤◌, ◌^◌, drop}
use Rattle.std.specs.List.{position_from}
use Rattle.gd_bytecode.specs.Checks.{first_bad, is_truth, judged_all}
use Rattle.gd_bytecode.proofs.verifier.first_bad.Given as goal

abbrev pub invariant-loop-function : goal.invariant-loop-function
invariant-loop-function l = record {
  found : first_bad l.code ≡ position_from is_truth l.before (judged_all l.code (drop l.function-index l.code.functions));
  room : l.before ≤ 2 ^ 64 * l.function-index;
}
