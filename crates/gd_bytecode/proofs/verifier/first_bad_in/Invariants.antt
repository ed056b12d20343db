use Rattle.std.proofs.Common.{◌≡◌, ◌+◌, length}
use Rattle.std.specs.List.{position_from}
use Rattle.gd_bytecode.specs.Checks.{is_truth, judged}
use Rattle.gd_bytecode.proofs.verifier.first_bad_in.Given as goal

abbrev pub invariant-loop-rest : goal.invariant-loop-rest
invariant-loop-rest l = record {
  found : position_from is_truth l.before (judged l.code l.function 0 l.function.ops) ≡ position_from is_truth (l.before + l.at) (judged l.code l.function l.at l.rest);
  size : l.at + length l.rest ≡ length l.function.ops;
}

abbrev pub decreases-loop-rest : goal.decreases-loop-rest
decreases-loop-rest l = length l.rest
