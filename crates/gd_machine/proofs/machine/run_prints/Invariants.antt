use Rattle.std.proofs.Common.{◌≡◌, ◌+◌, ◌≤◌, take}
use Rattle.host_io.specs.Pieces.{WroteAll}
use Rattle.gd_machine.proofs.Prints.{pieces_of}
use Rattle.gd_machine.proofs.machine.run_prints.Given as goal

abbrev pub invariant-loop-print : goal.invariant-loop-print
invariant-loop-print g l = record {
  used : l.used ≡ 1 + l.print-index;
  within : l.used ≤ l.steps;
  written : WroteAll (g.S.Sink.state l.initial.sink) (g.S.Sink.state l.sink) (pieces_of (take l.print-index l.prints));
}
