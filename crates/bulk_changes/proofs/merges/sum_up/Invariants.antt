use Rattle.std.proofs.Common.{◌≡◌, ◌*◌, ◌^◌, ◌≤◌, take}
use Rattle.bulk_changes.specs.Merges.{keys_more, weights_less, weights_more}
use Rattle.bulk_changes.proofs.merges.sum_up.Given as goal

abbrev pub invariant-loop-i : goal.invariant-loop-i
invariant-loop-i l = record {
  keys : l.tally.keys ≡ keys_more l.entries (take l.i l.put);
  more : l.tally.more ≡ weights_more l.overwrite l.entries (take l.i l.put);
  less : l.tally.less ≡ weights_less l.overwrite l.entries (take l.i l.put);
  few : l.tally.keys ≤ l.i;
  more_fits : l.tally.more ≤ l.i * (2 ^ 65);
  less_fits : l.tally.less ≤ l.i * (2 ^ 65);
}
