use Rattle.gd_bytecode.proofs.OtherRuns.{instructions_read_no_other, runs_read_no_other, leaves_no_other}
use Rattle.gd_bytecode.proofs.laws.checked_code_reads_no_other_register.Goals as goal

pub returns : goal.returns
returns c = record {
  same = runs_read_no_other c.args.code.now c.requires;
  each = instructions_read_no_other c.args.code.now c.requires;
  most = leaves_no_other c.args.code.now c.requires;
}
