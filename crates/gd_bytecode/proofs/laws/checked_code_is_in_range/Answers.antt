use Rattle.gd_bytecode.proofs.EachWell.{each_is_well}
use Rattle.gd_bytecode.proofs.laws.checked_code_is_in_range.Goals as goal

pub returns : goal.returns
returns c = each_is_well c.args.code.now c.requires
