use Rattle.deep_copies.proofs.Apart.{deep_copied}
use Rattle.deep_copies.proofs.deep_copy.Goals as goal

pub returns-clause-apart : goal.returns-clause-apart
returns-clause-apart c = deep_copied c.args.heap.now.state c.copy_value.new.heap.state c.args.of.now c.in_ok-copy_value.field-0 c.is_within.result c.is_sound.ensures c.requires c.is_within.ensures c.if-not-is_within.false c.in_ok-copy_value.ensures.copy
