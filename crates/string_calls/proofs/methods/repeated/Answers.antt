use Rattle.std.proofs.Common.{◌≡◌, ◌<◌, ap, arith, length}
use Rattle.std.specs.List.{repeat}
use Rattle.string_calls.proofs.Cuts.{too_long, length_repeat}
use Rattle.string_calls.proofs.methods.repeated.Goals as goal

pub returns-then-n-text : goal.returns-then-n-text
returns-then-n-text c = too_long (repeat c.args.n c.args.text.now) (omega (arith, length_repeat c.args.n c.args.text.now, c.if-n-text.true))
