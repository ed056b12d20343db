use Rattle.token_laws.proofs.Longest.{longest_digits}
use Rattle.token_laws.proofs.longest_digits.Goals as goal

pub returns : goal.returns
returns c = longest_digits c.args.radix c.args.text.now c.requires
