use Rattle.token_laws.proofs.LongestSigns.{longest_sign}
use Rattle.token_laws.proofs.longest_sign.Goals as goal

pub returns : goal.returns
returns c = longest_sign c.args.text.now
