use Rattle.script_cache.proofs.Onward.{onward}
use Rattle.script_cache.proofs.law.no_status_goes_back.Goals as goal

pub returns : goal.returns
returns g c log later file begins = onward log later file begins
