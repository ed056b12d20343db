-- How errors of one call become those of another.
use Rattle.script_cache.specs.declared.errors.ClaimError.{ClaimError}
use Rattle.script_cache.specs.declared.errors.ClaimError.TheVariants as claim
use Rattle.script_cache.specs.declared.errors.NoRaise.{NoRaise}
use Rattle.script_cache.specs.declared.errors.NoRaise.TheVariants.{AllDone, NothingReady, NoMemory}

abbrev pub claim_error : NoRaise → ClaimError
claim_error AllDone = claim.AllDone
claim_error NothingReady = claim.NothingReady
claim_error NoMemory = claim.NoMemory
