-- Errors of two calls tell the same.
use Rattle.std.proofs.Common.{◌≡◌, refl}
use Rattle.script_cache.specs.declared.errors.NoRaise.{NoRaise}
use Rattle.script_cache.specs.declared.errors.NoRaise.TheVariants.{AllDone, NothingReady, NoMemory}
use Rattle.script_cache.specs.ClaimErrors.{claim_error}

pub claim_error_tells : (m n : NoRaise) → claim_error m ≡ claim_error n → m ≡ n
claim_error_tells AllDone AllDone e = refl
claim_error_tells AllDone NothingReady e = cc
claim_error_tells AllDone NoMemory e = cc
claim_error_tells NothingReady AllDone e = cc
claim_error_tells NothingReady NothingReady e = refl
claim_error_tells NothingReady NoMemory e = cc
claim_error_tells NoMemory AllDone e = cc
claim_error_tells NoMemory NothingReady e = cc
claim_error_tells NoMemory NoMemory e = refl
