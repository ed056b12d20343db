use Rattle.script_cache.proofs.Sharing.{shared_cache}
use Rattle.script_cache.proofs.crossing.cache_is_shared.Goals as goal

pub is_shared-requires-sync-T : goal.is_shared-requires-sync-T
is_shared-requires-sync-T g c κs within = search shared_cache depth 40
