use Rattle.bulk_changes.proofs.Merged.{found_kept, found_overwritten, keys_of_merged, once_merged}
use Rattle.bulk_changes.proofs.laws.merged_entries.Goals as goal

pub returns-clause-overwritten : goal.returns-clause-overwritten
returns-clause-overwritten c = found_overwritten

pub returns-clause-kept : goal.returns-clause-kept
returns-clause-kept c = found_kept

pub returns-clause-keys : goal.returns-clause-keys
returns-clause-keys c = keys_of_merged

pub returns-clause-once : goal.returns-clause-once
returns-clause-once c = once_merged
