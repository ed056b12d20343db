-- Each stage of a file has one outcome.
use Rattle.std.proofs.Common.{◌≡◌, ℕ, zero, suc, ◌<◌, Contains}
use Rattle.facts.specs.Outcome.{IsFinite, Outcome}
use Rattle.facts.proofs.Decision.{none_in}
use Rattle.facts.proofs.Outcomes.{only_outcome, outcome}
use Rattle.facts.proofs.Reach.{cover}
use Rattle.folder_rules.specs.Folders.{Folder}
use Rattle.folder_rules.specs.Loads.{HasFault, HasOutcomeAt, is_no_later, needs_of, stage_of}
use Rattle.folder_rules.specs.Nodes.{Fault}
use Rattle.folder_rules.proofs.Bounded.{bases_of_below, bound, links_below}
use Rattle.folder_rules.proofs.Decided.{fault_list, fault_list_sound, fault_list_complete}
use Rattle.folder_rules.proofs.Order.{order_total, order_trans, order_antisymm}

module _ (folder : Folder) where
  needs_below : (k f g : ℕ) → Contains (needs_of folder k f) g → g < bound folder
  needs_below zero f g c = none_in g c
  needs_below (suc zero) f g c = none_in g c
  needs_below (suc (suc zero)) f g c = bases_of_below folder f g c
  needs_below (suc (suc (suc zero))) f g c = links_below folder f g c
  needs_below (suc (suc (suc (suc zero)))) f g c = links_below folder f g c
  needs_below (suc (suc (suc (suc (suc k))))) f g c = none_in g c

  finite : IsFinite stage_of is_no_later (HasFault folder) (needs_of folder)
  finite = record {
    covers = λ k p. cover (needs_of folder k) (bound folder) (λ a b c. needs_below k a b c) p;
    list = fault_list folder;
    sound = fault_list_sound folder;
    complete = fault_list_complete folder;
    total = order_total;
    trans = order_trans;
  }

  pub one_outcome : (k p : ℕ) (v w : Outcome Fault) → HasOutcomeAt folder k p v → HasOutcomeAt folder k p w → v ≡ w
  one_outcome = only_outcome stage_of is_no_later (HasFault folder) (needs_of folder) order_antisymm

  pub some_outcome : (k p : ℕ) → (v : Outcome Fault) × HasOutcomeAt folder k p v
  some_outcome = outcome stage_of is_no_later (HasFault folder) (needs_of folder) finite
