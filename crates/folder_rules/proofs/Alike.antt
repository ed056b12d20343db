-- The facts, the faults and the outcomes of a file hang on the files that it reaches alone.
use Rattle.std.proofs.Common.{◌≡◌, ◌↔◌, ℕ, zero, suc, Result, ◌∷◌, Contains, refl, sym, ap, subst}
use Rattle.std.proofs.lemmas.List.Elements.{Contains-append_left, Contains-append_right}
use Rattle.gd_syntax.specs.declared.fault.LoadFault.{LoadFault}
use Rattle.folder_meaning.specs.declared.facts.Content.{Content}
use Rattle.facts.specs.Agreement.{Agree}
use Rattle.facts.specs.Facts.{HasFact, IsAtFault}
use Rattle.facts.specs.Outcome.{Outcome}
use Rattle.facts.specs.OutcomeAgreement.{AreAlike}
use Rattle.facts.specs.Reach.{on}
use Rattle.facts.proofs.Agreement.{has_there, has_back, fault_there, fault_back}
use Rattle.facts.proofs.Decision.{none_in}
use Rattle.facts.proofs.OutcomeAgreement.{outcome_there, alike_back}
use Rattle.folder_rules.specs.Folders.{Folder}
use Rattle.folder_rules.specs.Links.{bases_of, bases_of_look, links_of, links_of_look}
use Rattle.folder_rules.specs.Loads.{HasFault, HasOutcomeAt, is_no_later, needs_of, stage_of}
use Rattle.folder_rules.specs.Nodes.{Node, Tree, GlobalName, Base, Preloaded, FactOf, Fault}
use Rattle.folder_rules.specs.Reached.{HasSameReads, IsRead, IsReached, IsReadAlike, file_of, reads_of, with_look}
use Rattle.folder_rules.specs.Rules.{base_place, class_in_look, cyclic_base, nodes_in, nodes_of, rules_of, tree_rule}
use Rattle.folder_rules.proofs.Near.{IsKept, nodes_file, parts_in}

-- files of P have the same texts, and what their bases and constants mean is of P
module _ (folder : Folder) (other : ℕ → Result Content LoadFault) (P : ℕ → Type 0) (kept : IsKept folder P) (alike : (f : ℕ) → P f → folder.look f ≡ other f) where
  abbrev far : Folder
  far = with_look folder other

  abbrev Inside : Node → Type 0
  Inside n = P (file_of n)

  same_rule : (n : Node) → Inside n → (rules_of folder).rule n ≡ (rules_of far).rule n
  same_rule (Tree f) i = ap tree_rule (alike f i)
  same_rule (GlobalName f) i = refl
  same_rule (Base c) i = refl
  same_rule (Preloaded f path) i = refl

  same_cycle : (n : Node) → Inside n → (rules_of folder).cycle_fault n ≡ (rules_of far).cycle_fault n
  same_cycle (Tree f) i = refl
  same_cycle (GlobalName f) i = refl
  same_cycle (Base c) i = ap (λ r. cyclic_base folder (base_place folder (class_in_look folder r c.index))) (alike c.file i)
  same_cycle (Preloaded f path) i = refl

  agree : Agree (rules_of folder) (rules_of far) Inside
  agree = record {
    rules = same_rule;
    children = λ n i. refl;
    cycle_fault = same_cycle;
    within = λ n m i q. (parts_in folder P kept n m i q).0;
  }

  facts_inside : (n : Node) → Inside n → (f : FactOf n) → HasFact (rules_of folder) n f ↔ HasFact (rules_of far) n f
  facts_inside n i f = (has_there (rules_of folder) (rules_of far) Inside agree n f i, has_back (rules_of folder) (rules_of far) Inside agree n f i)

  faults_inside : (n : Node) → Inside n → (x : Fault) → IsAtFault (rules_of folder) n x ↔ IsAtFault (rules_of far) n x
  faults_inside n i x = (fault_there (rules_of folder) (rules_of far) Inside agree n x i, fault_back (rules_of folder) (rules_of far) Inside agree n x i)

  -- ---- the faults of a file
  same_nodes : (q : ℕ) → P q → nodes_of folder q ≡ nodes_of far q
  same_nodes q i = ap (λ r. Tree q ∷ nodes_in q r) (alike q i)

  node_inside : (q : ℕ) (n : Node) → P q → Contains (nodes_of folder q) n → Inside n
  node_inside q n i c = subst P (sym (nodes_file folder q n c)) i

  file_there : (q : ℕ) (x : Fault) → P q → HasFault folder q x → HasFault far q x
  file_there q x i f = record { node = f.node; among = subst (λ l. Contains l f.node) (same_nodes q i) f.among; at = (faults_inside f.node (node_inside q f.node i f.among) x).0 f.at }

  file_back : (q : ℕ) (x : Fault) → P q → HasFault far q x → HasFault folder q x
  file_back q x i f =
      let among : Contains (nodes_of folder q) f.node = subst (λ l. Contains l f.node) (sym (same_nodes q i)) f.among in
      record { node = f.node; among = among; at = (faults_inside f.node (node_inside q f.node i among) x).1 f.at }

module _ (folder : Folder) (other : ℕ → Result Content LoadFault) (p : ℕ) (alike : HasSameReads folder other p) where
  kept_reads : IsKept folder (IsRead folder p)
  kept_reads f g r c = on r c

  pub same_facts : (n : Node) → IsRead folder p (file_of n) → (f : FactOf n) → HasFact (rules_of folder) n f ↔ HasFact (rules_of (with_look folder other)) n f
  same_facts = facts_inside folder other (IsRead folder p) kept_reads alike

  pub same_faults : (n : Node) → IsRead folder p (file_of n) → (x : Fault) → IsAtFault (rules_of folder) n x ↔ IsAtFault (rules_of (with_look folder other)) n x
  same_faults = faults_inside folder other (IsRead folder p) kept_reads alike

  pub same_file_faults : (q : ℕ) → IsRead folder p q → (x : Fault) → HasFault folder q x ↔ HasFault (with_look folder other) q x
  same_file_faults q i x = (file_there folder other (IsRead folder p) kept_reads alike q x i, file_back folder other (IsRead folder p) kept_reads alike q x i)

module _ (folder : Folder) (other : ℕ → Result Content LoadFault) (p : ℕ) (alike : IsReadAlike folder other p) where
  abbrev there : Folder
  there = with_look folder other

  abbrev R : ℕ → Type 0
  R f = IsReached folder p f

  read_kept : IsKept folder R
  read_kept f g r c = on r (Contains-append_right (links_of folder f) _ g (Contains-append_right (bases_of folder f) _ g c))

  base_kept : (f g : ℕ) → R f → Contains (bases_of folder f) g → R g
  base_kept f g r c = on r (Contains-append_right (links_of folder f) _ g (Contains-append_left (bases_of folder f) (reads_of folder f) g c))

  link_kept : (f g : ℕ) → R f → Contains (links_of folder f) g → R g
  link_kept f g r c = on r (Contains-append_left (links_of folder f) _ g c)

  same_bases : (q : ℕ) → R q → bases_of folder q ≡ bases_of there q
  same_bases q i = ap (bases_of_look folder q) (alike q i)

  same_links : (q : ℕ) → R q → links_of folder q ≡ links_of there q
  same_links q i = ap (links_of_look folder q) (alike q i)

  same_needs : (k q : ℕ) → R q → needs_of folder k q ≡ needs_of there k q
  same_needs zero q i = refl
  same_needs (suc zero) q i = refl
  same_needs (suc (suc zero)) q i = same_bases q i
  same_needs (suc (suc (suc zero))) q i = same_links q i
  same_needs (suc (suc (suc (suc zero)))) q i = same_links q i
  same_needs (suc (suc (suc (suc (suc k))))) q i = refl

  needs_kept : (k q r : ℕ) → R q → Contains (needs_of folder k q) r → R r
  needs_kept zero q r i c = none_in r c
  needs_kept (suc zero) q r i c = none_in r c
  needs_kept (suc (suc zero)) q r i c = base_kept q r i c
  needs_kept (suc (suc (suc zero))) q r i c = link_kept q r i c
  needs_kept (suc (suc (suc (suc zero)))) q r i c = link_kept q r i c
  needs_kept (suc (suc (suc (suc (suc k))))) q r i c = none_in r c

  files_alike : AreAlike (HasFault folder) (HasFault there) (needs_of folder) (needs_of there) R
  files_alike = record { there = λ q x i. file_there folder other R read_kept alike q x i; back = λ q x i. file_back folder other R read_kept alike q x i; needs = same_needs; within = needs_kept }

  pub same_outcomes : (k q : ℕ) (v : Outcome Fault) → R q → HasOutcomeAt folder k q v ↔ HasOutcomeAt there k q v
  same_outcomes k q v i = (
    outcome_there stage_of is_no_later (HasFault folder) (HasFault there) (needs_of folder) (needs_of there) R files_alike k q v i,
    outcome_there stage_of is_no_later (HasFault there) (HasFault folder) (needs_of there) (needs_of folder) R (alike_back (HasFault folder) (HasFault there) (needs_of folder) (needs_of there) R files_alike) k q v i,
  )
