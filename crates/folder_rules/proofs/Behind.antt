-- A node of a file that has no fact leads to a fault of a file that is read.
use Rattle.std.proofs.Common.{◌≡◌, ℕ, zero, suc, ◌+◌, ◌<◌, ◌⊎◌, inl, inr, Option, Some, None, Result, Ok, Err, List, [], ◌∷◌, ◌++◌, length, slice_get, Contains, refl, sym, subst, arith}
use Rattle.std.proofs.lemmas.List.Elements.{Contains-append_left, Contains-append_right, Contains-append_cases}
use Rattle.gd_syntax.specs.declared.fault.LoadFault.{LoadFault}
use Rattle.gd_syntax.specs.declared.tree.type_name.PathText.{PathText}
use Rattle.variant_values.specs.declared.classes.ClassId.{ClassId}
use Rattle.folder_meaning.specs.declared.facts.Content.{Content}
use Rattle.folder_meaning.specs.declared.facts.FileFacts.{FileFacts}
use Rattle.facts.specs.Facts.{FailsWith, IsAtFault, IsResolved, LeadsTo}
use Rattle.facts.specs.FiniteNodes.{LeadsToFault}
use Rattle.facts.specs.Reach.{here, on}
use Rattle.facts.proofs.Decision.{cons_here, cons_there}
use Rattle.folder_rules.specs.Bases.{base_rule}
use Rattle.folder_rules.specs.Classes.{ClassTree}
use Rattle.folder_rules.specs.Folders.{Folder}
use Rattle.folder_rules.specs.Links.{classes_in}
use Rattle.folder_rules.specs.Loads.{IsDoneAtBases}
use Rattle.folder_rules.specs.Nodes.{Node, Tree, GlobalName, Base, Preloaded, Fault}
use Rattle.folder_rules.specs.Reached.{HasFaultBehind, IsRead, file_of, reads_of}
use Rattle.folder_rules.specs.Rules.{base_nodes, base_place, class_in_look, class_nodes, cyclic_base, nodes_in, nodes_of, rule_of, rules_of}
use Rattle.folder_rules.proofs.Decided.{fact_or}
use Rattle.folder_rules.proofs.Near.{In, base_in, behind, class_at, near_in, no_base, no_outer, outer_nodes, parts_in}
use Rattle.folder_rules.proofs.Ranked.{tree_is}

no_more : (i : ℕ) → 0 + i ≡ i
no_more i = omega arith

module _ (folder : Folder) where
  name_among : (f : ℕ) (g : Content) → folder.look f ≡ Ok g → Contains (nodes_of folder f) (GlobalName f)
  name_among f g l = cons_there (Tree f) (GlobalName f) (nodes_in f (folder.look f)) (subst (λ r. Contains (nodes_in f r) (GlobalName f)) (sym l) (cons_here (GlobalName f) (base_nodes f 0 (classes_in g) ++ class_nodes f (classes_in g))))

  class_among : (c : ClassId) (g : Content) (class : ClassTree) → folder.look c.file ≡ Ok g → slice_get (classes_in g) c.index ≡ Some class → Contains (nodes_of folder c.file) (Base c)
  class_among c g class l e =
      cons_there (Tree c.file) (Base c) (nodes_in c.file (folder.look c.file))
      (subst (λ r. Contains (nodes_in c.file r) (Base c)) (sym l)
      (cons_there (GlobalName c.file) (Base c) (base_nodes c.file 0 (classes_in g) ++ class_nodes c.file (classes_in g))
      (Contains-append_left (base_nodes c.file 0 (classes_in g)) (class_nodes c.file (classes_in g)) (Base c) (subst (λ z. Contains (base_nodes c.file 0 (classes_in g)) (Base (class_at c.file z))) (no_more c.index) (base_in c.file 0 c.index (classes_in g) class e)))))

  path_among : (f : ℕ) (path : PathText) (r : Result Content LoadFault) → Contains (near_in f r) (Preloaded f path) → Contains (nodes_in f r) (Preloaded f path)
  path_among f path (Err fault) c = c
  path_among f path (Ok found) c =
      elim (Contains-append_cases (base_nodes f 0 (classes_in found)) (class_nodes f (classes_in found) ++ outer_nodes f (classes_in found)) (Preloaded f path) c) [
        | inl h ↦ no_base f path 0 (classes_in found) h
        | inr h ↦ elim (Contains-append_cases (class_nodes f (classes_in found)) (outer_nodes f (classes_in found)) (Preloaded f path) h) [
          | inl k ↦ cons_there (GlobalName f) (Preloaded f path) (base_nodes f 0 (classes_in found) ++ class_nodes f (classes_in found)) (Contains-append_right (base_nodes f 0 (classes_in found)) (class_nodes f (classes_in found)) (Preloaded f path) k)
          | inr k ↦ no_outer f path (classes_in found) k
        ]
      ]

  class_failed : (c : ClassId) (g : Content) (o : Option ClassTree) (x : Fault) → folder.look c.file ≡ Ok g → slice_get (classes_in g) c.index ≡ o → FailsWith (rules_of folder) (base_rule folder c.file (classes_in g) o) x → Contains (nodes_of folder c.file) (Base c)
  class_failed c g None x l e f = elim f [ ]
  class_failed c g (Some class) x l e f = class_among c g class l e

  name_failed : (f : ℕ) (x : Fault) → FailsWith (rules_of folder) (rule_of folder (GlobalName f)) x → Contains (nodes_of folder f) (GlobalName f)
  name_failed f x (FailsWith.after {g = g} h y) = name_among f g (tree_is folder f g h)

  base_failed : (c : ClassId) (x : Fault) → FailsWith (rules_of folder) (rule_of folder (Base c)) x → Contains (nodes_of folder c.file) (Base c)
  base_failed c x (FailsWith.after {g = g} h y) = class_failed c g (slice_get (classes_in g) c.index) x (tree_is folder c.file g h) refl y

  turned : (c : ClassId) (r : Result Content LoadFault) (x : Fault) → folder.look c.file ≡ r → cyclic_base folder (base_place folder (class_in_look folder r c.index)) ≡ Some x → Contains (nodes_of folder c.file) (Base c)
  turned c (Err fault) x l e = absurd (cc e)
  turned c (Ok g) x l e = turned_at c g (slice_get (classes_in g) c.index) x l refl e
    where
      turned_at : (c : ClassId) (g : Content) (o : Option ClassTree) (x : Fault) → folder.look c.file ≡ Ok g → slice_get (classes_in g) c.index ≡ o → cyclic_base folder (base_place folder o) ≡ Some x → Contains (nodes_of folder c.file) (Base c)
      turned_at c g None x l s e = absurd (cc e)
      turned_at c g (Some class) x l s e = class_among c g class l s

  module _ (p : ℕ) where
    abbrev P : ℕ → Type 0
    P f = IsRead folder p f

    read_kept : (f g : ℕ) → P f → Contains (reads_of folder f) g → P g
    read_kept f g r c = on r c

    -- what is at fault is a node of its file
    at_fault_among : (n : Node) (x : Fault) → In folder P read_kept n → IsAtFault (rules_of folder) n x → Contains (nodes_of folder (file_of n)) n
    at_fault_among (Tree f) x i a = cons_here (Tree f) (nodes_in f (folder.look f))
    at_fault_among (GlobalName f) x i (IsAtFault.fails_itself e w) = name_failed f x e
    at_fault_among (GlobalName f) x i (IsAtFault.in_cycle e l) = absurd (cc e)
    at_fault_among (Base c) x i (IsAtFault.fails_itself e w) = base_failed c x e
    at_fault_among (Base c) x i (IsAtFault.in_cycle e l) = turned c (folder.look c.file) x refl e
    at_fault_among (Preloaded f path) x i a = cons_there (Tree f) (Preloaded f path) (nodes_in f (folder.look f)) (path_among f path (folder.look f) (behind folder P read_kept f path i.1))

    leads_in : (a b : Node) → P (file_of a) → LeadsTo (rules_of folder) a b → In folder P read_kept b
    leads_in a b i (LeadsTo.first q u) = parts_in folder P read_kept a b i q
    leads_in a b i (LeadsTo.further {b = c} l q u) = parts_in folder P read_kept c b (leads_in a c i l).0 q

  -- a node of a file
  pub fact_or_fault : (f : ℕ) (n : Node) → file_of n ≡ f → Contains (nodes_of folder f) n → IsResolved (rules_of folder) n ⊎ HasFaultBehind folder f
  fact_or_fault f n s c =
      elim (fact_or folder n) [
        | inl w ↦ inl w
        | inr b ↦ inr (found b)
      ]
    where
      begins : IsRead folder f (file_of n)
      begins = subst (λ z. IsRead folder f z) (sym s) here

      found : LeadsToFault (rules_of folder) n → HasFaultBehind folder f
      found b =
          elim b.from [
            | inl e ↦ record { other = f; read = here; fault = b.fault; is = record { node = n; among = c; at = subst (λ z. IsAtFault (rules_of folder) z b.fault) (sym e) b.at } }
            | inr l ↦
                (let i : In folder (P f) (read_kept f) b.node = leads_in f n b.node begins l in
                record { other = file_of b.node; read = i.0; fault = b.fault; is = record { node = b.node; among = at_fault_among f b.node b.fault i b.at; at = b.at } })
          ]

  -- ---- what Done says
  pub there_is : {X : Type 0} (xs : List X) (i : ℕ) → i < length xs → (x : X) × (slice_get xs i ≡ Some x)
  there_is [] i h = absurd (omega (arith, h))
  there_is (x ∷ xs) zero h = (x, refl)
  there_is (x ∷ xs) (suc i) h = there_is xs i (omega (arith, h))

  pub done_ancestors : (f : ℕ) (facts : FileFacts) → IsDoneAtBases folder f facts → (index : ℕ) → index < length (classes_in facts.content) → IsResolved (rules_of folder) (Base (class_at f index))
  done_ancestors f facts d index h =
      let w = there_is facts.classes index (subst (λ z. index < z) (sym d.has.count) h) in
      let k = d.has.classes index w.0 w.1 in
      (k.ancestors, k.line)
