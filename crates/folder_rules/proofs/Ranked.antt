-- From a node that is no declaration the parts go down.
use Rattle.std.proofs.Common.{◌≡◌, ℕ, ◌<◌, inl, inr, true, false, if◌then◌else◌, Option, Some, None, Result, Ok, Err, List, [], slice_get, refl, ap, subst, arith}
use Rattle.gd_syntax.specs.declared.fault.FaultKind.TheVariants.{GlobalNameTaken}
use Rattle.gd_syntax.specs.declared.fault.LoadFault.{LoadFault}
use Rattle.gd_syntax.specs.declared.tree.member.Base.{Base as BaseTree}
use Rattle.gd_syntax.specs.declared.tree.type_name.Identifier.{Identifier}
use Rattle.gd_syntax.specs.declared.tree.type_name.PathText.{PathText}
use Rattle.variant_values.specs.declared.classes.ClassId.{ClassId}
use Rattle.folder_meaning.specs.declared.facts.Content.{Content}
use Rattle.facts.specs.Facts.{Give, Derives, gives, FailsWith, HasFact, Requires}
use Rattle.facts.specs.FiniteNodes.{IsRanked}
use Rattle.facts.proofs.Decision.{none_in}
use Rattle.facts.proofs.Derivations.{only_runs, fails_gives}
use Rattle.folder_rules.specs.Bases.{base_rule, extended}
use Rattle.folder_rules.specs.Classes.{ClassTree}
use Rattle.folder_rules.specs.Folders.{Folder, file_named}
use Rattle.folder_rules.specs.Links.{classes_in}
use Rattle.folder_rules.specs.Nodes.{Node, Tree, GlobalName, Base, Preloaded, Fault, fails}
use Rattle.folder_rules.specs.Rules.{base_place, class_in_look, cycle_fault_of, cyclic_base, is_taken, name_rule, place_of, preload_rule, registered_in, rule_of, rules_of, tree_rule}

-- a declaration comes above the bases that are written nowhere, and these above files
abbrev base_rank : Option Fault → ℕ
base_rank None = 1
base_rank (Some x) = 2

module _ (folder : Folder) where
  abbrev pub rank : Node → ℕ
  rank (Tree f) = 0
  rank (GlobalName f) = 1
  rank (Base c) = base_rank (cycle_fault_of folder (Base c))
  rank (Preloaded f path) = 0

  rank_low : (m : Node) → cycle_fault_of folder m ≡ None → rank m < 2
  rank_low (Tree f) e = omega arith
  rank_low (GlobalName f) e = omega arith
  rank_low (Base c) e = let k = ap base_rank e in omega (arith, k)
  rank_low (Preloaded f path) e = omega arith

  -- the tree of a file is what it is read as
  file_gives : (r : Result Content LoadFault) (f : ℕ) (g : Content) → Derives (rules_of folder) (Tree f) (tree_rule r) g → r ≡ Ok g
  file_gives (Ok found) f g h = ap Ok (only_runs (rules_of folder) (Tree f) (tree_rule (Ok found)) found g gives h)
  file_gives (Err fault) f g h = absurd (fails_gives (rules_of folder) (Tree f) (tree_rule (Err fault)) _ g FailsWith.fails h)

  pub tree_is : (f : ℕ) (g : Content) → HasFact (rules_of folder) (Tree f) g → folder.look f ≡ Ok g
  tree_is f g h = file_gives (folder.look f) f g h

  name_part : (o : Option Identifier) (m : Node) → Requires (rules_of folder) (name_rule folder o) m → ⊥
  name_part None m a = elim a [ ]
  name_part (Some name) m a =
      elim (is_taken folder name.name) as (λ b. Requires (rules_of folder) (if b then fails {A = Unit {0}} 2 GlobalNameTaken name.place else Give (tt {0})) m → ⊥) [ true ↦ λ z. elim z [ ] | false ↦ λ z. elim z [ ] ] a

  tree_part : (r : Result Content LoadFault) (m : Node) → Requires (rules_of folder) (tree_rule r) m → ⊥
  tree_part (Ok found) m a = elim a [ ]
  tree_part (Err fault) m a = elim a [ ]

  preload_part : (path : PathText) (o : Option ℕ) (m : Node) → Requires (rules_of folder) (preload_rule folder path o) m → ⊥
  preload_part path None m a = elim a [ ]
  preload_part path (Some g) m a = elim a [ ]

  native_part : (m : Node) → Requires (rules_of folder) (extended folder 0 [] [] None) m → ⊥
  native_part m a = elim a [ ]

  -- a class that says nothing of its base needs no other
  unsaid_part : (f : ℕ) (classes : List ClassTree) (outers : List ℕ) (b : Option BaseTree) (m : Node) → cyclic_base folder (place_of folder b) ≡ None → Requires (rules_of folder) (extended folder f classes outers b) m → ⊥
  unsaid_part f classes outers None m e a = elim a [ ]
  unsaid_part f classes outers (Some base) m e a = absurd (cc e)

  no_base_part : (f : ℕ) (classes : List ClassTree) (o : Option ClassTree) (m : Node) → cyclic_base folder (base_place folder o) ≡ None → Requires (rules_of folder) (base_rule folder f classes o) m → ⊥
  no_base_part f classes None m e a = elim a [ ]
  no_base_part f classes (Some class) m e a = unsaid_part f classes class.outers class.base m e a

  base_low : (c : ClassId) (m : Node) → Requires (rules_of folder) (rule_of folder (Base c)) m → cycle_fault_of folder (Base c) ≡ None → rank m < 1
  base_low c m Requires.now e = omega arith
  base_low c m (Requires.later {g = g} h a) e =
      absurd (no_base_part c.file (classes_in g) (slice_get (classes_in g) c.index) m (subst (λ r. cyclic_base folder (base_place folder (class_in_look folder r c.index)) ≡ None) (tree_is c.file g h) e) a)

  base_lower : (c : ClassId) (m : Node) (t : Option Fault) → cycle_fault_of folder (Base c) ≡ t → Requires (rules_of folder) (rule_of folder (Base c)) m → cycle_fault_of folder m ≡ None → rank m < base_rank t
  base_lower c m None e a n = base_low c m a e
  base_lower c m (Some x) e a n = rank_low m n

  name_low : (f : ℕ) (m : Node) → Requires (rules_of folder) (rule_of folder (GlobalName f)) m → rank m < 1
  name_low f m Requires.now = omega arith
  name_low f m (Requires.later {g = g} h a) = absurd (name_part (registered_in g) m a)

  part_low : (n m : Node) → Requires (rules_of folder) (rule_of folder n) m → cycle_fault_of folder m ≡ None → rank m < rank n
  part_low (Tree f) m a e = absurd (tree_part (folder.look f) m a)
  part_low (GlobalName f) m a e = name_low f m a
  part_low (Base c) m a e = base_lower c m (cycle_fault_of folder (Base c)) refl a e
  part_low (Preloaded f path) m a e = absurd (preload_part path (file_named folder f path.text) m a)

  pub ranked : IsRanked (rules_of folder) rank
  ranked = record { lower = λ n m p. elim p [ inl c ↦ none_in m c | inr a ↦ part_low n m a ] }
