-- Stage 2 of a file comes to one of three.
use Rattle.std.proofs.Common.{◌≡◌, ℕ, zero, suc, ◌+◌, ◌<◌, ◌⊎◌, inl, inr, List, [], ◌∷◌, length, Contains, refl, sym, ap, subst, arith}
use Rattle.folder_meaning.specs.declared.facts.Content.{Content}
use Rattle.facts.specs.Facts.{IsResolved, IsUnresolved}
use Rattle.facts.specs.Outcome.{HasOutcome, IsFinite, Outcome, is_nothing, is_blocked, is_refused, is_done}
use Rattle.facts.proofs.Decision.{cons_cases, decide, none_in}
use Rattle.facts.proofs.Outcomes.{Any, any_or, outcome}
use Rattle.facts.proofs.Reach.{cover}
use Rattle.folder_rules.specs.Classes.{ClassTree}
use Rattle.folder_rules.specs.Folders.{Folder}
use Rattle.folder_rules.specs.Links.{classes_in}
use Rattle.folder_rules.specs.Loads.{HasFault, is_no_later}
use Rattle.folder_rules.specs.Nodes.{Node, Base, Fault}
use Rattle.folder_rules.specs.Rules.{base_nodes, rules_of}
use Rattle.folder_rules.specs.Solving.{Solving, Solved, RefusedFor, HeldUp, IsFirstOfBases, HasNoFaultOfBases, HasAllAncestors, HasClassWithout, ComesTo}
use Rattle.folder_rules.proofs.Behind.{there_is}
use Rattle.folder_rules.proofs.Bounded.{all, closed, itself_in}
use Rattle.folder_rules.proofs.Decided.{fault_list, fault_list_sound, fault_list_complete}
use Rattle.folder_rules.proofs.Near.{base_in, class_at}
use Rattle.folder_rules.proofs.Order.{order_total, order_trans, order_antisymm}

-- the stage before
abbrev before : ℕ → ℕ
before zero = 0
before (suc n) = n

second : (s : ℕ) → before s ≡ 1 → s ≡ 2
second zero e = absurd (cc e)
second (suc n) e = ap suc e

abbrev stage_before : Fault → ℕ
stage_before x = before x.stage

abbrev no_needs : ℕ → ℕ → List ℕ
no_needs k p = []

record Indexed (f at : ℕ) (classes : List ClassTree) (m : Node) : Type 0 where
  index : ℕ
  within : index < length classes
  is : m ≡ Base (class_at f (at + index))

indexed : (f at : ℕ) (classes : List ClassTree) (m : Node) → Contains (base_nodes f at classes) m → Indexed f at classes m
indexed f at [] m c = none_in m c
indexed f at (x ∷ classes) m c =
    elim (cons_cases (Base (class_at f at)) m (base_nodes f (suc at) classes) c) [
      | inl e ↦ record { index = 0; within = omega arith; is = subst (λ z. m ≡ Base (class_at f z)) (omega arith) (sym e) }
      | inr k ↦ (let r = indexed f (suc at) classes m k in record { index = suc r.index; within = omega (arith, r.within); is = subst (λ z. m ≡ Base (class_at f z)) (omega arith) r.is })
    ]

module _ (folder : Folder) (file : ℕ) where
  finite : IsFinite stage_before is_no_later (HasFault folder) no_needs
  finite = record {
    covers = λ k p. cover (no_needs k) 0 (λ a b c. none_in b c) p;
    list = fault_list folder;
    sound = fault_list_sound folder;
    complete = fault_list_complete folder;
    total = order_total;
    trans = order_trans;
  }

  first_of : (v : Outcome Fault) → HasOutcome stage_before is_no_later (HasFault folder) no_needs 0 file v → ((x : Fault) × IsFirstOfBases folder file x) ⊎ HasNoFaultOfBases folder file
  first_of v (is_nothing e) = absurd e
  first_of v (is_blocked n b) = absurd b.has_ended
  first_of v (is_refused {x = x} n m f) = inl (x, record { is = f.is; at = second x.stage f.at; least = λ y g s. f.least y g (ap before s) })
  first_of v (is_done n m f) = inr (λ x g s. f (record { fault_of = x; is = g; at = ap before s }))

  first_or : ((x : Fault) × IsFirstOfBases folder file x) ⊎ HasNoFaultOfBases folder file
  first_or = let w = outcome stage_before is_no_later (HasFault folder) no_needs finite 0 file in first_of w.0 w.1

  fact_decided : (n : Node) → IsResolved (rules_of folder) n ⊎ IsUnresolved (rules_of folder) n
  fact_decided n = decide (rules_of folder) (all folder n) (closed folder n) n (itself_in folder n)

  unresolved_or : (n : Node) → IsUnresolved (rules_of folder) n ⊎ (IsUnresolved (rules_of folder) n → ⊥)
  unresolved_or n = elim (fact_decided n) [ inl w ↦ inr (λ u. u w.0 w.1) | inr u ↦ inl u ]

  module _ (content : Content) where
    among : (index : ℕ) → index < length (classes_in content) → Contains (base_nodes file 0 (classes_in content)) (Base (class_at file index))
    among index h =
        let w = there_is folder (classes_in content) index h in
        subst (λ z. Contains (base_nodes file 0 (classes_in content)) (Base (class_at file z))) (omega arith) (base_in file 0 index (classes_in content) w.0 w.1)

    ancestors_or : HasAllAncestors folder file content ⊎ HasClassWithout folder file content
    ancestors_or =
        elim (any_or (IsUnresolved (rules_of folder)) unresolved_or (base_nodes file 0 (classes_in content))) [
          | Any.some {x = n} c u ↦
              (let r = indexed file 0 (classes_in content) n c in
              inr (record { index = r.index; within = r.within; is = subst (λ z. IsUnresolved (rules_of folder) (Base (class_at file z))) (omega arith) (subst (IsUnresolved (rules_of folder)) r.is u) }))
          | Any.not_one m ↦ inl (λ index h. elim (fact_decided (Base (class_at file index))) [ inl w ↦ w | inr u ↦ absurd (m (Base (class_at file index)) (among index h) u) ])
        ]

    pub some_answer : (v : Solving) × ComesTo folder file content v
    some_answer =
        elim first_or [
          | inl f ↦ (RefusedFor f.0, ComesTo.refused f.1)
          | inr n ↦ elim ancestors_or [ inl a ↦ (Solved, ComesTo.solved n a) | inr w ↦ (HeldUp, ComesTo.held_up n w) ]
        ]

    not_both : HasAllAncestors folder file content → HasClassWithout folder file content → ⊥
    not_both a w = let r = a w.index w.within in w.is r.0 r.1

    pub one_answer : (v w : Solving) → ComesTo folder file content v → ComesTo folder file content w → v ≡ w
    one_answer v w (ComesTo.solved n a) (ComesTo.solved m b) = refl
    one_answer v w (ComesTo.solved n a) (ComesTo.refused {x = x} f) = absurd (n x f.is f.at)
    one_answer v w (ComesTo.solved n a) (ComesTo.held_up m b) = absurd (not_both a b)
    one_answer v w (ComesTo.refused {x = x} f) (ComesTo.solved m b) = absurd (m x f.is f.at)
    one_answer v w (ComesTo.refused {x = x} f) (ComesTo.refused {x = y} g) = ap RefusedFor (order_antisymm x y (f.least y g.is g.at) (g.least x f.is f.at))
    one_answer v w (ComesTo.refused {x = x} f) (ComesTo.held_up m b) = absurd (m x f.is f.at)
    one_answer v w (ComesTo.held_up n a) (ComesTo.solved m b) = absurd (not_both b a)
    one_answer v w (ComesTo.held_up n a) (ComesTo.refused {x = x} f) = absurd (n x f.is f.at)
    one_answer v w (ComesTo.held_up n a) (ComesTo.held_up m b) = refl
