-- Each node has its fact or leads to a fault, each fault is decided, and the faults of a file are a list.
use Rattle.std.proofs.Common.{◌≡◌, ℕ, suc, ◌==◌, ◌&&◌, ◌⊎◌, inl, inr, Bool, true, false, if◌then◌else◌, Option, Some, None, List, [], ◌∷◌, length, slice_get, Contains, refl, sym, ap, ◌∙◌, subst}
use Rattle.std.proofs.lemmas.Bool.Decides.{eqb_tells}
use Rattle.std.proofs.lemmas.Option.{slice_get_within}
use Rattle.variant_values.specs.declared.classes.ClassId.{ClassId}
use Rattle.facts.specs.Facts.{IsAtFault, IsResolved}
use Rattle.facts.specs.FiniteNodes.{AreNumbered, IsDeclaration, LeadsToFault}
use Rattle.facts.proofs.Decision.{cons_here, cons_there, cons_cases, decide, none_in}
use Rattle.facts.proofs.FaultDecision.{fault_or}
use Rattle.facts.proofs.FaultSearch.{fault_behind}
use Rattle.facts.proofs.OneFault.{only_fault}
use Rattle.folder_rules.specs.Folders.{Folder}
use Rattle.folder_rules.specs.Loads.{HasFault}
use Rattle.folder_rules.specs.Nodes.{Node, Tree, GlobalName, Base, Preloaded, Fault}
use Rattle.folder_rules.specs.Rules.{nodes_of, rules_of}
use Rattle.folder_rules.proofs.Bounded.{all, closed, itself_in}
use Rattle.folder_rules.proofs.Near.{contains_at}
use Rattle.folder_rules.proofs.Ranked.{rank, ranked}

-- the same class
abbrev same_class : Node → Node → Bool
same_class (Base a) (Base b) = a.file == b.file && a.index == b.index
same_class _ _ = false

both_same : (a b i j : ℕ) → (a == b && i == j) ≡ true → (a ≡ b) × (i ≡ j)
both_same a b i j e =
    elim (eqb_tells a b) [
      | inl w ↦ elim (eqb_tells i j) [ inl v ↦ (w.1, v.1) | inr v ↦ absurd (let k : (i == j) ≡ false = v.0 in let l : (a == b) ≡ true = w.0 in let z = rw (l, k) at e in cc z) ]
      | inr w ↦ absurd (let k : (a == b) ≡ false = w.0 in let z = rw k at e in cc z)
    ]

abbrev class_of : ℕ → ℕ → ClassId
class_of file index = record { file = file; index = index }

joined : (a b c : ClassId) → a ≡ b → b ≡ c → a ≡ c
joined a b c d e = d ∙ e

same_id : (a b : ClassId) → a.file ≡ b.file → a.index ≡ b.index → a ≡ b
same_id a b d e = joined (class_of a.file a.index) (class_of b.file a.index) (class_of b.file b.index) (ap (λ z. class_of z a.index) d) (ap (λ z. class_of b.file z) e)

same_is : (m n : Node) → same_class m n ≡ true → m ≡ n
same_is (Base a) (Base b) e = let w = both_same a.file b.file a.index b.index e in ap Base (same_id a b w.0 w.1)
same_is (Tree a) _ e = absurd (cc e)
same_is (GlobalName a) _ e = absurd (cc e)
same_is (Preloaded a x) _ e = absurd (cc e)
same_is (Base a) (Tree b) e = absurd (cc e)
same_is (Base a) (GlobalName b) e = absurd (cc e)
same_is (Base a) (Preloaded b x) e = absurd (cc e)

equal : (a : ℕ) → (a == a) ≡ true
equal a = elim (eqb_tells a a) [ inl w ↦ w.0 | inr w ↦ absurd (w.1 refl) ]

-- its place in a list
place_of : List Node → Node → ℕ
place_of [] d = 0
place_of (x ∷ xs) d = if same_class x d then 0 else suc (place_of xs d)

module _ (folder : Folder) where
  abbrev IsDecl : Node → Type 0
  IsDecl = IsDeclaration (rules_of folder)

  itself : (n : Node) → IsDecl n → same_class n n ≡ true
  itself (Base a) d = let k : (a.file == a.file) ≡ true = equal a.file in let l : (a.index == a.index) ≡ true = equal a.index in rw (k, l)
  itself (Tree a) d = absurd (let e = d.1 in cc e)
  itself (GlobalName a) d = absurd (let e = d.1 in cc e)
  itself (Preloaded a x) d = absurd (let e = d.1 in cc e)

  found_at : (xs : List Node) (d : Node) → Contains xs d → IsDecl d → slice_get xs (place_of xs d) ≡ Some d
  unfolding place_of
  found_at [] d c k = none_in d c
  found_at (x ∷ xs) d c k =
      elim (same_class x d) as (λ b. same_class x d ≡ b → slice_get (x ∷ xs) (if b then 0 else suc (place_of xs d)) ≡ Some d) [
        | true ↦ λ e. ap Some (same_is x d e)
        | false ↦ λ e. elim (cons_cases x d xs c) [
          | inl s ↦ absurd (let z : same_class d d ≡ false = subst (λ y. same_class y d ≡ false) s e in let q = sym z ∙ itself d k in cc q)
          | inr r ↦ found_at xs d r k
        ]
      ] refl

  module _ (nodes : List Node) where
    abbrev Listed : Type 0
    Listed = (d : Node) × Contains nodes d × IsDecl d

    by_cycle : (n : ℕ) (d : Node) → slice_get nodes n ≡ Some d → (t : Option Fault) → (rules_of folder).cycle_fault d ≡ t → Option Listed
    by_cycle n d e None q = None
    by_cycle n d e (Some x) q = Some (d, contains_at nodes n d e, (x, q))

    by_node : (n : ℕ) (o : Option Node) → slice_get nodes n ≡ o → Option Listed
    by_node n None e = None
    by_node n (Some d) e = by_cycle n d e ((rules_of folder).cycle_fault d) refl

    cycle_known : (n : ℕ) (d : Node) (e : slice_get nodes n ≡ Some d) (t : Option Fault) (q : (rules_of folder).cycle_fault d ≡ t) → IsDecl d → (w : Listed) × (by_cycle n d e t q ≡ Some w) × (w.0 ≡ d)
    unfolding by_cycle
    cycle_known n d e None q k = absurd (let z = sym q ∙ k.1 in cc z)
    cycle_known n d e (Some x) q k = ((d, contains_at nodes n d e, (x, q)), refl, refl)

    node_known : (n : ℕ) (o : Option Node) (e : slice_get nodes n ≡ o) (d : Node) → o ≡ Some d → IsDecl d → (w : Listed) × (by_node n o e ≡ Some w) × (w.0 ≡ d)
    unfolding by_node
    node_known n None e d s k = absurd (cc s)
    node_known n (Some y) e d s k =
        let same : y ≡ d = cc s in
        let r = cycle_known n y e ((rules_of folder).cycle_fault y) refl (subst IsDecl (sym same) k) in
        (r.0, r.1, r.2 ∙ same)

    back : (d : Node) → Contains nodes d → IsDecl d → (i : Contains nodes d) × (k : IsDecl d) × (by_node (place_of nodes d) (slice_get nodes (place_of nodes d)) refl ≡ Some (d, i, k))
    back d i k =
        let w = node_known (place_of nodes d) (slice_get nodes (place_of nodes d)) refl d (found_at nodes d i k) k in
        subst (λ z. (i : Contains nodes z) × (k : IsDecl z) × (by_node (place_of nodes d) (slice_get nodes (place_of nodes d)) refl ≡ Some (z, i, k))) w.2 (w.0.1, w.0.2, w.1)

    pub numbers : AreNumbered (rules_of folder) nodes
    numbers = record {
      count = length nodes;
      number = place_of nodes;
      node = λ n. by_node n (slice_get nodes n) refl;
      few = λ d i k. slice_get_within nodes (place_of nodes d) d (found_at nodes d i k);
      back = back;
    }

  pub fact_or : (n : Node) → IsResolved (rules_of folder) n ⊎ LeadsToFault (rules_of folder) n
  fact_or n =
      elim (decide (rules_of folder) (all folder n) (closed folder n) n (itself_in folder n)) [
        | inl w ↦ inl w
        | inr u ↦ inr (fault_behind (rules_of folder) (all folder n) (closed folder n) (rank folder) (ranked folder) n (itself_in folder n) u)
      ]

  abbrev FaultOr : Node → Type 0
  FaultOr n = ((x : Fault) × IsAtFault (rules_of folder) n x) ⊎ ((x : Fault) → IsAtFault (rules_of folder) n x → ⊥)

  pub fault_of_node : (n : Node) → FaultOr n
  fault_of_node n = fault_or (rules_of folder) (all folder n) (closed folder n) (rank folder) (ranked folder) (numbers (all folder n)) n (itself_in folder n)

  -- ---- the faults of some nodes
  pub record Gathered (ns : List Node) : Type 0 where
    pub list : List Fault
    pub sound : (x : Fault) → Contains list x → (n : Node) × Contains ns n × IsAtFault (rules_of folder) n x
    pub complete : (n : Node) (x : Fault) → Contains ns n → IsAtFault (rules_of folder) n x → Contains list x

  pub gathered : (ns : List Node) → Gathered ns
  gathered [] = record { list = []; sound = λ x c. none_in x c; complete = λ n x c f. none_in n c }
  gathered (n ∷ ns) =
      let r = gathered ns in
      elim (fault_of_node n) [
        | inl w ↦ record {
          list = w.0 ∷ r.list;
          sound = λ x c. elim (cons_cases w.0 x r.list c) [
            | inl e ↦ (n, cons_here n ns, subst (IsAtFault (rules_of folder) n) e w.1)
            | inr d ↦ (let s = r.sound x d in (s.0, cons_there n s.0 ns s.1, s.2))
          ];
          complete = λ m x c f. elim (cons_cases n m ns c) [
            | inl e ↦ (let g : IsAtFault (rules_of folder) n x = subst (λ z. IsAtFault (rules_of folder) z x) (sym e) f in
                let same : w.0 ≡ x = only_fault (rules_of folder) n w.0 x w.1 g in
                subst (λ z. Contains (w.0 ∷ r.list) z) same (cons_here w.0 r.list))
            | inr d ↦ cons_there w.0 x r.list (r.complete m x d f)
          ];
        }
        | inr w ↦ record {
          list = r.list;
          sound = λ x c. let s = r.sound x c in (s.0, cons_there n s.0 ns s.1, s.2);
          complete = λ m x c f. elim (cons_cases n m ns c) [ inl e ↦ absurd (w x (subst (λ z. IsAtFault (rules_of folder) z x) (sym e) f)) | inr d ↦ r.complete m x d f ];
        }
      ]

  pub fault_list : ℕ → List Fault
  fault_list p = (gathered (nodes_of folder p)).list

  pub fault_list_sound : (p : ℕ) (x : Fault) → Contains (fault_list p) x → HasFault folder p x
  unfolding fault_list
  fault_list_sound p x c = let s = (gathered (nodes_of folder p)).sound x c in record { node = s.0; among = s.1; at = s.2 }

  pub fault_list_complete : (p : ℕ) (x : Fault) → HasFault folder p x → Contains (fault_list p) x
  unfolding fault_list
  fault_list_complete p x f = (gathered (nodes_of folder p)).complete f.node x f.among f.at
