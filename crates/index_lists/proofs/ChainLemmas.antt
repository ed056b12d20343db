-- Chains of neighbours: what they say of a node, and how they follow the joining of two neighbours.
use Rattle.std.proofs.Common.{◌≡◌, ◌≢◌, ◌⊎◌, ℕ, List, [], ◌∷◌, ◌++◌, Option, Some, None, slice_get, refl, sym, ap, ◌∙◌, subst, inl, inr, arith}
use Rattle.std.specs.List.{Contains}
use Rattle.std.proofs.lemmas.Bool.{cases_eq}
use Rattle.index_lists.specs.Lists.{without, IsOnce}
use Rattle.index_lists.specs.Chains.{Spot, spot, AreJoined, IsChain}
use Rattle.index_lists.proofs.Nodes.{Contains-nil, Contains-first, Contains-rest, Contains-cons_cases, without-same, without-other, without-absent, IsOnce-first, IsOnce-rest, IsOnce-cons}

-- the node, if there is one, is in the list of the head
abbrev pub IsOwned : (ℕ → Option ℕ) → ℕ → Option ℕ → Type 0
IsOwned owner head end = (node : ℕ) → end ≡ Some node → owner node ≡ Some head

pub spot-node : (head node : ℕ) (end : Option ℕ) → spot head end ≡ inr node → end ≡ Some node
spot-node head node None same = cc
spot-node head node (Some other) same = cc

-- ends in the lists of two heads are two spots
pub spots_apart : (owner : ℕ → Option ℕ) (head other : ℕ) (end far : Option ℕ) → head ≢ other → IsOwned owner head end → IsOwned owner other far → spot head end ≢ spot other far
spots_apart owner head other None None differs own far_own same = differs (cc)
spots_apart owner head other None (Some far) differs own far_own same = cc
spots_apart owner head other (Some end) None differs own far_own same = cc
spots_apart owner head other (Some end) (Some far) differs own far_own same =
    let one : end ≡ far = cc in
    let this : owner end ≡ Some head = own end refl in
    let that : owner far ≡ Some other = far_own far refl in
    let owners : owner end ≡ owner far = ap owner one in
    differs (cc)

module _ (next previous : Spot → Option ℕ) where
  -- a chain that is cut at a node
  pub IsChain-split : (head : ℕ) (left : Option ℕ) (front : List ℕ) (node : ℕ) (rest : List ℕ) (right : Option ℕ) → IsChain next previous head left (front ++ node ∷ rest) right → IsChain next previous head left front (Some node) × IsChain next previous head (Some node) rest right
  IsChain-split head left [] node rest right chain = (chain.0, chain.1)
  IsChain-split head left (first ∷ front) node rest right chain =
      let parts = IsChain-split head (Some first) front node rest right chain.1 in
      ((chain.0, parts.0), parts.1)

  -- what comes after the left end
  pub chain_first : (head : ℕ) (left : Option ℕ) (nodes : List ℕ) → IsChain next previous head left nodes None → next (spot head left) ≡ slice_get nodes 0
  chain_first head left [] chain = chain.forth
  chain_first head left (first ∷ rest) chain = chain.0.forth

  -- before the right end comes the left end or a node
  pub before_end : (head : ℕ) (left : Option ℕ) (nodes : List ℕ) (right : Option ℕ) → IsChain next previous head left nodes right → (previous (spot head right) ≡ left) ⊎ ((node : ℕ) × Contains nodes node × (previous (spot head right) ≡ Some node))
  before_end head left [] right chain = inl chain.back
  before_end head left (first ∷ rest) right chain =
      elim (before_end head (Some first) rest right chain.1) [
        | inl here ↦ inr (first, Contains-first first rest, here)
        | inr later ↦ inr (later.0, Contains-rest first rest later.0 later.1, later.2)
      ]

  -- from before the right end the links lead to it
  pub end_forth : (head : ℕ) (left : Option ℕ) (nodes : List ℕ) (right : Option ℕ) → IsChain next previous head left nodes right → next (spot head (previous (spot head right))) ≡ right
  end_forth head left [] right chain = ap (λ end. next (spot head end)) chain.back ∙ chain.forth
  end_forth head left (first ∷ rest) right chain = end_forth head (Some first) rest right chain.1

  -- before a node comes the left end or a node
  pub before_node : (head : ℕ) (left : Option ℕ) (nodes : List ℕ) (right : Option ℕ) (node : ℕ) → IsChain next previous head left nodes right → Contains nodes node → (previous (inr node) ≡ left) ⊎ ((other : ℕ) × Contains nodes other × (previous (inr node) ≡ Some other))
  before_node head left [] right node chain found = absurd (Contains-nil node found)
  before_node head left (first ∷ rest) right node chain found =
      elim (Contains-cons_cases first rest node found) [
        | inl here ↦ inl (ap (λ n. previous (inr n)) (sym here) ∙ chain.0.back)
        | inr later ↦
            elim (before_node head (Some first) rest right node chain.1 later) [
              | inl start ↦ inr (first, Contains-first first rest, start)
              | inr among ↦ inr (among.0, Contains-rest first rest among.0 among.1, among.2)
            ]
      ]

  -- after a node comes a node or the right end
  pub after_node : (head : ℕ) (left : Option ℕ) (nodes : List ℕ) (right : Option ℕ) (node : ℕ) → IsChain next previous head left nodes right → Contains nodes node → (next (inr node) ≡ right) ⊎ ((other : ℕ) × Contains nodes other × (next (inr node) ≡ Some other))
  after_node head left [] right node chain found = absurd (Contains-nil node found)
  after_node head left (first ∷ []) right node chain found =
      elim (Contains-cons_cases first [] node found) [
        | inl here ↦ inl (ap (λ n. next (inr n)) (sym here) ∙ chain.1.forth)
        | inr later ↦ absurd (Contains-nil node later)
      ]
  after_node head left (first ∷ (second ∷ rest)) right node chain found =
      elim (Contains-cons_cases first (second ∷ rest) node found) [
        | inl here ↦ inr (second, Contains-rest first (second ∷ rest) second (Contains-first second rest), ap (λ n. next (inr n)) (sym here) ∙ chain.1.0.forth)
        | inr later ↦
            elim (after_node head (Some first) (second ∷ rest) right node chain.1 later) [
              | inl end ↦ inl end
              | inr among ↦ inr (among.0, Contains-rest first (second ∷ rest) among.0 among.1, among.2)
            ]
      ]

  -- from before a node the links lead to it
  pub node_forth : (head : ℕ) (left : Option ℕ) (nodes : List ℕ) (right : Option ℕ) (node : ℕ) → IsChain next previous head left nodes right → Contains nodes node → next (spot head (previous (inr node))) ≡ Some node
  node_forth head left [] right node chain found = absurd (Contains-nil node found)
  node_forth head left (first ∷ rest) right node chain found =
      elim (Contains-cons_cases first rest node found) [
        | inl here ↦ subst (λ n. next (spot head (previous (inr n))) ≡ Some n) here (ap (λ end. next (spot head end)) chain.0.back ∙ chain.0.forth)
        | inr later ↦ node_forth head (Some first) rest right node chain.1 later
      ]

  -- and from after it back
  pub node_back : (head : ℕ) (left : Option ℕ) (nodes : List ℕ) (right : Option ℕ) (node : ℕ) → IsChain next previous head left nodes right → Contains nodes node → previous (spot head (next (inr node))) ≡ Some node
  node_back head left [] right node chain found = absurd (Contains-nil node found)
  node_back head left (first ∷ []) right node chain found =
      elim (Contains-cons_cases first [] node found) [
        | inl here ↦ subst (λ n. previous (spot head (next (inr n))) ≡ Some n) here (ap (λ end. previous (spot head end)) chain.1.forth ∙ chain.1.back)
        | inr later ↦ absurd (Contains-nil node later)
      ]
  node_back head left (first ∷ (second ∷ rest)) right node chain found =
      elim (Contains-cons_cases first (second ∷ rest) node found) [
        | inl here ↦ subst (λ n. previous (spot head (next (inr n))) ≡ Some n) here (ap (λ end. previous (spot head end)) chain.1.0.forth ∙ chain.1.0.back)
        | inr later ↦ node_back head (Some first) (second ∷ rest) right node chain.1 later
      ]

  -- no node of a chain stands twice, since it would have two nodes before it
  pub IsOnce-chain : (head : ℕ) (left : Option ℕ) (nodes : List ℕ) (right : Option ℕ) → IsChain next previous head left nodes right → ((node : ℕ) → left ≡ Some node → Contains nodes node → ⊥) → IsOnce nodes
  IsOnce-chain head left [] right chain fresh = λ i j d below within. absurd (omega (arith, within))
  IsOnce-chain head left (first ∷ rest) right chain fresh =
      let absent : Contains rest first → ⊥ =
      λ found.
      elim (before_node head (Some first) rest right first chain.1 found) as (λ _. ⊥) [
        | inl start ↦ fresh first (sym chain.0.back ∙ start) (Contains-first first rest)
        | inr among ↦ fresh among.0 (sym chain.0.back ∙ among.2) (Contains-rest first rest among.0 among.1)
      ] in
      IsOnce-cons first rest absent
      (IsOnce-chain head (Some first) rest right chain.1
      (λ node same found. let one : first ≡ node = cc in absent (subst (λ n. Contains rest n) (sym one) found)))

  module _ (next' previous' : Spot → Option ℕ) where
    -- a chain stays where the links at its nodes and ends do
    pub IsChain-kept : (P : Option ℕ → Type 0) (head : ℕ) → ((end : Option ℕ) → P end → next' (spot head end) ≡ next (spot head end)) → ((end : Option ℕ) → P end → previous' (spot head end) ≡ previous (spot head end)) → (left : Option ℕ) (nodes : List ℕ) (right : Option ℕ) → P left → ((node : ℕ) → Contains nodes node → P (Some node)) → P right → IsChain next previous head left nodes right → IsChain next' previous' head left nodes right
    IsChain-kept P head nexts previouses left [] right at_left at_nodes at_right chain =
        record { forth = nexts left at_left ∙ chain.forth; back = previouses right at_right ∙ chain.back }
    IsChain-kept P head nexts previouses left (first ∷ rest) right at_left at_nodes at_right chain =
        let here = at_nodes first (Contains-first first rest) in (
          record { forth = nexts left at_left ∙ chain.0.forth; back = previouses (Some first) here ∙ chain.0.back },
          IsChain-kept P head nexts previouses (Some first) rest right here (λ node found. at_nodes node (Contains-rest first rest node found)) at_right chain.1,
        )

    -- a node is taken out of a chain, where its neighbours are joined and no other link changes
    module _ (head node : ℕ)
        (joined : AreJoined next' previous' head (previous (inr node)) (next (inr node)))
        (nexts : (at : Spot) → at ≢ inr node → at ≢ spot head (previous (inr node)) → next' at ≡ next at)
        (previouses : (at : Spot) → at ≢ inr node → at ≢ spot head (next (inr node)) → previous' at ≡ previous at)
        (forth : next (spot head (previous (inr node))) ≡ Some node)
        (back : previous (spot head (next (inr node))) ≡ Some node) where
      AreJoined-kept : (left right : Option ℕ) → left ≢ Some node → right ≢ Some node → AreJoined next previous head left right → AreJoined next' previous' head left right
      AreJoined-kept left right not_left not_right pair = record {
        forth = nexts (spot head left) (λ same. not_left (spot-node head node left same)) (λ same. not_right (sym pair.forth ∙ ap next same ∙ forth)) ∙ pair.forth;
        back = previouses (spot head right) (λ same. not_right (spot-node head node right same)) (λ same. not_left (sym pair.back ∙ ap previous same ∙ back)) ∙ pair.back;
      }

      not_node : (other : ℕ) → other ≢ node → Some other ≢ Some node
      not_node other differs same = differs (cc)

      -- a part of the chain without the node
      IsChain-apart : (left : Option ℕ) (nodes : List ℕ) (right : Option ℕ) → left ≢ Some node → right ≢ Some node → (Contains nodes node → ⊥) → IsChain next previous head left nodes right → IsChain next' previous' head left nodes right
      IsChain-apart left [] right not_left not_right absent chain = AreJoined-kept left right not_left not_right chain
      IsChain-apart left (first ∷ rest) right not_left not_right absent chain =
          let differs = not_node first (λ same. absent (subst (λ n. Contains (first ∷ rest) n) same (Contains-first first rest))) in (
            AreJoined-kept left (Some first) not_left differs chain.0,
            IsChain-apart (Some first) rest right differs not_right (λ found. absent (Contains-rest first rest node found)) chain.1,
          )

      -- what follows the node now follows what came before it
      IsChain-closed : (left : Option ℕ) (rest : List ℕ) (right : Option ℕ) → previous (inr node) ≡ left → right ≢ Some node → (Contains rest node → ⊥) → IsChain next previous head (Some node) rest right → IsChain next' previous' head left rest right
      IsChain-closed left [] right before not_right absent chain =
          subst (λ end. AreJoined next' previous' head end right) before
          (subst (λ end. AreJoined next' previous' head (previous (inr node)) end) chain.forth joined)
      IsChain-closed left (first ∷ rest) right before not_right absent chain =
          let differs = not_node first (λ same. absent (subst (λ n. Contains (first ∷ rest) n) same (Contains-first first rest))) in (
            subst (λ end. AreJoined next' previous' head end (Some first)) before
                (subst (λ end. AreJoined next' previous' head (previous (inr node)) end) chain.0.forth joined),
            IsChain-apart (Some first) rest right differs not_right (λ found. absent (Contains-rest first rest node found)) chain.1,
          )

      pub IsChain-without : (left : Option ℕ) (nodes : List ℕ) (right : Option ℕ) → left ≢ Some node → right ≢ Some node → IsOnce nodes → Contains nodes node → IsChain next previous head left nodes right → IsChain next' previous' head left (without node nodes) right
      IsChain-without left [] right not_left not_right once found chain = absurd (Contains-nil node found)
      IsChain-without left (first ∷ rest) right not_left not_right once found chain =
          elim (cases_eq first node) [
            | inl same ↦
                let absent : Contains rest node → ⊥ = λ again. IsOnce-first first rest once (subst (λ n. Contains rest n) (sym same) again) in
                let left_over : without node (first ∷ rest) ≡ rest = ap (λ n. without node (n ∷ rest)) same ∙ without-same node rest ∙ without-absent node rest absent in
                subst (λ nodes. IsChain next' previous' head left nodes right) (sym left_over)
                (IsChain-closed left rest right (ap (λ n. previous (inr n)) (sym same) ∙ chain.0.back) not_right absent
                (subst (λ n. IsChain next previous head (Some n) rest right) same chain.1))
            | inr differs ↦
                subst (λ nodes. IsChain next' previous' head left nodes right) (sym (without-other node first rest differs)) (
                  AreJoined-kept left (Some first) not_left (not_node first differs) chain.0,
                  IsChain-without (Some first) rest right (not_node first differs) not_right (IsOnce-rest first rest once)
                      (elim (Contains-cons_cases first rest node found) as (λ _. Contains rest node) [
                        | inl here ↦ absurd (differs here)
                        | inr later ↦ later
                      ]) chain.1,
                )
          ]

    -- a node is put at the end of a chain
    module _ (head node : ℕ)
        (last : AreJoined next' previous' head (previous (inl head)) (Some node))
        (end : AreJoined next' previous' head (Some node) None)
        (nexts : (at : Spot) → at ≢ inr node → at ≢ spot head (previous (inl head)) → next' at ≡ next at)
        (previouses : (at : Spot) → at ≢ inr node → at ≢ inl head → previous' at ≡ previous at)
        (forth : next (spot head (previous (inl head))) ≡ None) where
      pub IsChain-push : (left : Option ℕ) (nodes : List ℕ) → left ≢ Some node → (Contains nodes node → ⊥) → IsChain next previous head left nodes None → IsChain next' previous' head left (nodes ++ node ∷ []) None
      IsChain-push left [] not_left absent chain =
          (subst (λ far. AreJoined next' previous' head far (Some node)) chain.back last, end)
      IsChain-push left (first ∷ rest) not_left absent chain =
          let differs : first ≢ node = λ same. absent (subst (λ n. Contains (first ∷ rest) n) same (Contains-first first rest)) in
          let not_last : spot head left ≢ spot head (previous (inl head)) =
          λ same. let both : Some first ≡ None = sym chain.0.forth ∙ ap next same ∙ forth in cc in
          let not_first : Some first ≢ Some node = λ same. differs (cc) in
          let not_this : ◌≢◌ {A = Spot} (inr first) (inr node) = λ same. differs (cc) in
          let not_head : ◌≢◌ {A = Spot} (inr first) (inl head) = λ same. cc in (
            record {
              forth = nexts (spot head left) (λ same. not_left (spot-node head node left same)) not_last ∙ chain.0.forth;
              back = previouses (inr first) not_this not_head ∙ chain.0.back;
            },
            IsChain-push (Some first) rest not_first (λ found. absent (Contains-rest first rest node found)) chain.1,
          )
