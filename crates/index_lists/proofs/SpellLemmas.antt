-- Links that spell the lists of heads still do so once a node is put last or taken out.
use Rattle.std.proofs.Common.{◌≡◌, ◌≢◌, ℕ, List, [], ◌∷◌, ◌++◌, Option, Some, None, sym, ap, ◌∙◌, subst, inl, inr}
use Rattle.std.specs.List.{Contains}
use Rattle.std.proofs.lemmas.Bool.{cases_eq}
use Rattle.std.proofs.lemmas.List.Elements.{Contains-append_left, Contains-push, Contains-push_cases}
use Rattle.index_lists.specs.Lists.{without, IsOnce}
use Rattle.index_lists.specs.Chains.{Spot, spot, AreJoined, IsChain, Spells, Joins}
use Rattle.index_lists.proofs.Nodes.{without-absent, Contains-from_without, Contains-without}
use Rattle.index_lists.proofs.ChainLemmas.{IsOwned, spot-node, spots_apart, before_end, end_forth, before_node, after_node, node_forth, node_back, IsOnce-chain, IsChain-kept, IsChain-without, IsChain-push}

same_some : (a b : ℕ) → ◌≡◌ {A = Option ℕ} (Some a) (Some b) → a ≡ b
same_some a b same = cc

not_none : (a : ℕ) → ◌≡◌ {A = Option ℕ} None (Some a) → ⊥
not_none a same = cc

module _ (next previous : Spot → Option ℕ) (owner : ℕ → Option ℕ) (list : ℕ → List ℕ) where
  -- the same links spell the same lists
  pub Spells-same : (next' previous' : Spot → Option ℕ) (owner' : ℕ → Option ℕ) (list' : ℕ → List ℕ) → ((at : Spot) → next' at ≡ next at) → ((at : Spot) → previous' at ≡ previous at) → ((node : ℕ) → owner' node ≡ owner node) → ((head : ℕ) → list' head ≡ list head) → Spells next previous owner list → Spells next' previous' owner' list'
  Spells-same next' previous' owner' list' nexts previouses owners lists spells =
      subst (λ f. Spells f previous' owner' list') (λ i at. sym (nexts at) i)
      (subst (λ f. Spells next f owner' list') (λ i at. sym (previouses at) i)
      (subst (λ f. Spells next previous f list') (λ i node. sym (owners node) i)
      (subst (λ f. Spells next previous owner f) (λ i head. sym (lists head) i) spells)))

  module _ (spells : Spells next previous owner list) where
    -- a node is in one list, and there once
    pub one_list : (head other node : ℕ) → Contains (list head) node → Contains (list other) node → head ≡ other
    one_list head other node this that = same_some head other (sym (spells.owned head node this) ∙ spells.owned other node that)

    pub once_there : (head : ℕ) → IsOnce (list head)
    once_there head = IsOnce-chain next previous head None (list head) None (spells.chained head) (λ node same found. not_none node same)

    pub last_owned : (head : ℕ) → IsOwned owner head (previous (inl head))
    last_owned head node is =
        elim (before_end next previous head None (list head) None (spells.chained head)) [
          | inl start ↦ absurd (not_none node (sym start ∙ is))
          | inr among ↦
              subst (λ n. owner n ≡ Some head) (same_some among.0 node (sym among.2 ∙ is)) (spells.owned head among.0 among.1)
        ]

    pub before_owned : (head node : ℕ) → owner node ≡ Some head → IsOwned owner head (previous (inr node))
    before_owned head node mine other is =
        elim (before_node next previous head None (list head) None node (spells.chained head) (spells.listed head node mine)) [
          | inl start ↦ absurd (not_none other (sym start ∙ is))
          | inr among ↦
              subst (λ n. owner n ≡ Some head) (same_some among.0 other (sym among.2 ∙ is)) (spells.owned head among.0 among.1)
        ]

    pub after_owned : (head node : ℕ) → owner node ≡ Some head → IsOwned owner head (next (inr node))
    after_owned head node mine other is =
        elim (after_node next previous head None (list head) None node (spells.chained head) (spells.listed head node mine)) [
          | inl end ↦ absurd (not_none other (sym end ∙ is))
          | inr among ↦
              subst (λ n. owner n ≡ Some head) (same_some among.0 other (sym among.2 ∙ is)) (spells.owned head among.0 among.1)
        ]

    node_owned : (head node : ℕ) → owner node ≡ Some head → IsOwned owner head (Some node)
    node_owned head node mine other is = subst (λ n. owner n ≡ Some head) (same_some node other is) mine

    none_owned : (head : ℕ) → IsOwned owner head None
    none_owned head node is = absurd (not_none node is)

    among_owned : (head node : ℕ) → Contains (list head) node → IsOwned owner head (Some node)
    among_owned head node found = node_owned head node (spells.owned head node found)

    module _ (head node : ℕ) (next1 previous1 next' previous' : Spot → Option ℕ) (owner' : ℕ → Option ℕ) (list' : ℕ → List ℕ) (others : (other : ℕ) → other ≢ node → owner' other ≡ owner other) where
      module _ (next2 previous2 : Spot → Option ℕ)
          (free : owner node ≡ None)
          (nexts1 : (at : Spot) → next1 at ≡ next at)
          (previouses1 : (at : Spot) → previous1 at ≡ previous at)
          (into : Joins next1 previous1 next2 previous2 head (previous (inl head)) (Some node))
          (out : Joins next2 previous2 next' previous' head (Some node) None)
          (mine : owner' node ≡ Some head)
          (pushed : list' head ≡ list head ++ node ∷ [])
          (same : (other : ℕ) → other ≢ head → list' other ≡ list other) where
        not_there : (other : ℕ) → Contains (list other) node → ⊥
        not_there other found = not_none other (sym free ∙ spells.owned other node found)

        not_last : spot head (previous (inl head)) ≢ inr node
        not_last is = not_none head (sym free ∙ last_owned head node (spot-node head node (previous (inl head)) is))

        nexts : (at : Spot) → at ≢ inr node → at ≢ spot head (previous (inl head)) → next' at ≡ next at
        nexts at not_node not_end = out.nexts at not_node ∙ into.nexts at not_end ∙ nexts1 at

        previouses : (at : Spot) → at ≢ inr node → at ≢ inl head → previous' at ≡ previous at
        previouses at not_node not_head = out.previouses at not_head ∙ into.previouses at not_node ∙ previouses1 at

        last : AreJoined next' previous' head (previous (inl head)) (Some node)
        last = record {
          forth = out.nexts (spot head (previous (inl head))) not_last ∙ into.joined.forth;
          back = out.previouses (inr node) (λ is. cc) ∙ into.joined.back;
        }

        not_owned : (other : ℕ) (end : Option ℕ) → IsOwned owner other end → spot other end ≢ inr node
        not_owned other end own is = not_none other (sym free ∙ own node (spot-node other node end is))

        head_apart : (other : ℕ) (end : Option ℕ) → other ≢ head → IsOwned owner other end → spot other end ≢ inl head
        head_apart other end differs own = spots_apart owner other head end None differs own (none_owned head)

        chained : (other : ℕ) → IsChain next' previous' other None (list' other) None
        chained other =
            elim (cases_eq other head) [
              | inl here ↦
                  subst (λ h. IsChain next' previous' h None (list' h) None) (sym here)
                  (subst (λ nodes. IsChain next' previous' head None nodes None) (sym pushed)
                  (IsChain-push next previous next' previous' head node last out.joined nexts previouses
                  (end_forth next previous head None (list head) None (spells.chained head))
                  None (list head) (λ is. not_none node is) (not_there head) (spells.chained head)))
              | inr differs ↦
                  subst (λ nodes. IsChain next' previous' other None nodes None) (sym (same other differs))
                  (IsChain-kept next previous next' previous' (IsOwned owner other) other
                  (λ end own. nexts (spot other end) (not_owned other end own) (spots_apart owner other head end (previous (inl head)) differs own (last_owned head)))
                  (λ end own. previouses (spot other end) (not_owned other end own) (head_apart other end differs own))
                  None (list other) None (none_owned other) (among_owned other) (none_owned other) (spells.chained other))
            ]

        owned : (other found : ℕ) → Contains (list' other) found → owner' found ≡ Some other
        owned other found there =
            elim (cases_eq other head) [
              | inl here ↦
                  elim (Contains-push_cases (list head) node found (subst (λ nodes. Contains nodes found) (ap list' here ∙ pushed) there)) [
                    | inl before ↦
                        others found (λ is. not_there head (subst (λ n. Contains (list head) n) is before))
                        ∙ spells.owned head found before ∙ ap Some (sym here)
                    | inr is ↦ ap owner' (sym is) ∙ mine ∙ ap Some (sym here)
                  ]
              | inr differs ↦
                  let before = subst (λ nodes. Contains nodes found) (same other differs) there in
                  others found (λ is. not_there other (subst (λ n. Contains (list other) n) is before)) ∙ spells.owned other found before
            ]

        listed : (other found : ℕ) → owner' found ≡ Some other → Contains (list' other) found
        listed other found own =
            elim (cases_eq found node) [
              | inl is ↦
                  let here : head ≡ other = same_some head other (sym mine ∙ ap owner' (sym is) ∙ own) in
                  subst (λ h. Contains (list' h) found) here
                  (subst (λ nodes. Contains nodes found) (sym pushed)
                  (subst (λ n. Contains (list head ++ node ∷ []) n) (sym is) (Contains-push (list head) node)))
              | inr differs ↦
                  let before = spells.listed other found (sym (others found differs) ∙ own) in
                  elim (cases_eq other head) [
                    | inl here ↦
                        subst (λ nodes. Contains nodes found) (sym (ap list' here ∙ pushed))
                        (Contains-append_left (list head) (node ∷ []) found (subst (λ h. Contains (list h) found) here before))
                    | inr elsewhere ↦ subst (λ nodes. Contains nodes found) (sym (same other elsewhere)) before
                  ]
            ]

        pub Spells-push : Spells next' previous' owner' list'
        Spells-push = record { chained = chained; owned = owned; listed = listed }

      module _
          (mine : owner node ≡ Some head)
          (nexts1 : (at : Spot) → at ≢ inr node → next1 at ≡ next at)
          (previouses1 : (at : Spot) → at ≢ inr node → previous1 at ≡ previous at)
          (closed : Joins next1 previous1 next' previous' head (previous (inr node)) (next (inr node)))
          (gone : owner' node ≡ None)
          (left : (other : ℕ) → list' other ≡ without node (list other)) where
        nexts_kept : (at : Spot) → at ≢ inr node → at ≢ spot head (previous (inr node)) → next' at ≡ next at
        nexts_kept at not_node not_end = closed.nexts at not_end ∙ nexts1 at not_node

        previouses_kept : (at : Spot) → at ≢ inr node → at ≢ spot head (next (inr node)) → previous' at ≡ previous at
        previouses_kept at not_node not_end = closed.previouses at not_end ∙ previouses1 at not_node

        node_apart : (other : ℕ) (end : Option ℕ) → other ≢ head → IsOwned owner other end → spot other end ≢ inr node
        node_apart other end differs own = spots_apart owner other head end (Some node) differs own (node_owned head node mine)

        still_chained : (other : ℕ) → IsChain next' previous' other None (list' other) None
        still_chained other =
            elim (cases_eq other head) [
              | inl here ↦
                  subst (λ h. IsChain next' previous' h None (list' h) None) (sym here)
                  (subst (λ nodes. IsChain next' previous' head None nodes None) (sym (left head))
                  (let found = spells.listed head node mine in
                  IsChain-without next previous next' previous' head node closed.joined nexts_kept previouses_kept
                  (node_forth next previous head None (list head) None node (spells.chained head) found)
                  (node_back next previous head None (list head) None node (spells.chained head) found)
                  None (list head) None (λ is. not_none node is) (λ is. not_none node is) (once_there head) found (spells.chained head)))
              | inr differs ↦
                  let absent : Contains (list other) node → ⊥ =
                  λ found. differs (same_some other head (sym (spells.owned other node found) ∙ mine)) in
                  subst (λ nodes. IsChain next' previous' other None nodes None) (sym (left other ∙ without-absent node (list other) absent))
                  (IsChain-kept next previous next' previous' (IsOwned owner other) other
                  (λ end own. nexts_kept (spot other end) (node_apart other end differs own) (spots_apart owner other head end (previous (inr node)) differs own (before_owned head node mine)))
                  (λ end own. previouses_kept (spot other end) (node_apart other end differs own) (spots_apart owner other head end (next (inr node)) differs own (after_owned head node mine)))
                  None (list other) None (none_owned other) (among_owned other) (none_owned other) (spells.chained other))
            ]

        pub Spells-without : Spells next' previous' owner' list'
        Spells-without = record {
          chained = still_chained;
          owned = λ other found there.
              let kept = Contains-from_without node (list other) found (subst (λ nodes. Contains nodes found) (left other) there) in
              others found kept.1 ∙ spells.owned other found kept.0;
          listed = λ other found own.
              let differs : found ≢ node = λ is. not_none other (sym gone ∙ ap owner' (sym is) ∙ own) in
              subst (λ nodes. Contains nodes found) (sym (left other))
              (Contains-without node (list other) found (spells.listed other found (sym (others found differs) ∙ own)) differs);
        }
