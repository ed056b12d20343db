-- From the links and the ends to the lists that a contract sees.
use Rattle.std.proofs.Common.{◌≡◌, ◌≢◌, ℕ, zero, suc, ◌-◌, ◌<◌, ◌≤◌, List, [], ◌∷◌, ◌++◌, length, map, take, get_or, set, replicate, Option, Some, None, slice_get, refl, sym, ap, ◌∙◌, subst, inl, inr, arith, get_or-set_same, get_or-set_other, length-set}
use Rattle.std.specs.Prelude.{IsTrue, ◌↔◌, is_some}
use Rattle.std.specs.List.{Contains}
use Rattle.std.proofs.lemmas.Bool.{cases_eq, cases_lt}
use Rattle.std.proofs.lemmas.List.{ext_get_or, get_or_past, get_or_read, length-map, length-take, length-append, length-replicate, get_or_append_left, get_or-append_right}
use Rattle.std.proofs.lemmas.List.Elements.{Contains-push_cases}
use Rattle.index_lists.specs.declared.chains.Link.{Link}
use Rattle.index_lists.specs.declared.chains.Ends.{Ends}
use Rattle.index_lists.specs.Lists.{list_at, without, padded, IsApart}
use Rattle.index_lists.specs.Chains.{no_link, no_ends, Spot, spot, after, before, owner, IsChain, Joins, walk, nodes_between, lists_between, AreLinked}
use Rattle.index_lists.proofs.Nodes.{Contains-from_without, length-once_le}
use Rattle.index_lists.proofs.ChainLemmas.{IsChain-split, chain_first}
use Rattle.index_lists.proofs.SpellLemmas.{Spells-same, one_list, once_there, last_owned, before_owned, after_owned, Spells-push, Spells-without}

walk-none : (links : List Link) (count : ℕ) → walk links count None ≡ []
walk-none links zero = refl
walk-none links (suc count) = refl

-- the walk along a chain meets its nodes
walk-chain : (links : List Link) (ends : List Ends) (head : ℕ) (left : Option ℕ) (nodes : List ℕ) (count : ℕ) → IsChain (after links ends) (before links ends) head left nodes None → length nodes ≤ count → walk links count (after links ends (spot head left)) ≡ nodes
walk-chain links ends head left [] count chain enough = ap (walk links count) chain.forth ∙ walk-none links count
walk-chain links ends head left (first ∷ rest) zero chain enough = absurd (omega (arith, enough))
walk-chain links ends head left (first ∷ rest) (suc count) chain enough =
    ap (walk links (suc count)) chain.0.forth
    ∙ ap (λ nodes. first ∷ nodes) (walk-chain links ends head (Some first) rest count chain.1 (omega (arith, enough)))

pub list_at-past : (lists : List (List ℕ)) (head node : ℕ) → Contains (list_at lists head) node → head < length lists
list_at-past lists head node found =
    elim (cases_lt head (length lists)) [
      | inl within ↦ within
      | inr past ↦ absurd (omega (arith, found.1, ap length (get_or_past lists head [] past)))
    ]

-- a list of each, with one node taken out
pub list_at-map : (node : ℕ) (lists : List (List ℕ)) (head : ℕ) → list_at (map (without node) lists) head ≡ without node (list_at lists head)
list_at-map node [] head = refl
list_at-map node (first ∷ rest) zero = refl
list_at-map node (first ∷ rest) (suc head) = list_at-map node rest head

pub list_at-replicate : (count head : ℕ) → list_at (replicate count []) head ≡ []
list_at-replicate zero head = refl
list_at-replicate (suc count) zero = refl
list_at-replicate (suc count) (suc head) = list_at-replicate count head

-- the new lists are empty, as those past the last were
pub list_at-padded : (lists : List (List ℕ)) (heads head : ℕ) → list_at (padded lists heads) head ≡ list_at lists head
list_at-padded lists heads head =
    elim (cases_lt head (length lists)) [
      | inl within ↦ get_or_append_left lists (replicate (heads - length lists) []) [] head within
      | inr past ↦
          get_or-append_right lists (replicate (heads - length lists) []) (length lists) head [] refl past
          ∙ list_at-replicate (heads - length lists) (head - length lists) ∙ sym (get_or_past lists head [] past)
    ]

nodes_at : (links : List Link) (ends : List Ends) (heads head : ℕ) → head < heads → heads ≤ length ends → get_or (map (nodes_between links) (take heads ends)) head [] ≡ nodes_between links (get_or ends head no_ends)
nodes_at links [] heads head within room = absurd (omega (arith, within, room))
nodes_at links (first ∷ rest) zero head within room = absurd (omega (arith, within))
nodes_at links (first ∷ rest) (suc heads) zero within room = refl
nodes_at links (first ∷ rest) (suc heads) (suc head) within room = nodes_at links rest heads head (omega (arith, within)) (omega (arith, room))

module _ (links : List Link) (ends : List Ends) (nodes heads : ℕ) (lists : List (List ℕ)) (linked : AreLinked links ends nodes heads lists) where
  -- what the walks find
  pub AreLinked-lists : lists_between links ends heads ≡ lists
  AreLinked-lists =
      let count : length (lists_between links ends heads) ≡ length lists =
      omega (arith, length-map (take heads ends) (nodes_between links), length-take heads ends, linked.head_room, linked.count) in
      ext_get_or [] (lists_between links ends heads) lists count
      (λ head within.
      let inside : head < heads = omega (arith, within, count, linked.count) in
      let few : length (list_at lists head) ≤ length links =
      length-once_le (length links) (list_at lists head) (once_there _ _ _ _ linked.spells head)
      (λ node found. omega (arith, linked.below head node found, linked.node_room)) in
      nodes_at links ends heads head inside linked.head_room
      ∙ walk-chain links ends head None (list_at lists head) (length links) (linked.spells.chained head) few)

  pub AreLinked-itself : AreLinked links ends nodes heads (lists_between links ends heads)
  AreLinked-itself = subst (λ l. AreLinked links ends nodes heads l) (sym AreLinked-lists) linked

  pub AreLinked-apart : IsApart nodes (list_at lists)
  AreLinked-apart = record {
    below = linked.below;
    one = one_list _ _ _ _ linked.spells;
    once = once_there _ _ _ _ linked.spells;
  }

  -- a linked node has a link, and its head has ends
  pub linked_within : (head node : ℕ) → Contains (list_at lists head) node → node < length links
  linked_within head node found = omega (arith, linked.below head node found, linked.node_room)

  pub owned_within : (head node : ℕ) → owner links node ≡ Some head → (node < length links) × (head < length ends)
  owned_within head node mine =
      let found = linked.spells.listed head node mine in
      let inside = list_at-past lists head node found in
      (linked_within head node found, omega (arith, inside, linked.count, linked.head_room))

  pub last_within : (head node : ℕ) → before links ends (inl head) ≡ Some node → node < length links
  last_within head node is = (owned_within head node (last_owned _ _ _ _ linked.spells head node is)).0

  pub previous_within : (head node other : ℕ) → owner links node ≡ Some head → before links ends (inr node) ≡ Some other → other < length links
  previous_within head node other mine is = (owned_within head other (before_owned _ _ _ _ linked.spells head node mine other is)).0

  pub next_within : (head node other : ℕ) → owner links node ≡ Some head → after links ends (inr node) ≡ Some other → other < length links
  next_within head node other mine is = (owned_within head other (after_owned _ _ _ _ linked.spells head node mine other is)).0

  pub first_of : (head : ℕ) → after links ends (inl head) ≡ slice_get (list_at lists head) 0
  first_of head = chain_first _ _ head None (list_at lists head) (linked.spells.chained head)

  pub next_of : (head node : ℕ) (front rest : List ℕ) → list_at lists head ≡ front ++ node ∷ rest → after links ends (inr node) ≡ slice_get rest 0
  next_of head node front rest is =
      let chain = subst (λ l. IsChain (after links ends) (before links ends) head None l None) is (linked.spells.chained head) in
      chain_first _ _ head (Some node) rest (IsChain-split _ _ head None front node rest None chain).1

  -- longer links and ends with nothing in what is new
  pub AreLinked-longer : (links' : List Link) (ends' : List Ends) → length links ≤ length links' → length ends ≤ length ends' → ((i : ℕ) → get_or links' i no_link ≡ get_or links i no_link) → ((i : ℕ) → get_or ends' i no_ends ≡ get_or ends i no_ends) → AreLinked links' ends' nodes heads lists
  AreLinked-longer links' ends' more_links more_ends same_links same_ends = record {
    node_room = omega (arith, linked.node_room, more_links);
    head_room = omega (arith, linked.head_room, more_ends);
    count = linked.count;
    below = linked.below;
    spells = Spells-same _ _ _ _ (after links' ends') (before links' ends') (owner links') (list_at lists) nexts previouses (λ node. ap (λ (l : Link). l.head) (same_links node)) (λ head. refl) linked.spells;
  }
    where
      nexts : (at : Spot) → after links' ends' at ≡ after links ends at
      nexts (inl head) = ap (λ (e : Ends). e.first) (same_ends head)
      nexts (inr node) = ap (λ (l : Link). l.next) (same_links node)

      previouses : (at : Spot) → before links' ends' at ≡ before links ends at
      previouses (inl head) = ap (λ (e : Ends). e.last) (same_ends head)
      previouses (inr node) = ap (λ (l : Link). l.previous) (same_links node)

  -- a node and a head that are put into the room
  pub AreLinked-padded : (nodes' heads' : ℕ) → nodes ≤ nodes' → heads ≤ heads' → nodes' ≤ length links → heads' ≤ length ends → AreLinked links ends nodes' heads' (padded lists heads')
  AreLinked-padded nodes' heads' more_nodes more_heads node_room head_room = record {
    node_room = node_room;
    head_room = head_room;
    count = omega (arith, length-append lists (replicate (heads' - length lists) []), length-replicate {A = List ℕ} (heads' - length lists) [], linked.count, more_heads);
    below = λ head node found.
        let old = linked.below head node (subst (λ l. Contains l node) (list_at-padded lists heads' head) found) in
        omega (arith, old, more_nodes);
    spells = Spells-same _ _ _ _ (after links ends) (before links ends) (owner links) (list_at (padded lists heads')) (λ at. refl) (λ at. refl) (λ node. refl) (list_at-padded lists heads') linked.spells;
  }

  -- the node is put last in the head's list
  pub AreLinked-push : (links2 links' : List Link) (ends2 ends' : List Ends) (head node : ℕ) (link : Link) (these : Ends) →
      head < length lists → node < nodes → ((other : ℕ) → Contains (list_at lists other) node → ⊥) →
      link ≡ get_or links node link → these ≡ get_or ends head these →
      Joins (after (set links node (record link { head = Some head })) ends) (before (set links node (record link { head = Some head })) ends) (after links2 ends2) (before links2 ends2) head these.last (Some node) →
      Joins (after links2 ends2) (before links2 ends2) (after links' ends') (before links' ends') head (Some node) None →
      ((other : ℕ) → owner links2 other ≡ owner (set links node (record link { head = Some head })) other) →
      ((other : ℕ) → owner links' other ≡ owner links2 other) →
      length links' ≡ length links → length ends' ≡ length ends →
      AreLinked links' ends' nodes heads (set lists head (list_at lists head ++ node ∷ []))
  AreLinked-push links2 links' ends2 ends' head node link these head_in node_in free read ends_read into out owners2 owners' links_len ends_len = record {
    node_room = omega (arith, linked.node_room, links_len);
    head_room = omega (arith, linked.head_room, ends_len);
    count = length-set lists head (list_at lists head ++ node ∷ []) ∙ linked.count;
    below = λ other found there.
        elim (cases_eq other head) [
          | inl here ↦
              elim (Contains-push_cases (list_at lists head) node found (subst (λ l. Contains l found) (ap pushed here ∙ pushed_here) there)) [
                | inl old ↦ linked.below head found old
                | inr is ↦ subst (λ n. n < nodes) is node_in
              ]
          | inr differs ↦ linked.below other found (subst (λ l. Contains l found) (pushed_else other differs) there)
        ];
    spells = Spells-push _ _ _ _ linked.spells head node _ _ (after links' ends') (before links' ends') (owner links') pushed others
        (after links2 ends2) (before links2 ends2) not_owned nexts previouses
        (subst (λ end. Joins (after marked ends) (before marked ends) (after links2 ends2) (before links2 ends2) head end (Some node)) (ap (λ (e : Ends). e.last) (get_or_read ends head these head_room ends_read no_ends)) into)
        out (owners' node ∙ owners2 node ∙ ap (λ (l : Link). l.head) (get_or-set_same links node (record link { head = Some head }) no_link node_room)) pushed_here pushed_else;
  }
    where
      marked : List Link
      marked = set links node (record link { head = Some head })

      pushed : ℕ → List ℕ
      pushed = list_at (set lists head (list_at lists head ++ node ∷ []))

      node_room : node < length links
      node_room = omega (arith, node_in, linked.node_room)

      head_room : head < length ends
      head_room = omega (arith, head_in, linked.count, linked.head_room)

      pushed_here : pushed head ≡ list_at lists head ++ node ∷ []
      pushed_here = get_or-set_same lists head (list_at lists head ++ node ∷ []) [] head_in

      pushed_else : (other : ℕ) → other ≢ head → pushed other ≡ list_at lists other
      pushed_else other differs = get_or-set_other lists head other (list_at lists head ++ node ∷ []) [] differs

      not_owned : owner links node ≡ None
      not_owned =
          elim (owner links node) as (λ o. owner links node ≡ o → o ≡ None) [
            | None ↦ λ is. refl
            | Some other ↦ λ is. absurd (free other (linked.spells.listed other node is))
          ] refl

      same_link : get_or links node no_link ≡ link
      same_link = sym (get_or_read links node link node_room read no_link)

      nexts : (at : Spot) → after marked ends at ≡ after links ends at
      nexts (inl other) = refl
      nexts (inr other) =
          elim (cases_eq other node) [
            | inl is ↦
                ap (λ n. (get_or marked n no_link).next) is
                ∙ ap (λ (l : Link). l.next) (get_or-set_same links node (record link { head = Some head }) no_link node_room)
                ∙ ap (λ (l : Link). l.next) (sym same_link) ∙ ap (λ n. (get_or links n no_link).next) (sym is)
            | inr differs ↦ ap (λ (l : Link). l.next) (get_or-set_other links node other (record link { head = Some head }) no_link differs)
          ]

      previouses : (at : Spot) → before marked ends at ≡ before links ends at
      previouses (inl other) = refl
      previouses (inr other) =
          elim (cases_eq other node) [
            | inl is ↦
                ap (λ n. (get_or marked n no_link).previous) is
                ∙ ap (λ (l : Link). l.previous) (get_or-set_same links node (record link { head = Some head }) no_link node_room)
                ∙ ap (λ (l : Link). l.previous) (sym same_link) ∙ ap (λ n. (get_or links n no_link).previous) (sym is)
            | inr differs ↦ ap (λ (l : Link). l.previous) (get_or-set_other links node other (record link { head = Some head }) no_link differs)
          ]

      others : (other : ℕ) → other ≢ node → owner links' other ≡ owner links other
      others other differs =
          owners' other ∙ owners2 other
          ∙ ap (λ (l : Link). l.head) (get_or-set_other links node other (record link { head = Some head }) no_link differs)

  -- the node is taken out of its list
  pub AreLinked-without : (links' : List Link) (ends' : List Ends) (head node : ℕ) (link : Link) →
      node < length links → link ≡ get_or links node link → link.head ≡ Some head →
      Joins (after (set links node no_link) ends) (before (set links node no_link) ends) (after links' ends') (before links' ends') head link.previous link.next →
      ((other : ℕ) → owner links' other ≡ owner (set links node no_link) other) →
      length links' ≡ length links → length ends' ≡ length ends →
      AreLinked links' ends' nodes heads (map (without node) lists)
  AreLinked-without links' ends' head node link node_in read mine closed owners' links_len ends_len = record {
    node_room = omega (arith, linked.node_room, links_len);
    head_room = omega (arith, linked.head_room, ends_len);
    count = length-map lists (without node) ∙ linked.count;
    below = λ other found there.
        linked.below other found (Contains-from_without node (list_at lists other) found (subst (λ l. Contains l found) (list_at-map node lists other) there)).0;
    spells = Spells-without _ _ _ _ linked.spells head node _ _ (after links' ends') (before links' ends') (owner links') (list_at (map (without node) lists)) others
        (ap (λ (l : Link). l.head) same_link ∙ mine) nexts previouses
        (subst (λ (l : Link). Joins (after (set links node no_link) ends) (before (set links node no_link) ends) (after links' ends') (before links' ends') head l.previous l.next) (sym same_link) closed)
        (owners' node ∙ ap (λ (l : Link). l.head) (get_or-set_same links node no_link no_link node_in)) (list_at-map node lists);
  }
    where
      same_link : get_or links node no_link ≡ link
      same_link = sym (get_or_read links node link node_in read no_link)

      elsewhere : (other : ℕ) → ◌≢◌ {A = Spot} (inr other) (inr node) → get_or (set links node no_link) other no_link ≡ get_or links other no_link
      elsewhere other differs = get_or-set_other links node other no_link no_link (λ same. differs (ap inr same))

      nexts : (at : Spot) → at ≢ inr node → after (set links node no_link) ends at ≡ after links ends at
      nexts (inl other) differs = refl
      nexts (inr other) differs = ap (λ (l : Link). l.next) (elsewhere other differs)

      previouses : (at : Spot) → at ≢ inr node → before (set links node no_link) ends at ≡ before links ends at
      previouses (inl other) differs = refl
      previouses (inr other) differs = ap (λ (l : Link). l.previous) (elsewhere other differs)

      others : (other : ℕ) → other ≢ node → owner links' other ≡ owner links other
      others other differs =
          owners' other ∙ ap (λ (l : Link). l.head) (get_or-set_other links node other no_link no_link differs)

  -- a node with an owner is in a list
  pub linked_where_owned : (node : ℕ) → IsTrue (is_some (owner links node)) ↔ ((head : ℕ) × Contains (list_at lists head) node)
  linked_where_owned node = (
    elim (owner links node) as (λ o. owner links node ≡ o → IsTrue (is_some o) → (head : ℕ) × Contains (list_at lists head) node) [
      | None ↦ λ is has. cc
      | Some head ↦ λ is has. (head, linked.spells.listed head node is)
    ] refl,
    λ found. subst (λ o. IsTrue (is_some o)) (sym (linked.spells.owned found.0 node found.1)) refl,
  )
