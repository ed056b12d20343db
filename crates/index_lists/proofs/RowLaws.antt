-- What the calls of `Rows` make of a head's list, and what is true of the lists of every `Rows`, for callers' proofs.
--     list_of-..           a head's list after a call, on its side and on the other, at its head and at the others
--     nodes-.., heads-.., moves-..      the counts after a call
--     IsLinked-..          which nodes are in a list after a call
--     below_nodes, below_heads, one_head, once_in      a linked node is in range, in one list, and there once
--     split_at, one_split  the place of a node in its list
use Rattle.std.proofs.Common.{◌≡◌, ◌≢◌, ◌⊎◌, ℕ, ◌+◌, ◌-◌, ◌^◌, ◌<◌, ◌≤◌, List, [], ◌∷◌, ◌++◌, length, map, set, Some, None, slice_get, refl, sym, ap, ◌∙◌, subst, inl, inr, arith, get_or-set_same, get_or-set_other}
use Rattle.std.specs.List.{Contains}
use Rattle.std.proofs.lemmas.Bool.{cases_eq}
use Rattle.std.proofs.lemmas.List.{append_cancel_left}
use Rattle.std.proofs.lemmas.List.Elements.{Contains-append_left, Contains-append_right, Contains-push, Contains-push_cases}
use Rattle.index_lists.specs.declared.Side.{Side}
use Rattle.index_lists.specs.declared.Side.TheVariants.{First, Second}
use Rattle.index_lists.specs.Lists.{Lists, lists_of, list_at, list_of, IsLinked, without, moved, with_lists, linked_last, unlinked, empty_lists, grown, IsOnce, AreSound}
use Rattle.index_lists.proofs.Nodes.{Contains-nil, Contains-first, Contains-cons_cases, without-same, without-other, without-absent, Contains-from_without, Contains-without, IsOnce-first, IsOnce-rest}
use Rattle.index_lists.proofs.TableLemmas.{list_at-map, list_at-padded, list_at-replicate, list_at-past}

-- a node of a list stands between two parts of it
pub split_at : (nodes : List ℕ) (node : ℕ) → Contains nodes node → (front : List ℕ) × (rest : List ℕ) × (nodes ≡ front ++ node ∷ rest)
split_at [] node found = absurd (Contains-nil node found)
split_at (first ∷ nodes) node found =
    elim (Contains-cons_cases first nodes node found) [
      | inl here ↦ ([], nodes, ap (λ n. n ∷ nodes) here)
      | inr later ↦
          let parts = split_at nodes node later in
          (first ∷ parts.0, parts.1, ap (λ l. first ∷ l) parts.2)
    ]

-- a node between two parts is in the list
pub Contains-split : (front : List ℕ) (node : ℕ) (rest : List ℕ) → Contains (front ++ node ∷ rest) node
Contains-split front node rest = Contains-append_right front (node ∷ rest) node (Contains-first node rest)

-- the first of a list is at its head
pub first_split : (nodes : List ℕ) (node : ℕ) → slice_get nodes 0 ≡ Some node → (rest : List ℕ) × (nodes ≡ node ∷ rest)
first_split [] node is = cc
first_split (first ∷ rest) node is = (rest, ap (λ n. n ∷ rest) (let same : first ≡ node = cc in same))

-- a list with no first node is empty
pub first_none : (nodes : List ℕ) → slice_get nodes 0 ≡ None → nodes ≡ []
first_none [] is = refl
first_none (first ∷ rest) is = cc

-- where no node stands twice, neither part has the node
pub apart_from_split : (front : List ℕ) (node : ℕ) (rest : List ℕ) → IsOnce (front ++ node ∷ rest) → (Contains front node → ⊥) × (Contains rest node → ⊥)
apart_from_split [] node rest once = (Contains-nil node, IsOnce-first node rest once)
apart_from_split (first ∷ front) node rest once =
    let later = apart_from_split front node rest (IsOnce-rest first (front ++ node ∷ rest) once) in (
      λ found.
          elim (Contains-cons_cases first front node found) as (λ _. ⊥) [
            | inl here ↦ IsOnce-first first (front ++ node ∷ rest) once (subst (λ n. Contains (front ++ node ∷ rest) n) (sym here) (Contains-split front node rest))
            | inr there ↦ later.0 there
          ],
      later.1,
    )

-- the node goes from between the two parts
pub without-split : (front : List ℕ) (node : ℕ) (rest : List ℕ) → IsOnce (front ++ node ∷ rest) → without node (front ++ node ∷ rest) ≡ front ++ rest
without-split [] node rest once = without-same node rest ∙ without-absent node rest (IsOnce-first node rest once)
without-split (first ∷ front) node rest once =
    without-other node first (front ++ node ∷ rest) (λ is. IsOnce-first first (front ++ node ∷ rest) once (subst (λ n. Contains (front ++ node ∷ rest) n) (sym is) (Contains-split front node rest)))
    ∙ ap (λ l. first ∷ l) (without-split front node rest (IsOnce-rest first (front ++ node ∷ rest) once))

-- one node goes
pub length-without : (nodes : List ℕ) (node : ℕ) → IsOnce nodes → Contains nodes node → length (without node nodes) + 1 ≡ length nodes
length-without [] node once found = absurd (Contains-nil node found)
length-without (first ∷ rest) node once found =
    elim (cases_eq first node) [
      | inl same ↦
          let left : without node (first ∷ rest) ≡ rest =
          ap (λ n. without node (n ∷ rest)) same ∙ without-same node rest
          ∙ without-absent node rest (λ again. IsOnce-first first rest once (subst (λ n. Contains rest n) (sym same) again)) in
          omega (arith, ap length left)
      | inr differs ↦
          let there : Contains rest node =
          elim (Contains-cons_cases first rest node found) as (λ _. Contains rest node) [
            | inl here ↦ absurd (differs here)
            | inr later ↦ later
          ] in
          omega (arith, ap length (without-other node first rest differs), length-without rest node (IsOnce-rest first rest once) there)
    ]

-- a move raises the number by one at most, and it never falls
pub moved-le : (moves : ℕ) → moved moves ≤ moves + 1
moved-le moves = omega arith

pub moved-ge : (moves : ℕ) → moves ≤ 2 ^ 64 - 1 → moves ≤ moved moves
moved-ge moves small = omega (arith, small)

module _ (lists : Lists) where
  -- a move changes no count but that of moves, and nothing of the other side
  pub nodes-with_lists : (side : Side) (changed : List (List ℕ)) → (with_lists lists side changed).nodes ≡ lists.nodes
  nodes-with_lists First changed = refl
  nodes-with_lists Second changed = refl

  pub heads-with_lists : (side : Side) (changed : List (List ℕ)) → (with_lists lists side changed).heads ≡ lists.heads
  heads-with_lists First changed = refl
  heads-with_lists Second changed = refl

  pub moves-with_lists : (side : Side) (changed : List (List ℕ)) → (with_lists lists side changed).moves ≡ moved lists.moves
  moves-with_lists First changed = refl
  moves-with_lists Second changed = refl

  pub lists_of-with_lists : (side : Side) (changed : List (List ℕ)) → lists_of (with_lists lists side changed) side ≡ changed
  lists_of-with_lists First changed = refl
  lists_of-with_lists Second changed = refl

  pub lists_of-with_lists_other_side : (side far : Side) (changed : List (List ℕ)) → far ≢ side → lists_of (with_lists lists side changed) far ≡ lists_of lists far
  lists_of-with_lists_other_side First First changed differs = absurd (differs refl)
  lists_of-with_lists_other_side First Second changed differs = refl
  lists_of-with_lists_other_side Second First changed differs = refl
  lists_of-with_lists_other_side Second Second changed differs = absurd (differs refl)

  -- new lists are empty, and the old ones stay
  pub list_of-grown : (nodes heads : ℕ) (side : Side) (head : ℕ) → list_of (grown lists nodes heads) side head ≡ list_of lists side head
  list_of-grown nodes heads First head = list_at-padded lists.first heads head
  list_of-grown nodes heads Second head = list_at-padded lists.second heads head

  pub IsLinked-grown : (nodes heads : ℕ) (side : Side) (node : ℕ) → IsLinked (grown lists nodes heads) side node → IsLinked lists side node
  IsLinked-grown nodes heads side node found =
      (found.0, subst (λ l. Contains l node) (list_of-grown nodes heads side found.0) found.1)

  pub IsLinked-to_grown : (nodes heads : ℕ) (side : Side) (node : ℕ) → IsLinked lists side node → IsLinked (grown lists nodes heads) side node
  IsLinked-to_grown nodes heads side node found =
      (found.0, subst (λ l. Contains l node) (sym (list_of-grown nodes heads side found.0)) found.1)

  -- the node is last in the head's list, and every other list stays
  pub list_of-linked_last : (side : Side) (head node : ℕ) → head < length (lists_of lists side) → list_of (linked_last lists side head node) side head ≡ list_of lists side head ++ node ∷ []
  list_of-linked_last side head node within =
      ap (λ l. list_at l head) (lists_of-with_lists side (set (lists_of lists side) head (list_of lists side head ++ node ∷ [])))
      ∙ get_or-set_same (lists_of lists side) head (list_of lists side head ++ node ∷ []) [] within

  pub list_of-linked_last_other_head : (side : Side) (head node other : ℕ) → other ≢ head → list_of (linked_last lists side head node) side other ≡ list_of lists side other
  list_of-linked_last_other_head side head node other differs =
      ap (λ l. list_at l other) (lists_of-with_lists side (set (lists_of lists side) head (list_of lists side head ++ node ∷ [])))
      ∙ get_or-set_other (lists_of lists side) head other (list_of lists side head ++ node ∷ []) [] differs

  pub list_of-linked_last_other_side : (side far : Side) (head node other : ℕ) → far ≢ side → list_of (linked_last lists side head node) far other ≡ list_of lists far other
  list_of-linked_last_other_side side far head node other differs =
      ap (λ l. list_at l other) (lists_of-with_lists_other_side side far (set (lists_of lists side) head (list_of lists side head ++ node ∷ [])) differs)

  -- the node leaves every list of the side
  pub list_of-unlinked : (side : Side) (node head : ℕ) → list_of (unlinked lists side node) side head ≡ without node (list_of lists side head)
  list_of-unlinked side node head =
      ap (λ l. list_at l head) (lists_of-with_lists side (map (without node) (lists_of lists side)))
      ∙ list_at-map node (lists_of lists side) head

  pub list_of-unlinked_other_side : (side far : Side) (node head : ℕ) → far ≢ side → list_of (unlinked lists side node) far head ≡ list_of lists far head
  list_of-unlinked_other_side side far node head differs =
      ap (λ l. list_at l head) (lists_of-with_lists_other_side side far (map (without node) (lists_of lists side)) differs)

  -- which nodes are in a list afterwards
  pub IsLinked-unlinked : (side : Side) (node other : ℕ) → IsLinked (unlinked lists side node) side other → IsLinked lists side other × (other ≢ node)
  IsLinked-unlinked side node other found =
      let kept = Contains-from_without node (list_of lists side found.0) other (subst (λ l. Contains l other) (list_of-unlinked side node found.0) found.1) in
      ((found.0, kept.0), kept.1)

  pub IsLinked-to_unlinked : (side : Side) (node other : ℕ) → IsLinked lists side other → other ≢ node → IsLinked (unlinked lists side node) side other
  IsLinked-to_unlinked side node other found differs =
      (found.0, subst (λ l. Contains l other) (sym (list_of-unlinked side node found.0)) (Contains-without node (list_of lists side found.0) other found.1 differs))

  pub free_after_unlinked : (side : Side) (node : ℕ) → IsLinked (unlinked lists side node) side node → ⊥
  free_after_unlinked side node found = (IsLinked-unlinked side node node found).1 refl

  pub IsLinked-linked_last : (side : Side) (head node other : ℕ) → head < length (lists_of lists side) → IsLinked (linked_last lists side head node) side other → IsLinked lists side other ⊎ (node ≡ other)
  IsLinked-linked_last side head node other within found =
      elim (cases_eq found.0 head) [
        | inl here ↦
            let last = ap (λ h. list_of (linked_last lists side head node) side h) here ∙ list_of-linked_last side head node within in
            elim (Contains-push_cases (list_of lists side head) node other (subst (λ l. Contains l other) last found.1)) [
              | inl old ↦ inl (head, old)
              | inr is ↦ inr is
            ]
        | inr differs ↦ inl (found.0, subst (λ l. Contains l other) (list_of-linked_last_other_head side head node found.0 differs) found.1)
      ]

  pub IsLinked-to_linked_last : (side : Side) (head node other : ℕ) → head < length (lists_of lists side) → IsLinked lists side other → IsLinked (linked_last lists side head node) side other
  IsLinked-to_linked_last side head node other within found =
      elim (cases_eq found.0 head) [
        | inl here ↦ (
          head,
          subst (λ l. Contains l other) (sym (list_of-linked_last side head node within))
              (Contains-append_left (list_of lists side head) (node ∷ []) other (subst (λ h. Contains (list_of lists side h) other) here found.1)),
        )
        | inr differs ↦ (found.0, subst (λ l. Contains l other) (sym (list_of-linked_last_other_head side head node found.0 differs)) found.1)
      ]

  pub linked_after_linked_last : (side : Side) (head node : ℕ) → head < length (lists_of lists side) → IsLinked (linked_last lists side head node) side node
  linked_after_linked_last side head node within =
      (head, subst (λ l. Contains l node) (sym (list_of-linked_last side head node within)) (Contains-push (list_of lists side head) node))

  module _ (sound : AreSound lists) where
    -- a move never lowers the number
    pub moves_rise : lists.moves ≤ moved lists.moves
    moves_rise = moved-ge lists.moves sound.few_moves

    -- a head in range has a list
    pub within_lists : (side : Side) (head : ℕ) → head < lists.heads → head < length (lists_of lists side)
    within_lists side head within = omega (arith, within, sound.count side)

    -- a node in a list is in range, and so is its head
    pub below_nodes : (side : Side) (head node : ℕ) → Contains (list_of lists side head) node → node < lists.nodes
    below_nodes side head node found = (sound.apart side).below head node found

    pub below_heads : (side : Side) (head node : ℕ) → Contains (list_of lists side head) node → head < lists.heads
    below_heads side head node found = omega (arith, list_at-past (lists_of lists side) head node found, sound.count side)

    -- it is in the list of one head, and there once
    pub one_head : (side : Side) (head other node : ℕ) → Contains (list_of lists side head) node → Contains (list_of lists side other) node → head ≡ other
    one_head side head other node this that = (sound.apart side).one head other node this that

    pub once_in : (side : Side) (head : ℕ) → IsOnce (list_of lists side head)
    once_in side head = (sound.apart side).once head

    -- where the node stood, the rest follows in order
    pub list_of-unlinked_split : (side : Side) (head node : ℕ) (front rest : List ℕ) → list_of lists side head ≡ front ++ node ∷ rest → list_of (unlinked lists side node) side head ≡ front ++ rest
    list_of-unlinked_split side head node front rest is =
        list_of-unlinked side node head ∙ ap (without node) is ∙ without-split front node rest (subst IsOnce is (once_in side head))

    pub length-unlinked : (side : Side) (head node : ℕ) → Contains (list_of lists side head) node → length (list_of (unlinked lists side node) side head) + 1 ≡ length (list_of lists side head)
    length-unlinked side head node found =
        ap (λ l. length l + 1) (list_of-unlinked side node head) ∙ length-without (list_of lists side head) node (once_in side head) found

    -- every other list stays
    pub list_of-unlinked_other_head : (side : Side) (head node other : ℕ) → Contains (list_of lists side head) node → other ≢ head → list_of (unlinked lists side node) side other ≡ list_of lists side other
    list_of-unlinked_other_head side head node other found differs =
        list_of-unlinked side node other
        ∙ without-absent node (list_of lists side other) (λ there. differs (one_head side other head node there found))

-- the lists of new rows are empty
pub list_of-empty : (nodes heads : ℕ) (side : Side) (head : ℕ) → list_of (empty_lists nodes heads) side head ≡ []
list_of-empty nodes heads First head = list_at-replicate heads head
list_of-empty nodes heads Second head = list_at-replicate heads head

-- where no node stands twice, the two parts round a node are determined
pub one_split : (front : List ℕ) (node : ℕ) (rest front' rest' : List ℕ) → IsOnce (front ++ node ∷ rest) → front ++ node ∷ rest ≡ front' ++ node ∷ rest' → (front ≡ front') × (rest ≡ rest')
one_split [] node rest [] rest' once same = (refl, append_cancel_left (node ∷ []) rest rest' same)
one_split [] node rest (first ∷ front') rest' once same =
    let start : node ≡ first = cc in
    let others : rest ≡ front' ++ node ∷ rest' = cc in
    absurd (IsOnce-first node rest once (subst (λ l. Contains l node) (sym others) (Contains-split front' node rest')))
one_split (first ∷ front) node rest [] rest' once same =
    let start : first ≡ node = cc in
    absurd (IsOnce-first first (front ++ node ∷ rest) once (subst (λ n. Contains (front ++ node ∷ rest) n) (sym start) (Contains-split front node rest)))
one_split (first ∷ front) node rest (first' ∷ front') rest' once same =
    let start : first ≡ first' = cc in
    let others : front ++ node ∷ rest ≡ front' ++ node ∷ rest' = cc in
    let later = one_split front node rest front' rest' (IsOnce-rest first (front ++ node ∷ rest) once) others in
    (ap (λ n. n ∷ front) start ∙ ap (λ l. first' ∷ l) later.0, later.1)
