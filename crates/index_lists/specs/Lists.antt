-- What a contract sees of `Rows`: a list of nodes for each side and head, and the number of moves.
--     list_of lists side head      the nodes of a head, from first to last
--     IsLinked lists side node     the node is in some list of the side
--     grown, linked_last, unlinked what `grow`, `link_last` and `unlink` make of the lists
--     AreSound lists               what is true of the lists of every `Rows`
use Rattle.std.specs.Prelude.{◌≡◌, ◌≢◌, ℕ, ◌+◌, ◌-◌, ◌^◌, ◌<◌, ◌≤◌, min, not, ◌==◌, List, [], ◌∷◌, ◌++◌, length, map, replicate, slice_index_or, slice_set, refl}
use Rattle.std.specs.List.{filter, Contains, AllPairs}
use Rattle.std.specs.Coded.{Coded, code_by, coded×, coded_ℕ, coded_list}
use base.Stored.{coded_via}
use mathlib.Core.HLevel.{Σ_prop_path}
use denote.Struct.Props.{props}
use Rattle.index_lists.specs.declared.Side.{Side}
use Rattle.index_lists.specs.declared.Side.TheVariants.{First, Second}

-- how many nodes there are, the lists of each side, one for each head, and the number of moves
pub record Lists : Type 0 where
  pub nodes : ℕ
  pub heads : ℕ
  pub first : List (List ℕ)
  pub second : List (List ℕ)
  pub moves : ℕ

-- the lists of a side, in the order of their heads
abbrev pub lists_of : Lists → Side → List (List ℕ)
lists_of lists First = lists.first
lists_of lists Second = lists.second

-- one of several lists, which is empty past the last
abbrev pub list_at : List (List ℕ) → ℕ → List ℕ
list_at lists head = slice_index_or lists head []

-- the nodes of a head, from first to last
abbrev pub list_of : Lists → Side → ℕ → List ℕ
list_of lists side head = list_at (lists_of lists side) head

-- the node is in a list of the side
abbrev pub IsLinked : Lists → Side → ℕ → Type 0
IsLinked lists side node = (head : ℕ) × Contains (list_of lists side head) node

-- the other nodes, in their order
abbrev pub without : ℕ → List ℕ → List ℕ
without node nodes = filter (λ other. not (other == node)) nodes

-- one move more, up to what a `u64` holds
abbrev pub moved : ℕ → ℕ
moved moves = min (moves + 1) (2 ^ 64 - 1)

-- after a move on a side, which leaves it these lists
abbrev pub with_lists : Lists → Side → List (List ℕ) → Lists
with_lists lists First nodes = record lists { first = nodes; moves = moved lists.moves }
with_lists lists Second nodes = record lists { second = nodes; moves = moved lists.moves }

-- the node is the last of the head's list
abbrev pub linked_last : Lists → Side → ℕ → ℕ → Lists
linked_last lists side head node =
    with_lists lists side (slice_set (lists_of lists side) head (list_of lists side head ++ node ∷ []))

-- the node is in no list of the side
abbrev pub unlinked : Lists → Side → ℕ → Lists
unlinked lists side node = with_lists lists side (map (without node) (lists_of lists side))

-- no node is in a list
abbrev pub empty_lists : ℕ → ℕ → Lists
empty_lists nodes heads =
    record { nodes = nodes; heads = heads; first = replicate heads []; second = replicate heads []; moves = 0 }

-- lists with empty ones after them, so that there are so many
abbrev pub padded : List (List ℕ) → ℕ → List (List ℕ)
padded lists heads = lists ++ replicate (heads - length lists) []

-- there are so many nodes and heads, and the new lists are empty
abbrev pub grown : Lists → ℕ → ℕ → Lists
grown lists nodes heads =
    record lists { nodes = nodes; heads = heads; first = padded lists.first heads; second = padded lists.second heads }

-- no node stands twice
abbrev pub IsOnce : List ℕ → Type 0
IsOnce nodes = AllPairs (λ node later. node ≢ later) nodes

-- a node stands at one place at most of one list, and is in range
pub record IsApart (nodes : ℕ) (list : ℕ → List ℕ) : Type 0 where
  pub below : (head node : ℕ) → Contains (list head) node → node < nodes
  pub one : (head other node : ℕ) → Contains (list head) node → Contains (list other) node → head ≡ other
  pub once : (head : ℕ) → IsOnce (list head)

-- each side has a list for each head, and is apart, and the number of moves fits a `u64`
pub record AreSound (lists : Lists) : Type 0 where
  pub few_moves : lists.moves ≤ 2 ^ 64 - 1
  pub count : (side : Side) → length (lists_of lists side) ≡ lists.heads
  pub apart : (side : Side) → IsApart lists.nodes (list_of lists side)

pub AreSound-prop : (lists : Lists) → IsProp (AreSound lists)
AreSound-prop lists = Prim.hlevel props

-- the lists, with what is true of them: the value of a `Rows`
pub record SoundLists : Type 0 where
  pub lists : Lists
  pub sound : AreSound lists

-- the lists determine the value
pub same_sound_lists : (a b : SoundLists) → a.lists ≡ b.lists → a ≡ b
same_sound_lists a b same =
    let pairs : ◌≡◌ {A = (lists : Lists) × AreSound lists} (a.lists, a.sound) (b.lists, b.sound) = Σ_prop_path (λ lists. AreSound-prop lists) same in
    λ i. record { lists = (pairs i).0; sound = (pairs i).1 }

-- lists are stored as the tuple of their fields, and the value as its lists
abbrev pub lists_code : Coded Lists
lists_code =
    code_by
    (ℕ × (ℕ × (List (List ℕ) × (List (List ℕ) × ℕ))))
    (coded× coded_ℕ (coded× coded_ℕ (coded× (coded_list (coded_list coded_ℕ)) (coded× (coded_list (coded_list coded_ℕ)) coded_ℕ))))
    (λ l. (l.nodes, (l.heads, (l.first, (l.second, l.moves)))))
    (λ p. record { nodes = p.0; heads = p.1.0; first = p.1.1.0; second = p.1.1.1.0; moves = p.1.1.1.1 })
    (λ _. refl)

abbrev pub sound_lists_code : Coded SoundLists
sound_lists_code = coded_via lists_code (λ value. value.lists) same_sound_lists
