-- How the lists of one side are laid out: each node names its neighbours and its head, and each head its two ends. No
-- public clause cites this module.
use Rattle.std.specs.Prelude.{◌≡◌, ◌≢◌, ◌⊎◌, ℕ, zero, suc, ◌<◌, ◌≤◌, List, [], ◌∷◌, length, map, take, slice_index_or, Option, Some, None, refl}
use Rattle.std.proofs.Common.{inl, inr}
use Rattle.std.specs.List.{Contains}
use Rattle.std.specs.Coded.{Coded, code_by, coded×, coded_ℕ, coded_list}
use Rattle.index_lists.specs.declared.chains.Link.{Link}
use Rattle.index_lists.specs.declared.chains.Ends.{Ends}
use Rattle.index_lists.specs.Lists.{Lists, list_at}

-- what a read past the links gives, and past the ends
abbrev pub no_link : Link
no_link = record { head = None; previous = None; next = None }

abbrev pub no_ends : Ends
no_ends = record { first = None; last = None }

-- a place from which a list goes on: its head, on the left, or a node, on the right
abbrev pub Spot : Type 0
Spot = ℕ ⊎ ℕ

-- the node in the list of this head, or where there is none the head itself
abbrev pub spot : ℕ → Option ℕ → Spot
spot head None = inl head
spot head (Some node) = inr node

-- the node after a spot
abbrev pub after : List Link → List Ends → Spot → Option ℕ
after links ends (inl head) = (slice_index_or ends head no_ends).first
after links ends (inr node) = (slice_index_or links node no_link).next

-- the node before a spot
abbrev pub before : List Link → List Ends → Spot → Option ℕ
before links ends (inl head) = (slice_index_or ends head no_ends).last
before links ends (inr node) = (slice_index_or links node no_link).previous

-- the head in whose list a node is
abbrev pub owner : List Link → ℕ → Option ℕ
owner links node = (slice_index_or links node no_link).head

module _ (next previous : Spot → Option ℕ) where
  -- in the list of this head, the two follow each other
  pub record AreJoined (head : ℕ) (left right : Option ℕ) : Type 0 where
    pub forth : next (spot head left) ≡ right
    pub back : previous (spot head right) ≡ left

  -- from the left end to the right end stand these nodes
  abbrev pub IsChain : ℕ → Option ℕ → List ℕ → Option ℕ → Type 0
  IsChain head left [] right = AreJoined head left right
  IsChain head left (node ∷ nodes) right = AreJoined head left (Some node) × IsChain head (Some node) nodes right

-- the links spell the list of each head, and a node's owner is the head in whose list it is
pub record Spells (next previous : Spot → Option ℕ) (owner : ℕ → Option ℕ) (list : ℕ → List ℕ) : Type 0 where
  pub chained : (head : ℕ) → IsChain next previous head None (list head) None
  pub owned : (head node : ℕ) → Contains (list head) node → owner node ≡ Some head
  pub listed : (head node : ℕ) → owner node ≡ Some head → Contains (list head) node

-- the new links join two neighbours in the list of the head, and are the old ones elsewhere
pub record Joins (next previous next' previous' : Spot → Option ℕ) (head : ℕ) (left right : Option ℕ) : Type 0 where
  pub joined : AreJoined next' previous' head left right
  pub nexts : (at : Spot) → at ≢ spot head left → next' at ≡ next at
  pub previouses : (at : Spot) → at ≢ spot head right → previous' at ≡ previous at

-- so many nodes at most, from one on
abbrev pub walk : List Link → ℕ → Option ℕ → List ℕ
walk links zero _ = []
walk links (suc count) None = []
walk links (suc count) (Some node) = node ∷ walk links count (slice_index_or links node no_link).next

-- the list between two ends
abbrev pub nodes_between : List Link → Ends → List ℕ
nodes_between links ends = walk links (length links) ends.first

-- the lists of one side, with room for more nodes and heads
pub record Table : Type 0 where
  pub nodes : ℕ
  pub lists : List (List ℕ)
  pub node_room : ℕ
  pub head_room : ℕ

-- a table is stored as the tuple of its fields
abbrev pub table_code : Coded Table
table_code =
    code_by
    (ℕ × (List (List ℕ) × (ℕ × ℕ)))
    (coded× coded_ℕ (coded× (coded_list (coded_list coded_ℕ)) (coded× coded_ℕ coded_ℕ)))
    (λ t. (t.nodes, (t.lists, (t.node_room, t.head_room))))
    (λ p. record { nodes = p.0; lists = p.1.0; node_room = p.1.1.0; head_room = p.1.1.1 })
    (λ _. refl)

abbrev pub no_table : Table
no_table = record { nodes = 0; lists = []; node_room = 0; head_room = 0 }

-- the lists of the first heads
abbrev pub lists_between : List Link → List Ends → ℕ → List (List ℕ)
lists_between links ends heads = map (nodes_between links) (take heads ends)

-- the links of so many nodes spell these lists of so many heads
pub record AreLinked (links : List Link) (ends : List Ends) (nodes heads : ℕ) (lists : List (List ℕ)) : Type 0 where
  pub node_room : nodes ≤ length links
  pub head_room : heads ≤ length ends
  pub count : length lists ≡ heads
  pub below : (head node : ℕ) → Contains (list_at lists head) node → node < nodes
  pub spells : Spells (after links ends) (before links ends) (owner links) (list_at lists)

-- the lists of both sides
abbrev pub lists_from : Table → Table → ℕ → Lists
lists_from first second moves =
    record { nodes = first.nodes; heads = length first.lists; first = first.lists; second = second.lists; moves = moves }
