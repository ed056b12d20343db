-- Nodes, and what goes with a node.
use Rattle.std.specs.Prelude.{true, false, slice_set, ℕ, zero, suc, Bool, cond, not, ◌||◌, nat_eq, List, [], ◌∷◌, ◌++◌, length, filter, map, Option, Some, None, is_some, ◌≡◌, ◌⊎◌}
use Rattle.std.specs.List.{range_with_len, sum_by}
use Rattle.std.specs.Option.{option_map}
use Rattle.variant_values.specs.declared.values.Serial.{Serial}
use Rattle.variant_values.specs.declared.cells.NodePart.{NodePart}
use Rattle.variant_values.specs.declared.cells.Cell.{Cell}
use Rattle.variant_values.specs.declared.cells.Cell.TheVariants.{Array as ArrayCell, Dict as DictCell, Object as ObjectCell}
use Rattle.variant_values.specs.Places.{one_at}
use Rattle.variant_values.specs.Heaps.{Heap, cell_at, held_at, is_living, with_cell}
use Rattle.variant_values.specs.Sweeps.{cut_slot}

-- the node part of a cell
abbrev pub node_of : Option Cell → Option NodePart
node_of None = None
node_of (Some (ArrayCell vs of)) = None
node_of (Some (DictCell es)) = None
node_of (Some (ObjectCell o)) = o.node

abbrev pub is_node : Option Cell → Bool
is_node s = is_some (node_of s)

abbrev pub parent_in : Option NodePart → Option Serial
parent_in None = None
parent_in (Some n) = n.parent

abbrev pub parent_of : Option Cell → Option Serial
parent_of s = parent_in (node_of s)

abbrev pub children_in : Option NodePart → List Serial
children_in None = []
children_in (Some n) = n.children

abbrev pub children_of : Option Cell → List Serial
children_of s = children_in (node_of s)

-- the cell with its node part changed, where it is a node
abbrev pub node_put : (NodePart → NodePart) → Option Cell → Option Cell
node_put f None = None
node_put f (Some (ArrayCell vs of)) = Some (ArrayCell vs of)
node_put f (Some (DictCell es)) = Some (DictCell es)
node_put f (Some (ObjectCell o)) = Some (ObjectCell (record o { node = option_map f o.node }))

abbrev pub named : List ℕ → NodePart → NodePart
named name n = record n { name = name }

-- a node with a child more, its last
abbrev pub adopted : Serial → NodePart → NodePart
adopted child n = record n { children = n.children ++ child ∷ [] }

abbrev pub placed : Serial → NodePart → NodePart
placed parent n = record n { parent = Some parent }

-- a node without a child
abbrev pub bereft : ℕ → NodePart → NodePart
bereft child n = record n { children = filter (λ s. not (nat_eq s.0 child)) n.children }

abbrev pub with_name : Heap → ℕ → List ℕ → Heap
with_name h x name = with_cell h x (node_put (named name) (cell_at h.cells x))

-- the heap in which a node is the last child of another
abbrev pub with_child : Heap → Serial → Serial → Heap
with_child h parent child = with_cell (with_cell h parent.0 (node_put (adopted child) (cell_at h.cells parent.0))) child.0 (node_put (placed parent) (cell_at h.cells child.0))

abbrev pub with_queued : Heap → Serial → Heap
with_queued h x = record h { queued = h.queued ++ x ∷ [] }

-- the subtree of a node: the node, and each node whose parent is in the subtree
pub data IsUnder (cells : List (Option Cell)) (top : ℕ) : ℕ → Type 0 where
  itself : IsUnder cells top top
  below : (x : ℕ) (p : Serial) → parent_of (cell_at cells x) ≡ Some p → IsUnder cells top p.0 → IsUnder cells top x

-- whether the serial of a parent passes a test
abbrev pub at_parent : (ℕ → Bool) → Option Serial → Bool
at_parent test None = false
at_parent test (Some p) = test p.0

-- whether no more than so many steps from a node to its parent lead to the top
abbrev pub leads : ℕ → List (Option Cell) → ℕ → ℕ → Bool
leads zero cells top x = nat_eq x top
leads (suc n) cells top x = nat_eq x top || at_parent (leads n cells top) (parent_of (cell_at cells x))

-- whether a cell is in the subtree of a node
abbrev pub is_under : List (Option Cell) → ℕ → ℕ → Bool
is_under cells top x = leads (length cells) cells top x

-- a node from which finitely many steps to a parent lead to one that has none
pub data IsGrounded (cells : List (Option Cell)) : ℕ → Type 0 where
  root : (x : ℕ) → parent_of (cell_at cells x) ≡ None → IsGrounded cells x
  child : (x : ℕ) (p : Serial) → parent_of (cell_at cells x) ≡ Some p → IsGrounded cells p.0 → IsGrounded cells x

abbrev pub is_parent : ℕ → Option Serial → Bool
is_parent p o = at_parent (λ x. nat_eq x p) o

-- how often a serial stands in a list
abbrev pub times_in : ℕ → List Serial → ℕ
times_in x ss = sum_by (λ s. one_at x s.0) ss

-- a node is once among the children of its parent, and among those of no other
abbrev pub IsFamily : List (Option Cell) → Type 0
IsFamily cells = (p x : ℕ) → times_in x (children_of (cell_at cells p)) ≡ cond (is_parent p (parent_of (cell_at cells x))) 1 0

-- each parent is a node that lives
abbrev pub IsRooted : List (Option Cell) → Type 0
IsRooted cells = (x : ℕ) (p : Serial) → parent_of (cell_at cells x) ≡ Some p → is_node (cell_at cells p.0) ≡ true

-- the cells where a node is no child of its parent
abbrev pub without_child_of : Option Serial → List (Option Cell) → ℕ → List (Option Cell)
without_child_of None cells x = cells
without_child_of (Some p) cells x = slice_set cells p.0 (node_put (bereft x) (cell_at cells p.0))

abbrev pub without_child : List (Option Cell) → ℕ → List (Option Cell)
without_child cells x = without_child_of (parent_of (cell_at cells x)) cells x

-- what is left of a cell: all of the subtree goes, and another cell loses its connections to what has gone, and its child
abbrev pub IsLeftBy : (h new : Heap) (top x : ℕ) → Type 0
IsLeftBy h new top x = (IsUnder h.cells top x × (cell_at new.cells x ≡ None)) ⊎ ((IsUnder h.cells top x → ⊥) × (cell_at new.cells x ≡ cut_slot (is_living new.cells) (cell_at (without_child h.cells top) x)))

-- an object and its subtree were freed
pub record IsFreed (h new : Heap) (top : ℕ) : Type 0 where
  pub serials : length new.cells ≡ length h.cells
  pub cells : (x : ℕ) → IsLeftBy h new top x
  pub places : length new.held ≡ length h.held
  pub held : (x : ℕ) → held_at new x ≡ cond (is_living new.cells x) (held_at h x) 0
  pub queued : new.queued ≡ h.queued

-- the cells where a subtree has gone, and its top is no child of its parent
abbrev pub left_under : List (Option Cell) → ℕ → ℕ → Option Cell
left_under cells top x = cond (is_under cells top x) None (cell_at (without_child cells top) x)

unfoldable pub without_subtree : List (Option Cell) → ℕ → List (Option Cell)
without_subtree cells top = map (left_under cells top) (range_with_len 0 (length cells))

-- the heap after the free of an object and its subtree
abbrev pub freed : Heap → ℕ → Heap
freed h top =
    let left = without_subtree h.cells top in
    record h { cells = map (cut_slot (is_living left)) left; held = map (λ x. cond (is_living left x) (held_at h x) 0) (range_with_len 0 (length h.held)) }
