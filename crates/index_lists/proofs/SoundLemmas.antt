-- What two sides that are apart make of the lists that a contract sees.
use Rattle.std.proofs.Common.{◌^◌, ◌<◌, ◌∷◌, ◌++◌, map, set, get_or-set_same, Option, Some, None, slice_get, IfSome, ◌≡◌, ℕ, ◌-◌, ◌≤◌, List, [], replicate, length, arith, refl, sym, subst}
use Rattle.std.proofs.lemmas.List.{length-append, length-replicate}
use Rattle.std.specs.List.{Contains}
use Rattle.std.proofs.lemmas.List.Elements.{Contains-push, Contains-append_right}
use Rattle.index_lists.proofs.Nodes.{Contains-first, Contains-rest, Contains-from_without}
use Rattle.index_lists.proofs.RowLaws.{split_at, first_split}
use Rattle.index_lists.proofs.TableLemmas.{list_at-map}
use Rattle.index_lists.specs.declared.Side.{Side}
use Rattle.index_lists.specs.declared.Side.TheVariants.{First, Second}
use Rattle.index_lists.specs.Lists.{Lists, lists_of, list_at, list_of, padded, without, IsLinked, IsApart, AreSound}
use Rattle.index_lists.specs.Chains.{Table, lists_from}

-- with the empty ones there are as many lists as heads
pub length-padded : (lists : List (List ℕ)) (heads : ℕ) → length lists ≤ heads → length (padded lists heads) ≡ heads
length-padded lists heads more =
    omega (arith, length-append lists (replicate (heads - length lists) []), length-replicate {A = List ℕ} (heads - length lists) [], more)

module _ (first second : Table) (moves : ℕ) where
  pub AreSound-sides : moves ≤ 2 ^ 64 - 1 → second.nodes ≡ first.nodes → length second.lists ≡ length first.lists → IsApart first.nodes (list_at first.lists) → IsApart second.nodes (list_at second.lists) → AreSound (lists_from first second moves)
  AreSound-sides few nodes heads first_apart second_apart = record { few_moves = few; count = count; apart = apart }
    where
      count : (side : Side) → length (lists_of (lists_from first second moves) side) ≡ length first.lists
      count First = refl
      count Second = heads

      apart : (side : Side) → IsApart first.nodes (list_of (lists_from first second moves) side)
      apart First = first_apart
      apart Second = subst (λ n. IsApart n (list_at second.lists)) nodes second_apart

  -- the second side, by its own count of nodes
  pub second_apart : second.nodes ≡ first.nodes → AreSound (lists_from first second moves) → IsApart second.nodes (list_at second.lists)
  second_apart nodes sound = subst (λ n. IsApart n (list_at second.lists)) (sym nodes) (sound.apart Second)

-- the node is there once it is pushed
pub pushed_there : (lists : List (List ℕ)) (head node : ℕ) → head < length lists → Contains (list_at (set lists head (list_at lists head ++ node ∷ [])) head) node
pushed_there lists head node within =
    subst (λ nodes. Contains nodes node) (sym (get_or-set_same lists head (list_at lists head ++ node ∷ []) [] within)) (Contains-push (list_at lists head) node)

-- and nowhere once it is taken out
pub nowhere_without : (lists : List (List ℕ)) (head node : ℕ) → Contains (list_at (map (without node) lists) head) node → ⊥
nowhere_without lists head node found =
    (Contains-from_without node (list_at lists head) node (subst (λ nodes. Contains nodes node) (list_at-map node lists head) found)).1 refl

-- the first of a list, if there is one, is linked
pub first_linked : (lists : Lists) (side : Side) (head : ℕ) (first : Option ℕ) → first ≡ slice_get (list_of lists side head) 0 → IfSome first (IsLinked lists side)
first_linked lists side head None is = tt
first_linked lists side head (Some node) is =
    let parts = first_split (list_of lists side head) node (sym is) in
    (head, subst (λ nodes. Contains nodes node) (sym parts.1) (Contains-first node parts.0))

-- and so is the node after one
pub next_linked : (lists : Lists) (side : Side) (node : ℕ) (next : Option ℕ) → IsLinked lists side node → ((head : ℕ) (front rest : List ℕ) → list_of lists side head ≡ front ++ node ∷ rest → next ≡ slice_get rest 0) → IfSome next (IsLinked lists side)
next_linked lists side node None linked value = tt
next_linked lists side node (Some next) linked value =
    let parts = split_at (list_of lists side linked.0) node linked.1 in
    let later = first_split parts.1 next (sym (value linked.0 parts.0 parts.1 parts.2)) in (
      linked.0,
      subst (λ nodes. Contains nodes next) (sym parts.2)
          (Contains-append_right parts.0 (node ∷ parts.1) next (Contains-rest node parts.1 next (subst (λ nodes. Contains nodes next) (sym later.1) (Contains-first next later.0)))),
    )

-- what is linked is in range
pub linked_in_range : (lists : Lists) (sound : AreSound lists) (side : Side) (found : Option ℕ) → IfSome found (IsLinked lists side) → IfSome found (λ node. node < lists.nodes)
linked_in_range lists sound side None linked = tt
linked_in_range lists sound side (Some node) linked = (sound.apart side).below linked.0 node linked.1
