-- An array grows by new containers.
use Rattle.std.proofs.Common.{◌≡◌, ◌∙◌, ap, sym, subst, refl, ℕ, zero, suc, ◌+◌, ◌-◌, ◌*◌, ◌<◌, ◌≤◌, ◌^◌, Bool, true, false, List, [], ◌∷◌, ◌++◌, append_assoc, length, take, drop, get_or, Option, Some, None, arith, cond, ◌&&◌, nat_le, pos, Result, Ok, Err}
use Rattle.std.specs.Prelude.{replicate}
use Rattle.std.specs.List.{sum_by}
use Rattle.std.proofs.lemmas.Bool.{le-leb, lt-leb, and_from}
use Rattle.std.proofs.lemmas.List.{get_or_append_left, length_push, length-set, length-append, length-replicate, take_all, drop_all}
use Rattle.std.proofs.lemmas.List.Sums.{sum_by-append, sum_by-cons, sum_by_push, sum_by-set}
use Rattle.std.proofs.lemmas.List.Folds.{sum_by-replicate}
use Rattle.std.proofs.lemmas.List.Elements.{All-push}
use Rattle.variant_values.specs.declared.cells.Cell.{Cell}
use Rattle.variant_values.specs.declared.cells.Cell.TheVariants.{Array as ArrayCell, Dict as DictCell, Object as ObjectCell}
use Rattle.variant_values.specs.declared.faults.RunFault.TheVariants.{HeapFull}
use Rattle.variant_values.specs.declared.faults.Trouble.{Trouble}
use Rattle.variant_values.specs.declared.faults.Trouble.TheVariants.{Fault, NoMemory}
use Rattle.variant_values.specs.declared.values.Serial.{Serial}
use Rattle.variant_values.specs.declared.values.Value.{Value}
use Rattle.variant_values.specs.declared.values.Value.TheVariants.{Int}
use Rattle.variant_values.specs.Places.{item_weight, text_weight, cell_weight, slot_weight, weight}
use Rattle.variant_values.specs.Heaps.{Heap, cell_at, is_array, items_of, items_put, knows, spliced, with_new, with_splice, KnowsAll}
use Rattle.variant_values.specs.Changes.{Given, HasGiven, Keeps, next_serial, placed}
use Rattle.variant_values.specs.ArrayMethods.{items_at}
use Rattle.variant_values.specs.Resizes.{in_a_row, put_last, with_more}
use Rattle.variant_values.proofs.Knowing.{array_within}
use Rattle.bulk_changes.specs.declared.resizes.Container.{Container}
use Rattle.bulk_changes.specs.declared.resizes.Container.TheVariants.{Array as OfArrays, Dict as OfDicts}
use Rattle.bulk_changes.specs.Containers.{empty_cell, named}

pub empty_weight : (kind : Container) → cell_weight (empty_cell kind) ≡ 16
empty_weight OfArrays = refl
empty_weight OfDicts = refl

no_text : (kind : Container) (s : Serial) → text_weight (named kind s) ≡ 0
no_text OfArrays s = refl
no_text OfDicts s = refl

pub row_weight : (kind : Container) (first n : ℕ) → sum_by item_weight (in_a_row (named kind) first n) ≡ 2 * n
row_weight kind first zero = refl
row_weight kind first (suc n) =
    let s : Serial = record { 0 = first } in
    omega (arith, sum_by-cons item_weight (named kind s) (in_a_row (named kind) (first + 1) n), no_text kind s, row_weight kind (first + 1) n)

pub more_cells : (h : Heap) (c : Cell) (n : ℕ) → (with_more h c n).cells ≡ h.cells ++ replicate n (Some c)
more_cells h c zero = sym (append_nil h.cells)
  where
    append_nil : (cells : List (Option Cell)) → cells ++ [] ≡ cells
    append_nil [] = refl
    append_nil (d ∷ ds) = ap (λ es. d ∷ es) (append_nil ds)
more_cells h c (suc n) = more_cells (with_new h c) c n ∙ append_assoc h.cells (Some c ∷ []) (replicate n (Some c))

-- the array is as before
pub array_stays : (h : Heap) (c : Cell) (n x : ℕ) → is_array (cell_at h.cells x) ≡ true → cell_at (with_more h c n).cells x ≡ cell_at h.cells x
array_stays h c n x a = ap (λ cells. cell_at cells x) (more_cells h c n) ∙ get_or_append_left h.cells (replicate n (Some c)) None x (array_within h.cells x a)

-- values put last weigh what they weigh
put_weight : (s : Option Cell) (vs : List Value) → is_array s ≡ true → slot_weight (items_put (spliced (items_of s) (length (items_of s)) 0 vs) s) ≡ slot_weight s + sum_by item_weight vs
put_weight None vs a = cc
put_weight (Some (ArrayCell ws of)) vs a = omega (arith, sum_by-append item_weight (take (length ws) ws ++ vs) (drop (length ws + 0) ws), sum_by-append item_weight (take (length ws) ws) vs, ends ws)
  where
    ends : (us : List Value) → sum_by item_weight (take (length us) us) + sum_by item_weight (drop (length us + 0) us) ≡ sum_by item_weight us
    ends us = omega (arith, ap (sum_by item_weight) (take_all (length us) us (omega arith)), ap (sum_by item_weight) (drop_all (length us + 0) us (omega arith)))
put_weight (Some (DictCell es)) vs a = cc
put_weight (Some (ObjectCell o)) vs a = cc

pub last_weight : (h : Heap) (x : ℕ) (vs : List Value) → is_array (cell_at h.cells x) ≡ true → weight (with_splice h x (length (items_at h x)) 0 vs).cells ≡ weight h.cells + sum_by item_weight vs
last_weight h x vs a = omega (arith, sum_by-set slot_weight h.cells x (items_put (spliced (items_at h x) (length (items_at h x)) 0 vs) (cell_at h.cells x)) None (array_within h.cells x a), put_weight (cell_at h.cells x) vs a)

pub more_weight : (h : Heap) (kind : Container) (n : ℕ) → weight (with_more h (empty_cell kind) n).cells ≡ weight h.cells + 16 * n
more_weight h kind n = omega (arith, ap weight (more_cells h (empty_cell kind) n), sum_by-append slot_weight h.cells (replicate n (Some (empty_cell kind))), sum_by-replicate slot_weight n (Some (empty_cell kind)), ap (λ w. n * w) (empty_weight kind))

-- one more container
module _ (kind : Container) (now next : Heap) (count i : ℕ) (within : i < count) (ok : next ≡ with_new now (empty_cell kind)) where
  left : count - i ≡ suc (count - (i + 1))
  left = omega arith

  pub cells_next : with_more next (empty_cell kind) (count - (i + 1)) ≡ with_more now (empty_cell kind) (count - i)
  cells_next = ap (λ h. with_more h (empty_cell kind) (count - (i + 1))) ok ∙ sym (ap (with_more now (empty_cell kind)) left)

  pub length_next : length next.cells ≡ length now.cells + 1
  length_next = ap (λ (h : Heap). length h.cells) ok ∙ length_push now.cells (Some (empty_cell kind))

  pub row_next : (list all : List Value) (v : Value) → v ≡ named kind (next_serial now) → all ≡ list ++ v ∷ [] → all ++ in_a_row (named kind) (length next.cells) (count - (i + 1)) ≡ list ++ in_a_row (named kind) (length now.cells) (count - i)
  row_next list all v is e =
      ap (λ vs. vs ++ in_a_row (named kind) (length next.cells) (count - (i + 1))) e
      ∙ append_assoc list (v ∷ []) (in_a_row (named kind) (length next.cells) (count - (i + 1)))
      ∙ ap (λ w. list ++ (w ∷ in_a_row (named kind) (length next.cells) (count - (i + 1)))) is
      ∙ ap (λ first. list ++ (named kind (next_serial now) ∷ in_a_row (named kind) first (count - (i + 1)))) length_next
      ∙ sym (ap (λ n. list ++ in_a_row (named kind) (length now.cells) n) left)

  pub weight_next : weight next.cells ≡ weight now.cells + 16
  weight_next = ap (λ (h : Heap). weight h.cells) ok ∙ sum_by_push slot_weight now.cells (Some (empty_cell kind)) ∙ ap (λ w. weight now.cells + w) (empty_weight kind)

pub known_next : (now next : List (Option Cell)) (list all : List Value) (v : Value) → Keeps now next → KnowsAll now list → knows next v ≡ true → all ≡ list ++ v ∷ [] → KnowsAll next all
known_next now next list all v keeps known here e = subst (λ (vs : List Value). KnowsAll next vs) (sym e) (All-push (λ (w : Value). knows next w ≡ true) list v (λ k d l. keeps (get_or list k d) (known k d l)) here)

-- the heap that is too heavy, and the one that is not
too_heavy : (h : Heap) (v : Value) → 67108864 < weight h.cells → placed h v ≡ Err HeapFull
too_heavy h v heavy = ap (λ b. cond (b && nat_le (length h.cells) (2 ^ 64)) (Ok (v, h)) (Err HeapFull)) (lt-leb (weight h.cells) 67108864 heavy)

-- and the one that has no serial for each of its cells
neither : {A : Type 0} (b : Bool) (x y : A) → cond (b && false) x y ≡ y
neither true x y = refl
neither false x y = refl

too_many : (h : Heap) (v : Value) → 2 ^ 64 < length h.cells → placed h v ≡ Err HeapFull
too_many h v many = ap (λ b. cond (nat_le (weight h.cells) 67108864 && b) (Ok (v, h)) (Err HeapFull)) (lt-leb (length h.cells) (2 ^ 64) many) ∙ neither (nat_le (weight h.cells) 67108864) (Ok (v, h)) (Err HeapFull)

has_room : (h : Heap) (v : Value) → weight h.cells ≤ 67108864 → length h.cells ≤ 2 ^ 64 → placed h v ≡ Ok (v, h)
has_room h v light few = ap (λ b. cond b (Ok (v, h)) (Err HeapFull)) (and_from (nat_le (weight h.cells) 67108864) (nat_le (length h.cells) (2 ^ 64)) (le-leb (weight h.cells) 67108864 light) (le-leb (length h.cells) (2 ^ 64) few))

-- where a call cannot fail, the heap that it began with does not matter
from_ok : (r : Result Value Trouble) (old mid new : Heap) (w : Value × Heap) (given : Given) → given ≡ Ok w → HasGiven r mid new given → HasGiven r old new given
from_ok (Ok v) old mid new w given is h = h
from_ok (Err (Fault fault)) old mid new w given is h = cc
from_ok (Err NoMemory) old mid new w given is h = tt

module _ (old : Heap) (x : ℕ) (a : is_array (cell_at old.cells x) ≡ true) (kind : Container) (n : ℕ) where
  abbrev row : List Value
  row = in_a_row (named kind) (length old.cells) n

  abbrev more : Heap
  more = with_more old (empty_cell kind) n

  abbrev last : Heap
  last = with_splice more x (length (items_at more x)) 0 row

  last_is : weight last.cells ≡ weight old.cells + 18 * n
  last_is = omega (arith, last_weight more x row (ap is_array (array_stays old (empty_cell kind) n x a) ∙ a), more_weight old kind n, row_weight kind (length old.cells) n)

  last_length : length last.cells ≡ length old.cells + n
  last_length = length-set more.cells x _ ∙ ap length (more_cells old (empty_cell kind) n) ∙ length-append old.cells (replicate n (Some (empty_cell kind))) ∙ ap (λ m. length old.cells + m) (length-replicate n (Some (empty_cell kind)))

  pub grown_full : 67108864 < weight old.cells + 18 * n → put_last (row, more) x ≡ Err HeapFull
  grown_full heavy = too_heavy last (Int (pos 0)) (omega (arith, last_is))

  pub grown_many : 2 ^ 64 < length old.cells + n → put_last (row, more) x ≡ Err HeapFull
  grown_many many = too_many last (Int (pos 0)) (omega (arith, many, last_length))

  pub grown_ok : (r : Result Value Trouble) (mid new : Heap) (put : List Value) → mid ≡ more → put ≡ row → weight old.cells + 18 * n ≤ 67108864 → length old.cells + n ≤ 2 ^ 64 → HasGiven r mid new (put_last (put, mid) x) → HasGiven r old new (put_last (row, more) x)
  grown_ok r mid new put m p light few h =
      let same : put_last (put, mid) x ≡ put_last (row, more) x = ap (λ (h : Heap). put_last (put, h) x) m ∙ ap (λ (vs : List Value). put_last (vs, more) x) p in
      from_ok r old mid new (Int (pos 0), last) (put_last (row, more) x) (has_room last (Int (pos 0)) (omega (arith, last_is)) (omega (arith, last_length))) (subst (λ (g : Given). HasGiven r mid new g) same h)
