-- A copy, item by item and entry by entry.
use Rattle.std.proofs.Common.{◌≡◌, ℕ, ◌+◌, ◌<◌, ◌≤◌, ◌∙◌, ap, sym, subst, refl, Bool, true, false, cond, List, [], ◌∷◌, ◌++◌, length, drop, get_or, Option, Some, None, slice_get, arith}
use Rattle.std.specs.Map.{lookup}
use Rattle.std.specs.Prelude.{IfOk, Result, Ok, Err}
use Rattle.std.proofs.lemmas.List.{append_assoc}
use Rattle.std.proofs.lemmas.List.Elements.{All-push}
use Rattle.call_support.proofs.Counts.{drop-next}
use Rattle.call_support.proofs.Once.{apart_too, with_new}
use Rattle.variant_values.specs.declared.cells.Cell.{Cell}
use Rattle.variant_values.specs.declared.values.Key.{Key}
use Rattle.variant_values.specs.declared.values.Key.TheVariants.{Bool as KeyTruth, Int as KeyInt, Str as KeyStr, Object as KeyObject}
use Rattle.variant_values.specs.declared.values.Value.TheVariants.{Object}
use Rattle.variant_values.specs.declared.values.Value.{Value}
use Rattle.variant_values.specs.Copies.{copied, copied_items, copied_entries}
use Rattle.variant_values.specs.Changes.{Keeps}
use Rattle.variant_values.specs.Heaps.{Heap, cell_at, entries_of, items_of, knows, knows_key, KnowsAll, KnowsEntries}
use Rattle.variant_values.specs.Keys.{same_key, with_entry, HasKeysOnce}
use Rattle.deep_copies.specs.CopyWeights.{Fits}
use Rattle.deep_copies.proofs.Growth.{Grows, fits_before, grown_cell, items_grown, entries_grown, copied_grown}

-- what is copied so far, with the rest copied, is the whole
abbrev pub Copying : (Heap → Value → Value × Heap) → Heap → List Value → List Value → List Value × Heap → Type 0
Copying copy h done rest all = (done ++ (copied_items copy h rest).0, (copied_items copy h rest).1) ≡ all

abbrev pub CopyingEntries : (Heap → Value → Value × Heap) → Heap → List (Key × Value) → List (Key × Value) → List (Key × Value) × Heap → Type 0
CopyingEntries copy h done rest all = (done ++ (copied_entries copy h rest).0, (copied_entries copy h rest).1) ≡ all

module _ (copy : Heap → Value → Value × Heap) (grows : Grows copy) (h : Heap) where
  item_fits_at : (done vs : List Value) (v : Value) (all : List Value × Heap) → Copying copy h done (v ∷ vs) all → Fits all.1.cells → Fits (copy h v).1.cells
  item_fits_at done vs v all whole fits = fits_before (copy h v).1.cells (copied_items copy (copy h v).1 vs).1.cells (items_grown copy grows (copy h v).1 vs) (subst (λ (c : List Value × Heap). Fits c.1.cells) (sym whole) fits)

  pub item_fits : (done vs : List Value) (i : ℕ) (v : Value) (all : List Value × Heap) → slice_get vs i ≡ Some v → Copying copy h done (drop i vs) all → Fits all.1.cells → Fits (copy h v).1.cells
  item_fits done vs i v all at whole fits = item_fits_at done (drop (i + 1) vs) v all (subst (λ (rest : List Value). Copying copy h done rest all) (drop-next vs i v at) whole) fits

  item_next_at : (new : Heap) (done vs : List Value) (v w : Value) (all : List Value × Heap) → (w, new) ≡ copy h v → Copying copy h done (v ∷ vs) all → Copying copy new (done ++ w ∷ []) vs all
  item_next_at new done vs v w all one whole =
      let others = copied_items copy (copy h v).1 vs in
      ap (λ (c : Value × Heap). (done ++ c.0 ∷ [] ++ (copied_items copy c.1 vs).0, (copied_items copy c.1 vs).1)) one
      ∙ ap (λ (l : List Value). (l, others.1)) (append_assoc done ((copy h v).0 ∷ []) others.0)
      ∙ whole

  pub item_next : (new : Heap) (done vs : List Value) (i : ℕ) (v w : Value) (all : List Value × Heap) → slice_get vs i ≡ Some v → (w, new) ≡ copy h v → Copying copy h done (drop i vs) all → Copying copy new (done ++ w ∷ []) (drop (i + 1) vs) all
  item_next new done vs i v w all at one whole = item_next_at new done (drop (i + 1) vs) v w all one (subst (λ (rest : List Value). Copying copy h done rest all) (drop-next vs i v at) whole)

  entry_fits_at : (done es : List (Key × Value)) (e : Key × Value) (all : List (Key × Value) × Heap) → CopyingEntries copy h done (e ∷ es) all → Fits all.1.cells → Fits (copy h e.1).1.cells
  entry_fits_at done es e all whole fits = fits_before (copy h e.1).1.cells (copied_entries copy (copy h e.1).1 es).1.cells (entries_grown copy grows (copy h e.1).1 es) (subst (λ (c : List (Key × Value) × Heap). Fits c.1.cells) (sym whole) fits)

  pub entry_fits : (done es : List (Key × Value)) (i : ℕ) (k : Key) (v : Value) (all : List (Key × Value) × Heap) → slice_get es i ≡ Some (k, v) → CopyingEntries copy h done (drop i es) all → Fits all.1.cells → Fits (copy h v).1.cells
  entry_fits done es i k v all at whole fits = entry_fits_at done (drop (i + 1) es) (k, v) all (subst (λ (rest : List (Key × Value)). CopyingEntries copy h done rest all) (drop-next es i (k, v) at) whole) fits

  entry_next_at : (new : Heap) (done es : List (Key × Value)) (e : Key × Value) (w : Value) (all : List (Key × Value) × Heap) → (w, new) ≡ copy h e.1 → CopyingEntries copy h done (e ∷ es) all → CopyingEntries copy new (done ++ (e.0, w) ∷ []) es all
  entry_next_at new done es e w all one whole =
      let others = copied_entries copy (copy h e.1).1 es in
      ap (λ (c : Value × Heap). (done ++ (e.0, c.0) ∷ [] ++ (copied_entries copy c.1 es).0, (copied_entries copy c.1 es).1)) one
      ∙ ap (λ (l : List (Key × Value)). (l, others.1)) (append_assoc done ((e.0, (copy h e.1).0) ∷ []) others.0)
      ∙ whole

  pub entry_next : (new : Heap) (done es : List (Key × Value)) (i : ℕ) (k : Key) (v w : Value) (all : List (Key × Value) × Heap) → slice_get es i ≡ Some (k, v) → (w, new) ≡ copy h v → CopyingEntries copy h done (drop i es) all → CopyingEntries copy new (done ++ (k, w) ∷ []) (drop (i + 1) es) all
  entry_next new done es i k v w all at one whole = entry_next_at new done (drop (i + 1) es) (k, v) w all one (subst (λ (rest : List (Key × Value)). CopyingEntries copy h done rest all) (drop-next es i (k, v) at) whole)

-- ---- each key stands once

-- a key that is missing from entries is missing from them with another value
lacks_too : (q k : Key) (v w : Value) (done es : List (Key × Value)) → lookup (same_key q) (done ++ (k, v) ∷ es) ≡ None → lookup (same_key q) ((done ++ (k, w) ∷ []) ++ es) ≡ None
lacks_too q k v w [] es none = by (same_key q k) none
  where
    by : (t : Bool) → cond t (Some v) (lookup (same_key q) es) ≡ None → cond t (Some w) (lookup (same_key q) es) ≡ None
    by true h = cc
    by false h = h
lacks_too q k v w (e ∷ done) es none = by (same_key q e.0) none (lacks_too q k v w done es)
  where
    by : (t : Bool) → cond t (Some e.1) (lookup (same_key q) (done ++ (k, v) ∷ es)) ≡ None → (lookup (same_key q) (done ++ (k, v) ∷ es) ≡ None → lookup (same_key q) ((done ++ (k, w) ∷ []) ++ es) ≡ None) → cond t (Some e.1) (lookup (same_key q) ((done ++ (k, w) ∷ []) ++ es)) ≡ None
    by true h later = cc
    by false h later = later h

once_put : (k : Key) (v w : Value) (done es : List (Key × Value)) → HasKeysOnce (done ++ (k, v) ∷ es) → HasKeysOnce ((done ++ (k, w) ∷ []) ++ es)
once_put k v w [] es once = once
once_put k v w (e ∷ done) es once = (lacks_too e.0 k v w done es once.0, once_put k v w done es once.1)

lacks_at : (q k : Key) (v : Value) (done es : List (Key × Value)) → lookup (same_key q) (done ++ (k, v) ∷ es) ≡ None → same_key q k ≡ false
lacks_at q k v [] es none = by (same_key q k) none
  where
    by : (t : Bool) → cond t (Some v) (lookup (same_key q) es) ≡ None → t ≡ false
    by true h = cc
    by false h = refl
lacks_at q k v (e ∷ done) es none = by (same_key q e.0) none (lacks_at q k v done es)
  where
    by : (t : Bool) → cond t (Some e.1) (lookup (same_key q) (done ++ (k, v) ∷ es)) ≡ None → (lookup (same_key q) (done ++ (k, v) ∷ es) ≡ None → same_key q k ≡ false) → same_key q k ≡ false
    by true h later = cc
    by false h later = later h

once_here : (k : Key) (v : Value) (done es : List (Key × Value)) → HasKeysOnce (done ++ (k, v) ∷ es) → lookup (same_key k) done ≡ None
once_here k v [] es once = refl
once_here k v (e ∷ done) es once =
    ap (λ t. cond t (Some e.1) (lookup (same_key k) done)) (apart_too e.0 k (lacks_at e.0 k v done es once.0))
    ∙ once_here k v done es once.1

module _ (done es : List (Key × Value)) (i : ℕ) (k : Key) (v w : Value) (at : slice_get es i ≡ Some (k, v)) (once : HasKeysOnce (done ++ drop i es)) where
  once_at : HasKeysOnce (done ++ (k, v) ∷ drop (i + 1) es)
  once_at = subst (λ (rest : List (Key × Value)). HasKeysOnce (done ++ rest)) (drop-next es i (k, v) at) once

  pub entered_last : with_entry done k w ≡ done ++ (k, w) ∷ []
  entered_last = with_new done k w (once_here k v done (drop (i + 1) es) once_at)

  pub once_next : HasKeysOnce ((done ++ (k, w) ∷ []) ++ drop (i + 1) es)
  once_next = once_put k v w done (drop (i + 1) es) once_at

-- ---- what a call needs to know

pub key_keeps : (cells new : List (Option Cell)) (k : Key) → Keeps cells new → knows_key cells k ≡ true → knows_key new k ≡ true
key_keeps cells new (KeyTruth b) keeps known = known
key_keeps cells new (KeyInt n) keeps known = known
key_keeps cells new (KeyStr s) keeps known = known
key_keeps cells new (KeyObject s) keeps known = keeps (Object s) known

pub items_more : (cells new : List (Option Cell)) (vs : List Value) (w : Value) → Keeps cells new → KnowsAll cells vs → knows new w ≡ true → KnowsAll new (vs ++ w ∷ [])
items_more cells new vs w keeps known one = All-push (λ (v : Value). knows new v ≡ true) vs w (λ i d l. keeps (get_or vs i d) (known i d l)) one

pub entries_more : (cells new : List (Option Cell)) (es : List (Key × Value)) (k : Key) (w : Value) → Keeps cells new → KnowsEntries cells es → knows_key new k ≡ true → knows new w ≡ true → KnowsEntries new (es ++ (k, w) ∷ [])
entries_more cells new es k w keeps known key one = All-push (λ (e : Key × Value). (knows_key new e.0 ≡ true) × (knows new e.1 ≡ true)) es (k, w) (λ i d l. (key_keeps cells new (get_or es i d).0 keeps (known i d l).0, keeps (get_or es i d).1 (known i d l).1)) (key, one)

-- a cell that was there stays as it is
pub cell_stays : (n : ℕ) (h new : Heap) (v w : Value) (x : ℕ) → (w, new) ≡ copied n h v → x < length h.cells → cell_at new.cells x ≡ cell_at h.cells x
cell_stays n h new v w x one l = ap (λ (c : Value × Heap). cell_at c.1.cells x) one ∙ grown_cell h.cells (copied n h v).1.cells x (copied_grown n h v) l

-- what is read where the cell is as it was
pub item_was : (now was : Option Cell) (i : ℕ) (v : Value) → now ≡ was → slice_get (items_of now) i ≡ Some v → slice_get (items_of was) i ≡ Some v
item_was now was i v is at = ap (λ (c : Option Cell). slice_get (items_of c) i) (sym is) ∙ at

pub entry_was : (now was : Option Cell) (i : ℕ) (k : Key) (v : Value) → now ≡ was → slice_get (entries_of now) i ≡ Some (k, v) → slice_get (entries_of was) i ≡ Some (k, v)
entry_was now was i k v is at = ap (λ (c : Option Cell). slice_get (entries_of c) i) (sym is) ∙ at

-- ---- what is passed on

pub if_shared : {E : Type 0} → (r : Result Value E) (h : Heap) (v : Value) (c : Value × Heap) → c ≡ (v, h) → IfOk r (λ w. w ≡ v) → IfOk r (λ w. (w, h) ≡ c)
if_shared (Ok w) h v c e is = ap (λ (x : Value). (x, h)) is ∙ sym e
if_shared (Err error) h v c e is = tt
