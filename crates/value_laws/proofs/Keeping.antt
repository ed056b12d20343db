-- Calls of values leave how much of each cell is retained: the rules, and then a line for each method and operator.
use Rattle.std.proofs.Common.{◌≡◌, ◌∙◌, ℕ, zero, suc, ℤ, Bool, true, false, List, [], ◌∷◌, ◌++◌, get_or, refl, ap, Option, Some, None, Result, Ok, Err}
use Rattle.std.specs.Prelude.{if◌then◌else◌, ◌-◌, length, nat_le, pos}
use Rattle.std.specs.Int.RustNames.{int_lt, unsigned_abs}
use Rattle.variant_values.specs.declared.cells.Cell.{Cell}
use Rattle.variant_values.specs.declared.classes.ElementTag.{ElementTag}
use Rattle.variant_values.specs.declared.classes.ElementTag.TheVariants as tag
use Rattle.variant_values.specs.declared.cells.Cell.TheVariants.{Array as ArrayCell, Dict as DictCell}
use Rattle.variant_values.specs.declared.container_methods.ArrayMethod.{ArrayMethod}
use Rattle.variant_values.specs.declared.container_methods.ArrayMethod.TheVariants as m
use Rattle.variant_values.specs.declared.container_methods.DictMethod.{DictMethod}
use Rattle.variant_values.specs.declared.container_methods.DictMethod.TheVariants as d
use Rattle.variant_values.specs.declared.faults.RunFault.{RunFault}
use Rattle.variant_values.specs.declared.faults.RunFault.TheVariants.{BadArgs, HeapFull, TooDeep, TooLong}
use Rattle.variant_values.specs.declared.operators.BinaryOp.{BinaryOp}
use Rattle.variant_values.specs.declared.operators.BinaryOp.TheVariants as o
use Rattle.variant_values.specs.declared.string_methods.StrMethod.{StrMethod}
use Rattle.variant_values.specs.declared.string_methods.StrMethod.TheVariants as t
use Rattle.variant_values.specs.declared.values.Key.{Key}
use Rattle.variant_values.specs.declared.values.Serial.{Serial}
use Rattle.variant_values.specs.declared.values.Value.{Value}
use Rattle.variant_values.specs.declared.values.Value.TheVariants.{Array, Dict, Int, Null}
use Rattle.variant_values.specs.ArrayMethods.{popped, removed, erased, inserted, items_at, shallow_of}
use Rattle.variant_values.specs.Changes.{Given, looked, placed}
use Rattle.variant_values.specs.ContainerCalls.{slice_to, array_call_of, dict_call_of}
use Rattle.variant_values.specs.Copies.{copied, copied_entries, copied_items, deep_copy_of, array_duplicate_of, dict_duplicate_of}
use Rattle.variant_values.specs.DictMethods.{dict_erase_of, dict_shallow_of}
use Rattle.variant_values.specs.ElementTypes.{element_of}
use Rattle.variant_values.specs.Heaps.{Heap, cell_at, entries_of, held_at, items_of, with_new, with_splice}
use Rattle.variant_values.specs.Indexing.{item_put, entry_put, index_put}
use Rattle.variant_values.specs.Kept.{Kept}
use Rattle.variant_values.specs.Operations.{added, operated}
use Rattle.variant_values.specs.Operators.{Outcome, most_items}
use Rattle.variant_values.specs.Resizes.{defaults, put_last, resize_of, sized, with_more}
use Rattle.variant_values.specs.StringMethods.{split_array, string_call_of, with_given}
use Rattle.variant_values.specs.ValueTexts.{Names, is_within, items_in, most_levels}

kept_err : {A : Type 0} (h : Heap) (k : RunFault) → Kept {A = A} h (Err k)
kept_err h k = record { steady = tt }

-- as much is retained in one heap as in another
abbrev pub Steady : Heap → Heap → Type 0
Steady h g = (x : ℕ) → held_at g x ≡ held_at h x

kept_steady : {A : Type 0} (h g : Heap) (v : A) → Steady h g → Kept h (Ok (v, g))
kept_steady h g v same = record { steady = same }

kept_ok : {A : Type 0} (h g : Heap) (v : A) → g.held ≡ h.held → Kept h (Ok (v, g))
kept_ok h g v same = record { steady = λ x. ap (λ l. get_or l x 0) same }

kept_if : {A : Type 0} (h : Heap) (b : Bool) (x y : Result (A × Heap) RunFault) → Kept h x → Kept h y → Kept h (if b then x else y)
kept_if h true x y s t = s
kept_if h false x y s t = t

kept_looked : (h : Heap) (o : Outcome) → Kept h (looked h o)
kept_looked h (Ok v) = kept_ok h h v refl
kept_looked h (Err fault) = record { steady = tt }

kept_given : {A B : Type 0} (h : Heap) (o : Option A) (f : A → Result (B × Heap) RunFault) → ((a : A) → Kept h (f a)) → Kept h (with_given o f)
kept_given h None f s = record { steady = tt }
kept_given h (Some a) f s = s a

-- a cell that nobody retains stands last
pushed_zero : (held : List ℕ) (x : ℕ) → get_or (held ++ 0 ∷ []) x 0 ≡ get_or held x 0
pushed_zero [] zero = refl
pushed_zero [] (suc x) = refl
pushed_zero (n ∷ ns) zero = refl
pushed_zero (n ∷ ns) (suc x) = pushed_zero ns x

kept_more : (h : Heap) (c : Cell) (v : Value) → Kept h (Ok (v, with_new h c))
kept_more h c v = record { steady = λ x. pushed_zero h.held x }

ruleset basics = (kept_if, kept_err, kept_ok, kept_looked, kept_given, kept_more)

kept_popped : (h : Heap) (x at : ℕ) (o : Option Value) → Kept h (popped h x at o)
kept_popped h x at None = search basics
kept_popped h x at (Some v) = search basics

kept_removed : (h : Heap) (x : ℕ) (o : Option ℕ) (other : Given) → Kept h other → Kept h (removed h x o other)
kept_removed h x None other s = s
kept_removed h x (Some i) other s = search basics

kept_erased : (h : Heap) (x : ℕ) (o : Result (Option ℕ) RunFault) → Kept h (erased h x o)
kept_erased h x (Ok found) = kept_removed h x found (Ok (Null, h)) (kept_ok h h Null refl)
kept_erased h x (Err k) = kept_err h k

kept_inserted : (h : Heap) (x : ℕ) (o : Option ℕ) (v : Value) → Kept h (inserted h x o v)
kept_inserted h x None v = search basics
kept_inserted h x (Some i) v = search basics

kept_slice : (h : Heap) (x : ℕ) (a : ℤ) (o : Option ℤ) → Kept h (slice_to h x a o)
kept_slice h x a None = search basics
kept_slice h x a (Some b) = search basics

-- ---- new containers

steady_more : (h : Heap) (c : Cell) (n : ℕ) → Steady h (with_more h c n)
steady_more h c zero x = refl
steady_more h c (suc n) x = steady_more (with_new h c) c n x ∙ pushed_zero h.held x

steady_defaults : (h : Heap) (of : Option ElementTag) (n : ℕ) → Steady h (defaults h of n).1
steady_defaults h (Some tag.Array) n x = steady_more h (ArrayCell [] None) n x
steady_defaults h (Some tag.Dict) n x = steady_more h (DictCell []) n x
steady_defaults h of n x = refl

kept_placed : {A : Type 0} (h g : Heap) (v : A) → Steady h g → Kept h (placed g v)
kept_placed h g v same = kept_if h _ _ _ (kept_steady h g v same) (kept_err h HeapFull)

kept_last : (h : Heap) (new : List Value × Heap) (x : ℕ) → Steady h new.1 → Kept h (put_last new x)
kept_last h new x same = kept_placed h (with_splice new.1 x (length (items_at new.1 x)) 0 new.0) (Int (pos 0)) same

kept_sized : (h : Heap) (x n : ℕ) → Kept h (sized h x n)
kept_sized h x n =
    let len = length (items_at h x) in
    kept_if h (nat_le n len) _ _ (kept_ok h (with_splice h x n (len - n) []) (Int (pos 0)) refl) (kept_last h (defaults h (element_of (cell_at h.cells x)) (n - len)) x (steady_defaults h (element_of (cell_at h.cells x)) (n - len)))

kept_resize : (h : Heap) (x : ℕ) (n : ℤ) → Kept h (resize_of h x n)
kept_resize h x n = kept_if h (int_lt n (pos 0)) _ _ (kept_err h BadArgs) (kept_if h (nat_le (unsigned_abs n) most_items) _ _ (kept_sized h x (unsigned_abs n)) (kept_err h TooLong))

-- ---- copies

abbrev pub IsSteadyCopy : (Heap → Value → Value × Heap) → Type 0
IsSteadyCopy copy = (h : Heap) (v : Value) → Steady h (copy h v).1

module _ (copy : Heap → Value → Value × Heap) (same : IsSteadyCopy copy) where
  steady_items : (h : Heap) (vs : List Value) → Steady h (copied_items copy h vs).1
  steady_items h [] x = refl
  steady_items h (v ∷ vs) x = steady_items (copy h v).1 vs x ∙ same h v x

  steady_entries : (h : Heap) (es : List (Key × Value)) → Steady h (copied_entries copy h es).1
  steady_entries h [] x = refl
  steady_entries h (e ∷ es) x = steady_entries (copy h e.1).1 es x ∙ same h e.1 x

steady_copied : (levels : ℕ) (h : Heap) (v : Value) → Steady h (copied levels h v).1
unfolding copied
steady_copied zero h v x = refl
steady_copied (suc levels) h (Array s) x = pushed_zero (copied_items (λ g w. copied levels g w) h (items_of (cell_at h.cells s.0))).1.held x ∙ steady_items (λ g w. copied levels g w) (λ g w. steady_copied levels g w) h (items_of (cell_at h.cells s.0)) x
steady_copied (suc levels) h (Dict s) x = pushed_zero (copied_entries (λ g w. copied levels g w) h (entries_of (cell_at h.cells s.0))).1.held x ∙ steady_entries (λ g w. copied levels g w) (λ g w. steady_copied levels g w) h (entries_of (cell_at h.cells s.0)) x
steady_copied (suc levels) h v x = refl

kept_copy : (h : Heap) (v : Value) → Kept h (deep_copy_of h v)
kept_copy h v = kept_if h (is_within (items_in most_levels h.cells v)) _ _ (kept_placed h (copied most_levels h v).1 (copied most_levels h v).0 (steady_copied most_levels h v)) (kept_err h TooDeep)

kept_shallow : (h : Heap) (x : ℕ) → Kept h (shallow_of h x)
kept_shallow h x = search basics

kept_shallow_dict : (h : Heap) (x : ℕ) → Kept h (dict_shallow_of h x)
kept_shallow_dict h x = search basics

kept_array_copy : (h : Heap) (s : Serial) (deep : Bool) → Kept h (array_duplicate_of h s deep)
kept_array_copy h s true = kept_copy h (Array s)
kept_array_copy h s false = kept_shallow h s.0

kept_dict_copy : (h : Heap) (s : Serial) (deep : Bool) → Kept h (dict_duplicate_of h s deep)
kept_dict_copy h s true = kept_copy h (Dict s)
kept_dict_copy h s false = kept_shallow_dict h s.0

ruleset kept = (basics, kept_popped, kept_removed, kept_erased, kept_inserted, kept_slice, kept_resize, kept_array_copy, kept_dict_copy)

pub array_kept : (h : Heap) (method : ArrayMethod) (x : Serial) (args : List Value) → Kept h (array_call_of h method x args)
array_kept h m.Size x args = search kept
array_kept h m.IsEmpty x args = search kept
array_kept h m.Append x args = search kept
array_kept h m.PushBack x args = search kept
array_kept h m.PushFront x args = search kept
array_kept h m.PopBack x args = search kept
array_kept h m.PopFront x args = search kept
array_kept h m.Front x args = search kept
array_kept h m.Back x args = search kept
array_kept h m.Insert x args = search kept
array_kept h m.RemoveAt x args = search kept
array_kept h m.Erase x args = search kept
array_kept h m.Clear x args = search kept
array_kept h m.Has x args = search kept
array_kept h m.Find x args = search kept
array_kept h m.Count x args = search kept
array_kept h m.Slice x args = search kept
array_kept h m.Reverse x args = search kept
array_kept h m.Sort x args = search kept
array_kept h m.AppendArray x args = search kept
array_kept h m.Fill x args = search kept
array_kept h m.Duplicate x args = search kept
array_kept h m.Resize x args = search kept

kept_erasure : (h : Heap) (x : ℕ) (k : Result Key RunFault) → Kept h (dict_erase_of h x k)
kept_erasure h x (Ok k) = search basics
kept_erasure h x (Err k) = search basics

pub dict_kept : (h : Heap) (method : DictMethod) (x : Serial) (args : List Value) → Kept h (dict_call_of h method x args)
dict_kept h d.Size x args = search kept
dict_kept h d.IsEmpty x args = search kept
dict_kept h d.Has x args = search kept
dict_kept h d.Get x args = search kept
dict_kept h d.Keys x args = search kept
dict_kept h d.Values x args = search kept
dict_kept h d.Erase x args = search (kept, kept_erasure)
dict_kept h d.Clear x args = search kept
dict_kept h d.Merge x args = search kept
dict_kept h d.Duplicate x args = search kept

kept_split : (h : Heap) (texts : List (List ℕ)) → Kept h (split_array h texts)
kept_split h texts = search basics

pub string_kept : (h : Heap) (method : StrMethod) (text : List ℕ) (args : List Value) → Kept h (string_call_of h method text args)
string_kept h t.Split text args = search (kept, kept_split)
string_kept h method text args = search kept

kept_item : (h : Heap) (x : ℕ) (o : Option ℕ) (v : Value) → Kept h (item_put h x o v)
kept_item h x None v = search basics
kept_item h x (Some i) v = search basics

kept_entry : (h : Heap) (x : ℕ) (k : Result Key RunFault) (v : Value) → Kept h (entry_put h x k v)
kept_entry h x (Ok k) v = search basics
kept_entry h x (Err k) v = search basics

pub put_kept : (h : Heap) (v w to : Value) → Kept h (index_put h v w to)
put_kept h (Array s) (Int i) to = search (basics, kept_item)
put_kept h (Dict s) w to = search (basics, kept_entry)
put_kept h v w to = search basics

added_kept : (h : Heap) (v w : Value) → Kept h (added h v w)
added_kept h (Array a) (Array b) = search basics
added_kept h v w = search basics

pub operator_kept : (names : Names) (h : Heap) (op : BinaryOp) (v w : Value) → Kept h (operated names h op v w)
operator_kept names h o.Within v w = search kept
operator_kept names h o.Eq v w = search kept
operator_kept names h o.Ne v w = search kept
operator_kept names h o.Add v w = search (kept, added_kept)
operator_kept names h o.Rem v w = search kept
operator_kept names h op v w = search kept
