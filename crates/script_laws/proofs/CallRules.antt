-- Calls of values give what is known, and what was known stays known: the rules, and the parts of calls.
use Rattle.std.proofs.Common.{◌≡◌, ℕ, zero, suc, ◌+◌, Bool, true, false, cond, List, [], ◌∷◌, ◌++◌, length, set, take, drop, refl, sym, ap, subst, Option, Some, None, Result, Ok, Err, arith}
use Rattle.std.specs.Prelude.{◌-◌, if◌then◌else◌, reverse, slice_get, unwrap_or}
use Rattle.std.specs.Map.{lookup}
use Rattle.std.proofs.lemmas.List.{get_or_push, get_or-reverse, length-reverse}
use Rattle.std.proofs.lemmas.List.Elements.{All-nil, All-cons, All-head, All-tail, All-append, All-take, All-drop}
use Rattle.variant_values.specs.declared.cells.Cell.{Cell}
use Rattle.variant_values.specs.declared.cells.Cell.TheVariants.{Array as ArrayCell, Dict as DictCell, Object as ObjectCell}
use Rattle.variant_values.specs.declared.classes.ElementTag.{ElementTag}
use Rattle.variant_values.specs.declared.faults.RunFault.{RunFault}
use Rattle.variant_values.specs.declared.faults.RunFault.TheVariants.{BadArgs, ElementType, HeapFull, TooLong}
use Rattle.variant_values.specs.declared.values.Key.{Key}
use Rattle.variant_values.specs.declared.values.Key.TheVariants.{Bool as KeyTruth, Int as KeyInt, Str as KeyStr, Object as KeyObject}
use Rattle.variant_values.specs.declared.values.Value.{Value}
use Rattle.variant_values.specs.declared.values.Value.TheVariants.{Bool as Truth, Int, Str, Array, Dict, Object}
use Rattle.variant_values.specs.ArrayMethods.{in_order, items_at, put_in, put_of}
use Rattle.variant_values.specs.Changes.{Given, counted, looked, new_array, new_dict, next_serial, placed, weighed}
use Rattle.variant_values.specs.ContainerCalls.{any_in}
use Rattle.variant_values.specs.DictMethods.{merged, value_of_key, with_entries, with_missing}
use Rattle.variant_values.specs.ElementTypes.{all_taken, element_of}
use Rattle.variant_values.specs.Heaps.{Heap, cell_at, entries_of, entries_put, field_put, items_of, items_put, is_array, is_dict, knows, knows_key, KnowsAll, KnowsEntries, KnowsSlot, spliced, with_cell, with_new, with_splice}
use Rattle.variant_values.specs.Keys.{same_key, with_entry, without_entry}
use Rattle.variant_values.specs.Operators.{Outcome, key_of}
use Rattle.variant_values.specs.StringMethods.{one_given, string_result, with_given}
use Rattle.script_laws.specs.Cells.{Follows, IsGrown, AreKnown, Fits, Knows, Tells}
use Rattle.script_laws.proofs.Growing.{grown_itself, grown_on, grown_push, grown_set, known_push, known_set, value_grown}

abbrev pub KnowsEntry : List (Option Cell) → Key × Value → Type 0
KnowsEntry cells e = (knows_key cells e.0 ≡ true) × (knows cells e.1 ≡ true)

-- ---- outcomes

pub tells_err : (cells : List (Option Cell)) (fault : RunFault) → Tells cells (Err fault)
tells_err cells fault = record { known = tt }

pub tells_ok : (cells : List (Option Cell)) (v : Value) → knows cells v ≡ true → Tells cells (Ok v)
tells_ok cells v k = record { known = k }

pub tells_if : (cells : List (Option Cell)) (b : Bool) (x y : Outcome) → Tells cells x → Tells cells y → Tells cells (if b then x else y)
tells_if cells true x y s t = s
tells_if cells false x y s t = t

pub tells_given : {A : Type 0} (cells : List (Option Cell)) (o : Option A) (f : A → Outcome) → ((a : A) → Tells cells (f a)) → Tells cells (with_given o f)
tells_given cells None f s = record { known = tt }
tells_given cells (Some a) f s = s a

pub tells_string : (cells : List (Option Cell)) (r : Result (List ℕ) RunFault) → Tells cells (string_result r)
tells_string cells (Ok text) = record { known = refl }
tells_string cells (Err fault) = record { known = tt }

pub ruleset tells = (tells_err, tells_ok, tells_if, tells_given, tells_string)

-- ---- calls

pub fits_err : {A : Type 0} (K : List (Option Cell) → A → Type 0) (h : Heap) (fault : RunFault) → Fits K h (Err fault)
fits_err K h fault = record { fits = tt }

pub fits_if : {A : Type 0} (K : List (Option Cell) → A → Type 0) (h : Heap) (b : Bool) (x y : Result (A × Heap) RunFault) → Fits K h x → Fits K h y → Fits K h (if b then x else y)
fits_if K h true x y s t = s
fits_if K h false x y s t = t

pub fits_given : {A B : Type 0} (K : List (Option Cell) → B → Type 0) (h : Heap) (o : Option A) (f : A → Result (B × Heap) RunFault) → ((a : A) → Fits K h (f a)) → Fits K h (with_given o f)
fits_given K h None f s = record { fits = tt }
fits_given K h (Some a) f s = s a

pub fits_looked : (h : Heap) (o : Outcome) → AreKnown h.cells → Tells h.cells o → Fits Knows h (looked h o)
fits_looked h (Ok v) k t = record { fits = (grown_itself h.cells, k, t.known) }
fits_looked h (Err fault) k t = record { fits = tt }

-- from a later heap
pub fits_later : {A : Type 0} (K : List (Option Cell) → A → Type 0) (h g : Heap) (given : Result (A × Heap) RunFault) → IsGrown h.cells g.cells → Fits K g given → Fits K h given
fits_later K h g (Ok (v, f)) e s = record { fits = (grown_on h.cells g.cells f.cells e s.fits.0, s.fits.1, s.fits.2) }
fits_later K h g (Err fault) e s = record { fits = tt }

-- what an argument names
pub fits_one : (h : Heap) (args : List Value) (f : Value → Given) → KnowsAll h.cells args → ((v : Value) → knows h.cells v ≡ true → Fits Knows h (f v)) → Fits Knows h (with_given (one_given any_in args) f)
fits_one h [] f k s = fits_err Knows h BadArgs
fits_one h (v ∷ []) f k s = s v (All-head (Knows h.cells) v [] k)
fits_one h (v ∷ w ∷ vs) f k s = fits_err Knows h BadArgs

-- ---- what cells have

module _ (cells : List (Option Cell)) where
  items_known : (s : Option Cell) → KnowsSlot cells s → KnowsAll cells (items_of s)
  items_known None k = All-nil (Knows cells)
  items_known (Some (ArrayCell vs of)) k = k
  items_known (Some (DictCell es)) k = All-nil (Knows cells)
  items_known (Some (ObjectCell o)) k = All-nil (Knows cells)

  entries_known : (s : Option Cell) → KnowsSlot cells s → KnowsEntries cells (entries_of s)
  entries_known None k = All-nil (KnowsEntry cells)
  entries_known (Some (ArrayCell vs of)) k = All-nil (KnowsEntry cells)
  entries_known (Some (DictCell es)) k = k
  entries_known (Some (ObjectCell o)) k = All-nil (KnowsEntry cells)

  pub items_are : AreKnown cells → (x : ℕ) → KnowsAll cells (items_of (cell_at cells x))
  items_are k x = items_known (cell_at cells x) (k.each x)

  pub entries_are : AreKnown cells → (x : ℕ) → KnowsEntries cells (entries_of (cell_at cells x))
  entries_are k x = entries_known (cell_at cells x) (k.each x)

  abbrev pub KnowsFound : Option Value → Type 0
  KnowsFound None = Unit {0}
  KnowsFound (Some v) = knows cells v ≡ true

  pub got_known : (vs : List Value) (i : ℕ) → KnowsAll cells vs → KnowsFound (slice_get vs i)
  got_known [] i k = tt
  got_known (v ∷ vs) zero k = All-head (Knows cells) v vs k
  got_known (v ∷ vs) (suc i) k = got_known vs i (All-tail (Knows cells) v vs k)

  found_if : (b : Bool) (v : Value) (o : Option Value) → knows cells v ≡ true → KnowsFound o → KnowsFound (cond b (Some v) o)
  found_if true v o k f = k
  found_if false v o k f = f

  pub found_known : (es : List (Key × Value)) (k : Key) → KnowsEntries cells es → KnowsFound (lookup (same_key k) es)
  found_known [] k a = tt
  found_known (e ∷ es) k a = found_if (same_key k e.0) e.1 (lookup (same_key k) es) (All-head (KnowsEntry cells) e es a).1 (found_known es k (All-tail (KnowsEntry cells) e es a))

  pub or_known : (o : Option Value) (d : Value) → KnowsFound o → knows cells d ≡ true → knows cells (unwrap_or o d) ≡ true
  or_known None d f k = k
  or_known (Some v) d f k = f

  -- ---- lists of values

  pub spliced_known : (vs : List Value) (at out : ℕ) (put : List Value) → KnowsAll cells vs → KnowsAll cells put → KnowsAll cells (spliced vs at out put)
  spliced_known vs at out put k p = All-append (Knows cells) (take at vs ++ put) (drop (at + out) vs) (All-append (Knows cells) (take at vs) put (All-take (Knows cells) at vs k) p) (All-drop (Knows cells) (at + out) vs k)

  pub reversed_known : (vs : List Value) → KnowsAll cells vs → KnowsAll cells (reverse vs)
  reversed_known vs k = λ i d l. subst (Knows cells) (sym (get_or-reverse vs i d (omega (arith, l, length-reverse vs)))) (k (length vs - 1 - i) d (omega (arith, l, length-reverse vs)))

  put_in_if : (b : Bool) (v w : Value) (ws vs : List Value) → knows cells v ≡ true → KnowsAll cells (w ∷ ws) → KnowsAll cells vs → KnowsAll cells (if b then w ∷ vs else v ∷ w ∷ ws)
  put_in_if true v w ws vs k a b = All-cons (Knows cells) w vs (All-head (Knows cells) w ws a) b
  put_in_if false v w ws vs k a b = All-cons (Knows cells) v (w ∷ ws) k a

  put_in_known : (before : Value → Value → Bool) (v : Value) (ws : List Value) → knows cells v ≡ true → KnowsAll cells ws → KnowsAll cells (put_in before v ws)
  put_in_known before v [] k a = All-cons (Knows cells) v [] k a
  put_in_known before v (w ∷ ws) k a = put_in_if (before w v) v w ws (put_in before v ws) k a (put_in_known before v ws k (All-tail (Knows cells) w ws a))

  pub ordered_known : (before : Value → Value → Bool) (vs : List Value) → KnowsAll cells vs → KnowsAll cells (in_order before vs)
  ordered_known before [] a = a
  ordered_known before (v ∷ vs) a = put_in_known before v (in_order before vs) (All-head (Knows cells) v vs a) (ordered_known before vs (All-tail (Knows cells) v vs a))

  -- ---- keys and entries

  abbrev pub KnowsKeyed : Result Key RunFault → Type 0
  KnowsKeyed (Ok k) = knows_key cells k ≡ true
  KnowsKeyed (Err fault) = Unit {0}

  pub key_known : (v : Value) → knows cells v ≡ true → KnowsKeyed (key_of v)
  key_known (Truth b) k = refl
  key_known (Int n) k = refl
  key_known (Str s) k = refl
  key_known (Object s) k = k
  key_known v k = tt

  pub key_value_known : (k : Key) → knows_key cells k ≡ true → knows cells (value_of_key k) ≡ true
  key_value_known (KeyTruth b) k = refl
  key_value_known (KeyInt n) k = refl
  key_value_known (KeyStr s) k = refl
  key_value_known (KeyObject s) k = k

  entry_if : (b : Bool) (e f : Key × Value) (es fs : List (Key × Value)) → KnowsEntry cells f → KnowsEntries cells (e ∷ es) → KnowsEntries cells fs → KnowsEntries cells (cond b (f ∷ es) (e ∷ fs))
  entry_if true e f es fs k a b = All-cons (KnowsEntry cells) f es k (All-tail (KnowsEntry cells) e es a)
  entry_if false e f es fs k a b = All-cons (KnowsEntry cells) e fs (All-head (KnowsEntry cells) e es a) b

  pub entry_known : (es : List (Key × Value)) (k : Key) (v : Value) → knows_key cells k ≡ true → knows cells v ≡ true → KnowsEntries cells es → KnowsEntries cells (with_entry es k v)
  entry_known [] k v p q a = All-cons (KnowsEntry cells) (k, v) [] (p, q) a
  entry_known (e ∷ es) k v p q a = entry_if (same_key k e.0) e (e.0, v) es (with_entry es k v) ((All-head (KnowsEntry cells) e es a).0, q) a (entry_known es k v p q (All-tail (KnowsEntry cells) e es a))

  without_if : (b : Bool) (e : Key × Value) (es fs : List (Key × Value)) → KnowsEntries cells (e ∷ es) → KnowsEntries cells fs → KnowsEntries cells (cond b es (e ∷ fs))
  without_if true e es fs a b = All-tail (KnowsEntry cells) e es a
  without_if false e es fs a b = All-cons (KnowsEntry cells) e fs (All-head (KnowsEntry cells) e es a) b

  pub without_known : (es : List (Key × Value)) (k : Key) → KnowsEntries cells es → KnowsEntries cells (without_entry es k)
  without_known [] k a = a
  without_known (e ∷ es) k a = without_if (same_key k e.0) e es (without_entry es k) a (without_known es k (All-tail (KnowsEntry cells) e es a))

  entries_if : (b : Bool) (es fs : List (Key × Value)) → KnowsEntries cells es → KnowsEntries cells fs → KnowsEntries cells (if b then es else fs)
  entries_if true es fs a b = a
  entries_if false es fs a b = b

  pub merged_known : (overwrite : Bool) (es fs : List (Key × Value)) → KnowsEntries cells es → KnowsEntries cells fs → KnowsEntries cells (merged overwrite es fs)
  merged_known overwrite es [] a b = a
  merged_known overwrite es (f ∷ fs) a b =
      let new : KnowsEntries cells (with_entry es f.0 f.1) = entry_known es f.0 f.1 (All-head (KnowsEntry cells) f fs b).0 (All-head (KnowsEntry cells) f fs b).1 a in
      merged_known overwrite (if overwrite then with_entry es f.0 f.1 else with_missing es f) fs
      (entries_if overwrite (with_entry es f.0 f.1) (with_missing es f) new (entries_if _ es (with_entry es f.0 f.1) a new))
      (All-tail (KnowsEntry cells) f fs b)

-- ---- changes of one cell

follows_items : (vs : List Value) (s : Option Cell) → Follows s (items_put vs s)
follows_items vs None = refl
follows_items vs (Some (ArrayCell ws of)) = refl
follows_items vs (Some (DictCell es)) = refl
follows_items vs (Some (ObjectCell o)) = refl

follows_entries : (es : List (Key × Value)) (s : Option Cell) → Follows s (entries_put es s)
follows_entries es None = refl
follows_entries es (Some (ArrayCell ws of)) = refl
follows_entries es (Some (DictCell fs)) = refl
follows_entries es (Some (ObjectCell o)) = refl

follows_field : (i : ℕ) (v : Value) (s : Option Cell) → Follows s (field_put i v s)
follows_field i v None = refl
follows_field i v (Some (ArrayCell ws of)) = refl
follows_field i v (Some (DictCell fs)) = refl
follows_field i v (Some (ObjectCell o)) = refl

slot_items : (cells : List (Option Cell)) (vs : List Value) (s : Option Cell) → KnowsAll cells vs → KnowsSlot cells s → KnowsSlot cells (items_put vs s)
slot_items cells vs None a k = tt
slot_items cells vs (Some (ArrayCell ws of)) a k = a
slot_items cells vs (Some (DictCell es)) a k = k
slot_items cells vs (Some (ObjectCell o)) a k = k

slot_entries : (cells : List (Option Cell)) (es : List (Key × Value)) (s : Option Cell) → KnowsEntries cells es → KnowsSlot cells s → KnowsSlot cells (entries_put es s)
slot_entries cells es None a k = tt
slot_entries cells es (Some (ArrayCell ws of)) a k = k
slot_entries cells es (Some (DictCell fs)) a k = a
slot_entries cells es (Some (ObjectCell o)) a k = k

module _ {A : Type 0} (K : List (Option Cell) → A → Type 0) (grows : (old new : List (Option Cell)) (a : A) → IsGrown old new → K old a → K new a) (h : Heap) (k : AreKnown h.cells) where
  pub fits_cell : (x : ℕ) (c : Option Cell) (a : A) → Follows (cell_at h.cells x) c → KnowsSlot h.cells c → K h.cells a → Fits K h (Ok (a, with_cell h x c))
  fits_cell x c a f s n = record { fits = (grown_set h.cells x c f, known_set h.cells x c k f s, grows h.cells (set h.cells x c) a (grown_set h.cells x c f) n) }

  pub fits_splice : (x at out : ℕ) (put : List Value) (a : A) → KnowsAll h.cells put → K h.cells a → Fits K h (Ok (a, with_splice h x at out put))
  fits_splice x at out put a p n =
      let vs = spliced (items_at h x) at out put in
      fits_cell x (items_put vs (cell_at h.cells x)) a (follows_items vs (cell_at h.cells x)) (slot_items h.cells vs (cell_at h.cells x) (spliced_known h.cells (items_at h x) at out put (items_are h.cells k x) p) (k.each x)) n

  pub fits_entries : (x : ℕ) (es : List (Key × Value)) (a : A) → KnowsEntries h.cells es → K h.cells a → Fits K h (Ok (a, with_entries h x es))
  fits_entries x es a p n = fits_cell x (entries_put es (cell_at h.cells x)) a (follows_entries es (cell_at h.cells x)) (slot_entries h.cells es (cell_at h.cells x) p (k.each x)) n

pub fits_weighed : {A : Type 0} (K : List (Option Cell) → A → Type 0) (h g : Heap) (a : A) → Fits K h (Ok (a, g)) → Fits K h (weighed g a)
fits_weighed K h g a s = fits_if K h _ _ _ s (fits_err K h HeapFull)

pub fits_placed : {A : Type 0} (K : List (Option Cell) → A → Type 0) (h g : Heap) (a : A) → Fits K h (Ok (a, g)) → Fits K h (placed g a)
fits_placed K h g a s = fits_if K h _ _ _ s (fits_err K h HeapFull)

pub fits_counted : {A : Type 0} (K : List (Option Cell) → A → Type 0) (h : Heap) (n : ℕ) (given : Result (A × Heap) RunFault) → Fits K h given → Fits K h (counted n given)
fits_counted K h n given s = fits_if K h _ _ _ s (fits_err K h TooLong)

-- ---- new cells

module _ (h : Heap) (k : AreKnown h.cells) where
  pub fits_new : (c : Cell) (v : Value) → KnowsSlot h.cells (Some c) → knows (with_new h c).cells v ≡ true → Fits Knows h (Ok (v, with_new h c))
  fits_new c v s n = record { fits = (grown_push h.cells (Some c), known_push h.cells (Some c) k s, n) }

  pub fits_array : (vs : List Value) (of : Option ElementTag) → KnowsAll h.cells vs → Fits Knows h (new_array h vs of)
  fits_array vs of a = fits_if Knows h _ _ _ (fits_new (ArrayCell vs of) (Array (next_serial h)) a (ap is_array (get_or_push h.cells (Some (ArrayCell vs of)) None (length h.cells) refl))) (fits_err Knows h HeapFull)

  pub fits_dict : (es : List (Key × Value)) → KnowsEntries h.cells es → Fits Knows h (new_dict h es)
  fits_dict es a = fits_if Knows h _ _ _ (fits_new (DictCell es) (Dict (next_serial h)) a (ap is_dict (get_or_push h.cells (Some (DictCell es)) None (length h.cells) refl))) (fits_err Knows h HeapFull)

  pub fits_put : (x at out : ℕ) (put : List Value) (v : Value) → KnowsAll h.cells put → knows h.cells v ≡ true → Fits Knows h (put_of h x at out put v)
  fits_put x at out put v p n = fits_if Knows h (all_taken h.cells (element_of (cell_at h.cells x)) put) _ _ (fits_counted Knows h (length (spliced (items_at h x) at out put)) _ (fits_weighed Knows h (with_splice h x at out put) v (fits_splice Knows (λ old new a g e. value_grown old new g a e) h k x at out put v p n))) (fits_err Knows h ElementType)
