-- Calls of values give what is known: a line for each method, operator and native call.
use Rattle.std.proofs.Common.{◌≡◌, ℕ, zero, suc, ◌+◌, ℤ, pos, Bool, true, false, List, [], ◌∷◌, length, map, refl, ap, subst, Option, Some, None, Result, Ok, Err}
use Rattle.std.specs.Char.{encode_utf8}
use Rattle.std.specs.Prelude.{◌==◌, option_map, ◌-◌, if◌then◌else◌, replicate, reverse, slice_get, drop, nat_le}
use Rattle.std.specs.Int.RustNames.{int_lt, unsigned_abs}
use Rattle.std.specs.Map.{lookup}
use Rattle.std.specs.Str.{chars}
use Rattle.std.proofs.lemmas.List.{get_or_push, length_push}
use Rattle.std.proofs.lemmas.List.Elements.{All-nil, All-cons, All-head, All-tail, All-append, All-take, All-drop, All-replicate}
use Rattle.variant_values.specs.declared.cells.Cell.{Cell}
use Rattle.variant_values.specs.declared.cells.Cell.TheVariants.{Array as ArrayCell, Dict as DictCell}
use Rattle.variant_values.specs.declared.classes.ElementTag.{ElementTag}
use Rattle.variant_values.specs.declared.classes.ElementTag.TheVariants as tag
use Rattle.variant_values.specs.declared.container_methods.ArrayMethod.{ArrayMethod}
use Rattle.variant_values.specs.declared.container_methods.ArrayMethod.TheVariants as m
use Rattle.variant_values.specs.declared.container_methods.DictMethod.{DictMethod}
use Rattle.variant_values.specs.declared.container_methods.DictMethod.TheVariants as d
use Rattle.variant_values.specs.declared.string_methods.StrMethod.{StrMethod}
use Rattle.variant_values.specs.declared.string_methods.StrMethod.TheVariants as t
use Rattle.variant_values.specs.declared.faults.RunFault.{RunFault}
use Rattle.variant_values.specs.declared.faults.RunFault.TheVariants.{BadArgs, BadIndex, BadOperands, ElementType, NoKey, TooDeep, TooLong}
use Rattle.variant_values.specs.declared.operators.BinaryOp.{BinaryOp}
use Rattle.variant_values.specs.declared.operators.BinaryOp.TheVariants as o
use Rattle.variant_values.specs.declared.values.Key.{Key}
use Rattle.variant_values.specs.declared.values.Serial.{Serial}
use Rattle.variant_values.specs.declared.values.Value.{Value}
use Rattle.variant_values.specs.declared.values.Value.TheVariants.{Null, Bool as Truth, Int, Str, Array, Dict}
use Rattle.variant_values.specs.ArrayMethods.{between, cut, erased, has_found, in_order, inserted, items_at, number_before, number_found, place_found, popped, put_in_order, put_of, removed, shallow_of, sort_of, text_before}
use Rattle.variant_values.specs.Changes.{Given, looked, next_serial, weighed}
use Rattle.variant_values.specs.Comparisons.{equality, first_equal, same_value}
use Rattle.variant_values.specs.ContainerCalls.{any_in, array_call_of, dict_call_of, dict_in, end_in, none_or_one_given, slice_to, truth_in, with_none}
use Rattle.variant_values.specs.Copies.{copied, copied_entries, copied_items, deep_copy_of, array_duplicate_of, dict_duplicate_of}
use Rattle.variant_values.specs.DictMethods.{dict_erase_of, dict_shallow_of, entries_in, keys_of, merge_of, merged, presence_of, value_of, value_of_key, values_of, with_entries}
use Rattle.variant_values.specs.ElementTypes.{element_of, is_taken}
use Rattle.variant_values.specs.Heaps.{Heap, cell_at, entries_of, is_array, is_dict, items_of, knows, KnowsAll, KnowsEntries, KnowsSlot, with_entry_at, with_new, with_splice}
use Rattle.variant_values.specs.Indexing.{character_at, entry_at, entry_put, index_of, index_put, item_at, item_put, or_fault, spot}
use Rattle.variant_values.specs.Keys.{same_key, with_entry, without_entry}
use Rattle.variant_values.specs.Operations.{added, answered, arrays_joined, denied, has_key, in_text, is_found, operated, remainder, within}
use Rattle.variant_values.specs.Operators.{Outcome, amount_of, binary_of, divided, equal, int_binary, key_of, or_bad, other_binary, shifted, text_binary}
use Rattle.variant_values.specs.Resizes.{default_of as item_default, defaults, in_a_row, put_last, resize_of, sized, with_more}
use Rattle.variant_values.specs.StringMethods.{both, int_result, code_point, one_given, one_or_two_given, split_array, string_call_of, two_given, with_given, array_in, char_at, int_in, parts, string_in}
use Rattle.std.specs.List.{list_all}
use Rattle.variant_values.specs.ValueTexts.{Names, fits_string, is_within, items_in, most_levels}
use Rattle.variant_values.specs.Formats.{format_value}
use Rattle.script_laws.specs.Cells.{AreKnown, Fits, IsGrown, Knows, KnowsDone, Tells}
use Rattle.script_laws.proofs.Growing.{grown_itself, grown_on, grown_push, key_grown, known_push, value_grown, values_grown, entries_grown}
use Rattle.script_laws.proofs.CallRules.{KnowsEntry, KnowsFound, KnowsKeyed, entries_are, entry_known, fits_array, fits_counted, fits_dict, fits_entries, fits_err, fits_given, fits_if, fits_later, fits_looked, fits_one, fits_placed, fits_put, fits_splice, fits_weighed, found_known, got_known, items_are, key_known, key_value_known, merged_known, or_known, ordered_known, reversed_known, tells, tells_err, tells_given, tells_if, tells_ok, tells_string, without_known}

-- ---- outcomes that name nothing

module _ (cells : List (Option Cell)) where
  tells_has : (r : Result (Option ℕ) RunFault) → Tells cells (has_found r)
  tells_has (Ok found) = tells_ok cells (Truth _) refl
  tells_has (Err fault) = tells_err cells fault

  tells_place : (r : Result (Option ℕ) RunFault) → Tells cells (place_found r)
  tells_place (Ok found) = tells_ok cells (Int _) refl
  tells_place (Err fault) = tells_err cells fault

  tells_number : (r : Result ℕ RunFault) → Tells cells (number_found r)
  tells_number (Ok n) = tells_ok cells (Int _) refl
  tells_number (Err fault) = tells_err cells fault

  tells_int : (n : Option ℤ) → Tells cells (int_result n)
  tells_int None = tells_err cells BadArgs
  tells_int (Some n) = tells_ok cells (Int n) refl

  tells_point : (n : Option ℕ) → Tells cells (code_point n)
  tells_point None = tells_err cells BadIndex
  tells_point (Some n) = tells_ok cells (Int _) refl

  tells_presence : (es : List (Key × Value)) (k : Result Key RunFault) → Tells cells (presence_of es k)
  tells_presence es (Ok k) = tells_ok cells (Truth _) refl
  tells_presence es (Err fault) = tells_err cells fault

  -- operators
  tells_shifted : (n : Option ℕ) (f : ℕ → ℤ) → Tells cells (shifted n f)
  tells_shifted None f = search tells
  tells_shifted (Some n) f = tells_ok cells (Int _) refl

  tells_divided : (a b : ℤ) → Tells cells (divided a b)
  tells_divided a b = search tells

  tells_whole : (op : BinaryOp) (a b : ℤ) → Tells cells (int_binary op a b)
  tells_whole o.Div a b = tells_divided b _
  tells_whole o.Rem a b = tells_divided b _
  tells_whole o.Shl a b = tells_shifted (amount_of b) _
  tells_whole o.Shr a b = tells_shifted (amount_of b) _
  tells_whole op a b = search tells

  tells_texts : (op : BinaryOp) (a b : List ℕ) → Tells cells (text_binary op a b)
  tells_texts o.Add a b = search tells
  tells_texts op a b = search tells

  tells_or_bad : (b : Option Bool) → Tells cells (or_bad b)
  tells_or_bad None = search tells
  tells_or_bad (Some b) = tells_ok cells (Truth b) refl

  tells_other : (op : BinaryOp) (v w : Value) → Tells cells (other_binary op v w)
  tells_other o.Eq v w = tells_or_bad (equal v w)
  tells_other o.Ne v w = tells_or_bad _
  tells_other op v w = search tells

  tells_binary : (op : BinaryOp) (v w : Value) → Tells cells (binary_of op v w)
  tells_binary op (Int a) (Int b) = tells_whole op a b
  tells_binary op (Str a) (Str b) = tells_texts op a b
  tells_binary op v w = tells_other op v w

  tells_found : (r : Result (Option ℕ) RunFault) → Tells cells (is_found r)
  tells_found (Ok found) = tells_ok cells (Truth _) refl
  tells_found (Err fault) = tells_err cells fault

  tells_key : (es : List (Key × Value)) (k : Result Key RunFault) → Tells cells (has_key es k)
  tells_key es (Ok k) = tells_ok cells (Truth _) refl
  tells_key es (Err fault) = tells_err cells BadOperands

  tells_in_text : (v : Value) (text : List ℕ) → Tells cells (in_text v text)
  tells_in_text (Str part) text = tells_ok cells (Truth _) refl
  tells_in_text v text = tells_err cells BadOperands

  tells_within : (v w : Value) → Tells cells (within cells v w)
  tells_within v (Array s) = tells_found _
  tells_within v (Dict s) = tells_key _ (key_of v)
  tells_within v (Str s) = tells_in_text v s
  tells_within v w = tells_err cells BadOperands

  tells_answer : (r : Result Bool RunFault) → Tells cells (answered r)
  tells_answer (Ok b) = tells_ok cells (Truth b) refl
  tells_answer (Err fault) = tells_err cells fault

  tells_denial : (r : Result Bool RunFault) → Tells cells (denied r)
  tells_denial (Ok b) = tells_ok cells (Truth _) refl
  tells_denial (Err fault) = tells_err cells fault

  tells_remainder : (names : Names) (v w : Value) → Tells cells (remainder names cells v w)
  tells_remainder names (Str pattern) w = tells_string cells (format_value cells names pattern w)
  tells_remainder names v w = tells_binary o.Rem v w

  -- looks at values that cells have
  tells_or_fault : (fault : RunFault) (o : Option Value) → KnowsFound cells o → Tells cells (or_fault fault o)
  tells_or_fault fault None k = tells_err cells fault
  tells_or_fault fault (Some v) k = tells_ok cells v k

  tells_item : (vs : List Value) (i : Option ℕ) → KnowsAll cells vs → Tells cells (item_at vs i)
  tells_item vs None k = tells_err cells BadIndex
  tells_item vs (Some i) k = tells_or_fault BadIndex (slice_get vs i) (got_known cells vs i k)

  character_known : (cs : List ℕ) (i : ℕ) → KnowsFound cells (option_map (λ c. Str (encode_utf8 c)) (slice_get cs i))
  character_known [] i = tt
  character_known (c ∷ cs) zero = refl
  character_known (c ∷ cs) (suc i) = character_known cs i

  tells_character : (cs : List ℕ) (i : Option ℕ) → Tells cells (character_at cs i)
  tells_character cs None = tells_err cells BadIndex
  tells_character cs (Some i) = tells_or_fault BadIndex _ (character_known cs i)

  tells_entry : (es : List (Key × Value)) (k : Result Key RunFault) → KnowsEntries cells es → Tells cells (entry_at es k)
  tells_entry es (Err fault) a = tells_err cells fault
  tells_entry es (Ok k) a = tells_or_fault NoKey (lookup (same_key k) es) (found_known cells es k a)

  -- `v[w]`
  pub index_tells : AreKnown cells → (v w : Value) → Tells cells (index_of cells v w)
  index_tells k (Array s) (Int i) = tells_item (items_of (cell_at cells s.0)) _ (items_are cells k s.0)
  index_tells k (Str s) (Int i) = tells_character (chars s) (spot i (length (chars s)))
  index_tells k (Dict s) w = tells_entry (entries_of (cell_at cells s.0)) (key_of w) (entries_are cells k s.0)
  index_tells k v w = tells_err cells BadOperands

-- ---- arrays and dictionaries

module _ (h : Heap) (k : AreKnown h.cells) where
  abbrev Good : Given → Type 0
  Good given = Fits Knows h given

  abbrev grows : (old new : List (Option Cell)) (v : Value) → IsGrown old new → Knows old v → Knows new v
  grows old new v g e = value_grown old new g v e

  look : (out : Outcome) → Tells h.cells out → Good (looked h out)
  look out t = fits_looked h out k t

  none : (args : List Value) (given : Given) → Good given → Good (with_none args given)
  none args given s = fits_if Knows h _ given (Err BadArgs) s (fits_err Knows h BadArgs)

  splice : (x at out : ℕ) (put : List Value) (v : Value) → KnowsAll h.cells put → knows h.cells v ≡ true → Good (Ok (v, with_splice h x at out put))
  splice x at out put v p n = fits_splice Knows grows h k x at out put v p n

  one_put : (v : Value) → knows h.cells v ≡ true → KnowsAll h.cells (v ∷ [])
  one_put v n = All-cons (Knows h.cells) v [] n (All-nil (Knows h.cells))

  put_one : (x at out : ℕ) (v gives : Value) → knows h.cells v ≡ true → knows h.cells gives ≡ true → Good (put_of h x at out (v ∷ []) gives)
  put_one x at out v gives n g = fits_put h k x at out (v ∷ []) gives (one_put v n) g

  pop : (x at : ℕ) (found : Option Value) → KnowsFound h.cells found → Good (popped h x at found)
  pop x at None n = look (Ok Null) (tells_ok h.cells Null refl)
  pop x at (Some v) n = splice x at 1 [] v (All-nil (Knows h.cells)) n

  remove : (x : ℕ) (i : Option ℕ) (other : Given) → Good other → Good (removed h x i other)
  remove x None other s = s
  remove x (Some i) other s = splice x i 1 [] Null (All-nil (Knows h.cells)) refl

  erase : (x : ℕ) (r : Result (Option ℕ) RunFault) → Good (erased h x r)
  erase x (Ok found) = remove x found (Ok (Null, h)) (look (Ok Null) (tells_ok h.cells Null refl))
  erase x (Err fault) = fits_err Knows h fault

  insert : (x : ℕ) (i : Option ℕ) (v : Value) → knows h.cells v ≡ true → Good (inserted h x i v)
  insert x None v n = fits_err Knows h BadIndex
  insert x (Some i) v n = put_one x i 0 v (Int (pos 0)) n refl

  two : (args : List Value) (f : ℤ × Value → Given) → KnowsAll h.cells args → ((i : ℤ) (v : Value) → knows h.cells v ≡ true → Good (f (i, v))) → Good (with_given (two_given int_in any_in args) f)
  two [] f a s = fits_err Knows h BadArgs
  two (v ∷ []) f a s = fits_err Knows h BadArgs
  two (v ∷ w ∷ []) f a s = by (int_in v)
    where
      by : (i : Option ℤ) → Good (with_given (both i (any_in w)) f)
      by None = fits_err Knows h BadArgs
      by (Some i) = s i w (All-head (Knows h.cells) w [] (All-tail (Knows h.cells) v (w ∷ []) a))
  two (v ∷ w ∷ x ∷ vs) f a s = fits_err Knows h BadArgs

  one_or_two : (args : List Value) (f : Value × Value → Given) → KnowsAll h.cells args → ((u v : Value) → knows h.cells v ≡ true → Good (f (u, v))) → Good (with_given (one_or_two_given any_in any_in Null args) f)
  one_or_two [] f a s = fits_err Knows h BadArgs
  one_or_two (v ∷ []) f a s = s v Null refl
  one_or_two (v ∷ w ∷ []) f a s = s v w (All-head (Knows h.cells) w [] (All-tail (Knows h.cells) v (w ∷ []) a))
  one_or_two (v ∷ w ∷ x ∷ vs) f a s = fits_err Knows h BadArgs

  known_between : (vs : List Value) (a b : ℕ) → KnowsAll h.cells vs → KnowsAll h.cells (between vs a b)
  known_between vs a b n = All-take (Knows h.cells) (b - a) (drop a vs) (All-drop (Knows h.cells) a vs n)

  slice : (x : ℕ) (a : ℤ) (b : Option ℤ) → Good (slice_to h x a b)
  slice x a None =
      let n : ℕ = length (items_at h x) in
      fits_array h k (between (items_at h x) (cut a n) n) (element_of (cell_at h.cells x)) (known_between (items_at h x) (cut a n) n (items_are h.cells k x))
  slice x a (Some b) =
      let n : ℕ = length (items_at h x) in
      fits_array h k (between (items_at h x) (cut a n) (cut b n)) (element_of (cell_at h.cells x)) (known_between (items_at h x) (cut a n) (cut b n) (items_are h.cells k x))

  ordered : (x : ℕ) (before : Value → Value → Bool) → Good (put_in_order h x before)
  ordered x before = fits_weighed Knows h _ Null (splice x 0 (length (items_at h x)) (in_order before (items_at h x)) Null (ordered_known h.cells before (items_at h x) (items_are h.cells k x)) refl)

  sort : (x : ℕ) → Good (sort_of h x)
  sort x = fits_if Knows h _ _ _ (ordered x number_before) (fits_if Knows h _ _ _ (ordered x text_before) (fits_err Knows h BadOperands))

  fill : (x : ℕ) (v : Value) → knows h.cells v ≡ true → Good (if is_taken h.cells (element_of (cell_at h.cells x)) v then weighed (with_splice h x 0 (length (items_at h x)) (replicate (length (items_at h x)) v)) Null else Err ElementType)
  fill x v n = fits_if Knows h _ _ _ (fits_weighed Knows h _ Null (splice x 0 (length (items_at h x)) (replicate (length (items_at h x)) v) Null (All-replicate (Knows h.cells) (length (items_at h x)) v n) refl)) (fits_err Knows h ElementType)

  shallow : (x : ℕ) → Good (shallow_of h x)
  shallow x = fits_array h k (items_at h x) _ (items_are h.cells k x)

  shallow_dict : (x : ℕ) → Good (dict_shallow_of h x)
  shallow_dict x = fits_dict h k (entries_in h x) (entries_are h.cells k x)

  -- entries
  entries : (x : ℕ) (es : List (Key × Value)) (v : Value) → KnowsEntries h.cells es → knows h.cells v ≡ true → Good (Ok (v, with_entries h x es))
  entries x es v p n = fits_entries Knows grows h k x es v p n

  erase_key : (x : ℕ) (q : Result Key RunFault) → Good (dict_erase_of h x q)
  erase_key x (Ok q) = entries x (without_entry (entries_in h x) q) (Truth _) (without_known h.cells (entries_in h x) q (entries_are h.cells k x)) refl
  erase_key x (Err fault) = fits_err Knows h fault

  default : (x : ℕ) (q : Result Key RunFault) (v : Value) → knows h.cells v ≡ true → Good (looked h (value_of (entries_in h x) q v))
  default x (Ok q) v n = look (value_of (entries_in h x) (Ok q) v) (tells_ok h.cells _ (or_known h.cells (lookup (same_key q) (entries_in h x)) v (found_known h.cells (entries_in h x) q (entries_are h.cells k x)) n))
  default x (Err fault) v n = fits_err Knows h fault

  keys_known : (es : List (Key × Value)) → KnowsEntries h.cells es → KnowsAll h.cells (map (λ e. value_of_key e.0) es)
  keys_known [] a = All-nil (Knows h.cells)
  keys_known (e ∷ es) a = All-cons (Knows h.cells) (value_of_key e.0) (map (λ e. value_of_key e.0) es) (key_value_known h.cells e.0 (All-head (KnowsEntry h.cells) e es a).0) (keys_known es (All-tail (KnowsEntry h.cells) e es a))

  values_known : (es : List (Key × Value)) → KnowsEntries h.cells es → KnowsAll h.cells (map (λ e. e.1) es)
  values_known [] a = All-nil (Knows h.cells)
  values_known (e ∷ es) a = All-cons (Knows h.cells) e.1 (map (λ e. e.1) es) (All-head (KnowsEntry h.cells) e es a).1 (values_known es (All-tail (KnowsEntry h.cells) e es a))

  pub keys_fits : (x : ℕ) → Good (keys_of h x)
  keys_fits x = fits_array h k _ _ (keys_known (entries_in h x) (entries_are h.cells k x))

  values : (x : ℕ) → Good (values_of h x)
  values x = fits_array h k _ _ (values_known (entries_in h x) (entries_are h.cells k x))

  merge : (x y : ℕ) (overwrite : Bool) → Good (merge_of h x y overwrite)
  merge x y overwrite =
      let es : List (Key × Value) = merged overwrite (entries_in h x) (entries_in h y) in
      fits_counted Knows h (length es) _ (fits_weighed Knows h (with_entries h x es) Null (entries x es Null (merged_known h.cells overwrite (entries_in h x) (entries_in h y) (entries_are h.cells k x) (entries_are h.cells k y)) refl))

  -- ---- writes

  item_done : (x : ℕ) (i : Option ℕ) (v : Value) → knows h.cells v ≡ true → Fits KnowsDone h (item_put h x i v)
  item_done x None v n = fits_err KnowsDone h BadIndex
  item_done x (Some i) v n = fits_if KnowsDone h _ _ _ (fits_weighed KnowsDone h _ tt (fits_splice KnowsDone (λ old new a g e. tt) h k x i 1 (v ∷ []) tt (one_put v n) tt)) (fits_err KnowsDone h ElementType)

  entry_done : (x : ℕ) (q : Result Key RunFault) (v : Value) → KnowsKeyed h.cells q → knows h.cells v ≡ true → Fits KnowsDone h (entry_put h x q v)
  entry_done x (Err fault) v p n = fits_err KnowsDone h fault
  entry_done x (Ok q) v p n = fits_counted KnowsDone h (length (with_entry (entries_of (cell_at h.cells x)) q v)) _ (fits_weighed KnowsDone h (with_entry_at h x q v) tt
      (fits_entries KnowsDone (λ old new a g e. tt) h k x (with_entry (entries_of (cell_at h.cells x)) q v) tt (entry_known h.cells (entries_of (cell_at h.cells x)) q v p n (entries_are h.cells k x)) tt))

  pub put_fits : (v w to : Value) → knows h.cells w ≡ true → knows h.cells to ≡ true → Fits KnowsDone h (index_put h v w to)
  put_fits (Array s) (Int i) to p n = item_done s.0 _ to n
  put_fits (Dict s) w to p n = entry_done s.0 (key_of w) to (key_known h.cells w p) n
  put_fits v w to p n = fits_err KnowsDone h BadOperands

  -- ---- operators

  join : (a b : ℕ) → Good (arrays_joined h a b)
  join a b = fits_counted Knows h _ _ (fits_array h k _ _ (All-append (Knows h.cells) (items_of (cell_at h.cells a)) (items_of (cell_at h.cells b)) (items_are h.cells k a) (items_are h.cells k b)))

  add : (v w : Value) → Good (added h v w)
  add (Array a) (Array b) = join a.0 b.0
  add v w = look _ (tells_binary h.cells o.Add v w)

  pub operator_fits : (names : Names) (op : BinaryOp) (v w : Value) → Good (operated names h op v w)
  operator_fits names o.Within v w = look _ (tells_within h.cells v w)
  operator_fits names o.Eq v w = look _ (tells_answer h.cells (equality h.cells v w))
  operator_fits names o.Ne v w = look _ (tells_denial h.cells (equality h.cells v w))
  operator_fits names o.Add v w = add v w
  operator_fits names o.Rem v w = look _ (tells_remainder h.cells names v w)
  operator_fits names op v w = look _ (tells_binary h.cells op v w)

  -- ---- strings

  ruleset texts = (tells, tells_int, tells_point)

  texts_known : (ts : List (List ℕ)) → KnowsAll h.cells (map (λ t. Str t) ts)
  texts_known [] = All-nil (Knows h.cells)
  texts_known (t ∷ ts) = All-cons (Knows h.cells) (Str t) (map (λ t. Str t) ts) refl (texts_known ts)

  split : (ts : List (List ℕ)) → Good (split_array h ts)
  split ts = fits_if Knows h (list_all fits_string ts) _ _ (fits_counted Knows h (length ts) _ (fits_array h k (map (λ t. Str t) ts) None (texts_known ts))) (fits_err Knows h TooLong)

  pub string_fits : (method : StrMethod) (text : List ℕ) (args : List Value) → Good (string_call_of h method text args)
  string_fits t.Split text args = fits_given Knows h (one_given string_in args) _ (λ by. fits_if Knows h (length by == 0) _ _ (fits_err Knows h BadArgs) (split (parts by text)))
  string_fits t.ToInt text args = look _ (tells_if h.cells _ _ _ (tells_int h.cells _) (tells_err h.cells BadArgs))
  string_fits t.UnicodeAt text args = look _ (tells_given h.cells (one_given int_in args) _ (λ i. tells_point h.cells (char_at (chars text) i)))
  string_fits method text args = look _ (search tells)

-- ---- copies

-- what is made from a heap, and the heap then
pub record Makes {A : Type 0} (K : List (Option Cell) → A → Type 0) (h : Heap) (made : A × Heap) : Type 0 where
  pub grown : IsGrown h.cells made.1.cells
  pub known : AreKnown made.1.cells
  pub is : K made.1.cells made.0

abbrev Copies : (Heap → Value → Value × Heap) → Type 0
Copies copy = (h : Heap) (v : Value) → AreKnown h.cells → knows h.cells v ≡ true → Makes Knows h (copy h v)

module _ (copy : Heap → Value → Value × Heap) (good : Copies copy) where
  items_copied : (h : Heap) (vs : List Value) → AreKnown h.cells → KnowsAll h.cells vs → Makes KnowsAll h (copied_items copy h vs)
  items_copied h [] k a = record { grown = grown_itself h.cells; known = k; is = All-nil (Knows h.cells) }
  items_copied h (v ∷ vs) k a =
      let first : Makes Knows h (copy h v) = good h v k (All-head (Knows h.cells) v vs a) in
      let g : Heap = (copy h v).1 in
      let rest : Makes KnowsAll g (copied_items copy g vs) = items_copied g vs first.known (values_grown h.cells g.cells first.grown vs (All-tail (Knows h.cells) v vs a)) in
      let f : Heap = (copied_items copy g vs).1 in
      record { grown = grown_on h.cells g.cells f.cells first.grown rest.grown; known = rest.known; is = All-cons (Knows f.cells) (copy h v).0 (copied_items copy g vs).0 (value_grown g.cells f.cells rest.grown (copy h v).0 first.is) rest.is }

  entries_copied : (h : Heap) (es : List (Key × Value)) → AreKnown h.cells → KnowsEntries h.cells es → Makes KnowsEntries h (copied_entries copy h es)
  entries_copied h [] k a = record { grown = grown_itself h.cells; known = k; is = All-nil (KnowsEntry h.cells) }
  entries_copied h (e ∷ es) k a =
      let head : KnowsEntry h.cells e = All-head (KnowsEntry h.cells) e es a in
      let first : Makes Knows h (copy h e.1) = good h e.1 k head.1 in
      let g : Heap = (copy h e.1).1 in
      let rest : Makes KnowsEntries g (copied_entries copy g es) = entries_copied g es first.known (entries_grown h.cells g.cells first.grown es (All-tail (KnowsEntry h.cells) e es a)) in
      let f : Heap = (copied_entries copy g es).1 in
      let whole : IsGrown h.cells f.cells = grown_on h.cells g.cells f.cells first.grown rest.grown in
      record { grown = whole; known = rest.known; is = All-cons (KnowsEntry f.cells) (e.0, (copy h e.1).0) (copied_entries copy g es).0 (key_grown h.cells f.cells whole e.0 head.0, value_grown g.cells f.cells rest.grown (copy h e.1).0 first.is) rest.is }

pushed : (h g : Heap) (c : Cell) (v : Value) → IsGrown h.cells g.cells → AreKnown g.cells → KnowsSlot g.cells (Some c) → knows (with_new g c).cells v ≡ true → Makes Knows h (v, with_new g c)
pushed h g c v e k s n = record { grown = grown_on h.cells g.cells (with_new g c).cells e (grown_push g.cells (Some c)); known = known_push g.cells (Some c) k s; is = n }

here_array : (g : Heap) (vs : List Value) (of : Option ElementTag) → knows (with_new g (ArrayCell vs of)).cells (Array (next_serial g)) ≡ true
here_array g vs of = ap is_array (get_or_push g.cells (Some (ArrayCell vs of)) None (length g.cells) refl)

here_dict : (g : Heap) (es : List (Key × Value)) → knows (with_new g (DictCell es)).cells (Dict (next_serial g)) ≡ true
here_dict g es = ap is_dict (get_or_push g.cells (Some (DictCell es)) None (length g.cells) refl)

copies : (levels : ℕ) → Copies (copied levels)
unfolding copied
copies zero h v k n = record { grown = grown_itself h.cells; known = k; is = n }
copies (suc levels) h (Array s) k n =
    let made : List Value × Heap = copied_items (λ g w. copied levels g w) h (items_of (cell_at h.cells s.0)) in
    let of : Option ElementTag = element_of (cell_at h.cells s.0) in
    let inner : Makes KnowsAll h (copied_items (λ g w. copied levels g w) h (items_of (cell_at h.cells s.0))) = items_copied (λ g w. copied levels g w) (λ g w. copies levels g w) h (items_of (cell_at h.cells s.0)) k (items_are h.cells k s.0) in
    pushed h made.1 (ArrayCell made.0 of) (Array (next_serial made.1)) inner.grown inner.known inner.is (here_array made.1 made.0 of)
copies (suc levels) h (Dict s) k n =
    let made : List (Key × Value) × Heap = copied_entries (λ g w. copied levels g w) h (entries_of (cell_at h.cells s.0)) in
    let inner : Makes KnowsEntries h (copied_entries (λ g w. copied levels g w) h (entries_of (cell_at h.cells s.0))) = entries_copied (λ g w. copied levels g w) (λ g w. copies levels g w) h (entries_of (cell_at h.cells s.0)) k (entries_are h.cells k s.0) in
    pushed h made.1 (DictCell made.0) (Dict (next_serial made.1)) inner.grown inner.known inner.is (here_dict made.1 made.0)
copies (suc levels) h v k n = record { grown = grown_itself h.cells; known = k; is = n }

deep : (h : Heap) (v : Value) → AreKnown h.cells → knows h.cells v ≡ true → Fits Knows h (deep_copy_of h v)
deep h v k n =
    let c : Makes Knows h (copied most_levels h v) = copies most_levels h v k n in
    fits_if Knows h (is_within (items_in most_levels h.cells v)) _ _ (fits_placed Knows h (copied most_levels h v).1 (copied most_levels h v).0 (record { fits = (c.grown, c.known, c.is) })) (fits_err Knows h TooDeep)

-- ---- longer arrays

more_grown : (h : Heap) (c : Cell) (n : ℕ) → AreKnown h.cells → ((cells : List (Option Cell)) → KnowsSlot cells (Some c)) → IsGrown h.cells (with_more h c n).cells × AreKnown (with_more h c n).cells
more_grown h c zero k s = (grown_itself h.cells, k)
more_grown h c (suc n) k s =
    let rest = more_grown (with_new h c) c n (known_push h.cells (Some c) k (s h.cells)) s in
    (grown_on h.cells (with_new h c).cells (with_more (with_new h c) c n).cells (grown_push h.cells (Some c)) rest.0, rest.1)

row_known : (value : Serial → Value) (c : Cell) → ((cells : List (Option Cell)) (x : ℕ) → cell_at cells x ≡ Some c → knows cells (value (record { 0 = x })) ≡ true) → ((cells : List (Option Cell)) → KnowsSlot cells (Some c))
    → (h : Heap) (n : ℕ) → AreKnown h.cells → KnowsAll (with_more h c n).cells (in_a_row value (length h.cells) n)
row_known value c is s h zero k = All-nil (Knows h.cells)
row_known value c is s h (suc n) k =
    let g : Heap = with_new h c in
    let known : AreKnown g.cells = known_push h.cells (Some c) k (s h.cells) in
    let last : Heap = with_more g c n in
    All-cons (Knows last.cells) (value (record { 0 = length h.cells })) (in_a_row value (length h.cells + 1) n)
    (value_grown g.cells last.cells (more_grown g c n known s).0 (value (record { 0 = length h.cells })) (is g.cells (length h.cells) (get_or_push h.cells (Some c) None (length h.cells) refl)))
    (subst (λ l. KnowsAll last.cells (in_a_row value l n)) (length_push h.cells (Some c)) (row_known value c is s g n known))

plain_item : (cells : List (Option Cell)) (of : Option ElementTag) → knows cells (item_default of) ≡ true
plain_item cells (Some tag.Bool) = refl
plain_item cells (Some tag.Int) = refl
plain_item cells (Some tag.Str) = refl
plain_item cells of = refl

new_items : (h : Heap) (of : Option ElementTag) (n : ℕ) → AreKnown h.cells → Makes KnowsAll h (defaults h of n)
new_items h (Some tag.Array) n k = record {
  grown = (more_grown h (ArrayCell [] None) n k (λ cells. All-nil (Knows cells))).0;
  known = (more_grown h (ArrayCell [] None) n k (λ cells. All-nil (Knows cells))).1;
  is = row_known (λ s. Array s) (ArrayCell [] None) (λ cells x e. ap is_array e) (λ cells. All-nil (Knows cells)) h n k;
}
new_items h (Some tag.Dict) n k = record {
  grown = (more_grown h (DictCell []) n k (λ cells. All-nil (KnowsEntry cells))).0;
  known = (more_grown h (DictCell []) n k (λ cells. All-nil (KnowsEntry cells))).1;
  is = row_known (λ s. Dict s) (DictCell []) (λ cells x e. ap is_dict e) (λ cells. All-nil (KnowsEntry cells)) h n k;
}
new_items h of n k = record { grown = grown_itself h.cells; known = k; is = All-replicate (Knows h.cells) n (item_default of) (plain_item h.cells of) }

put_more : (h : Heap) (new : List Value × Heap) (x : ℕ) → Makes KnowsAll h new → Fits Knows h (put_last new x)
put_more h new x made = fits_later Knows h new.1 _ made.grown (fits_placed Knows new.1 (with_splice new.1 x (length (items_at new.1 x)) 0 new.0) (Int (pos 0)) (splice new.1 made.known x (length (items_at new.1 x)) 0 new.0 (Int (pos 0)) made.is refl))

resized : (h : Heap) (x n : ℕ) → AreKnown h.cells → Fits Knows h (sized h x n)
resized h x n k =
    let len : ℕ = length (items_at h x) in
    fits_if Knows h (nat_le n len) _ _ (splice h k x n (len - n) [] (Int (pos 0)) (All-nil (Knows h.cells)) refl) (put_more h (defaults h (element_of (cell_at h.cells x)) (n - len)) x (new_items h (element_of (cell_at h.cells x)) (n - len) k))

resize : (h : Heap) (x : ℕ) (n : ℤ) → AreKnown h.cells → Fits Knows h (resize_of h x n)
resize h x n k = fits_if Knows h (int_lt n (pos 0)) _ _ (fits_err Knows h BadArgs) (fits_counted Knows h (unsigned_abs n) _ (resized h x (unsigned_abs n) k))

-- ---- the methods

module _ (h : Heap) (k : AreKnown h.cells) where
  copy_array : (s : Serial) (b : Bool) → knows h.cells (Array s) ≡ true → Fits Knows h (array_duplicate_of h s b)
  copy_array s true n = deep h (Array s) k n
  copy_array s false n = shallow h k s.0

  copy_dict : (s : Serial) (b : Bool) → knows h.cells (Dict s) ≡ true → Fits Knows h (dict_duplicate_of h s b)
  copy_dict s true n = deep h (Dict s) k n
  copy_dict s false n = shallow_dict h k s.0

  pub array_fits : (method : ArrayMethod) (x : Serial) (args : List Value) → knows h.cells (Array x) ≡ true → KnowsAll h.cells args → Fits Knows h (array_call_of h method x args)
  array_fits m.Size x args n a = none h k args _ (look h k _ (tells_ok h.cells (Int _) refl))
  array_fits m.IsEmpty x args n a = none h k args _ (look h k _ (tells_ok h.cells (Truth _) refl))
  array_fits m.Append x args n a = fits_one h args _ a (λ v e. put_one h k x.0 (length (items_at h x.0)) 0 v Null e refl)
  array_fits m.PushBack x args n a = fits_one h args _ a (λ v e. put_one h k x.0 (length (items_at h x.0)) 0 v Null e refl)
  array_fits m.PushFront x args n a = fits_one h args _ a (λ v e. put_one h k x.0 0 0 v Null e refl)
  array_fits m.PopBack x args n a = none h k args _ (pop h k x.0 (length (items_at h x.0) - 1) (slice_get (items_at h x.0) (length (items_at h x.0) - 1)) (got_known h.cells (items_at h x.0) (length (items_at h x.0) - 1) (items_are h.cells k x.0)))
  array_fits m.PopFront x args n a = none h k args _ (pop h k x.0 0 (slice_get (items_at h x.0) 0) (got_known h.cells (items_at h x.0) 0 (items_are h.cells k x.0)))
  array_fits m.Front x args n a = none h k args _ (look h k _ (tells_ok h.cells _ (or_known h.cells (slice_get (items_at h x.0) 0) Null (got_known h.cells (items_at h x.0) 0 (items_are h.cells k x.0)) refl)))
  array_fits m.Back x args n a = none h k args _ (look h k _ (tells_ok h.cells _ (or_known h.cells (slice_get (items_at h x.0) (length (items_at h x.0) - 1)) Null (got_known h.cells (items_at h x.0) (length (items_at h x.0) - 1) (items_are h.cells k x.0)) refl)))
  array_fits m.Insert x args n a = two h k args _ a (λ i v e. insert h k x.0 _ v e)
  array_fits m.RemoveAt x args n a = fits_given Knows h (one_given int_in args) _ (λ i. remove h k x.0 (spot i (length (items_at h x.0))) (Err BadIndex) (fits_err Knows h BadIndex))
  array_fits m.Erase x args n a = fits_one h args _ a (λ v e. erase h k x.0 (first_equal (λ w. same_value h.cells v w) 0 (items_at h x.0)))
  array_fits m.Clear x args n a = none h k args _ (splice h k x.0 0 (length (items_at h x.0)) [] Null (All-nil (Knows h.cells)) refl)
  array_fits m.Has x args n a = fits_one h args _ a (λ v e. look h k _ (tells_has h.cells _))
  array_fits m.Find x args n a = fits_one h args _ a (λ v e. look h k _ (tells_place h.cells _))
  array_fits m.Count x args n a = fits_one h args _ a (λ v e. look h k _ (tells_number h.cells _))
  array_fits m.Slice x args n a = fits_given Knows h (one_or_two_given int_in end_in None args) _ (λ b. slice h k x.0 b.0 b.1)
  array_fits m.Reverse x args n a = none h k args _ (fits_weighed Knows h _ Null (splice h k x.0 0 (length (items_at h x.0)) (reverse (items_at h x.0)) Null (reversed_known h.cells (items_at h x.0) (items_are h.cells k x.0)) refl))
  array_fits m.Sort x args n a = none h k args _ (sort h k x.0)
  array_fits m.Duplicate x args n a = fits_given Knows h (none_or_one_given truth_in false args) _ (λ b. copy_array x b n)
  array_fits m.AppendArray x args n a = fits_given Knows h (one_given array_in args) _ (λ y. fits_put h k x.0 (length (items_at h x.0)) 0 (items_at h y.0) Null (items_are h.cells k y.0) refl)
  array_fits m.Resize x args n a = fits_given Knows h (one_given int_in args) _ (λ i. resize h x.0 i k)
  array_fits m.Fill x args n a = fits_one h args _ a (λ v e. fill h k x.0 v e)

  pub dict_fits : (method : DictMethod) (x : Serial) (args : List Value) → knows h.cells (Dict x) ≡ true → KnowsAll h.cells args → Fits Knows h (dict_call_of h method x args)
  dict_fits d.Size x args n a = none h k args _ (look h k _ (tells_ok h.cells (Int _) refl))
  dict_fits d.IsEmpty x args n a = none h k args _ (look h k _ (tells_ok h.cells (Truth _) refl))
  dict_fits d.Has x args n a = fits_one h args _ a (λ v e. look h k _ (tells_presence h.cells (entries_in h x.0) (key_of v)))
  dict_fits d.Get x args n a = one_or_two h k args _ a (λ u v e. default h k x.0 (key_of u) v e)
  dict_fits d.Keys x args n a = none h k args _ (keys_fits h k x.0)
  dict_fits d.Values x args n a = none h k args _ (values h k x.0)
  dict_fits d.Erase x args n a = fits_one h args _ a (λ v e. erase_key h k x.0 (key_of v))
  dict_fits d.Clear x args n a = none h k args _ (entries h k x.0 [] Null (All-nil (KnowsEntry h.cells)) refl)
  dict_fits d.Duplicate x args n a = fits_given Knows h (none_or_one_given truth_in false args) _ (λ b. copy_dict x b n)
  dict_fits d.Merge x args n a = fits_given Knows h (one_or_two_given dict_in truth_in false args) _ (λ b. merge h k x.0 b.0.0 b.1)
