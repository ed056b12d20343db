-- Texts and counts of containers, level by level, and item by item.
use Rattle.std.proofs.Common.{◌≡◌, ◌≢◌, ℕ, zero, suc, ◌+◌, ◌-◌, ◌<◌, ◌≤◌, Bool, true, false, cond, nat_le, List, [], ◌∷◌, ◌++◌, length, get_or, drop, codes, refl, sym, ap, subst, ◌∙◌, append_assoc, length-append, arith, Option, Some, None, Result, Ok, Err, if◌then◌else◌, add-one, slice_get, inl, inr}
use Rattle.std.proofs.lemmas.Grind.{common_steps}
use Rattle.std.proofs.lemmas.Bool.{le-leb, lt-leb, cases_lt}
use Rattle.std.specs.List.{flat_map, join_by, repeat}
use Rattle.variant_values.specs.Operators.{longest, Answers}
use Rattle.variant_values.specs.declared.classes.ClassTag.{ClassTag}
use Rattle.variant_values.specs.declared.values.Serial.{Serial}
use Rattle.variant_values.specs.declared.values.Value.{Value}
use Rattle.variant_values.specs.declared.values.Value.TheVariants.{Null, Bool as Truth, Int, Str, Array, Dict, Object, Callable, Signal, Class, Scene, Weak}
use Rattle.variant_values.specs.declared.values.Key.{Key}
use Rattle.variant_values.specs.declared.cells.Cell.{Cell}
use Rattle.variant_values.specs.declared.faults.Trouble.{Trouble}
use Rattle.variant_values.specs.declared.faults.Trouble.TheVariants.{Fault, NoMemory}
use Rattle.variant_values.specs.Heaps.{cell_at, items_of, entries_of}
use Rattle.variant_values.specs.Places.{room_left}
use Rattle.variant_values.proofs.Rooms.{no_room, room_has, room_lacks}
use Rattle.variant_values.specs.ValueTexts.{Names, text_with, text_in, array_text, dict_text, count_with, count_items, with_count, items_in, is_within, most_levels, fitting, value_text}
use Rattle.variant_values.specs.declared.faults.RunFault.TheVariants.{TooDeep}
use Rattle.call_support.proofs.Counts.{drop-next}
use Rattle.string_calls.specs.Writes.{Writes}

-- ---- level by level

abbrev pub array_in : ℕ → List (Option Cell) → Names → Serial → List ℕ
array_in zero cells names s = codes "[...]"
array_in (suc n) cells names s = array_text (text_in n cells names) (items_of (cell_at cells s.0))

abbrev pub dict_in : ℕ → List (Option Cell) → Names → Serial → List ℕ
dict_in zero cells names s = codes "{...}"
dict_in (suc n) cells names s = dict_text cells names (text_in n cells names) (entries_of (cell_at cells s.0))

text_in_is : (n : ℕ) (cells : List (Option Cell)) (names : Names) (v : Value) → text_in n cells names v ≡ text_with (array_in n cells names) (dict_in n cells names) cells names v
unfolding text_in
text_in_is zero cells names v = refl
text_in_is (suc n) cells names v = refl

pub writes_in : {A : Type 0} (old new : List ℕ) (r : Result A Trouble) (n : ℕ) (cells : List (Option Cell)) (names : Names) (v w : Value) → w ≡ v → Writes old new r (text_with (array_in n cells names) (dict_in n cells names) cells names v) → Writes old new r (text_in n cells names w)
writes_in old new r n cells names v w is h = subst (λ t. Writes old new r t) (sym (ap (text_in n cells names) is ∙ text_in_is n cells names v)) h

pub writes_text : {A : Type 0} (old new : List ℕ) (r : Result A Trouble) (text other : List ℕ) → text ≡ other → Writes old new r text → Writes old new r other
writes_text old new r text other is h = subst (λ t. Writes old new r t) is h

-- a string is its own text
pub text_in_string : (n : ℕ) (cells : List (Option Cell)) (names : Names) (v : Value) (text : List ℕ) → v ≡ Str text → text_in n cells names v ≡ text
text_in_string n cells names v text is = ap (text_in n cells names) is ∙ text_in_is n cells names (Str text)

pub answers_string : (cells : List (Option Cell)) (names : Names) (v : Value) (text : List ℕ) (r : Result (List ℕ) Trouble) → v ≡ Str text → Answers r (fitting text) → Answers r (fitting (text_in most_levels cells names v))
answers_string cells names v text r is h = subst (λ t. Answers r (fitting t)) (sym (text_in_string most_levels cells names v text is)) h

pub array_in-zero : (n : ℕ) (cells : List (Option Cell)) (names : Names) (s : Serial) → n ≡ 0 → codes "[...]" ≡ array_in n cells names s
array_in-zero zero cells names s e = refl
array_in-zero (suc n) cells names s e = absurd (omega arith)

pub dict_in-zero : (n : ℕ) (cells : List (Option Cell)) (names : Names) (s : Serial) → n ≡ 0 → codes "{...}" ≡ dict_in n cells names s
dict_in-zero zero cells names s e = refl
dict_in-zero (suc n) cells names s e = absurd (omega arith)

pub array_in-below : (n : ℕ) (cells : List (Option Cell)) (names : Names) (s : Serial) (items : List Value) → n ≢ 0 → items ≡ items_of (cell_at cells s.0) → array_text (text_in (n - 1) cells names) items ≡ array_in n cells names s
array_in-below zero cells names s items some is = absurd (some refl)
array_in-below (suc n) cells names s items some is = let e : suc n - 1 ≡ n = omega arith in ap (λ m. array_text (text_in m cells names) items) e ∙ ap (array_text (text_in n cells names)) is

pub dict_in-below : (n : ℕ) (cells : List (Option Cell)) (names : Names) (s : Serial) (entries : List (Key × Value)) → n ≢ 0 → entries ≡ entries_of (cell_at cells s.0) → dict_text cells names (text_in (n - 1) cells names) entries ≡ dict_in n cells names s
dict_in-below zero cells names s entries some is = absurd (some refl)
dict_in-below (suc n) cells names s entries some is = let e : suc n - 1 ≡ n = omega arith in ap (λ m. dict_text cells names (text_in m cells names) entries) e ∙ ap (dict_text cells names (text_in n cells names)) is

-- ---- item by item

-- a step of a loop that writes
pub writes_next : {A : Type 0} (g : A → List ℕ) (old new all : List ℕ) (xs : List A) (i : ℕ) (x : A) → slice_get xs i ≡ Some x → new ≡ old ++ g x → old ++ flat_map g (drop i xs) ≡ all → new ++ flat_map g (drop (i + 1) xs) ≡ all
writes_next g old new all xs i x is took so_far = ap (λ t. t ++ flat_map g (drop (i + 1) xs)) took ∙ append_assoc old (g x) _ ∙ sym (ap (λ ys. old ++ flat_map g ys) (drop-next xs i x is)) ∙ so_far

-- where one piece is too long, the whole is
pub longer : {A : Type 0} (g : A → List ℕ) (old all : List ℕ) (xs : List A) (i : ℕ) (x : A) (most : ℕ) → slice_get xs i ≡ Some x → most < length (old ++ g x) → old ++ flat_map g (drop i xs) ≡ all → most < length all
longer g old all xs i x most is long so_far =
    let e : old ++ g x ++ flat_map g (drop (i + 1) xs) ≡ all = append_assoc old (g x) _ ∙ sym (ap (λ ys. old ++ flat_map g ys) (drop-next xs i x is)) ∙ so_far in
    omega (arith, ap length e, length-append (old ++ g x) (flat_map g (drop (i + 1) xs)))

-- the first piece of a join, and the others behind separators
pub joins_rest : {A : Type 0} (f : A → List ℕ) (sep old mid : List ℕ) (xs : List A) (x : A) → slice_get xs 0 ≡ Some x → mid ≡ old ++ f x → mid ++ flat_map (λ y. sep ++ f y) (drop 1 xs) ≡ old ++ join_by f sep xs
joins_rest f sep old mid [] x is took = cc
joins_rest f sep old mid (y ∷ ys) x is took = let same : y ≡ x = cc in ap (λ t. t ++ flat_map (λ z. sep ++ f z) ys) (took ∙ sym (ap (λ z. old ++ f z) same)) ∙ append_assoc old (f y) _

pub writes_fails : {A B : Type 0} (old at new all piece : List ℕ) (r : Result A Trouble) (q : Result B Trouble) (e : Trouble) → r ≡ Err e → q ≡ Err e → Writes at new q piece → (longest < length (at ++ piece) → longest < length (old ++ all)) → Writes old new r all
writes_fails {A} {B} old at new all piece r q e is was h k =
    subst (λ (t : Result A Trouble). Writes old new t all) (sym is) (fails e (subst (λ (t : Result B Trouble). Writes at new t piece) was h)) where
      fails : (e : Trouble) → Writes {A = B} at new (Err e) piece → Writes {A = A} old new (Err e) all
      fails (Fault f) h = (h.0, k h.1)
      fails NoMemory h = tt

-- a piece more of a text that is written piece by piece
pub writes_more : (old new piece left whole all : List ℕ) → new ≡ old ++ piece → whole ≡ piece ++ left → old ++ whole ≡ all → new ++ left ≡ all
writes_more old new piece left whole all took cut so_far = ap (λ t. t ++ left) took ∙ append_assoc old piece left ∙ sym (ap (λ t. old ++ t) cut) ∙ so_far

pub longer_piece : (old piece left whole all : List ℕ) (most : ℕ) → whole ≡ piece ++ left → old ++ whole ≡ all → most < length (old ++ piece) → most < length all
longer_piece old piece left whole all most cut so_far long =
    let e : old ++ piece ++ left ≡ all = append_assoc old piece left ∙ sym (ap (λ t. old ++ t) cut) ∙ so_far in
    omega (arith, ap length e, length-append (old ++ piece) left)

-- a text so many times, one time less
pub repeat_next : (n k : ℕ) (text : List ℕ) → k < n → repeat (n - k) text ≡ text ++ repeat (n - (k + 1)) text
repeat_next n k text more = let e : n - k ≡ suc (n - (k + 1)) = omega arith in ap (λ m. repeat m text) e

-- the last piece
pub writes_last : {A : Type 0} (old at new piece all : List ℕ) (r : Result A Trouble) → at ++ piece ≡ old ++ all → Writes at new r piece → Writes old new r all
writes_last old at new piece all (Ok a) e h = h ∙ e
writes_last old at new piece all (Err (Fault f)) e h = (h.0, subst (λ t. longest < length t) e h.1)
writes_last old at new piece all (Err NoMemory) e h = tt

pub item_at : {A : Type 0} (xs : List A) (i : ℕ) (x : A) → i < length xs → x ≡ get_or xs i x → slice_get xs i ≡ Some x
item_at [] i x some is = absurd (omega arith)
item_at (y ∷ ys) zero x some is = ap Some (sym is)
item_at (y ∷ ys) (suc i) x some is = item_at ys i x (omega arith) is
