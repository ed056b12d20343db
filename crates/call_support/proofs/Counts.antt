-- What a walk of a value counts, level by level and item by item.
use Rattle.std.proofs.Common.{◌≡◌, ◌≢◌, ℕ, zero, suc, ◌+◌, ◌-◌, ◌≤◌, cond, List, [], ◌∷◌, drop, refl, sym, ap, ◌∙◌, arith, Option, Some, None, slice_get, inl, inr}
use Rattle.std.proofs.lemmas.Bool.{le-leb, cases_lt}
use Rattle.variant_values.specs.declared.cells.Cell.{Cell}
use Rattle.variant_values.specs.declared.values.Key.{Key}
use Rattle.variant_values.specs.declared.values.Serial.{Serial}
use Rattle.variant_values.specs.declared.values.Value.{Value}
use Rattle.variant_values.specs.declared.values.Value.TheVariants.{Null, Bool as Truth, Int, Str, Array, Dict, Object, Callable, Signal, Class, Scene, Weak}
use Rattle.variant_values.specs.Heaps.{cell_at, items_of, entries_of}
use Rattle.variant_values.specs.Places.{room_left}
use Rattle.variant_values.specs.ValueTexts.{count_with, count_items, with_count, items_in}
use Rattle.variant_values.proofs.Rooms.{no_room, room_has, room_lacks}
use Rattle.call_support.specs.Walks.{left_after}

abbrev array_count : ℕ → List (Option Cell) → Serial → Option ℕ
array_count zero cells s = None
array_count (suc n) cells s = count_items (items_in n cells) (items_of (cell_at cells s.0))

abbrev dict_count : ℕ → List (Option Cell) → Serial → Option ℕ
dict_count zero cells s = None
dict_count (suc n) cells s = count_items (λ e. items_in n cells e.1) (entries_of (cell_at cells s.0))

items_in_is : (n : ℕ) (cells : List (Option Cell)) (v : Value) → items_in n cells v ≡ count_with (array_count n cells) (dict_count n cells) v
unfolding items_in
items_in_is zero cells v = refl
items_in_is (suc n) cells v = refl

left_after-none : (room : ℕ) → Some room ≡ left_after room (Some 0)
left_after-none room = let e : room - 0 ≡ room = omega arith in rw (le-leb 0 room (omega arith), e) refl

scalar_count : (arrays dicts : Serial → Option ℕ) (v : Value) → ((s : Serial) → v ≡ Array s → ⊥) → ((s : Serial) → v ≡ Dict s → ⊥) → count_with arrays dicts v ≡ Some 0
scalar_count arrays dicts Null a d = refl
scalar_count arrays dicts (Truth b) a d = refl
scalar_count arrays dicts (Int n) a d = refl
scalar_count arrays dicts (Str s) a d = refl
scalar_count arrays dicts (Array s) a d = absurd (a s refl)
scalar_count arrays dicts (Dict s) a d = absurd (d s refl)
scalar_count arrays dicts (Object s) a d = refl
scalar_count arrays dicts (Callable s m) a d = refl
scalar_count arrays dicts (Signal s m) a d = refl
scalar_count arrays dicts (Class c) a d = refl
scalar_count arrays dicts (Scene f p) a d = refl
scalar_count arrays dicts (Weak s) a d = refl

pub count_scalar : (room n : ℕ) (cells : List (Option Cell)) (v : Value) → ((s : Serial) → v ≡ Array s → ⊥) → ((s : Serial) → v ≡ Dict s → ⊥) → Some room ≡ left_after room (items_in n cells v)
count_scalar room n cells v a d = left_after-none room ∙ sym (ap (left_after room) (items_in_is n cells v ∙ scalar_count _ _ v a d))

array_count-zero : (n : ℕ) (cells : List (Option Cell)) (s : Serial) → n ≡ 0 → array_count n cells s ≡ None
array_count-zero zero cells s e = refl
array_count-zero (suc n) cells s e = absurd (omega arith)

dict_count-zero : (n : ℕ) (cells : List (Option Cell)) (s : Serial) → n ≡ 0 → dict_count n cells s ≡ None
dict_count-zero zero cells s e = refl
dict_count-zero (suc n) cells s e = absurd (omega arith)

pub count_array-zero : (room n : ℕ) (cells : List (Option Cell)) (v : Value) (s : Serial) → v ≡ Array s → n ≡ 0 → None ≡ left_after room (items_in n cells v)
count_array-zero room n cells v s is e = sym (ap (left_after room) (ap (items_in n cells) is ∙ items_in_is n cells (Array s) ∙ array_count-zero n cells s e))

pub count_dict-zero : (room n : ℕ) (cells : List (Option Cell)) (v : Value) (s : Serial) → v ≡ Dict s → n ≡ 0 → None ≡ left_after room (items_in n cells v)
count_dict-zero room n cells v s is e = sym (ap (left_after room) (ap (items_in n cells) is ∙ items_in_is n cells (Dict s) ∙ dict_count-zero n cells s e))

array_count-below : (n : ℕ) (cells : List (Option Cell)) (s : Serial) (items : List Value) → n ≢ 0 → items ≡ items_of (cell_at cells s.0) → count_items (items_in (n - 1) cells) items ≡ array_count n cells s
array_count-below zero cells s items some is = absurd (some refl)
array_count-below (suc n) cells s items some is = let e : suc n - 1 ≡ n = omega arith in ap (λ m. count_items (items_in m cells) items) e ∙ ap (count_items (items_in n cells)) is

dict_count-below : (n : ℕ) (cells : List (Option Cell)) (s : Serial) (entries : List (Key × Value)) → n ≢ 0 → entries ≡ entries_of (cell_at cells s.0) → count_items (λ e. items_in (n - 1) cells e.1) entries ≡ dict_count n cells s
dict_count-below zero cells s entries some is = absurd (some refl)
dict_count-below (suc n) cells s entries some is = let e : suc n - 1 ≡ n = omega arith in ap (λ m. count_items {A = Key × Value} (λ e. items_in m cells e.1) entries) e ∙ ap (count_items {A = Key × Value} (λ e. items_in n cells e.1)) is

pub count_array : (room n : ℕ) (cells : List (Option Cell)) (v : Value) (s : Serial) (items : List Value) (r : Option ℕ) → v ≡ Array s → n ≢ 0 → items ≡ items_of (cell_at cells s.0) → r ≡ left_after room (count_items (items_in (n - 1) cells) items) → r ≡ left_after room (items_in n cells v)
count_array room n cells v s items r is some e h = h ∙ ap (left_after room) (array_count-below n cells s items some e ∙ sym (ap (items_in n cells) is ∙ items_in_is n cells (Array s)))

pub count_dict : (room n : ℕ) (cells : List (Option Cell)) (v : Value) (s : Serial) (entries : List (Key × Value)) (r : Option ℕ) → v ≡ Dict s → n ≢ 0 → entries ≡ entries_of (cell_at cells s.0) → r ≡ left_after room (count_items (λ e. items_in (n - 1) cells e.1) entries) → r ≡ left_after room (items_in n cells v)
count_dict room n cells v s entries r is some e h = h ∙ ap (left_after room) (dict_count-below n cells s entries some e ∙ sym (ap (items_in n cells) is ∙ items_in_is n cells (Dict s)))

-- ---- item by item

pub drop-next : {A : Type 0} (xs : List A) (i : ℕ) (x : A) → slice_get xs i ≡ Some x → drop i xs ≡ x ∷ drop (i + 1) xs
drop-next [] i x is = cc
drop-next (y ∷ ys) zero x is = cc
drop-next (y ∷ ys) (suc i) x is = let e : suc i + 1 ≡ suc (i + 1) = omega arith in drop-next ys i x is ∙ sym (ap (λ k. x ∷ drop k (y ∷ ys)) e)

room_fits : (room weight : ℕ) → weight ≤ room → room_left room weight ≡ Some (room - weight)
room_fits room weight h = ap (λ b. cond b (Some (room - weight)) None) (le-leb weight room h)

left_after-then : (room left : ℕ) (a b : Option ℕ) → Some left ≡ left_after room a → left_after left b ≡ left_after room (with_count a b)
left_after-then room left None b h = cc
left_after-then room left (Some a) None h = refl
left_after-then room left (Some a) (Some b) h =
    let has = room_has room a left h in
    elim (cases_lt room (a + b)) [
      | inl more ↦ sym (no_room left b (omega (arith, has))) ∙ no_room room (a + b) more
      | inr fits ↦
          let same : left - b ≡ room - (a + b) = omega (arith, has) in
          room_fits left b (omega (arith, has)) ∙ ap Some same ∙ sym (room_fits room (a + b) fits)
    ]

left_after-stop : (room : ℕ) (a b : Option ℕ) → None ≡ left_after room a → None ≡ left_after room (with_count a b)
left_after-stop room None b h = refl
left_after-stop room (Some a) None h = refl
left_after-stop room (Some a) (Some b) h = let lacks = room_lacks room a h in no_room room (a + b) (omega (arith, lacks))

-- a step of a loop that counts
pub counts_next : {A : Type 0} (g : A → Option ℕ) (left new : ℕ) (all : Option ℕ) (xs : List A) (i : ℕ) (x : A) → slice_get xs i ≡ Some x → Some new ≡ left_after left (with_count (Some 1) (g x)) → left_after left (count_items g (drop i xs)) ≡ all → left_after new (count_items g (drop (i + 1) xs)) ≡ all
counts_next g left new all xs i x is took so_far = left_after-then left new _ _ took ∙ sym (ap (λ ys. left_after left (count_items g ys)) (drop-next xs i x is)) ∙ so_far

pub counts_stop : {A : Type 0} (g : A → Option ℕ) (left : ℕ) (all : Option ℕ) (xs : List A) (i : ℕ) (x : A) → slice_get xs i ≡ Some x → None ≡ left_after left (with_count (Some 1) (g x)) → left_after left (count_items g (drop i xs)) ≡ all → None ≡ all
counts_stop g left all xs i x is stop so_far = left_after-stop left _ _ stop ∙ sym (ap (λ ys. left_after left (count_items g ys)) (drop-next xs i x is)) ∙ so_far
