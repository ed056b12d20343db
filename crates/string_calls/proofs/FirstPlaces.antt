-- A place that is found is the first; the parts of a split have no separator in them, and with it between them they are the text.
use Rattle.std.proofs.Common.{◌≡◌, ℕ, zero, suc, ◌+◌, ◌-◌, ◌<◌, ◌≤◌, Bool, true, false, ◌||◌, ◌&&◌, nat_eq, List, [], ◌∷◌, ◌++◌, length, take, drop, refl, sym, ap, subst, ◌∙◌, arith, Option, Some, None, is_some, option_map, if◌then◌else◌, length-append, append_assoc, append-nil}
use Rattle.std.proofs.lemmas.Bool.{false≢true}
use Rattle.std.proofs.lemmas.List.{take-append-drop, drop-append-le, length-drop, length-take, drop-drop}
use Rattle.std.proofs.lemmas.List.Elements.{All-nil, All-cons}
use Rattle.std.proofs.lemmas.Slice.Eq.{starts_is}
use Rattle.std.specs.List.{All, starts_with}
use Rattle.std.specs.Str.Pattern.{LacksTextAt}
use Rattle.variant_values.specs.Operations.{begins, is_part}
use Rattle.variant_values.specs.StringMethods.{first_place, parts, joined_texts}
use Rattle.string_calls.specs.Laws.{IsFirst}
use Rattle.string_calls.proofs.Places.{nat_decides, bool_cases, place_or_none, place_missing, starts-yes, parts_found, parts_missing, parts_some, join_next}

-- ---- the first place

starts_here : (what text : List ℕ) → starts_with nat_eq text what ≡ true → text ≡ what ++ drop (length what) text
starts_here what text sure = (starts_is nat_decides text what (starts_with nat_eq text what) refl).0 sure

lacks_here : (what text : List ℕ) → starts_with nat_eq text what ≡ false → LacksTextAt what text 0
lacks_here what text never = λ rest is. false≢true (sym never ∙ starts-yes text what rest is)

first_here : (what text : List ℕ) (n : ℕ) → starts_with nat_eq text what ≡ true → n ≡ 0 → IsFirst what text n
first_here what text n sure is = subst (λ k. IsFirst what text k) (sym is) (record { here = starts_here what text sure; before = λ k below. absurd (omega arith) })

lacks_later : (what : List ℕ) (b : ℕ) (bs : List ℕ) → starts_with nat_eq (b ∷ bs) what ≡ false → (n : ℕ) → ((k : ℕ) → k < n → LacksTextAt what bs k) → (k : ℕ) → k < suc n → LacksTextAt what (b ∷ bs) k
lacks_later what b bs never n lacks zero below = lacks_here what (b ∷ bs) never
lacks_later what b bs never n lacks (suc k) below = lacks k (omega arith)

first_later : (what : List ℕ) (b : ℕ) (bs : List ℕ) (n k : ℕ) → starts_with nat_eq (b ∷ bs) what ≡ false → n ≡ suc k → IsFirst what bs k → IsFirst what (b ∷ bs) n
first_later what b bs n k never is h = subst (λ m. IsFirst what (b ∷ bs) m) (sym is) (record { here = h.here; before = lacks_later what b bs never k h.before })

pub found_is_first : (what text : List ℕ) (n : ℕ) → first_place what text ≡ Some n → IsFirst what text n
found_is_first what [] n e =
    bool_cases (starts_with nat_eq [] what) (λ t. (if t then Some 0 else None) ≡ Some n → IsFirst what [] n)
    (λ sure h. first_here what [] n sure cc)
    (λ never h. absurd (cc h))
    e
found_is_first what (b ∷ bs) n e =
    bool_cases (starts_with nat_eq (b ∷ bs) what) (λ t. (if t then Some 0 else option_map (λ n. suc n) (first_place what bs)) ≡ Some n → IsFirst what (b ∷ bs) n)
    (λ sure h. first_here what (b ∷ bs) n sure cc)
    (λ never h. place_or_none (first_place what bs) (λ o. option_map (λ n. suc n) o ≡ Some n → IsFirst what (b ∷ bs) n)
    (λ gone later. absurd (cc later))
    (λ k there later. let next : n ≡ suc k = cc in first_later what b bs n k never next (found_is_first what bs k there))
    h)
    e

none_is : (o : Option ℕ) → option_map (λ n. suc n) o ≡ None → o ≡ None
none_is None h = refl
none_is (Some k) h = absurd (cc h)

missing_is_nowhere : (what text : List ℕ) → first_place what text ≡ None → (k : ℕ) → k < suc (length text) → LacksTextAt what text k
missing_is_nowhere what [] e (suc k) within = absurd (omega arith)
missing_is_nowhere what [] e zero within =
    bool_cases (starts_with nat_eq [] what) (λ t. if◌then◌else◌ {A = Option ℕ} t (Some 0) None ≡ None → LacksTextAt what [] 0) (λ sure h. absurd (cc h)) (λ never h. lacks_here what [] never) e
missing_is_nowhere what (b ∷ bs) e k within =
    bool_cases (starts_with nat_eq (b ∷ bs) what) (λ t. (if t then Some 0 else option_map (λ n. suc n) (first_place what bs)) ≡ None → LacksTextAt what (b ∷ bs) k)
    (λ sure h. absurd (cc h))
    (λ never h. lacks_later what b bs never (suc (length bs)) (missing_is_nowhere what bs (none_is (first_place what bs) h)) k within)
    e

pub nowhere : (what text : List ℕ) → first_place what text ≡ None → (k : ℕ) → k ≤ length text → LacksTextAt what text k
nowhere what text e k within = missing_is_nowhere what text e k (omega arith)

-- ---- `in`

begins_is : (part text : List ℕ) → begins part text ≡ starts_with nat_eq text part
begins_is [] text = refl
begins_is (c ∷ cs) [] = refl
begins_is (c ∷ cs) (b ∷ bs) = ap (λ t. nat_eq c b && t) (begins_is cs bs)

some_later : (o : Option ℕ) → is_some o ≡ is_some (option_map (λ n. suc n) o)
some_later None = refl
some_later (Some k) = refl

pub part_is_found : (part text : List ℕ) → is_part part text ≡ is_some (first_place part text)
part_is_found part [] = begins_is part [] ∙ bool_cases (starts_with nat_eq [] part) (λ t. t ≡ is_some {T = ℕ} (if t then Some 0 else None)) (λ sure. refl) (λ never. refl)
part_is_found part (b ∷ bs) =
    ap (λ t. t || is_part part bs) (begins_is part (b ∷ bs)) ∙ ap (λ t. starts_with nat_eq (b ∷ bs) part || t) (part_is_found part bs)
    ∙ bool_cases (starts_with nat_eq (b ∷ bs) part) (λ t. t || is_some (first_place part bs) ≡ is_some {T = ℕ} (if t then Some 0 else option_map (λ n. suc n) (first_place part bs)))
    (λ sure. refl) (λ never. some_later (first_place part bs))

-- ---- splits

rest_is : (by text : List ℕ) (k : ℕ) → first_place by text ≡ Some k → drop k text ≡ by ++ drop (k + length by) text
rest_is by text k there = (found_is_first by text k there).here ∙ ap (λ t. by ++ t) (drop-drop (length by) k text)

rejoined : (fuel : ℕ) (by text : List ℕ) → length text ≤ fuel → 0 < length by → joined_texts by (parts by text) ≡ text
rejoined fuel by [] small some = refl
rejoined zero by (b ∷ bs) small some = absurd (omega arith)
rejoined (suc fuel) by (b ∷ bs) small some =
    place_or_none (first_place by (b ∷ bs)) (λ o. joined_texts by (parts by (b ∷ bs)) ≡ b ∷ bs)
    (λ gone. ap (joined_texts by) (parts_missing by (b ∷ bs) (sym gone)) ∙ append-nil (b ∷ bs))
    (λ k there.
    let rest : List ℕ = drop (k + length by) (b ∷ bs) in
    let shorter : length rest ≤ fuel = omega (arith, length-drop (k + length by) (b ∷ bs), small, some) in
    ap (joined_texts by) (parts_found by (b ∷ bs) k some (sym there)) ∙ join_next by (take k (b ∷ bs)) (parts by rest) (parts_some by rest 0)
    ∙ ap (λ t. (take k (b ∷ bs) ++ by) ++ t) (rejoined fuel by rest shorter some) ∙ append_assoc (take k (b ∷ bs)) by rest
    ∙ ap (λ t. take k (b ∷ bs) ++ t) (sym (rest_is by (b ∷ bs) k there)) ∙ take-append-drop k (b ∷ bs))

pub split_joins : (by text : List ℕ) → 0 < length by → joined_texts by (parts by text) ≡ text
split_joins by text some = rejoined (length text) by text (omega arith) some

-- before the first place there is none
front_lacks : (by text : List ℕ) (k : ℕ) → 0 < length by → first_place by text ≡ Some k → first_place by (take k text) ≡ None
front_lacks by text k some there = sym (place_missing by (take k text) lacks)
  where
    lacks : (j : ℕ) → j ≤ length (take k text) → LacksTextAt by (take k text) j
    lacks j within = λ rest is.
        let earlier : j < k = omega (arith, some, within, ap length is, length-append by rest, length-drop j (take k text), length-take k text) in
        (found_is_first by text k there).before j earlier (rest ++ drop k text)
        (ap (drop j) (sym (take-append-drop k text)) ∙ drop-append-le j (take k text) (drop k text) within ∙ ap (λ t. t ++ drop k text) is ∙ append_assoc by rest (drop k text))

abbrev Lacks : List ℕ → List ℕ → Type 0
Lacks by part = first_place by part ≡ None

last_lacks : (by text : List ℕ) → first_place by text ≡ None → All (Lacks by) (parts by text)
last_lacks by text gone = subst (λ ps. All (Lacks by) ps) (sym (parts_missing by text (sym gone))) (All-cons (Lacks by) text [] gone (All-nil (Lacks by)))

next_lacks : (by text : List ℕ) (k : ℕ) → 0 < length by → first_place by text ≡ Some k → All (Lacks by) (parts by (drop (k + length by) text)) → All (Lacks by) (parts by text)
next_lacks by text k some there behind =
    subst (λ ps. All (Lacks by) ps) (sym (parts_found by text k some (sym there))) (All-cons (Lacks by) (take k text) (parts by (drop (k + length by) text)) (front_lacks by text k some there) behind)

-- what stands behind a place is shorter
shorter : (by text : List ℕ) (k fuel : ℕ) → first_place by text ≡ Some k → 0 < length by → length text ≤ suc fuel → length (drop (k + length by) text) ≤ fuel
shorter by text k fuel there some small = omega (arith, small, some, length-drop (k + length by) text)

some_there : (by text : List ℕ) (k : ℕ) → first_place by text ≡ Some k → 0 < length by → 0 < length text
some_there by text k there some = omega (arith, some, ap length (rest_is by text k there), length-append by (drop (k + length by) text), length-drop k text)

lacking : (fuel : ℕ) (by text : List ℕ) → length text ≤ fuel → 0 < length by → All (Lacks by) (parts by text)
lacking zero by text small some =
    place_or_none (first_place by text) (λ o. All (Lacks by) (parts by text)) (λ gone. last_lacks by text gone) (λ k there. let more = some_there by text k there some in absurd (omega arith))
lacking (suc fuel) by text small some =
    place_or_none (first_place by text) (λ o. All (Lacks by) (parts by text)) (λ gone. last_lacks by text gone)
    (λ k there. next_lacks by text k some there (lacking fuel by (drop (k + length by) text) (shorter by text k fuel there some small) some))

pub parts_lack : (by text : List ℕ) → 0 < length by → All (λ p. first_place by p ≡ None) (parts by text)
parts_lack by text some = lacking (length text) by text (omega arith) some
