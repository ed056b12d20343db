-- An array of the parts of a text.
use Rattle.std.proofs.Common.{◌≡◌, ℕ, suc, ◌+◌, ◌<◌, ◌≤◌, Bool, true, false, ◌&&◌, List, [], ◌∷◌, ◌++◌, length, map, refl, sym, ap, subst, ◌∙◌, arith, append_assoc, length-append, Option, Some, None, Result, Ok, Err}
use Rattle.std.proofs.lemmas.List.Elements.{All-map, All-same}
use Rattle.std.specs.List.{list_all}
use Rattle.variant_values.specs.declared.values.Value.{Value}
use Rattle.variant_values.specs.declared.values.Value.TheVariants.{Str}
use Rattle.variant_values.specs.declared.cells.Cell.{Cell}
use Rattle.variant_values.specs.declared.faults.Trouble.{Trouble}
use Rattle.variant_values.specs.declared.faults.Trouble.TheVariants.{Fault, NoMemory}
use Rattle.variant_values.specs.Heaps.{knows, KnowsAll}
use Rattle.variant_values.specs.Operators.{most_items}
use Rattle.variant_values.specs.ValueTexts.{fits_string}
use Rattle.variant_values.specs.StringMethods.{parts, first_split}
use Rattle.string_calls.specs.Writes.{FindsParts, PushesPart}
use Rattle.string_calls.proofs.Places.{parts_next, parts_last, parts_some}

abbrev pub strings : List (List ℕ) → List Value
strings texts = map (λ t. Str t) texts

pub found_next : (by rest part after : List ℕ) (found new all : List Value) → 0 < length by → Some (part, after) ≡ first_split by rest → new ≡ found ++ Str part ∷ [] → found ++ strings (parts by rest) ≡ all → new ++ strings (parts by after) ≡ all
found_next by rest part after found new all some is took so_far =
    ap (λ vs. vs ++ strings (parts by after)) took ∙ append_assoc found (Str part ∷ []) (strings (parts by after)) ∙ sym (ap (λ ps. found ++ strings ps) (parts_next by rest part after some is)) ∙ so_far

pub found_last : (by rest : List ℕ) (found new all : List Value) → None ≡ first_split by rest → new ≡ found ++ Str rest ∷ [] → found ++ strings (parts by rest) ≡ all → new ≡ all
found_last by rest found new all is took so_far = took ∙ sym (ap (λ ps. found ++ strings ps) (parts_last by rest is)) ∙ so_far

-- the parts left, where the first is no longer than a string may be
pub fits_next : (by rest part after : List ℕ) → 0 < length by → Some (part, after) ≡ first_split by rest → fits_string part ≡ true → list_all fits_string (parts by rest) ≡ list_all fits_string (parts by after)
fits_next by rest part after some is fits = ap (list_all fits_string) (parts_next by rest part after some is) ∙ ap (λ b. b && list_all fits_string (parts by after)) fits

and_left : (a b : Bool) → a && b ≡ true → a ≡ true
and_left true b h = refl
and_left false b h = h

pub first_fits : (by rest part after : List ℕ) → 0 < length by → Some (part, after) ≡ first_split by rest → list_all fits_string (parts by rest) ≡ true → fits_string part ≡ true
first_fits by rest part after some is all = and_left (fits_string part) (list_all fits_string (parts by after)) (sym (ap (list_all fits_string) (parts_next by rest part after some is)) ∙ all)

pub last_fits : (by rest : List ℕ) → None ≡ first_split by rest → list_all fits_string (parts by rest) ≡ true → fits_string rest ≡ true
last_fits by rest is all = and_left (fits_string rest) true (sym (ap (list_all fits_string) (parts_last by rest is)) ∙ all)

pub length_strings : (texts : List (List ℕ)) → length (strings texts) ≡ length texts
length_strings [] = refl
length_strings (t ∷ ts) = ap (λ n. suc n) (length_strings ts)

-- there are more parts than those found
pub found_fewer : (by rest text : List ℕ) (found : List Value) → found ++ strings (parts by rest) ≡ strings (parts by text) → length found < length (parts by text)
found_fewer by rest text found so_far =
    omega (arith, ap length so_far, length-append found (strings (parts by rest)), length_strings (parts by rest), length_strings (parts by text), parts_some by rest 0)

pub found_fails : {A : Type 0} (by rest text part : List ℕ) (found new : List Value) (r : Result (List Value) Trouble) (q : Result A Trouble) (e : Trouble) → r ≡ Err e → q ≡ Err e → PushesPart found new q part → found ++ strings (parts by rest) ≡ strings (parts by text) → (list_all fits_string (parts by text) ≡ true → fits_string part ≡ true) → FindsParts r (parts by text)
found_fails {A} by rest text part found new r q e is was h so_far fits = subst (λ (t : Result (List Value) Trouble). FindsParts t (parts by text)) (sym is) (fails e (subst (λ (t : Result A Trouble). PushesPart found new t part) was h)) where
  fails : (e : Trouble) → PushesPart {A = A} found new (Err e) part → FindsParts (Err e) (parts by text)
  fails (Fault f) h = let fewer = found_fewer by rest text found so_far in (h.0, λ all. let full = h.1 (fits all) in omega (arith, full, fewer))
  fails NoMemory h = tt

-- strings name no cell
pub knows_strings : (cells : List (Option Cell)) (items : List Value) (texts : List (List ℕ)) → items ≡ strings texts → KnowsAll cells items
knows_strings cells items texts is = All-same (λ v. knows cells v ≡ true) items (strings texts) is (All-map (λ v. knows cells v ≡ true) (λ (t : List ℕ). Str t) texts (λ k d h. refl))

pub found_all : (by rest text : List ℕ) (found new : List Value) → None ≡ first_split by rest → (new ≡ found ++ Str rest ∷ []) × ((fits_string rest ≡ true) × (length found < most_items)) → found ++ strings (parts by rest) ≡ strings (parts by text) → list_all fits_string (parts by text) ≡ list_all fits_string (parts by rest) → (new ≡ strings (parts by text)) × ((list_all fits_string (parts by text) ≡ true) × (length (parts by text) ≤ most_items))
found_all by rest text found new is took so_far fits =
    let all = found_last by rest found new (strings (parts by text)) is took.0 so_far in
    (all, (fits ∙ ap (list_all fits_string) (parts_last by rest is) ∙ ap (λ b. b && true) took.1.0, omega (arith, took.1.1, ap length all, ap length took.0, length-append found (Str rest ∷ []), length_strings (parts by text))))
