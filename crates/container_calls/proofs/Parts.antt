-- A text stands in another exactly where there is one before it and one behind.
use Rattle.std.proofs.Common.{◌≡◌, ℕ, ◌∙◌, ap, sym, refl, Bool, true, false, ◌&&◌, ◌||◌, List, [], ◌∷◌, ◌++◌, eqb, inl, inr}
use Rattle.std.specs.Str.Iter.{HasSubslice}
use Rattle.std.proofs.lemmas.Bool.{and_parts, and_from, eq-eqb, eqb-true}
use Rattle.variant_values.specs.Operations.{begins, is_part}

begun : (cs bs : List ℕ) → begins cs bs ≡ true → (rest : List ℕ) × (bs ≡ cs ++ rest)
begun [] bs h = (bs, refl)
begun (c ∷ cs) [] h = cc
begun (c ∷ cs) (b ∷ bs) h =
    let parts = and_parts (eqb c b) (begins cs bs) h in
    let later = begun cs bs parts.1 in
    (later.0, ap (λ x. x ∷ bs) (sym (eqb-true c b parts.0)) ∙ ap (λ xs. c ∷ xs) later.1)

begins_own : (cs rest : List ℕ) → begins cs (cs ++ rest) ≡ true
begins_own [] rest = refl
begins_own (c ∷ cs) rest = and_from (eqb c c) (begins cs (cs ++ rest)) (eq-eqb c c refl) (begins_own cs rest)

pub part_found : (cs bs : List ℕ) → is_part cs bs ≡ true → HasSubslice bs cs
part_found cs [] h = let e = begun cs [] h in ([], e.0, e.1)
part_found cs (b ∷ bs) h = by (begins cs (b ∷ bs)) refl h (part_found cs bs)
  where
    by : (t : Bool) → begins cs (b ∷ bs) ≡ t → (t || is_part cs bs) ≡ true → (is_part cs bs ≡ true → HasSubslice bs cs) → HasSubslice (b ∷ bs) cs
    by true e g later = let here = begun cs (b ∷ bs) e in ([], here.0, here.1)
    by false e g later = let there = later g in (b ∷ there.0, there.1, ap (λ xs. b ∷ xs) there.2)

begins_part : (cs bs : List ℕ) → begins cs bs ≡ true → is_part cs bs ≡ true
begins_part cs [] h = h
begins_part cs (b ∷ bs) h = ap (λ t. t || is_part cs bs) h

or_true : (t u : Bool) → u ≡ true → (t || u) ≡ true
or_true true u h = refl
or_true false u h = h

part_within : (cs front rest : List ℕ) → is_part cs (front ++ (cs ++ rest)) ≡ true
part_within cs [] rest = begins_part cs (cs ++ rest) (begins_own cs rest)
part_within cs (b ∷ front) rest = or_true (begins cs (b ∷ (front ++ (cs ++ rest)))) (is_part cs (front ++ (cs ++ rest))) (part_within cs front rest)

pub found_part : (cs bs : List ℕ) → HasSubslice bs cs → is_part cs bs ≡ true
found_part cs bs h = ap (is_part cs) h.2 ∙ part_within cs h.0 h.1
