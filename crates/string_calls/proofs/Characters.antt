-- A text stands in another where its characters do.
use Rattle.std.proofs.Common.{◌≡◌, ℕ, zero, suc, ◌+◌, ◌-◌, ◌<◌, ◌≤◌, true, false, nat_le, nat_eq, List, [], ◌∷◌, ◌++◌, length, take, drop, chars, refl, sym, ap, subst, ◌∙◌, arith, Option, Some, None, option_map, if◌then◌else◌, length-append, length-drop, length-take}
use Rattle.std.specs.List.{starts_with}
use Rattle.std.specs.Str.{IsUtf8, IsCharBoundary}
use Rattle.std.specs.Str.Pattern.{LacksTextAt}
use Rattle.std.proofs.lemmas.Bool.{le-leb}
use Rattle.std.proofs.lemmas.List.{take-append-le}
use Rattle.std.proofs.lemmas.Slice.Eq.{starts_is}
use Rattle.std.proofs.lemmas.Str.{chars-append, encodes-chars, encodes-append, length-le-encodes, IsUtf8-take}
use Rattle.variant_values.specs.StringMethods.{first_place, place_from, spelled}
use Rattle.string_calls.proofs.Places.{nat_decides, bool_cases, place_or_none, starts-yes, place_found, place_missing}
use Rattle.string_calls.proofs.Cuts.{seam, take_drop, drop_front, chars_behind}

-- a first place, which is no later than another
AtMost : Option ℕ → ℕ → Type 0
AtMost None k = ⊥
AtMost (Some i) k = i ≤ k

at_most_start : (k : ℕ) → AtMost (Some 0) k
unfolding AtMost
at_most_start k = omega arith

at_most_next : (o : Option ℕ) (k : ℕ) → AtMost o k → AtMost (option_map (λ n. suc n) o) (suc k)
unfolding AtMost
at_most_next None k h = h
at_most_next (Some i) k h = omega arith

at_most_some : (o : Option ℕ) (i k : ℕ) → Some i ≡ o → AtMost o k → i ≤ k
unfolding AtMost
at_most_some o i k is h = subst (λ p. AtMost p k) (sym is) h

at_most_none : (o : Option ℕ) (k : ℕ) → None ≡ o → AtMost o k → ⊥
unfolding AtMost
at_most_none o k is h = subst (λ p. AtMost p k) (sym is) h

place_at_most : (what text rest : List ℕ) (k : ℕ) → k ≤ length text → drop k text ≡ what ++ rest → AtMost (first_place what text) k
place_at_most what [] rest zero within is = subst (λ t. AtMost (if t then Some 0 else None) 0) (sym (starts-yes [] what rest is)) (at_most_start 0)
place_at_most what [] rest (suc k) within is = absurd (omega arith)
place_at_most what (b ∷ bs) rest zero within is = subst (λ t. AtMost (if t then Some 0 else option_map (λ n. suc n) (first_place what bs)) 0) (sym (starts-yes (b ∷ bs) what rest is)) (at_most_start 0)
place_at_most what (b ∷ bs) rest (suc k) within is =
    bool_cases (starts_with nat_eq (b ∷ bs) what) (λ t. AtMost (if t then Some 0 else option_map (λ n. suc n) (first_place what bs)) (suc k))
    (λ e. at_most_start (suc k))
    (λ e. at_most_next (first_place what bs) k (place_at_most what bs rest k (omega arith) is))

starts_text : (text what : List ℕ) → starts_with nat_eq text what ≡ true → text ≡ what ++ drop (length what) text
starts_text text what e = (starts_is nat_decides text what (starts_with nat_eq text what) refl).0 e

place_holds : (what text : List ℕ) (i : ℕ) → Some i ≡ first_place what text → drop i text ≡ what ++ drop (length what) (drop i text)
place_holds what [] i is =
    bool_cases (starts_with nat_eq [] what) (λ t. starts_with nat_eq [] what ≡ t → Some i ≡ (if t then Some 0 else None) → drop i [] ≡ what ++ drop (length what) (drop i []))
    (λ e same at. let first : i ≡ 0 = cc in subst (λ k. drop k [] ≡ what ++ drop (length what) (drop k [])) (sym first) (starts_text [] what same))
    (λ e same at. let no : Some i ≡ None = at in cc)
    refl is
place_holds what (b ∷ bs) i is =
    bool_cases (starts_with nat_eq (b ∷ bs) what) (λ t. starts_with nat_eq (b ∷ bs) what ≡ t → Some i ≡ (if t then Some 0 else option_map (λ n. suc n) (first_place what bs)) → drop i (b ∷ bs) ≡ what ++ drop (length what) (drop i (b ∷ bs)))
    (λ e same at. let first : i ≡ 0 = cc in subst (λ k. drop k (b ∷ bs) ≡ what ++ drop (length what) (drop k (b ∷ bs))) (sym first) (starts_text (b ∷ bs) what same))
    (λ e same at. place_or_none (first_place what bs) (λ o. first_place what bs ≡ o → Some i ≡ option_map (λ n. suc n) o → drop i (b ∷ bs) ≡ what ++ drop (length what) (drop i (b ∷ bs)))
    (λ gone o later. let no : Some i ≡ None = later in cc)
    (λ k there o later.
    let next : i ≡ suc k = cc in
    subst (λ n. drop n (b ∷ bs) ≡ what ++ drop (length what) (drop n (b ∷ bs))) (sym next) (place_holds what bs k (sym there)))
    refl at)
    refl is

module _ (text what : List ℕ) (u : IsUtf8 text) (v : IsUtf8 what) where
  -- where the bytes of a character begin
  abbrev byte_at : ℕ → ℕ
  byte_at k = length (spelled (take k (chars text)))

  byte_within : (k : ℕ) → byte_at k ≤ length text
  byte_within k = omega (arith, ap length (seam text k u), length-append (spelled (take k (chars text))) (spelled (drop k (chars text))))

  -- where the characters of a text stand, its bytes do
  bytes_stand : (k : ℕ) (more : List ℕ) → drop k (chars text) ≡ chars what ++ more → drop (byte_at k) text ≡ what ++ spelled more
  bytes_stand k more is =
      ap (drop (byte_at k)) (seam text k u)
      ∙ drop_front (spelled (take k (chars text))) (spelled (drop k (chars text)))
      ∙ ap spelled is ∙ encodes-append (chars what) more ∙ ap (λ t. t ++ spelled more) (encodes-chars what v)

  place_before : (k : ℕ) (more : List ℕ) → drop k (chars text) ≡ chars what ++ more → AtMost (first_place what text) (byte_at k)
  place_before k more is = place_at_most what text (spelled more) (byte_at k) (byte_within k) (bytes_stand k more is)

  pub characters_missing : None ≡ first_place what text → None ≡ first_place (chars what) (chars text)
  characters_missing is = place_missing (chars what) (chars text) (λ k within more at. at_most_none (first_place what text) (byte_at k) is (place_before k more at))

  module _ (i : ℕ) (boundary : IsCharBoundary text i) where
    abbrev front : List ℕ
    front = chars (take i text)

    chars_cut : chars text ≡ front ++ chars (drop i text)
    chars_cut = ap chars (sym (take_drop i text)) ∙ chars-append (take i text) (drop i text) (IsUtf8-take text i u boundary)

    -- an earlier character begins at an earlier byte
    byte_earlier : (k : ℕ) → k < length front → byte_at k < i
    byte_earlier k early =
        let same : take k (chars text) ≡ take k front = ap (take k) chars_cut ∙ take-append-le k front (chars (drop i text)) (omega arith) in
        let whole : take i text ≡ spelled (take k front) ++ spelled (drop k front) = seam (take i text) k (IsUtf8-take text i u boundary) in
        omega (arith, ap (λ cs. length (spelled cs)) same, ap length whole, length-append (spelled (take k front)) (spelled (drop k front)), length-le-encodes (drop k front), length-drop k front, length-take i text)

    stands : Some i ≡ first_place what text → drop (length front) (chars text) ≡ chars what ++ chars (drop (length what) (drop i text))
    stands is =
        ap (drop (length front)) chars_cut ∙ drop_front front (chars (drop i text))
        ∙ ap chars (place_holds what text i is) ∙ chars-append what (drop (length what) (drop i text)) v

    pub characters_found : Some i ≡ first_place what text → Some (length (chars (take i text))) ≡ first_place (chars what) (chars text)
    characters_found is =
        place_found (chars what) (chars text) (chars (drop (length what) (drop i text))) (length front) (omega (arith, ap length chars_cut, length-append front (chars (drop i text)))) (stands is)
        (λ k below more at. absurd (omega (arith, at_most_some (first_place what text) i (byte_at k) is (place_before k more at), byte_earlier k below)))

-- a place behind a cut
pub place_behind : (what text rest : List ℕ) (from : ℕ) → IsUtf8 text → rest ≡ spelled (drop from (chars text)) → from ≤ length (chars text) → (o : Option ℕ) → o ≡ first_place (chars what) (chars rest) → option_map (λ n. from + n) o ≡ place_from what from text
place_behind what text rest from u is within o found =
    ap (option_map (λ n. from + n)) (found ∙ ap (first_place (chars what)) (chars_behind text rest from u is))
    ∙ sym (ap (λ t. if t then option_map (λ n. from + n) (first_place (chars what) (drop from (chars text))) else None) (le-leb from (length (chars text)) within))
