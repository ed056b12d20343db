-- What frames hold is counted.
use Rattle.std.proofs.Common.{◌≡◌, ℕ, suc, ◌+◌, ◌<◌, Bool, true, false, cond, nat_eq, List, [], ◌∷◌, ◌++◌, length, get_or, map, set, refl, sym, ◌∙◌, ap, subst, Option, Some, None, is_some, arith, inl, inr}
use Rattle.std.specs.List.{range_with_len}
use Rattle.std.proofs.lemmas.List.{ext_get_or, get_or-set_same, get_or-set_other, get_or_past, length-set, get_or_append_left, get_or_push, length_push}
use Rattle.std.proofs.lemmas.List.FromFn.{length-map-range_with_len, get_or-map-range_with_len}
use Rattle.std.proofs.lemmas.List.Sums.{sum_by-cons}
use Rattle.std.proofs.lemmas.Bool.{cases_Bool, cases_eq, cases_lt, false≢true, eq-eqb, eqb-true}
use Rattle.variant_values.specs.declared.values.Value.{Value}
use Rattle.variant_values.specs.declared.cells.Cell.{Cell}
use Rattle.variant_values.specs.Places.{in_value, in_values, one_at, place_of}
use Rattle.variant_values.specs.Heaps.{Heap, KnowsAll, cell_at, held_for, holding, is_living, released, retained, with_new}
use Rattle.variant_values.specs.Sweeps.{Goes, goes, IsSwept, cut_slot, swept}
use Rattle.variant_values.specs.Trees.{freed, without_child, is_under}
use Rattle.variant_values.proofs.Freed.{cell-left, freed_is, freed_lives, lives_as_child}
use Rattle.variant_values.proofs.Holds.{let_go, living_within}
use Rattle.variant_values.proofs.Knowing.{value_within}
use Rattle.variant_values.proofs.Rounds.{swept_is}

length-holding : (cells : List (Option Cell)) (vs : List Value) → length (holding cells vs) ≡ length cells
length-holding cells vs = length-map-range_with_len (λ x. cond (is_living cells x) (in_values x vs) 0) 0 (length cells)

-- what is held of a cell
at_holding : (cells : List (Option Cell)) (vs : List Value) (x : ℕ) → get_or (holding cells vs) x 0 ≡ cond (is_living cells x) (in_values x vs) 0
at_holding cells vs x = elim (cases_lt x (length cells)) [
  | inl h ↦ get_or-map-range_with_len (λ y. cond (is_living cells y) (in_values y vs) 0) 0 (length cells) x x 0 h (omega arith)
  | inr h ↦ get_or_past (holding cells vs) x 0 (omega (arith, h, length-holding cells vs)) ∙ ap (λ s. cond (is_some s) (in_values x vs) 0) (sym (get_or_past cells x None h))
]

in_more : (x : ℕ) (v : Value) (vs : List Value) → in_values x (v ∷ vs) ≡ one_at x (place_of v) + in_values x vs
in_more x v vs = sum_by-cons (in_value x) v vs

one_here : (x : ℕ) → one_at x x ≡ 1
one_here x = ap (λ b. cond b 1 0) (eq-eqb x x refl)

one_other : (x p : ℕ) → (p ≡ x → ⊥) → one_at x p ≡ 0
one_other x p ne = elim (cases_Bool (nat_eq p x)) [
  | inl same ↦ absurd (ne (eqb-true p x same))
  | inr other ↦ ap (λ b. cond b 1 0) other
]

-- a value more
held_more : (cells : List (Option Cell)) (vs : List Value) (v : Value) (b : Bool) → is_living cells (place_of v) ≡ b → cond b (set (holding cells vs) (place_of v) (get_or (holding cells vs) (place_of v) 0 + 1)) (holding cells vs) ≡ holding cells (v ∷ vs)
held_more cells vs v true lives =
    let p = place_of v in
    let within : p < length (holding cells vs) = omega (arith, living_within cells p lives, length-holding cells vs) in
    ext_get_or 0 _ _ (length-set (holding cells vs) p _ ∙ length-holding cells vs ∙ sym (length-holding cells (v ∷ vs))) (λ x l. elim (cases_eq p x) [
      | inl same ↦ subst (λ z. get_or (set (holding cells vs) p (get_or (holding cells vs) p 0 + 1)) z 0 ≡ get_or (holding cells (v ∷ vs)) z 0) same
          (get_or-set_same (holding cells vs) p (get_or (holding cells vs) p 0 + 1) 0 within ∙ omega (arith, at_holding cells vs p, at_holding cells (v ∷ vs) p, ap (λ b. cond b (in_values p vs) 0) lives, ap (λ b. cond b (in_values p (v ∷ vs)) 0) lives, in_more p v vs, one_here p))
      | inr ne ↦ get_or-set_other (holding cells vs) p x _ 0 (λ e. ne (sym e)) ∙ at_holding cells vs x ∙ ap (λ n. cond (is_living cells x) n 0) (omega (arith, in_more x v vs, one_other x p ne)) ∙ sym (at_holding cells (v ∷ vs) x)
    ])
held_more cells vs v false gone =
    let p = place_of v in
    ext_get_or 0 _ _ (length-holding cells vs ∙ sym (length-holding cells (v ∷ vs))) (λ x l. elim (cases_eq p x) [
      | inl same ↦ subst (λ z. get_or (holding cells vs) z 0 ≡ get_or (holding cells (v ∷ vs)) z 0) same (at_holding cells vs p ∙ ap (λ b. cond b (in_values p vs) 0) gone ∙ sym (ap (λ b. cond b (in_values p (v ∷ vs)) 0) gone) ∙ sym (at_holding cells (v ∷ vs) p))
      | inr ne ↦ at_holding cells vs x ∙ ap (λ n. cond (is_living cells x) n 0) (omega (arith, in_more x v vs, one_other x p ne)) ∙ sym (at_holding cells (v ∷ vs) x)
    ])

pub retains_more : (h : Heap) (vs : List Value) (v : Value) → retained (held_for h vs) v ≡ held_for h (v ∷ vs)
retains_more h vs v = λ i. record h { held = held_more h.cells vs v (is_living h.cells (place_of v)) refl i }

pub releases_one : (h : Heap) (vs : List Value) (v : Value) → released (held_for h (v ∷ vs)) v ≡ held_for h vs
releases_one h vs v = ap (λ g. released g v) (sym (retains_more h vs v)) ∙ let_go (held_for h vs) v (length-holding h.cells vs)

pub in_any_order : (h : Heap) (vs ws : List Value) → ((x : ℕ) → in_values x vs ≡ in_values x ws) → held_for h vs ≡ held_for h ws
in_any_order h vs ws same = λ i. record h { held = map (λ x. cond (is_living h.cells x) (same x i) 0) (range_with_len 0 (length h.cells)) }

pub held_as_living : (a b : List (Option Cell)) (vs : List Value) → length b ≡ length a → ((x : ℕ) → is_living b x ≡ is_living a x) → holding b vs ≡ holding a vs
held_as_living a b vs e same = λ i. map (λ x. cond (same x i) (in_values x vs) 0) (range_with_len 0 (e i))

cut_lives : (p : ℕ → Bool) (s : Option Cell) → is_some (cut_slot p s) ≡ is_some s
cut_lives p None = refl
cut_lives p (Some c) = refl

unheld : (cells : List (Option Cell)) (held : List ℕ) (x : ℕ) → Goes cells held x → get_or held x 0 ≡ 0
unheld cells held w (goes x counted none places) = none

over_sweep : (h new : Heap) (vs : List Value) → h.held ≡ holding h.cells vs → IsSwept h new → new.held ≡ holding new.cells vs
over_sweep h new vs e s = s.held ∙ e ∙ ext_get_or 0 _ _ (length-holding h.cells vs ∙ sym s.serials ∙ sym (length-holding new.cells vs)) (λ x l. elim (s.cells x) [
  | inl went ↦ ap (λ t. get_or t x 0) (sym e) ∙ unheld h.cells h.held x went.0 ∙ sym (ap (λ c. cond (is_some c) (in_values x vs) 0) went.1) ∙ sym (at_holding new.cells vs x)
  | inr left ↦ at_holding h.cells vs x ∙ ap (λ b. cond b (in_values x vs) 0) (sym (ap is_some left.1 ∙ cut_lives (is_living new.cells) (cell_at h.cells x))) ∙ sym (at_holding new.cells vs x)
])

pub swept_holds : (h : Heap) (vs : List Value) → swept (held_for h vs) ≡ held_for (swept (held_for h vs)) vs
swept_holds h vs = λ i. record (swept (held_for h vs)) { held = over_sweep (held_for h vs) (swept (held_for h vs)) vs refl (swept_is (held_for h vs)) i }

twice : (b c : Bool) (n : ℕ) → (b ≡ true → c ≡ true) → cond b (cond c n 0) 0 ≡ cond b n 0
twice true c n e = ap (λ d. cond d n 0) (e refl)
twice false c n e = refl

left_lived : (b : Bool) (s : Option Cell) → is_some (cond b None s) ≡ true → is_some s ≡ true
left_lived true s e = absurd (false≢true e)
left_lived false s e = e

pub freed_holds : (h : Heap) (top : ℕ) (vs : List Value) → freed (held_for h vs) top ≡ held_for (freed h top) vs
freed_holds h top vs =
    let g = held_for h vs in
    let w = freed_is g top in
    λ i. record (freed h top) {
      held = ext_get_or 0 (freed g top).held (holding (freed h top).cells vs) (w.places ∙ length-holding h.cells vs ∙ sym w.serials ∙ sym (length-holding (freed h top).cells vs)) (λ x l.
          w.held x
          ∙ ap (λ n. cond (is_living (freed h top).cells x) n 0) (at_holding h.cells vs x)
          ∙ twice (is_living (freed h top).cells x) (is_living h.cells x) (in_values x vs) (λ lives. sym (lives_as_child h.cells top x) ∙ left_lived (is_under h.cells top x) (cell_at (without_child h.cells top) x) (sym (ap is_some (cell-left h.cells top x)) ∙ sym (freed_lives h top x) ∙ lives))
          ∙ sym (at_holding (freed h top).cells vs x)) i;
    }

held_nowhere : (x : ℕ) (vs : List Value) → ((i : ℕ) (d : Value) → i < length vs → place_of (get_or vs i d) < x) → in_values x vs ≡ 0
held_nowhere x [] k = refl
held_nowhere x (v ∷ vs) k = omega (arith, in_more x v vs, one_other x (place_of v) (λ e. absurd (omega (arith, e, k 0 v (omega arith)))), held_nowhere x vs (λ i d l. k (suc i) d (omega (arith, l))))

pub grown_holds : (h : Heap) (c : Cell) (vs : List Value) → 0 < length h.cells → KnowsAll h.cells vs → with_new (held_for h vs) c ≡ held_for (with_new h c) vs
grown_holds h c vs some known =
    let cells = h.cells ++ Some c ∷ [] in
    let old = holding h.cells vs in
    λ i. record (with_new h c) {
      held = ext_get_or 0 (old ++ 0 ∷ []) (holding cells vs) (length_push old 0 ∙ ap (λ n. n + 1) (length-holding h.cells vs) ∙ sym (length_push h.cells (Some c)) ∙ sym (length-holding cells vs)) (λ x l. elim (cases_lt x (length h.cells)) [
        | inl within ↦ get_or_append_left old (0 ∷ []) 0 x (omega (arith, within, length-holding h.cells vs)) ∙ at_holding h.cells vs x ∙ ap (λ s. cond (is_some s) (in_values x vs) 0) (sym (get_or_append_left h.cells (Some c ∷ []) None x within)) ∙ sym (at_holding cells vs x)
        | inr past ↦
            let last : length h.cells ≡ x = omega (arith, past, l, length_push old 0, length-holding h.cells vs) in
            get_or_push old 0 0 x (length-holding h.cells vs ∙ last)
            ∙ sym (held_nowhere x vs (λ i d k. omega (arith, last, value_within h.cells (get_or vs i d) some (known i d k))))
            ∙ sym (ap (λ s. cond (is_some s) (in_values x vs) 0) (get_or_push h.cells (Some c) None x last))
            ∙ sym (at_holding cells vs x)
      ]) i;
    }
