-- The test of a subtree says what is in one, and no node is below itself.
use Rattle.std.proofs.Common.{◌≡◌, ℕ, zero, suc, ◌<◌, ◌≤◌, Bool, true, false, cond, ◌||◌, nat_eq, List, [], ◌∷◌, length, set, refl, sym, ◌∙◌, ap, subst, Option, Some, None, is_some, inl, inr, ◌⊎◌, arith}
use Rattle.std.specs.List.{sum_by}
use Rattle.std.proofs.lemmas.List.{get_or-set_same, get_or-set_other, get_or_past, set_past}
use Rattle.std.proofs.lemmas.List.Sums.{sum_by-set, sum_by-cons, get_or-le-sum_by}
use Rattle.std.proofs.lemmas.Bool.{cases_eq, cases_lt, false≢true, eqb-true, eq-eqb}
use Rattle.variant_values.specs.declared.values.Serial.{Serial}
use Rattle.variant_values.specs.declared.cells.Cell.{Cell}
use Rattle.variant_values.specs.Heaps.{cell_at}
use Rattle.variant_values.specs.Trees.{parent_of, at_parent, leads, is_under, IsUnder, itself, below, IsGrounded, root, child}

or_first : (x y : Bool) → x ≡ true → (x || y) ≡ true
or_first true y e = refl
or_first false y e = absurd (false≢true e)

or_second : (x y : Bool) → y ≡ true → (x || y) ≡ true
or_second true y e = refl
or_second false y e = e

or_either : (x y : Bool) → (x || y) ≡ true → (x ≡ true) ⊎ (y ≡ true)
or_either true y e = inl refl
or_either false y e = inr e

at_true : (test : ℕ → Bool) (o : Option Serial) → at_parent test o ≡ true → (p : Serial) × (o ≡ Some p) × (test p.0 ≡ true)
at_true test None e = absurd (false≢true e)
at_true test (Some p) e = (p, refl, e)

the_top : (cells : List (Option Cell)) (top x : ℕ) → nat_eq x top ≡ true → IsUnder cells top x
the_top cells top x e = subst (λ y. IsUnder cells top y) (sym (eqb-true x top e)) itself

leads_under : (n : ℕ) (cells : List (Option Cell)) (top x : ℕ) → leads n cells top x ≡ true → IsUnder cells top x
leads_under zero cells top x e = the_top cells top x e
leads_under (suc n) cells top x e = elim (or_either (nat_eq x top) _ e) [
  | inl here ↦ the_top cells top x here
  | inr above ↦ let up = at_true (leads n cells top) (parent_of (cell_at cells x)) above in below x up.0 up.1 (leads_under n cells top up.0.0 up.2)
]

-- a cell is taken out: what still has a parent had it
parent_removed : (cells : List (Option Cell)) (x y : ℕ) (p : Serial) → parent_of (cell_at (set cells x None) y) ≡ Some p → parent_of (cell_at cells y) ≡ Some p
parent_removed cells x y p e = elim (cases_eq x y) [
  | inl same ↦ elim (cases_lt x (length cells)) [
    | inl within ↦ absurd (false≢true (ap is_some (sym (ap parent_of (subst (λ z. cell_at (set cells x None) z ≡ None) same (get_or-set_same cells x None None within))) ∙ e)))
    | inr past ↦ sym (ap (λ c. parent_of (cell_at c y)) (set_past cells x None past)) ∙ e
  ]
  | inr ne ↦ sym (ap parent_of (get_or-set_other cells x y None None (λ e. ne (sym e)))) ∙ e
]

still_leads : (n : ℕ) (cells : List (Option Cell)) (x top y : ℕ) → leads n (set cells x None) top y ≡ true → leads n cells top y ≡ true
still_leads zero cells x top y e = e
still_leads (suc n) cells x top y e = elim (or_either (nat_eq y top) _ e) [
  | inl here ↦ or_first (nat_eq y top) _ here
  | inr above ↦
      let up = at_true (leads n (set cells x None) top) (parent_of (cell_at (set cells x None) y)) above in
      or_second (nat_eq y top) _ (ap (at_parent (leads n cells top)) (parent_removed cells x y up.0 up.1) ∙ still_leads n cells x top up.0.0 up.2)
]

-- without x, what is under the top still is, or the parent of x is
without : (cells : List (Option Cell)) (top x : ℕ) (p : Serial) → parent_of (cell_at cells x) ≡ Some p → (y : ℕ) → IsUnder cells top y → IsUnder (set cells x None) top y ⊎ IsUnder (set cells x None) top p.0
without cells top x p e w itself = inl itself
without cells top x p e w (below y q f u) = elim (without cells top x p e q.0 u) [
  | inl still ↦ elim (cases_eq x y) [
    | inl same ↦ inr (subst (λ (s : Serial). IsUnder (set cells x None) top s.0) (let h : Some q ≡ Some p = sym f ∙ ap (λ z. parent_of (cell_at cells z)) (sym same) ∙ e in cc) still)
    | inr ne ↦ inl (below y q (ap parent_of (get_or-set_other cells x y None None (λ e. ne (sym e))) ∙ f) still)
  ]
  | inr there ↦ inr there
]

abbrev one_if : Option Cell → ℕ
one_if s = cond (is_some s) 1 0

abbrev living : List (Option Cell) → ℕ
living cells = sum_by one_if cells

one_if_le : (s : Option Cell) → one_if s ≤ 1
one_if_le None = omega arith
one_if_le (Some c) = omega arith

living_le : (cells : List (Option Cell)) → living cells ≤ length cells
living_le [] = omega arith
living_le (s ∷ ss) = omega (arith, sum_by-cons one_if s ss, living_le ss, one_if_le s)

-- a cell with a parent lives
parent_lives : (s : Option Cell) (p : Serial) → parent_of s ≡ Some p → one_if s ≡ 1
parent_lives None p e = absurd (false≢true (ap is_some e))
parent_lives (Some c) p e = refl

parent_within : (cells : List (Option Cell)) (x : ℕ) (p : Serial) → parent_of (cell_at cells x) ≡ Some p → x < length cells
parent_within cells x p e = elim (cases_lt x (length cells)) [ inl h ↦ h | inr h ↦ absurd (false≢true (ap is_some (sym (ap parent_of (get_or_past cells x None h)) ∙ e))) ]

under_leads : (n : ℕ) (cells : List (Option Cell)) (top x : ℕ) → living cells ≤ n → IsUnder cells top x → leads n cells top x ≡ true
under_leads zero cells top w few itself = eq-eqb top top refl
under_leads zero cells top w few (below x p e u) = absurd (omega (arith, few, parent_lives (cell_at cells x) p e, get_or-le-sum_by one_if cells x None (parent_within cells x p e)))
under_leads (suc n) cells top w few itself = or_first (nat_eq top top) _ (eq-eqb top top refl)
under_leads (suc n) cells top w few (below x p e u) =
    let there : IsUnder (set cells x None) top p.0 = elim (without cells top x p e p.0 u) [ inl t ↦ t | inr t ↦ t ] in
    let fewer : living (set cells x None) ≤ n = omega (arith, few, parent_lives (cell_at cells x) p e, sum_by-set one_if cells x None None (parent_within cells x p e)) in
    or_second (nat_eq x top) _ (ap (at_parent (leads n cells top)) e ∙ still_leads n cells x top p.0 (under_leads n (set cells x None) top p.0 fewer there))

pub under_is : (cells : List (Option Cell)) (top x : ℕ) → IsUnder cells top x → is_under cells top x ≡ true
under_is cells top x u = under_leads (length cells) cells top x (living_le cells) u

pub is_under_only : (cells : List (Option Cell)) (top x : ℕ) → is_under cells top x ≡ true → IsUnder cells top x
is_under_only cells top x e = leads_under (length cells) cells top x e

pub under_trans : (cells : List (Option Cell)) (a b w : ℕ) → IsUnder cells a b → IsUnder cells b w → IsUnder cells a w
under_trans cells a b w u itself = u
under_trans cells a b w u (below x p e v) = below x p e (under_trans cells a b p.0 u v)

above_again : (cells : List (Option Cell)) (x : ℕ) (q : Serial) → parent_of (cell_at cells x) ≡ Some q → ((p : Serial) → parent_of (cell_at cells q.0) ≡ Some p → IsUnder cells q.0 p.0 → ⊥) → (y : ℕ) → y ≡ q.0 → IsUnder cells x y → ⊥
above_again cells x q f rec w same itself = rec q (ap (λ z. parent_of (cell_at cells z)) (sym same) ∙ f) itself
above_again cells x q f rec w same (below y r e v) = rec r (ap (λ z. parent_of (cell_at cells z)) (sym same) ∙ e) (under_trans cells q.0 x r.0 (below x q f itself) v)

-- no node from which the way up ends is below itself
pub no_loop : (cells : List (Option Cell)) (w : ℕ) → IsGrounded cells w → (p : Serial) → parent_of (cell_at cells w) ≡ Some p → IsUnder cells w p.0 → ⊥
no_loop cells w (root x none) p e u = false≢true (ap is_some (sym none ∙ e))
no_loop cells w (child x q f g) p e u = above_again cells x q f (λ r e v. no_loop cells q.0 g r e v) p.0 (let h : Some p ≡ Some q = sym e ∙ f in cc) u
