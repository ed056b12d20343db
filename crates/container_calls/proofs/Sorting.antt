-- A list in order that has the items of another is that list put in order.
use Rattle.std.proofs.Common.{◌≡◌, ℕ, ◌+◌, ◌<◌, ◌≤◌, ◌∙◌, zero, suc, ap, sym, subst, refl, Bool, true, false, cond, List, [], ◌∷◌, length, get_or, arith, add-one, inl, inr}
use Rattle.std.specs.Prelude.{All}
use Rattle.std.specs.List.{sum_by}
use Rattle.std.specs.List.Sorted.{IsPermutation, IsSortedBy}
use Rattle.std.specs.Cmp.{IsStrictWeakOrder, IsTotalOrder}
use Rattle.std.specs.Ordering.{is_lt, is_eq, int_cmp, nat_cmp, ordering_reverse}
use Rattle.std.specs.declared.cmp.Ordering.{Ordering}
use Rattle.std.specs.declared.cmp.Ordering.TheVariants.{Less, Equal, Greater}
use Rattle.std.specs.Cmp.Lexicographic.{slice_cmp}
use Rattle.std.proofs.lemmas.Cmp.{int_cmp_total, int_ranked, nat_list_cmp_total}
use Rattle.std.proofs.lemmas.Slice.Eq.{bytes_eq-Decides}
use Rattle.std.proofs.lemmas.Map.Text.{is_eq-slice_cmp}
use Rattle.std.proofs.Common.{ℤ}
use Rattle.variant_values.specs.declared.values.Value.TheVariants.{Null, Bool as Truth, Int, Str, Array, Dict, Object, Callable, Signal, Class, Scene, Weak}
use Rattle.variant_values.specs.Operators.{is_text}
use Rattle.std.specs.List.{list_all}
use Rattle.std.proofs.lemmas.Bool.{cases_lt, and_parts}
use Rattle.std.proofs.lemmas.List.Elements.{All-cons, All-head, All-tail}
use Rattle.std.proofs.lemmas.List.Sorted.{sum_by-IsPermutation, All-permutation, IsPermutation-cons, IsPermutation-insert, IsPermutation-refl, IsPermutation-trans, ranks_by}
use Rattle.std.proofs.lemmas.List.Sums.{sum_by-cons}
use Rattle.variant_values.specs.declared.values.Value.{Value}
use Rattle.variant_values.specs.ArrayMethods.{put_in, in_order, is_number, number_before, number_in, text_before, text_in}

module _ (lt : Value → Value → Bool) (P : Value → Type 0) where
  put_all : (v : Value) (us : List Value) → P v → All P us → All P (put_in lt v us)
  put_all v [] p a = All-cons P v [] p a
  put_all v (u ∷ us) p a = by (put_all v us p (All-tail P u us a)) (lt u v)
    where
      by : All P (put_in lt v us) → (b : Bool) → All P (cond b (u ∷ put_in lt v us) (v ∷ u ∷ us))
      by later true = All-cons P u (put_in lt v us) (All-head P u us a) later
      by later false = All-cons P v (u ∷ us) p a

  pub order_all : (vs : List Value) → All P vs → All P (in_order lt vs)
  order_all [] a = a
  order_all (v ∷ vs) a = put_all v (in_order lt vs) (All-head P v vs a) (order_all vs (All-tail P v vs a))

module _ (lt : Value → Value → Bool) where
  put_same : (v : Value) (us : List Value) → IsPermutation (v ∷ us) (put_in lt v us)
  put_same v [] = IsPermutation-refl (v ∷ [])
  put_same v (u ∷ us) = by (put_same v us) (lt u v)
    where
      by : IsPermutation (v ∷ us) (put_in lt v us) → (b : Bool) → IsPermutation (v ∷ u ∷ us) (cond b (u ∷ put_in lt v us) (v ∷ u ∷ us))
      by later true = IsPermutation-trans (v ∷ u ∷ us) (u ∷ v ∷ us) (u ∷ put_in lt v us) (IsPermutation-insert (u ∷ us) 1 v) (IsPermutation-cons u (v ∷ us) (put_in lt v us) later)
      by later false = IsPermutation-refl (v ∷ u ∷ us)

  pub order_same : (vs : List Value) → IsPermutation vs (in_order lt vs)
  order_same [] = IsPermutation-refl []
  order_same (v ∷ vs) = IsPermutation-trans (v ∷ vs) (v ∷ in_order lt vs) (put_in lt v (in_order lt vs)) (IsPermutation-cons v vs (in_order lt vs) (order_same vs)) (put_same v (in_order lt vs))

module _ (lt : Value → Value → Bool) (o : IsStrictWeakOrder lt) where
  abbrev Least : Value → List Value → Type 0
  Least v [] = Unit {0}
  Least v (w ∷ ws) = (lt w v ≡ false) × Least v ws

  abbrev Up : List Value → Type 0
  Up [] = Unit {0}
  Up (v ∷ vs) = Least v vs × Up vs

  -- 1 where neither comes before the other
  abbrev tie : Value → Value → ℕ
  tie v w = cond (lt v w) 0 (cond (lt w v) 0 1)

  own : (v : Value) → lt v v ≡ false
  own v = by (lt v v) refl
    where
      by : (b : Bool) → lt v v ≡ b → lt v v ≡ false
      by true e = o.one_way v v e
      by false e = e

  tie_own : (v : Value) → tie v v ≡ 1
  tie_own v = ap (λ b. cond b 0 (cond b 0 1)) (own v)

  least_chain : (v w : Value) (us : List Value) → lt w v ≡ false → Least w us → Least v us
  least_chain v w [] h l = tt
  least_chain v w (u ∷ us) h l = (o.chain u w v l.0 h, least_chain v w us h l.1)

  least_put : (v w : Value) (us : List Value) → lt w v ≡ false → Least v us → Least v (put_in lt w us)
  least_put v w [] h l = (h, tt)
  least_put v w (u ∷ us) h l = by (least_put v w us h l.1) (lt u w)
    where
      by : Least v (put_in lt w us) → (b : Bool) → Least v (cond b (u ∷ put_in lt w us) (w ∷ u ∷ us))
      by later true = (l.0, later)
      by later false = (h, l)

  put_up : (v : Value) (us : List Value) → Up us → Up (put_in lt v us)
  put_up v [] h = (tt, tt)
  put_up v (u ∷ us) h = by (put_up v us h.1) (lt u v) refl
    where
      by : Up (put_in lt v us) → (b : Bool) → lt u v ≡ b → Up (cond b (u ∷ put_in lt v us) (v ∷ u ∷ us))
      by later true e = (least_put u v us (o.one_way u v e) h.0, later)
      by later false e = ((e, least_chain v u us e h.0), h)

  order_up : (vs : List Value) → Up (in_order lt vs)
  order_up [] = tt
  order_up (v ∷ vs) = put_up v (in_order lt vs) (order_up vs)

  next_sorted : (v w : Value) (ws : List Value) → lt w v ≡ false → IsSortedBy lt (w ∷ ws) → (k : ℕ) (d : Value) → k + 1 < length (v ∷ w ∷ ws) → lt (get_or (v ∷ w ∷ ws) (k + 1) d) (get_or (v ∷ w ∷ ws) k d) ≡ false
  next_sorted v w ws h s zero d l = h
  next_sorted v w ws h s (suc k) d l = let next : suc (k + 1) ≡ suc k + 1 = omega arith in subst (λ m. lt (get_or (v ∷ w ∷ ws) m d) (get_or (v ∷ w ∷ ws) (suc k) d) ≡ false) next (s k d (omega arith) (omega (arith, l)))

  up_sorted : (vs : List Value) → Up vs → IsSortedBy lt vs
  up_sorted [] u = λ k d m l. absurd (omega (arith, l))
  up_sorted (v ∷ []) u = λ k d m l. absurd (omega (arith, l))
  up_sorted (v ∷ w ∷ ws) u = λ k d m l. next_sorted v w ws u.0.0 (up_sorted (w ∷ ws) u.1) k d l

  pub order_sorted : (vs : List Value) → IsSortedBy lt (in_order lt vs)
  order_sorted vs = up_sorted (in_order lt vs) (order_up vs)

  sum_put : (f : Value → ℕ) (v : Value) (us : List Value) → sum_by f (put_in lt v us) ≡ f v + sum_by f us
  sum_put f v [] = sum_by-cons f v []
  sum_put f v (u ∷ us) = by (sum_put f v us) (lt u v)
    where
      by : sum_by f (put_in lt v us) ≡ f v + sum_by f us → (b : Bool) → sum_by f (cond b (u ∷ put_in lt v us) (v ∷ u ∷ us)) ≡ f v + sum_by f (u ∷ us)
      by later true = omega (arith, later, sum_by-cons f u (put_in lt v us), sum_by-cons f u us)
      by later false = sum_by-cons f v (u ∷ us)

  sum_order : (f : Value → ℕ) (vs : List Value) → sum_by f (in_order lt vs) ≡ sum_by f vs
  sum_order f [] = refl
  sum_order f (v ∷ vs) = omega (arith, sum_put f v (in_order lt vs), sum_order f vs, sum_by-cons f v vs)

  rest_sorted : (v : Value) (vs : List Value) → IsSortedBy lt (v ∷ vs) → IsSortedBy lt vs
  rest_sorted v vs s = λ k d l h. let next : suc k + 1 ≡ suc (k + 1) = omega arith in subst (λ m. lt (get_or (v ∷ vs) m d) (get_or (v ∷ vs) (suc k) d) ≡ false) next (s (suc k) d (omega arith) (omega (arith, h)))

  head : (v : Value) (us : List Value) → (0 < length us → lt (get_or (v ∷ us) (0 + 1) v) v ≡ false) → Up us → Least v us
  head v [] g u = tt
  head v (w ∷ ws) g u = let first : lt w v ≡ false = g (omega arith) in (first, least_chain v w ws first u.0)

  sorted_up : (vs : List Value) → IsSortedBy lt vs → Up vs
  sorted_up [] s = tt
  sorted_up (v ∷ vs) s = let later = sorted_up vs (rest_sorted v vs s) in (head v vs (λ h. s 0 v (omega arith) (omega (arith, h))) later, later)

  tied : (v w : Value) → 0 < tie v w → lt v w ≡ false
  tied v w h = by (lt v w) refl h
    where
      by : (b : Bool) → lt v w ≡ b → 0 < cond b 0 (cond (lt w v) 0 1) → lt v w ≡ false
      by true e g = absurd (omega (arith, g))
      by false e g = e

  found : (v w : Value) (us : List Value) → Least w us → 0 < sum_by (tie v) us → lt v w ≡ false
  found v w [] l h = absurd (omega (arith, h))
  found v w (u ∷ us) l h = elim (cases_lt 0 (tie v u)) [
    | inl here ↦ o.chain v u w (tied v u here) l.0
    | inr none ↦ found v w us l.1 (omega (arith, h, none, sum_by-cons (tie v) u us))
  ]

  first : (v w : Value) (us : List Value) → Least w us → 0 < sum_by (tie v) (w ∷ us) → lt v w ≡ false
  first v w us l h = elim (cases_lt 0 (tie v w)) [
    | inl here ↦ tied v w here
    | inr none ↦ found v w us l (omega (arith, h, none, sum_by-cons (tie v) w us))
  ]

  module _ (P : Value → Type 0) (same : (v w : Value) → P v → P w → lt v w ≡ false → lt w v ≡ false → v ≡ w) where
    unique : (vs ws : List Value) → Up vs → Up ws → All P vs → All P ws → ((u : Value) → sum_by (tie u) vs ≡ sum_by (tie u) ws) → vs ≡ ws
    unique [] [] a b p q c = refl
    unique [] (w ∷ ws) a b p q c = absurd (omega (arith, c w, tie_own w, sum_by-cons (tie w) w ws))
    unique (v ∷ vs) [] a b p q c = absurd (omega (arith, c v, tie_own v, sum_by-cons (tie v) v vs))
    unique (v ∷ vs) (w ∷ ws) a b p q c =
        let left : lt v w ≡ false = first v w ws b.0 (omega (arith, c v, tie_own v, sum_by-cons (tie v) v vs)) in
        let right : lt w v ≡ false = first w v vs a.0 (omega (arith, c w, tie_own w, sum_by-cons (tie w) w ws)) in
        let one : v ≡ w = same v w (All-head P v vs p) (All-head P w ws q) left right in
        let tails : vs ≡ ws = unique vs ws a.1 b.1 (All-tail P v vs p) (All-tail P w ws q) (λ u. omega (arith, c u, ap (tie u) one, sum_by-cons (tie u) v vs, sum_by-cons (tie u) w ws)) in
        ap (λ x. x ∷ vs) one ∙ ap (λ xs. w ∷ xs) tails

    pub sorted_is : (vs ws : List Value) → All P vs → IsPermutation vs ws → IsSortedBy lt ws → ws ≡ in_order lt vs
    sorted_is vs ws p m s = unique ws (in_order lt vs) (sorted_up ws s) (order_up vs) (All-permutation P vs ws m p) (order_all lt P vs p) (λ u. sum_by-IsPermutation (tie u) vs ws m ∙ sym (sum_order (tie u) vs))

-- two that neither come before the other, in a total order
module _ {K : Type 0} (R : K → K → Ordering) (o : IsTotalOrder R) (equal : (a b : K) → R a b ≡ Equal → a ≡ b) where
  same_rank : (a b : K) → is_lt (R a b) ≡ false → is_lt (R b a) ≡ false → a ≡ b
  same_rank a b h g = by (R a b) refl h
    where
      by : (r : Ordering) → R a b ≡ r → is_lt r ≡ false → a ≡ b
      by Less e k = cc
      by Equal e k = equal a b e
      by Greater e k = let turned : R b a ≡ Less = o.antisymm b a ∙ ap ordering_reverse e in let now : is_lt (R b a) ≡ true = ap is_lt turned in cc

int_equal : (a b : ℤ) → int_cmp a b ≡ Equal → a ≡ b
int_equal a b e = int_ranked a b Equal (sym e)

text_equal : (a b : List ℕ) → slice_cmp nat_cmp a b ≡ Equal → a ≡ b
text_equal a b e = (bytes_eq-Decides a b).0 (sym (is_eq-slice_cmp a b) ∙ ap is_eq e)

number_same : (v w : Value) → is_number v ≡ true → is_number w ≡ true → number_in v ≡ number_in w → v ≡ w
number_same (Int a) (Int b) p q e = ap (λ n. Int n) e
number_same v w p q e = cc

text_same : (v w : Value) → is_text v ≡ true → is_text w ≡ true → text_in v ≡ text_in w → v ≡ w
text_same (Str a) (Str b) p q e = ap (λ n. Str n) e
text_same v w p q e = cc

all_pass : (p : Value → Bool) (vs : List Value) → list_all p vs ≡ true → All (λ v. p v ≡ true) vs
all_pass p [] h = λ i d l. absurd (omega (arith, l))
all_pass p (v ∷ vs) h = let parts = and_parts (p v) (list_all p vs) h in All-cons (λ u. p u ≡ true) v vs parts.0 (all_pass p vs parts.1)

pub numbers_rank : IsStrictWeakOrder number_before
numbers_rank = ranks_by int_cmp_total number_in

pub texts_rank : IsStrictWeakOrder text_before
texts_rank = ranks_by nat_list_cmp_total text_in

pub numbers_sorted : (vs ws : List Value) → list_all is_number vs ≡ true → IsPermutation vs ws → IsSortedBy number_before ws → ws ≡ in_order number_before vs
numbers_sorted vs ws h m s = sorted_is number_before numbers_rank (λ v. is_number v ≡ true) (λ v w p q a b. number_same v w p q (same_rank int_cmp int_cmp_total int_equal (number_in v) (number_in w) a b)) vs ws (all_pass is_number vs h) m s

pub texts_sorted : (vs ws : List Value) → list_all is_text vs ≡ true → IsPermutation vs ws → IsSortedBy text_before ws → ws ≡ in_order text_before vs
texts_sorted vs ws h m s = sorted_is text_before texts_rank (λ v. is_text v ≡ true) (λ v w p q a b. text_same v w p q (same_rank (slice_cmp nat_cmp) nat_list_cmp_total text_equal (text_in v) (text_in w) a b)) vs ws (all_pass is_text vs h) m s
