-- The steps of a walk.
use Rattle.std.proofs.Common.{◌≡◌, ℕ, zero, suc, ◌+◌, ◌-◌, ◌<◌, ◌≤◌, ◌∙◌, ap, sym, subst, refl, Bool, cond, true, false, List, [], ◌∷◌, length, get_or, drop, arith, Option, Some, None, Result, Ok, Err}
use Rattle.std.specs.Prelude.{nat_eq, slice_get}
use Rattle.std.proofs.lemmas.List.{at_drop_more, at_drop_all, get_or_default}
use Rattle.std.proofs.lemmas.Option.{get_or_from_slice_get, slice_get_within, slice_get-get_or}
use Rattle.std.proofs.lemmas.Bool.{ne_eqb}
use Rattle.std.specs.Map.{lookup}
use Rattle.variant_values.specs.Keys.{same_key}
use Rattle.variant_values.specs.Heaps.{knows, knows_key}
use Rattle.variant_values.specs.declared.cells.Cell.{Cell}
use Rattle.variant_values.specs.declared.faults.RunFault.TheVariants.{TooDeep}
use Rattle.variant_values.specs.declared.values.Key.{Key}
use Rattle.variant_values.specs.declared.values.Value.{Value}
use Rattle.variant_values.specs.Comparisons.{Walk, come_to, then_on, same_found, same_at, same_by, same_items, same_entries}
use Rattle.variant_values.specs.Heaps.{KnowsEntries}
use Rattle.container_calls.specs.Walks.{arrays_at, dicts_at, left_of}

pub at_is : (cells : List (Option Cell)) (levels : ℕ) (v w : Value) (room : ℕ) → same_at cells levels v w room ≡ same_by cells (arrays_at cells levels) (dicts_at cells levels) v w room
unfolding same_at
at_is cells zero v w room = refl
at_is cells (suc levels) v w room = refl

pub arrays_closed : (cells : List (Option Cell)) (levels : ℕ) (vs ws : List Value) (room : ℕ) → levels ≡ 0 → arrays_at cells levels vs ws room ≡ Err TooDeep
arrays_closed cells levels vs ws room e = ap (λ n. arrays_at cells n vs ws room) e

pub arrays_open : (cells : List (Option Cell)) (levels below : ℕ) (vs ws : List Value) (room : ℕ) → levels ≡ suc below → arrays_at cells levels vs ws room ≡ same_items (λ a b n. same_at cells below a b n) vs ws room
arrays_open cells levels below vs ws room e = ap (λ n. arrays_at cells n vs ws room) e

pub dicts_closed : (cells : List (Option Cell)) (levels : ℕ) (es fs : List (Key × Value)) (room : ℕ) → levels ≡ 0 → dicts_at cells levels es fs room ≡ Err TooDeep
dicts_closed cells levels es fs room e = ap (λ n. dicts_at cells n es fs room) e

pub dicts_open : (cells : List (Option Cell)) (levels below : ℕ) (es fs : List (Key × Value)) (room : ℕ) → levels ≡ suc below → dicts_at cells levels es fs room ≡ same_entries (λ a b n. same_at cells below a b n) es fs room
dicts_open cells levels below es fs room e = ap (λ n. dicts_at cells n es fs room) e

module _ (f : Value → Value → ℕ → Walk) where
  pub items_end : (vs ws : List Value) (i left : ℕ) (whole : Walk) → length vs ≤ i → whole ≡ same_items f (drop i vs) (drop i ws) left → whole ≡ Ok (Some left)
  items_end vs ws i left whole past h = h ∙ at_drop_all (λ us. same_items f us (drop i ws) left) vs i past

  items_more : (vs ws : List Value) (i left : ℕ) (v w : Value) (whole : Walk) → i < length vs → i < length ws → v ≡ get_or vs i v → w ≡ get_or ws i w → whole ≡ same_items f (drop i vs) (drop i ws) left → whole ≡ come_to left (λ n. then_on (f v w n) (λ rest. same_items f (drop (i + 1) vs) (drop (i + 1) ws) rest))
  items_more vs ws i left v w whole m n e g h =
      h
      ∙ at_drop_more (λ us. same_items f us (drop i ws) left) vs i v m
      ∙ at_drop_more (λ us. same_items f (get_or vs i v ∷ drop (i + 1) vs) us left) ws i w n
      ∙ ap (λ x. come_to left (λ k. then_on (f x (get_or ws i w) k) (λ rest. same_items f (drop (i + 1) vs) (drop (i + 1) ws) rest))) (sym e)
      ∙ ap (λ x. come_to left (λ k. then_on (f v x k) (λ rest. same_items f (drop (i + 1) vs) (drop (i + 1) ws) rest))) (sym g)

come_next : (room : ℕ) (next : ℕ → Walk) (whole : Walk) → whole ≡ come_to room next → 0 < room → whole ≡ next (room - 1)
come_next room next whole h l = h ∙ ap (λ b. cond b (Err TooDeep) (next (room - 1))) (ne_eqb room 0 (λ e. omega (arith, l, e)))

then_stops : (walked : Walk) (next : ℕ → Walk) (whole : Walk) → whole ≡ then_on walked next → left_of walked ≡ None → whole ≡ walked
then_stops (Ok (Some left)) next whole h e = cc
then_stops (Ok None) next whole h e = h
then_stops (Err fault) next whole h e = h

then_goes : (walked : Walk) (next : ℕ → Walk) (whole : Walk) (left : ℕ) → whole ≡ then_on walked next → left_of walked ≡ Some left → whole ≡ next left
then_goes (Ok (Some n)) next whole left h e = let same : n ≡ left = cc in h ∙ ap next same
then_goes (Ok None) next whole left h e = cc
then_goes (Err fault) next whole left h e = cc

module _ (f : Value → Value → ℕ → Walk) where
  pub entries_end : (es fs : List (Key × Value)) (i left : ℕ) (whole : Walk) → length es ≤ i → whole ≡ same_entries f (drop i es) fs left → whole ≡ Ok (Some left)
  entries_end es fs i left whole past h = h ∙ at_drop_all (λ us. same_entries f us fs left) es i past

  entries_more : (es fs : List (Key × Value)) (i left : ℕ) (e : Key × Value) (whole : Walk) → slice_get es i ≡ Some e → whole ≡ same_entries f (drop i es) fs left → whole ≡ come_to left (λ n. then_on (same_found f e.1 (lookup (same_key e.0) fs) n) (λ rest. same_entries f (drop (i + 1) es) fs rest))
  entries_more es fs i left e whole g h =
      h
      ∙ at_drop_more (λ us. same_entries f us fs left) es i e (slice_get_within es i e g)
      ∙ ap (λ (x : Key × Value). come_to left (λ k. then_on (same_found f x.1 (lookup (same_key x.0) fs) k) (λ rest. same_entries f (drop (i + 1) es) fs rest))) (get_or_from_slice_get es i e e g)

module _ (f : Value → Value → ℕ → Walk) (vs ws : List Value) (i left : ℕ) (v w : Value) (whole walked : Walk) (m : i < length vs) (n : i < length ws) (e : v ≡ get_or vs i v) (g : w ≡ get_or ws i w) (h : whole ≡ same_items f (drop i vs) (drop i ws) left) (some : 0 < left) (is : walked ≡ f v w (left - 1)) where
  then_is : whole ≡ then_on walked (λ rest. same_items f (drop (i + 1) vs) (drop (i + 1) ws) rest)
  then_is = come_next left (λ x. then_on (f v w x) (λ rest. same_items f (drop (i + 1) vs) (drop (i + 1) ws) rest)) whole (items_more f vs ws i left v w whole m n e g h) some ∙ ap (λ r. then_on r (λ rest. same_items f (drop (i + 1) vs) (drop (i + 1) ws) rest)) (sym is)

  pub items_stop : left_of walked ≡ None → walked ≡ whole
  items_stop none = sym (then_stops walked (λ rest. same_items f (drop (i + 1) vs) (drop (i + 1) ws) rest) whole then_is none)

  pub items_go : (rest : ℕ) → left_of walked ≡ Some rest → whole ≡ same_items f (drop (i + 1) vs) (drop (i + 1) ws) rest
  items_go rest goes = then_goes walked (λ rest. same_items f (drop (i + 1) vs) (drop (i + 1) ws) rest) whole rest then_is goes

-- some value of a list that is not empty
some_at : (vs : List Value) (i : ℕ) → i < length vs → (v : Value) × (v ≡ get_or vs i v)
some_at [] i l = absurd (omega (arith, l))
some_at (v ∷ vs) i l = (get_or (v ∷ vs) i v, get_or_default (v ∷ vs) i v (get_or (v ∷ vs) i v) l)

pub items_full : (f : Value → Value → ℕ → Walk) (vs ws : List Value) (i left : ℕ) (whole : Walk) → i < length vs → i < length ws → whole ≡ same_items f (drop i vs) (drop i ws) left → left ≡ 0 → Err TooDeep ≡ whole
items_full f vs ws i left whole m n h z =
    let v = some_at vs i m in
    let w = some_at ws i n in
    sym (items_more f vs ws i left v.0 w.0 whole m n v.1 w.1 h ∙ ap (λ k. come_to k (λ n. then_on (f v.0 w.0 n) (λ rest. same_items f (drop (i + 1) vs) (drop (i + 1) ws) rest))) z)

module _ (f : Value → Value → ℕ → Walk) (es fs : List (Key × Value)) (i left : ℕ) (e : Key × Value) (whole : Walk) (at : slice_get es i ≡ Some e) (h : whole ≡ same_entries f (drop i es) fs left) where
  entries_closed : left ≡ 0 → Err TooDeep ≡ whole
  entries_closed z = sym (entries_more f es fs i left e whole at h ∙ ap (λ k. come_to k (λ n. then_on (same_found f e.1 (lookup (same_key e.0) fs) n) (λ rest. same_entries f (drop (i + 1) es) fs rest))) z)

  entries_come : 0 < left → whole ≡ then_on (same_found f e.1 (lookup (same_key e.0) fs) (left - 1)) (λ rest. same_entries f (drop (i + 1) es) fs rest)
  entries_come some = come_next left (λ x. then_on (same_found f e.1 (lookup (same_key e.0) fs) x) (λ rest. same_entries f (drop (i + 1) es) fs rest)) whole (entries_more f es fs i left e whole at h) some

  pub entries_missing : 0 < left → lookup (same_key e.0) fs ≡ None → Ok None ≡ whole
  entries_missing some none = sym (entries_come some ∙ ap (λ o. then_on (same_found f e.1 o (left - 1)) (λ rest. same_entries f (drop (i + 1) es) fs rest)) none)

  entries_found : 0 < left → (w : Value) → lookup (same_key e.0) fs ≡ Some w → (walked : Walk) → walked ≡ f e.1 w (left - 1) → whole ≡ then_on walked (λ rest. same_entries f (drop (i + 1) es) fs rest)
  entries_found some w found walked is = entries_come some ∙ ap (λ o. then_on (same_found f e.1 o (left - 1)) (λ rest. same_entries f (drop (i + 1) es) fs rest)) found ∙ ap (λ r. then_on r (λ rest. same_entries f (drop (i + 1) es) fs rest)) (sym is)

  pub entries_stop : 0 < left → (w : Value) → lookup (same_key e.0) fs ≡ Some w → (walked : Walk) → walked ≡ f e.1 w (left - 1) → left_of walked ≡ None → walked ≡ whole
  entries_stop some w found walked is none = sym (then_stops walked (λ rest. same_entries f (drop (i + 1) es) fs rest) whole (entries_found some w found walked is) none)

  pub entries_go : 0 < left → (w : Value) → lookup (same_key e.0) fs ≡ Some w → (walked : Walk) → walked ≡ f e.1 w (left - 1) → (rest : ℕ) → left_of walked ≡ Some rest → whole ≡ same_entries f (drop (i + 1) es) fs rest
  entries_go some w found walked is rest goes = then_goes walked (λ rest. same_entries f (drop (i + 1) es) fs rest) whole rest (entries_found some w found walked is) goes

some_entry : (es : List (Key × Value)) (i : ℕ) → i < length es → (e : Key × Value) × (slice_get es i ≡ Some e)
some_entry [] i l = absurd (omega (arith, l))
some_entry (e ∷ es) i l = (get_or (e ∷ es) i e, slice_get-get_or (e ∷ es) i e l)

pub entries_full : (f : Value → Value → ℕ → Walk) (es fs : List (Key × Value)) (i left : ℕ) (whole : Walk) → i < length es → whole ≡ same_entries f (drop i es) fs left → left ≡ 0 → Err TooDeep ≡ whole
entries_full f es fs i left whole l h z = let e = some_entry es i l in entries_closed f es fs i left e.0 whole e.1 h z

-- what an entry holds is known
pub entry_known : (cells : List (Option Cell)) (es : List (Key × Value)) (i : ℕ) (e : Key × Value) → KnowsEntries cells es → slice_get es i ≡ Some e → (knows_key cells e.0 ≡ true) × (knows cells e.1 ≡ true)
entry_known cells es i e k at = subst (λ (x : Key × Value). (knows_key cells x.0 ≡ true) × (knows cells x.1 ≡ true)) (get_or_from_slice_get es i e e at) (k i e (slice_get_within es i e at))
