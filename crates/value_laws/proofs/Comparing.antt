-- What a comparison of two values tells of their contents.
use Rattle.std.proofs.Common.{◌≡◌, ◌∙◌, ap, sym, subst, refl, ℕ, zero, suc, ◌-◌, ◌<◌, Bool, true, false, cond, List, [], ◌∷◌, length, get_or, Option, Some, None, is_some, Ok, Err, arith}
use Rattle.std.specs.Prelude.{nat_eq, if◌then◌else◌}
use Rattle.std.specs.Cmp.{bool_eq_equiv}
use Rattle.std.specs.Map.{lookup}
use Rattle.std.proofs.lemmas.Bool.{false≢true, and_parts, and_from, eqb-true, eq-eqb}
use Rattle.std.proofs.lemmas.Bool.Decides.{Decides-int_eq}
use Rattle.std.proofs.lemmas.Cmp.{nat_list_eq_equiv, nat_eq_equiv, int_eq_equiv}
use Rattle.variant_values.specs.declared.cells.Cell.{Cell}
use Rattle.variant_values.specs.declared.classes.ClassTag.{ClassTag}
use Rattle.variant_values.specs.declared.classes.ClassTag.TheVariants as tag
use Rattle.variant_values.specs.declared.faults.RunFault.TheVariants.{TooDeep}
use Rattle.variant_values.specs.declared.values.Key.{Key}
use Rattle.variant_values.specs.declared.values.Serial.{Serial}
use Rattle.variant_values.specs.declared.values.Value.{Value}
use Rattle.variant_values.specs.declared.values.Value.TheVariants.{Null, Bool as Truth, Int, Str, Array, Dict, Object, Callable, Signal, Class, Scene, Weak}
use Rattle.variant_values.specs.Classes.{same_class}
use Rattle.variant_values.specs.Comparisons.{Walk, come_to, compared, equality, opened, or_refused, same_at, same_by, same_entries, same_found, same_items, same_value, then_on, verdict}
use Rattle.variant_values.specs.Heaps.{cell_at, entries_of}
use Rattle.variant_values.specs.Keys.{same_key, HasKeysOnce}
use Rattle.variant_values.specs.Operators.{equal, most_items, same_text}
use Rattle.variant_values.specs.Same.{HaveKeysOnce, IsSame, items_in, value_under}
use Rattle.variant_values.specs.ValueTexts.{most_levels}
use Rattle.variant_values.proofs.SameKeys.{same_is, text_is, truth_is}
use Rattle.value_laws.proofs.Keys.{has, own_found, behind_found, no_more, all_back, both_ways}

-- ---- values that are no containers

class_own : (c : ClassTag) → same_class c c ≡ true
class_own tag.Object = refl
class_own tag.RefCounted = refl
class_own tag.Node = refl
class_own (tag.Script c) = and_from _ _ (nat_eq_equiv.refl c.file) (nat_eq_equiv.refl c.index)

class_is : (a b : ClassTag) → same_class a b ≡ true → a ≡ b
class_is tag.Object tag.Object h = refl
class_is tag.RefCounted tag.RefCounted h = refl
class_is tag.Node tag.Node h = refl
class_is (tag.Script a) (tag.Script b) h =
    let parts = and_parts (nat_eq a.file b.file) (nat_eq a.index b.index) h in
    ap (λ n. tag.Script (record { file = n; index = a.index })) (eqb-true a.file b.file parts.0) ∙ ap (λ n. tag.Script (record { file = b.file; index = n })) (eqb-true a.index b.index parts.1)
class_is a b h = absurd (false≢true h)

serial_is : (a b : Serial) → nat_eq a.0 b.0 ≡ true → a ≡ b
serial_is a b h = ap (λ n. record { 0 = n }) (eqb-true a.0 b.0 h)

some_true : (b : Bool) → Some b ≡ Some true → b ≡ true
some_true true h = refl
some_true false h = cc

array_is : (a : Serial) (w : Value) → equal (Array a) w ≡ Some true → Array a ≡ w
array_is a Null h = cc
array_is a w h = cc

dict_is : (a : Serial) (w : Value) → equal (Dict a) w ≡ Some true → Dict a ≡ w
dict_is a Null h = cc
dict_is a w h = cc

equal_is : (v w : Value) → equal v w ≡ Some true → v ≡ w
equal_is (Array a) w h = array_is a w h
equal_is (Dict a) w h = dict_is a w h
equal_is Null Null h = refl
equal_is (Truth a) (Truth b) h = ap Truth (truth_is a b (some_true _ h))
equal_is (Int a) (Int b) h = ap Int ((Decides-int_eq a b).0 (some_true _ h))
equal_is (Str a) (Str b) h = ap Str (text_is a b (some_true _ h))
equal_is (Object a) (Object b) h = ap Object (serial_is a b (some_true _ h))
equal_is (Callable a f) (Callable b g) h =
    let parts = and_parts (nat_eq a.0 b.0) (same_text f g) (some_true _ h) in
    ap (λ s. Callable s f) (serial_is a b parts.0) ∙ ap (Callable b) (text_is f g parts.1)
equal_is (Signal a f) (Signal b g) h =
    let parts = and_parts (nat_eq a.0 b.0) (same_text f g) (some_true _ h) in
    ap (λ s. Signal s f) (serial_is a b parts.0) ∙ ap (Signal b) (text_is f g parts.1)
equal_is (Class a) (Class b) h = ap Class (class_is a b (some_true _ h))
equal_is (Scene a p) (Scene b q) h =
    let parts = and_parts (nat_eq a b) (same_text p q) (some_true _ h) in
    ap (λ n. Scene n p) (eqb-true a b parts.0) ∙ ap (Scene b) (text_is p q parts.1)
equal_is (Weak a) (Weak b) h = ap Weak (serial_is a b (some_true _ h))
equal_is v w h = cc

-- ---- a walk step by step

abbrev pub Step : Type 0
Step = Value → Value → ℕ → Walk

-- the two never differ
abbrev pub Agrees : Step → Value → Value → Type 0
Agrees same v w = (room : ℕ) → same v w room ≡ Ok None → ⊥

no_difference : (room : ℕ) (walk : Walk) → walk ≡ Ok (Some room) → walk ≡ Ok None → ⊥
no_difference room walk some none = cc

come_agrees : (room : ℕ) (next : ℕ → Walk) → ((left : ℕ) → next left ≡ Ok None → ⊥) → come_to room next ≡ Ok None → ⊥
come_agrees room next agrees = by (nat_eq room 0)
  where
    by : (b : Bool) → (if b then Err TooDeep else next (room - 1)) ≡ Ok None → ⊥
    by true h = cc
    by false h = agrees (room - 1) h

then_agrees : (first : Walk) (next : ℕ → Walk) → (first ≡ Ok None → ⊥) → ((left : ℕ) → next left ≡ Ok None → ⊥) → then_on first next ≡ Ok None → ⊥
then_agrees (Ok (Some left)) next first later h = later left h
then_agrees (Ok None) next first later h = first refl
then_agrees (Err fault) next first later h = cc

items_agree : (same : Step) (vs ws : List Value) → length vs ≡ length ws → ((i : ℕ) → i < length vs → Agrees same (get_or vs i Null) (get_or ws i Null)) → (room : ℕ) → same_items same vs ws room ≡ Ok None → ⊥
items_agree same [] ws size each room h = cc
items_agree same (v ∷ vs) [] size each room h = absurd (omega (arith, size))
items_agree same (v ∷ vs) (w ∷ ws) size each room h =
    come_agrees room (λ left. then_on (same v w left) (λ rest. same_items same vs ws rest))
    (λ left. then_agrees (same v w left) (λ rest. same_items same vs ws rest) (each 0 (omega arith) left)
    (λ rest. items_agree same vs ws (omega (arith, size)) (λ i l. each (suc i) (omega (arith, l))) rest)) h

found_agrees : (same : Step) (v : Value) (found : Option Value) → is_some found ≡ true → ((w : Value) → found ≡ Some w → Agrees same v w) → (room : ℕ) → same_found same v found room ≡ Ok None → ⊥
found_agrees same v None there each room h = absurd (false≢true there)
found_agrees same v (Some w) there each room h = each w refl room h

entries_agree : (same : Step) (es fs : List (Key × Value)) → HasKeysOnce es → ((k : Key) → has k es ≡ true → has k fs ≡ true) → ((k : Key) (v w : Value) → lookup (same_key k) es ≡ Some v → lookup (same_key k) fs ≡ Some w → Agrees same v w) → (room : ℕ) → same_entries same es fs room ≡ Ok None → ⊥
entries_agree same [] fs once all each room h = cc
entries_agree same (e ∷ es) fs once all each room h =
    come_agrees room (λ left. then_on (same_found same e.1 (lookup (same_key e.0) fs) left) (λ rest. same_entries same es fs rest))
    (λ left. then_agrees (same_found same e.1 (lookup (same_key e.0) fs) left) (λ rest. same_entries same es fs rest)
    (found_agrees same e.1 (lookup (same_key e.0) fs) (all e.0 (ap is_some (own_found e es))) (λ w at. each e.0 e.1 w (own_found e es) at) left)
    (λ rest. entries_agree same es fs once.1
    (λ k there. all k (ap is_some (behind_found k e es once.0 there) ∙ there))
    (λ k v w at there. each k v w (behind_found k e es once.0 (ap is_some at) ∙ at) there) rest)) h

opened_agrees : (one sized : Bool) (room : ℕ) (inside : Walk) → sized ≡ true → (inside ≡ Ok None → ⊥) → opened one sized room inside ≡ Ok None → ⊥
opened_agrees true sized room inside size agrees h = cc
opened_agrees false true room inside size agrees h = agrees h
opened_agrees false false room inside size agrees h = absurd (false≢true size)

module _ (cells : List (Option Cell)) (once : HaveKeysOnce cells) where
  abbrev Arrays : Type 0
  Arrays = List Value → List Value → ℕ → Walk

  abbrev Dicts : Type 0
  Dicts = List (Key × Value) → List (Key × Value) → ℕ → Walk

  -- ---- what is the same does not differ

  own : (arrays : Arrays) (dicts : Dicts) (v : Value) (room : ℕ) → same_by cells arrays dicts v v room ≡ Ok (Some room)
  own arrays dicts Null room = refl
  own arrays dicts (Truth b) room = ap (λ t. compared (Some t) room) (bool_eq_equiv.refl b)
  own arrays dicts (Int n) room = ap (λ t. compared (Some t) room) (int_eq_equiv.refl n)
  own arrays dicts (Str s) room = ap (λ t. compared (Some t) room) (nat_list_eq_equiv.refl s)
  own arrays dicts (Array s) room = ap (λ t. opened t (nat_eq (length (items_in cells s)) (length (items_in cells s))) room (arrays (items_in cells s) (items_in cells s) room)) (nat_eq_equiv.refl s.0)
  own arrays dicts (Dict s) room = ap (λ t. opened t (nat_eq (length (entries_of (cell_at cells s.0))) (length (entries_of (cell_at cells s.0)))) room (dicts (entries_of (cell_at cells s.0)) (entries_of (cell_at cells s.0)) room)) (nat_eq_equiv.refl s.0)
  own arrays dicts (Object s) room = ap (λ t. compared (Some t) room) (nat_eq_equiv.refl s.0)
  own arrays dicts (Callable s f) room = ap (λ t. compared (Some t) room) (and_from _ _ (nat_eq_equiv.refl s.0) (nat_list_eq_equiv.refl f))
  own arrays dicts (Signal s f) room = ap (λ t. compared (Some t) room) (and_from _ _ (nat_eq_equiv.refl s.0) (nat_list_eq_equiv.refl f))
  own arrays dicts (Class c) room = ap (λ t. compared (Some t) room) (class_own c)
  own arrays dicts (Scene f p) room = ap (λ t. compared (Some t) room) (and_from _ _ (nat_eq_equiv.refl f) (nat_list_eq_equiv.refl p))
  own arrays dicts (Weak s) room = ap (λ t. compared (Some t) room) (nat_eq_equiv.refl s.0)

  own_agrees : (levels : ℕ) (v : Value) → Agrees (λ a b n. same_at cells levels a b n) v v
  unfolding same_at
  own_agrees zero v room h = no_difference room _ (own (λ vs ws n. Err TooDeep) (λ es fs n. Err TooDeep) v room) h
  own_agrees (suc levels) v room h = no_difference room _ (own (same_items (λ a b n. same_at cells levels a b n)) (same_entries (λ a b n. same_at cells levels a b n)) v room) h

  arrays_agree : (a b : Serial) → length (items_in cells a) ≡ length (items_in cells b) → ((i : ℕ) → i < length (items_in cells a) → (levels : ℕ) → Agrees (λ v w n. same_at cells levels v w n) (get_or (items_in cells a) i Null) (get_or (items_in cells b) i Null)) → (levels : ℕ) → Agrees (λ v w n. same_at cells levels v w n) (Array a) (Array b)
  unfolding same_at
  arrays_agree a b size each zero room h = opened_agrees (nat_eq a.0 b.0) _ room (Err TooDeep) (eq-eqb _ _ size) (λ deep. cc) h
  arrays_agree a b size each (suc levels) room h = opened_agrees (nat_eq a.0 b.0) _ room _ (eq-eqb _ _ size) (items_agree (λ v w n. same_at cells levels v w n) (items_in cells a) (items_in cells b) size (λ i l. each i l levels) room) h

  abbrev es_of : Serial → List (Key × Value)
  es_of s = entries_of (cell_at cells s.0)

  same_sizes : (a b : Serial) → ((k : Key) → is_some (value_under cells a k) ≡ is_some (value_under cells b k)) → length (es_of a) ≡ length (es_of b)
  same_sizes a b keys =
      let most = no_more (es_of a) (es_of b) (once a.0) (λ k h. sym (keys k) ∙ h) in
      let least = no_more (es_of b) (es_of a) (once b.0) (λ k h. keys k ∙ h) in
      omega (arith, most, least)

  dicts_agree : (a b : Serial) → ((k : Key) → is_some (value_under cells a k) ≡ is_some (value_under cells b k)) → ((k : Key) (v w : Value) → value_under cells a k ≡ Some v → value_under cells b k ≡ Some w → (levels : ℕ) → Agrees (λ x y n. same_at cells levels x y n) v w) → (levels : ℕ) → Agrees (λ x y n. same_at cells levels x y n) (Dict a) (Dict b)
  unfolding same_at
  dicts_agree a b keys each zero room h = opened_agrees (nat_eq a.0 b.0) _ room (Err TooDeep) (eq-eqb _ _ (same_sizes a b keys)) (λ deep. cc) h
  dicts_agree a b keys each (suc levels) room h = opened_agrees (nat_eq a.0 b.0) _ room _ (eq-eqb _ _ (same_sizes a b keys)) (entries_agree (λ x y n. same_at cells levels x y n) (es_of a) (es_of b) (once a.0) (λ k there. sym (keys k) ∙ there) (λ k v w at there. each k v w at there levels) room) h

  same_agrees : {v w : Value} → IsSame cells v w → (levels : ℕ) → Agrees (λ x y n. same_at cells levels x y n) v w
  same_agrees (IsSame.itself v) levels = own_agrees levels v
  same_agrees (IsSame.arrays a b size each) levels = arrays_agree a b size (λ i l. same_agrees (each i l)) levels
  same_agrees (IsSame.dicts a b keys each) levels = dicts_agree a b keys (λ k v w at there. same_agrees (each k v w at there)) levels

  -- ---- what does not differ is the same

  -- all that a walk says to be equal is the same
  abbrev IsTrue : Step → Type 0
  IsTrue same = (v w : Value) (room left : ℕ) → same v w room ≡ Ok (Some left) → IsSame cells v w

  -- a walk that went on
  went_on : (first : Walk) (next : ℕ → Walk) (last : ℕ) → then_on first next ≡ Ok (Some last) → (left : ℕ) × (first ≡ Ok (Some left)) × (next left ≡ Ok (Some last))
  went_on (Ok (Some left)) next last h = (left, refl, h)
  went_on (Ok None) next last h = absurd cc
  went_on (Err fault) next last h = absurd cc

  came_to : (room : ℕ) (next : ℕ → Walk) (last : ℕ) → come_to room next ≡ Ok (Some last) → next (room - 1) ≡ Ok (Some last)
  came_to room next last = by (nat_eq room 0)
    where
      by : (b : Bool) → (if b then Err TooDeep else next (room - 1)) ≡ Ok (Some last) → next (room - 1) ≡ Ok (Some last)
      by true h = cc
      by false h = h

  items_same : (same : Step) → IsTrue same → (vs ws : List Value) (room last : ℕ) → same_items same vs ws room ≡ Ok (Some last) → (i : ℕ) → i < length vs → IsSame cells (get_or vs i Null) (get_or ws i Null)
  items_same same true_of [] ws room last h i l = absurd (omega (arith, l))
  items_same same true_of (v ∷ vs) [] room last h i l = absurd cc
  items_same same true_of (v ∷ vs) (w ∷ ws) room last h zero l =
      (let on = went_on (same v w (room - 1)) (λ rest. same_items same vs ws rest) last (came_to room (λ left. then_on (same v w left) (λ rest. same_items same vs ws rest)) last h) in
      true_of v w (room - 1) on.0 on.1)
  items_same same true_of (v ∷ vs) (w ∷ ws) room last h (suc i) l =
      (let on = went_on (same v w (room - 1)) (λ rest. same_items same vs ws rest) last (came_to room (λ left. then_on (same v w left) (λ rest. same_items same vs ws rest)) last h) in
      items_same same true_of vs ws on.0 last on.2 i (omega (arith, l)))

  -- what stands under a key of the one stands under it in the other
  abbrev Under : List (Key × Value) → Key → Value → Type 0
  Under fs k v = (w : Value) × (lookup (same_key k) fs ≡ Some w) × IsSame cells v w

  found_same : (same : Step) → IsTrue same → (fs : List (Key × Value)) (k : Key) (v : Value) (room left : ℕ) (found : Option Value) → lookup (same_key k) fs ≡ found → same_found same v found room ≡ Ok (Some left) → Under fs k v
  found_same same true_of fs k v room left None at h = absurd cc
  found_same same true_of fs k v room left (Some w) at h = (w, at, true_of v w room left h)

  entries_same : (same : Step) → IsTrue same → (es fs : List (Key × Value)) (room last : ℕ) → same_entries same es fs room ≡ Ok (Some last) → (k : Key) (v : Value) → lookup (same_key k) es ≡ Some v → Under fs k v
  entries_same same true_of [] fs room last h k v at = absurd cc
  entries_same same true_of (e ∷ es) fs room last h k v at =
      let on = went_on (same_found same e.1 (lookup (same_key e.0) fs) (room - 1)) (λ rest. same_entries same es fs rest) last (came_to room (λ left. then_on (same_found same e.1 (lookup (same_key e.0) fs) left) (λ rest. same_entries same es fs rest)) last h) in
      by (same_key k e.0) refl at (found_same same true_of fs e.0 e.1 (room - 1) on.0 (lookup (same_key e.0) fs) refl on.1) (entries_same same true_of es fs on.0 last on.2 k v)
    where
      by : (b : Bool) → same_key k e.0 ≡ b → cond b (Some e.1) (lookup (same_key k) es) ≡ Some v → Under fs e.0 e.1 → (lookup (same_key k) es ≡ Some v → Under fs k v) → Under fs k v
      by true one at here later =
          let value : e.1 ≡ v = cc in
          subst (λ (q : Key). Under fs q v) (sym (same_is k e.0 one)) (subst (λ (x : Value). Under fs e.0 x) value here)
      by false one at here later = later at

  under_all : (es fs : List (Key × Value)) → ((k : Key) (v : Value) → lookup (same_key k) es ≡ Some v → Under fs k v) → (k : Key) → has k es ≡ true → has k fs ≡ true
  under_all es fs each k there = by (lookup (same_key k) es) refl there
    where
      by : (o : Option Value) → lookup (same_key k) es ≡ o → is_some o ≡ true → has k fs ≡ true
      by None at some = absurd (false≢true some)
      by (Some v) at some = ap is_some (each k v at).1

  dicts_same : (a b : Serial) → length (es_of a) ≡ length (es_of b) → ((k : Key) (v : Value) → lookup (same_key k) (es_of a) ≡ Some v → Under (es_of b) k v) → IsSame cells (Dict a) (Dict b)
  dicts_same a b size each =
      let all = under_all (es_of a) (es_of b) each in
      IsSame.dicts a b (λ k. both_ways (has k (es_of a)) (has k (es_of b)) (all k) (all_back (es_of a) (es_of b) (once a.0) size all k))
      (λ k v w at there.
      let found = each k v at in
      let one : found.0 ≡ w = some_same found.0 w (sym found.1 ∙ there) in
      subst (λ (x : Value). IsSame cells v x) one found.2)
    where
      some_same : (v w : Value) → Some v ≡ Some w → v ≡ w
      some_same v w h = cc

  compared_true : (o : Option Bool) (room left : ℕ) → compared o room ≡ Ok (Some left) → o ≡ Some true
  compared_true None room left h = cc
  compared_true (Some true) room left h = refl
  compared_true (Some false) room left h = cc

  equal_same : (v w : Value) → v ≡ w → IsSame cells v w
  equal_same v w is = subst (λ (x : Value). IsSame cells v x) is (IsSame.itself v)

  -- containers are one, or of one size and opened
  opened_true : (one sized : Bool) (room left : ℕ) (inside : Walk) → opened one sized room inside ≡ Ok (Some left) → (P : Type 0) → (one ≡ true → P) → (sized ≡ true → inside ≡ Ok (Some left) → P) → P
  opened_true true sized room left inside h P one inner = one refl
  opened_true false true room left inside h P one inner = inner refl h
  opened_true false false room left inside h P one inner = absurd cc

  by_same : (arrays : Arrays) (dicts : Dicts) (v w : Value) (room left : ℕ) → ((a b : Serial) (last : ℕ) → length (items_in cells a) ≡ length (items_in cells b) → arrays (items_in cells a) (items_in cells b) room ≡ Ok (Some last) → IsSame cells (Array a) (Array b)) → ((a b : Serial) (last : ℕ) → length (es_of a) ≡ length (es_of b) → dicts (es_of a) (es_of b) room ≡ Ok (Some last) → IsSame cells (Dict a) (Dict b)) → same_by cells arrays dicts v w room ≡ Ok (Some left) → IsSame cells v w
  by_same arrays dicts (Array a) (Array b) room left open_a open_d h = opened_true (nat_eq a.0 b.0) _ room left _ h (IsSame cells (Array a) (Array b)) (λ one. equal_same _ _ (ap Array (serial_is a b one))) (λ size inside. open_a a b left (eqb-true _ _ size) inside)
  by_same arrays dicts (Dict a) (Dict b) room left open_a open_d h = opened_true (nat_eq a.0 b.0) _ room left _ h (IsSame cells (Dict a) (Dict b)) (λ one. equal_same _ _ (ap Dict (serial_is a b one))) (λ size inside. open_d a b left (eqb-true _ _ size) inside)
  by_same arrays dicts v w room left open_a open_d h = equal_same v w (equal_is v w (compared_true (equal v w) room left h))

  too_deep : {P : Type 0} (last : ℕ) → Err TooDeep ≡ Ok (Some last) → P
  too_deep last h = absurd cc

  at_same : (levels : ℕ) → IsTrue (λ v w n. same_at cells levels v w n)
  unfolding same_at
  at_same zero v w room left h = by_same (λ vs ws n. Err TooDeep) (λ es fs n. Err TooDeep) v w room left (λ a b last size deep. too_deep last deep) (λ a b last size deep. too_deep last deep) h
  at_same (suc levels) v w room left h = by_same (same_items (λ a b n. same_at cells levels a b n)) (same_entries (λ a b n. same_at cells levels a b n)) v w room left
      (λ a b last size inside. IsSame.arrays a b size (items_same (λ x y n. same_at cells levels x y n) (at_same levels) (items_in cells a) (items_in cells b) room last inside))
      (λ a b last size inside. dicts_same a b size (entries_same (λ x y n. same_at cells levels x y n) (at_same levels) (es_of a) (es_of b) room last inside)) h

  -- ---- the comparison of two values

  said_true : (walk : Walk) → verdict walk ≡ Ok true → (left : ℕ) × (walk ≡ Ok (Some left))
  said_true (Ok (Some left)) h = (left, refl)
  said_true (Ok None) h = absurd cc
  said_true (Err fault) h = absurd cc

  said_false : (walk : Walk) → verdict walk ≡ Ok false → walk ≡ Ok None
  said_false (Ok (Some left)) h = absurd cc
  said_false (Ok None) h = refl
  said_false (Err fault) h = absurd cc

  pub value_same : (v w : Value) → same_value cells v w ≡ Ok true → IsSame cells v w
  unfolding same_value
  value_same v w h = let said = said_true (same_at cells most_levels v w most_items) h in at_same most_levels v w most_items said.0 said.1

  pub value_other : (v w : Value) → same_value cells v w ≡ Ok false → IsSame cells v w → ⊥
  unfolding same_value
  value_other v w h same = same_agrees same most_levels most_items (said_false (same_at cells most_levels v w most_items) h)

  refused_true : (o : Option Bool) → or_refused o ≡ Ok true → o ≡ Some true
  refused_true None h = absurd cc
  refused_true (Some true) h = refl
  refused_true (Some false) h = absurd cc

  pub equality_same : (v w : Value) → equality cells v w ≡ Ok true → IsSame cells v w
  equality_same (Array a) (Array b) h = value_same (Array a) (Array b) h
  equality_same (Dict a) (Dict b) h = value_same (Dict a) (Dict b) h
  equality_same v w h = equal_same v w (equal_is v w (refused_true (equal v w) h))

  refused_other : (o : Option Bool) (room : ℕ) → or_refused o ≡ Ok false → compared o room ≡ Ok None
  refused_other None room h = absurd cc
  refused_other (Some true) room h = absurd cc
  refused_other (Some false) room h = refl

  pub equality_other : (v w : Value) → equality cells v w ≡ Ok false → IsSame cells v w → ⊥
  unfolding same_at
  equality_other (Array a) (Array b) h same = value_other (Array a) (Array b) h same
  equality_other (Dict a) (Dict b) h same = value_other (Dict a) (Dict b) h same
  equality_other v w h same = same_agrees same 0 0 (refused_other (equal v w) 0 h)
