-- What a value names is in range, and stays known as the cells change.
use Rattle.std.proofs.Common.{◌≡◌, ℕ, ◌+◌, ◌<◌, true, cond, nat_lt, List, length, get_or, set, refl, sym, ◌∙◌, ap, subst, Option, None, arith, inl, inr, ◌&&◌, Some, [], ◌∷◌, ◌++◌}
use Rattle.std.specs.List.{sum_by}
use Rattle.std.proofs.lemmas.List.{get_or-set_same, get_or-set_other, get_or_past, length-set, length_push, get_or_append_left}
use Rattle.std.proofs.lemmas.List.Sums.{get_or-le-sum_by}
use Rattle.std.proofs.lemmas.Bool.{cases_eq, cases_lt, false≢true, and_parts, ltb-true, and_from, eq-eqb, lt-ltb}
use Rattle.variant_values.specs.declared.values.Serial.{Serial}
use Rattle.variant_values.specs.declared.values.Value.{Value}
use Rattle.variant_values.specs.declared.values.Value.TheVariants.{Null, Bool as Truth, Int, Str, Array, Dict, Object, Callable, Signal, Class, Scene, Weak}
use Rattle.variant_values.specs.declared.values.Key.{Key}
use Rattle.variant_values.specs.declared.values.Key.TheVariants.{Bool as KeyTruth, Int as KeyInt, Str as KeyStr, Object as KeyObject}
use Rattle.variant_values.specs.declared.cells.Cell.{Cell}
use Rattle.variant_values.specs.declared.cells.Cell.TheVariants.{Array as ArrayCell, Dict as DictCell, Object as ObjectCell}
use Rattle.variant_values.specs.Places.{place_of, key_place, one_at, in_value, in_values, in_entry, in_key, in_cell}
use Rattle.variant_values.specs.Heaps.{cell_at, is_array, is_dict, is_no_container, knows, knows_key, knows_object, KnowsAll, KnowsCell, KnowsSlot, KnowsNode}
use Rattle.std.specs.Prelude.{IfSome}
use Rattle.variant_values.specs.declared.cells.NodePart.{NodePart}

pub array_within : (cells : List (Option Cell)) (x : ℕ) → is_array (cell_at cells x) ≡ true → x < length cells
array_within cells x a = elim (cases_lt x (length cells)) [ inl h ↦ h | inr h ↦ absurd (false≢true (sym (ap is_array (get_or_past cells x None h)) ∙ a)) ]

pub dict_within : (cells : List (Option Cell)) (x : ℕ) → is_dict (cell_at cells x) ≡ true → x < length cells
dict_within cells x a = elim (cases_lt x (length cells)) [ inl h ↦ h | inr h ↦ absurd (false≢true (sym (ap is_dict (get_or_past cells x None h)) ∙ a)) ]

pub object_within : (cells : List (Option Cell)) (s : Serial) → knows_object cells s ≡ true → s.0 < length cells
object_within cells s k = ltb-true s.0 (length cells) ((and_parts _ _ ((and_parts (nat_lt 0 s.0) _ k).1)).0)

pub value_within : (cells : List (Option Cell)) (v : Value) → 0 < length cells → knows cells v ≡ true → place_of v < length cells
value_within cells Null h k = h
value_within cells (Truth b) h k = h
value_within cells (Int n) h k = h
value_within cells (Str s) h k = h
value_within cells (Array s) h k = array_within cells s.0 k
value_within cells (Dict s) h k = dict_within cells s.0 k
value_within cells (Object s) h k = object_within cells s k
value_within cells (Callable s m) h k = h
value_within cells (Signal s m) h k = h
value_within cells (Class c) h k = h
value_within cells (Scene f p) h k = h
value_within cells (Weak s) h k = h

pub key_within : (cells : List (Option Cell)) (q : Key) → 0 < length cells → knows_key cells q ≡ true → key_place q < length cells
key_within cells (KeyTruth b) h k = h
key_within cells (KeyInt n) h k = h
key_within cells (KeyStr s) h k = h
key_within cells (KeyObject s) h k = object_within cells s k

-- where a cell is not held, it may go
other_place : (x p : ℕ) → one_at x p ≡ 0 → p ≡ x → ⊥
other_place x p z e = let one : one_at x p ≡ 1 = ap (λ b. cond b 1 0) (eq-eqb p x e) in omega (arith, z, one)

pub object_stays : (cells : List (Option Cell)) (x : ℕ) (s : Serial) → x < length cells → knows_object cells s ≡ true → knows_object (set cells x None) s ≡ true
object_stays cells x s h k =
    let parts = and_parts (nat_lt 0 s.0) _ k in
    let later = and_parts (nat_lt s.0 (length cells)) _ parts.1 in
    and_from (nat_lt 0 s.0) _ parts.0 (and_from (nat_lt s.0 (length (set cells x None))) _ (ap (nat_lt s.0) (length-set cells x None) ∙ later.0) (elim (cases_eq x s.0) [
      | inl e ↦ subst (λ z. is_no_container (cell_at (set cells x None) z) ≡ true) e (ap is_no_container (get_or-set_same cells x None None h))
      | inr ne ↦ ap is_no_container (get_or-set_other cells x s.0 None None (λ e. ne (sym e))) ∙ later.1
    ]))

pub value_stays : (cells : List (Option Cell)) (x : ℕ) (v : Value) → x < length cells → in_value x v ≡ 0 → knows cells v ≡ true → knows (set cells x None) v ≡ true
value_stays cells x Null h z k = refl
value_stays cells x (Truth b) h z k = refl
value_stays cells x (Int n) h z k = refl
value_stays cells x (Str s) h z k = refl
value_stays cells x (Array s) h z k = ap is_array (get_or-set_other cells x s.0 None None (other_place x s.0 z)) ∙ k
value_stays cells x (Dict s) h z k = ap is_dict (get_or-set_other cells x s.0 None None (other_place x s.0 z)) ∙ k
value_stays cells x (Object s) h z k = object_stays cells x s h k
value_stays cells x (Callable s m) h z k = object_stays cells x s h k
value_stays cells x (Signal s m) h z k = object_stays cells x s h k
value_stays cells x (Class c) h z k = refl
value_stays cells x (Scene f p) h z k = refl
value_stays cells x (Weak s) h z k = object_stays cells x s h k

key_stays : (cells : List (Option Cell)) (x : ℕ) (q : Key) → x < length cells → knows_key cells q ≡ true → knows_key (set cells x None) q ≡ true
key_stays cells x (KeyTruth b) h k = refl
key_stays cells x (KeyInt n) h k = refl
key_stays cells x (KeyStr s) h k = refl
key_stays cells x (KeyObject s) h k = object_stays cells x s h k

-- a node's parent and children stay known where objects do
node_kept : (cells new : List (Option Cell)) (n : Option NodePart) → ((s : Serial) → knows_object cells s ≡ true → knows_object new s ≡ true) → KnowsNode cells n → KnowsNode new n
node_kept cells new None f k = tt
node_kept cells new (Some n) f k = (parent_kept n.parent k.0, λ i d l. f (get_or n.children i d) (k.1 i d l))
  where
    parent_kept : (p : Option Serial) → IfSome p (λ s. knows_object cells s ≡ true) → IfSome p (λ s. knows_object new s ≡ true)
    parent_kept None k = tt
    parent_kept (Some s) k = f s k

each_zero : {X : Type 0} (f : X → ℕ) (xs : List X) (i : ℕ) (d : X) → i < length xs → sum_by f xs ≡ 0 → f (get_or xs i d) ≡ 0
each_zero f xs i d h z = omega (arith, get_or-le-sum_by f xs i d h)

values_stay : (cells : List (Option Cell)) (x : ℕ) (vs : List Value) → x < length cells → in_values x vs ≡ 0 → KnowsAll cells vs → KnowsAll (set cells x None) vs
values_stay cells x vs h z k = λ i d l. value_stays cells x (get_or vs i d) h (each_zero (in_value x) vs i d l z) (k i d l)

pub cell_stays : (cells : List (Option Cell)) (x : ℕ) (c : Cell) → x < length cells → in_cell x c ≡ 0 → KnowsCell cells c → KnowsCell (set cells x None) c
cell_stays cells x (ArrayCell vs of) h z k = values_stay cells x vs h z k
cell_stays cells x (DictCell es) h z k = λ i d l.
    let none : in_key x (get_or es i d).0 + in_value x (get_or es i d).1 ≡ 0 = each_zero (in_entry x) es i d l z in
    (key_stays cells x (get_or es i d).0 h (k i d l).0, value_stays cells x (get_or es i d).1 h (omega arith) (k i d l).1)
cell_stays cells x (ObjectCell o) h z k = (values_stay cells x o.fields h z k.0, (λ i d l. object_stays cells x (get_or o.connections i d).target h (k.1 i d l)), node_kept cells (set cells x None) o.node (λ s. object_stays cells x s h) k.2)

-- a value is known as before, where each cell is of the kind that it was
pub record IsAlike (cells new : List (Option Cell)) : Type 0 where
  pub same : length new ≡ length cells
  pub array : (y : ℕ) → is_array (cell_at new y) ≡ is_array (cell_at cells y)
  pub dict : (y : ℕ) → is_dict (cell_at new y) ≡ is_dict (cell_at cells y)
  pub object : (y : ℕ) → is_no_container (cell_at new y) ≡ is_no_container (cell_at cells y)

pub object_alike : (cells new : List (Option Cell)) (s : Serial) → IsAlike cells new → knows_object new s ≡ knows_object cells s
object_alike cells new s a = ap (λ n. nat_lt 0 s.0 && (nat_lt s.0 n && is_no_container (cell_at new s.0))) a.same ∙ ap (λ b. nat_lt 0 s.0 && (nat_lt s.0 (length cells) && b)) (a.object s.0)

pub value_alike : (cells new : List (Option Cell)) (v : Value) → IsAlike cells new → knows new v ≡ knows cells v
value_alike cells new Null a = refl
value_alike cells new (Truth b) a = refl
value_alike cells new (Int n) a = refl
value_alike cells new (Str s) a = refl
value_alike cells new (Array s) a = a.array s.0
value_alike cells new (Dict s) a = a.dict s.0
value_alike cells new (Object s) a = object_alike cells new s a
value_alike cells new (Callable s m) a = object_alike cells new s a
value_alike cells new (Signal s m) a = object_alike cells new s a
value_alike cells new (Class c) a = refl
value_alike cells new (Scene f p) a = refl
value_alike cells new (Weak s) a = object_alike cells new s a

key_alike : (cells new : List (Option Cell)) (q : Key) → IsAlike cells new → knows_key new q ≡ knows_key cells q
key_alike cells new (KeyTruth b) a = refl
key_alike cells new (KeyInt n) a = refl
key_alike cells new (KeyStr s) a = refl
key_alike cells new (KeyObject s) a = object_alike cells new s a

pub slot_alike : (cells new : List (Option Cell)) (s : Option Cell) → IsAlike cells new → KnowsSlot cells s → KnowsSlot new s
slot_alike cells new None a k = tt
slot_alike cells new (Some (ArrayCell vs of)) a k = λ i d l. value_alike cells new (get_or vs i d) a ∙ k i d l
slot_alike cells new (Some (DictCell es)) a k = λ i d l. (key_alike cells new (get_or es i d).0 a ∙ (k i d l).0, value_alike cells new (get_or es i d).1 a ∙ (k i d l).1)
slot_alike cells new (Some (ObjectCell o)) a k = ((λ i d l. value_alike cells new (get_or o.fields i d) a ∙ k.0 i d l), (λ i d l. object_alike cells new (get_or o.connections i d).target a ∙ k.1 i d l), node_kept cells new o.node (λ s m. object_alike cells new s a ∙ m) k.2)

-- what is named keeps its meaning
pub object_grows : (cells : List (Option Cell)) (t : Option Cell) (s : Serial) → knows_object cells s ≡ true → knows_object (cells ++ t ∷ []) s ≡ true
object_grows cells t s k =
    let parts = and_parts (nat_lt 0 s.0) _ k in
    let later = and_parts (nat_lt s.0 (length cells)) _ parts.1 in
    let within : s.0 < length cells = ltb-true s.0 (length cells) later.0 in
    and_from (nat_lt 0 s.0) _ parts.0 (and_from (nat_lt s.0 (length (cells ++ t ∷ []))) _ (lt-ltb s.0 _ (omega (arith, within, length_push cells t))) (ap is_no_container (get_or_append_left cells (t ∷ []) None s.0 within) ∙ later.1))

pub value_grows : (cells : List (Option Cell)) (t : Option Cell) (v : Value) → knows cells v ≡ true → knows (cells ++ t ∷ []) v ≡ true
value_grows cells t Null k = k
value_grows cells t (Truth b) k = k
value_grows cells t (Int n) k = k
value_grows cells t (Str s) k = k
value_grows cells t (Array s) k = ap is_array (get_or_append_left cells (t ∷ []) None s.0 (array_within cells s.0 k)) ∙ k
value_grows cells t (Dict s) k = ap is_dict (get_or_append_left cells (t ∷ []) None s.0 (dict_within cells s.0 k)) ∙ k
value_grows cells t (Object s) k = object_grows cells t s k
value_grows cells t (Callable s m) k = object_grows cells t s k
value_grows cells t (Signal s m) k = object_grows cells t s k
value_grows cells t (Class c) k = k
value_grows cells t (Scene f p) k = k
value_grows cells t (Weak s) k = object_grows cells t s k

key_grows : (cells : List (Option Cell)) (t : Option Cell) (q : Key) → knows_key cells q ≡ true → knows_key (cells ++ t ∷ []) q ≡ true
key_grows cells t (KeyTruth b) k = k
key_grows cells t (KeyInt n) k = k
key_grows cells t (KeyStr s) k = k
key_grows cells t (KeyObject s) k = object_grows cells t s k

pub slot_grows : (cells : List (Option Cell)) (t : Option Cell) (s : Option Cell) → KnowsSlot cells s → KnowsSlot (cells ++ t ∷ []) s
slot_grows cells t None k = tt
slot_grows cells t (Some (ArrayCell vs of)) k = λ i d l. value_grows cells t (get_or vs i d) (k i d l)
slot_grows cells t (Some (DictCell es)) k = λ i d l. (key_grows cells t (get_or es i d).0 (k i d l).0, value_grows cells t (get_or es i d).1 (k i d l).1)
slot_grows cells t (Some (ObjectCell o)) k = ((λ i d l. value_grows cells t (get_or o.fields i d) (k.0 i d l)), (λ i d l. object_grows cells t (get_or o.connections i d).target (k.1 i d l)), node_kept cells (cells ++ t ∷ []) o.node (λ s. object_grows cells t s) k.2)
