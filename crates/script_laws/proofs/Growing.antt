-- What is known stays known while no sweep is made, and after one cell more or another cell in a place.
use Rattle.std.proofs.Common.{◌≡◌, ℕ, ◌<◌, true, nat_lt, List, length, get_or, set, refl, sym, ◌∙◌, ap, subst, Option, None, Some, arith, inl, inr, ◌⊎◌, [], ◌∷◌, ◌++◌}
use Rattle.std.specs.Prelude.{IfSome}
use Rattle.std.proofs.lemmas.List.{get_or-set_same, get_or-set_other, get_or_past, length-set, length_push, get_or_append_left, get_or_push}
use Rattle.std.proofs.lemmas.Bool.{cases_eq, cases_lt, false≢true, and_parts, ltb-true, and_from, lt-ltb}
use Rattle.variant_values.specs.declared.values.Serial.{Serial}
use Rattle.variant_values.specs.declared.values.Value.{Value}
use Rattle.variant_values.specs.declared.values.Value.TheVariants.{Null, Bool as Truth, Int, Str, Array, Dict, Object, Callable, Signal, Class, Scene, Weak}
use Rattle.variant_values.specs.declared.values.Key.{Key}
use Rattle.variant_values.specs.declared.values.Key.TheVariants.{Bool as KeyTruth, Int as KeyInt, Str as KeyStr, Object as KeyObject}
use Rattle.variant_values.specs.declared.cells.Cell.{Cell}
use Rattle.variant_values.specs.declared.cells.Cell.TheVariants.{Array as ArrayCell, Dict as DictCell, Object as ObjectCell}
use Rattle.variant_values.specs.declared.cells.NodePart.{NodePart}
use Rattle.variant_values.specs.Heaps.{cell_at, is_array, is_dict, is_no_container, knows, knows_key, knows_object, KnowsAll, KnowsEntries, KnowsNode, KnowsSlot}
use Rattle.variant_values.proofs.Knowing.{array_within, dict_within}
use Rattle.script_laws.specs.Cells.{Follows, IsGrown, AreKnown}

pub follows_itself : (s : Option Cell) → Follows s s
follows_itself None = refl
follows_itself (Some (ArrayCell vs of)) = refl
follows_itself (Some (DictCell es)) = refl
follows_itself (Some (ObjectCell o)) = refl

pub array_follows : (s t : Option Cell) → Follows s t → is_array s ≡ true → is_array t ≡ true
array_follows None t f a = absurd (false≢true a)
array_follows (Some (ArrayCell vs of)) t f a = f
array_follows (Some (DictCell es)) t f a = absurd (false≢true a)
array_follows (Some (ObjectCell o)) t f a = absurd (false≢true a)

pub dict_follows : (s t : Option Cell) → Follows s t → is_dict s ≡ true → is_dict t ≡ true
dict_follows None t f a = absurd (false≢true a)
dict_follows (Some (ArrayCell vs of)) t f a = absurd (false≢true a)
dict_follows (Some (DictCell es)) t f a = f
dict_follows (Some (ObjectCell o)) t f a = absurd (false≢true a)

pub single_follows : (s t : Option Cell) → Follows s t → is_no_container s ≡ true → is_no_container t ≡ true
single_follows None t f a = ap is_no_container f
single_follows (Some (ArrayCell vs of)) t f a = absurd (false≢true a)
single_follows (Some (DictCell es)) t f a = absurd (false≢true a)
single_follows (Some (ObjectCell o)) t f a = f

follows_on : (s t u : Option Cell) → Follows s t → Follows t u → Follows s u
follows_on None t u f g = subst (λ z. Follows z u) f g
follows_on (Some (ArrayCell vs of)) t u f g = array_follows t u g f
follows_on (Some (DictCell es)) t u f g = dict_follows t u g f
follows_on (Some (ObjectCell o)) t u f g = single_follows t u g f

pub grown_itself : (cells : List (Option Cell)) → IsGrown cells cells
grown_itself cells = record { serials = omega arith; each = λ x h. follows_itself (cell_at cells x) }

pub grown_on : (a b c : List (Option Cell)) → IsGrown a b → IsGrown b c → IsGrown a c
grown_on a b c f g = record {
  serials = omega (arith, f.serials, g.serials);
  each = λ x h. follows_on (cell_at a x) (cell_at b x) (cell_at c x) (f.each x h) (g.each x (omega (arith, h, f.serials)));
}

-- ---- what is known

module _ (cells new : List (Option Cell)) (g : IsGrown cells new) where
  pub object_grown : (s : Serial) → knows_object cells s ≡ true → knows_object new s ≡ true
  object_grown s k =
      let parts = and_parts (nat_lt 0 s.0) _ k in
      let later = and_parts (nat_lt s.0 (length cells)) _ parts.1 in
      let within : s.0 < length cells = ltb-true s.0 (length cells) later.0 in
      and_from (nat_lt 0 s.0) _ parts.0 (and_from (nat_lt s.0 (length new)) _ (lt-ltb s.0 _ (omega (arith, within, g.serials))) (single_follows (cell_at cells s.0) (cell_at new s.0) (g.each s.0 within) later.1))

  pub value_grown : (v : Value) → knows cells v ≡ true → knows new v ≡ true
  value_grown Null k = refl
  value_grown (Truth b) k = refl
  value_grown (Int n) k = refl
  value_grown (Str s) k = refl
  value_grown (Array s) k = array_follows (cell_at cells s.0) (cell_at new s.0) (g.each s.0 (array_within cells s.0 k)) k
  value_grown (Dict s) k = dict_follows (cell_at cells s.0) (cell_at new s.0) (g.each s.0 (dict_within cells s.0 k)) k
  value_grown (Object s) k = object_grown s k
  value_grown (Callable s m) k = object_grown s k
  value_grown (Signal s m) k = object_grown s k
  value_grown (Class c) k = refl
  value_grown (Scene f p) k = refl
  value_grown (Weak s) k = object_grown s k

  pub key_grown : (q : Key) → knows_key cells q ≡ true → knows_key new q ≡ true
  key_grown (KeyTruth b) k = refl
  key_grown (KeyInt n) k = refl
  key_grown (KeyStr s) k = refl
  key_grown (KeyObject s) k = object_grown s k

  pub values_grown : (vs : List Value) → KnowsAll cells vs → KnowsAll new vs
  values_grown vs k = λ i d l. value_grown (get_or vs i d) (k i d l)

  pub entries_grown : (es : List (Key × Value)) → KnowsEntries cells es → KnowsEntries new es
  entries_grown es k = λ i d l. (key_grown (get_or es i d).0 (k i d l).0, value_grown (get_or es i d).1 (k i d l).1)

  parent_grown : (p : Option Serial) → IfSome p (λ s. knows_object cells s ≡ true) → IfSome p (λ s. knows_object new s ≡ true)
  parent_grown None k = tt
  parent_grown (Some s) k = object_grown s k

  node_grown : (n : Option NodePart) → KnowsNode cells n → KnowsNode new n
  node_grown None k = tt
  node_grown (Some n) k = (parent_grown n.parent k.0, λ i d l. object_grown (get_or n.children i d) (k.1 i d l))

  pub slot_grown : (s : Option Cell) → KnowsSlot cells s → KnowsSlot new s
  slot_grown None k = tt
  slot_grown (Some (ArrayCell vs of)) k = values_grown vs k
  slot_grown (Some (DictCell es)) k = entries_grown es k
  slot_grown (Some (ObjectCell o)) k = (values_grown o.fields k.0, (λ i d l. object_grown (get_or o.connections i d).target (k.1 i d l)), node_grown o.node k.2)

  -- each slot is one that was known before, or nothing
  pub known_grown : AreKnown cells → ((x : ℕ) → KnowsSlot cells (cell_at new x)) → AreKnown new
  known_grown k slots = record {
    first = subst (λ z. Follows z (cell_at new 0)) k.first (g.each 0 k.some);
    some = omega (arith, k.some, g.serials);
    each = λ x. slot_grown (cell_at new x) (slots x);
  }

-- ---- another cell in a place

pub set_cell : (cells : List (Option Cell)) (x y : ℕ) (c : Option Cell) → (cell_at (set cells x c) y ≡ cell_at cells y) ⊎ ((x ≡ y) × (cell_at (set cells x c) y ≡ c))
set_cell cells x y c = elim (cases_eq x y) [
  | inl e ↦ elim (cases_lt x (length cells)) [
    | inl within ↦ inr (e, subst (λ z. cell_at (set cells x c) z ≡ c) e (get_or-set_same cells x c None within))
    | inr past ↦ inl (get_or_past (set cells x c) y None (omega (arith, past, e, length-set cells x c)) ∙ sym (get_or_past cells y None (omega (arith, past, e))))
  ]
  | inr ne ↦ inl (get_or-set_other cells x y c None (λ e. ne (sym e)))
]

pub grown_set : (cells : List (Option Cell)) (x : ℕ) (c : Option Cell) → Follows (cell_at cells x) c → IsGrown cells (set cells x c)
grown_set cells x c f = record {
  serials = omega (arith, length-set cells x c);
  each = λ y h. elim (set_cell cells x y c) [
    | inl same ↦ subst (Follows (cell_at cells y)) (sym same) (follows_itself (cell_at cells y))
    | inr here ↦ subst (Follows (cell_at cells y)) (sym here.1) (subst (λ z. Follows (cell_at cells z) c) here.0 f)
  ];
}

pub known_set : (cells : List (Option Cell)) (x : ℕ) (c : Option Cell) → AreKnown cells → Follows (cell_at cells x) c → KnowsSlot cells c → AreKnown (set cells x c)
known_set cells x c k f n = known_grown cells (set cells x c) (grown_set cells x c f) k (λ y. elim (set_cell cells x y c) [
  | inl same ↦ subst (KnowsSlot cells) (sym same) (k.each y)
  | inr here ↦ subst (KnowsSlot cells) (sym here.1) n
])

-- ---- one cell more

pub grown_push : (cells : List (Option Cell)) (c : Option Cell) → IsGrown cells (cells ++ c ∷ [])
grown_push cells c = record {
  serials = omega (arith, length_push cells c);
  each = λ y h. subst (Follows (cell_at cells y)) (sym (get_or_append_left cells (c ∷ []) None y h)) (follows_itself (cell_at cells y));
}

pub known_push : (cells : List (Option Cell)) (c : Option Cell) → AreKnown cells → KnowsSlot cells c → AreKnown (cells ++ c ∷ [])
known_push cells c k n = known_grown cells (cells ++ c ∷ []) (grown_push cells c) k (λ y. elim (cases_lt y (length cells)) [
  | inl within ↦ subst (KnowsSlot cells) (sym (get_or_append_left cells (c ∷ []) None y within)) (k.each y)
  | inr past ↦ elim (cases_eq (length cells) y) [
    | inl last ↦ subst (KnowsSlot cells) (sym (get_or_push cells c None y last)) n
    | inr other ↦ subst (KnowsSlot cells) (sym (get_or_past (cells ++ c ∷ []) y None (omega (arith, past, other, length_push cells c)))) tt
  ]
])
