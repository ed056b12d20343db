-- The free of an object and its subtree has one outcome.
use Rattle.std.proofs.Common.{◌≡◌, ℕ, Bool, true, false, cond, nat_lt, List, [], ◌∷◌, zero, suc, length, map, refl, sym, ◌∙◌, ap, Option, Some, None, is_some, arith, inl, inr}
use Rattle.std.proofs.lemmas.List.{ext_get_or, get_or_past, length-map, length-set, get_or-set_same, get_or-set_other, set_past}
use Rattle.std.proofs.lemmas.List.FromFn.{length-map-range_with_len, get_or-map-range_with_len}
use Rattle.std.proofs.lemmas.Bool.{cases_lt, cases_Bool, cases_eq, false≢true, and_parts, and_from}
use Rattle.variant_values.specs.declared.values.Serial.{Serial}
use Rattle.variant_values.specs.declared.cells.Cell.{Cell}
use Rattle.variant_values.specs.declared.cells.Cell.TheVariants.{Array as ArrayCell, Dict as DictCell, Object as ObjectCell}
use Rattle.variant_values.specs.declared.values.Value.{Value}
use Rattle.variant_values.specs.declared.values.Value.TheVariants.{Null, Bool as Truth, Int, Str, Array, Dict, Object, Callable, Signal, Class, Scene, Weak}
use Rattle.variant_values.specs.Heaps.{Heap, cell_at, held_at, is_array, is_dict, is_living, is_no_container, knows, knows_object}
use Rattle.variant_values.specs.Sweeps.{cut_slot}
use Rattle.variant_values.specs.Trees.{IsFreed, IsUnder, itself, below, bereft, freed, is_under, left_under, node_put, parent_of, without_child, without_child_of, without_subtree}
use Rattle.variant_values.proofs.Subtrees.{under_is, is_under_only}
use Rattle.variant_values.proofs.Lasting.{cut_array, cut_dict, cut_single}

cut_lives : (p : ℕ → Bool) (s : Option Cell) → is_some (cut_slot p s) ≡ is_some s
cut_lives p None = refl
cut_lives p (Some c) = refl

module _ (h a b : Heap) (top : ℕ) (s : IsFreed h a top) (t : IsFreed h b top) where
  same_living : (x : ℕ) → is_living a.cells x ≡ is_living b.cells x
  same_living x = elim (s.cells x) [
    | inl went ↦ elim (t.cells x) [
      | inl went' ↦ ap is_some (went.1 ∙ sym went'.1)
      | inr left' ↦ absurd (left'.0 went.0)
    ]
    | inr left ↦ elim (t.cells x) [
      | inl went' ↦ absurd (left.0 went'.0)
      | inr left' ↦ ap is_some left.1 ∙ cut_lives (is_living a.cells) (cell_at (without_child h.cells top) x) ∙ sym (cut_lives (is_living b.cells) (cell_at (without_child h.cells top) x)) ∙ sym (ap is_some left'.1)
    ]
  ]

  same_cell : (x : ℕ) → cell_at a.cells x ≡ cell_at b.cells x
  same_cell x =
      let test : is_living a.cells ≡ is_living b.cells = λ i y. same_living y i in
      elim (s.cells x) [
        | inl went ↦ elim (t.cells x) [
          | inl went' ↦ went.1 ∙ sym went'.1
          | inr left' ↦ absurd (left'.0 went.0)
        ]
        | inr left ↦ elim (t.cells x) [
          | inl went' ↦ absurd (left.0 went'.0)
          | inr left' ↦ left.1 ∙ ap (λ p. cut_slot p (cell_at (without_child h.cells top) x)) test ∙ sym left'.1
        ]
      ]

heap_by : List (Option Cell) → List ℕ → List Serial → Heap
heap_by cells held queued = record { cells = cells; held = held; queued = queued }

pub freed_once : (h a b : Heap) (top : ℕ) → IsFreed h a top → IsFreed h b top → a ≡ b
unfolding heap_by
freed_once h a b top s t =
    let cells : a.cells ≡ b.cells = ext_get_or None a.cells b.cells (s.serials ∙ sym t.serials) (λ x l. same_cell h a b top s t x) in
    let held : a.held ≡ b.held = ext_get_or 0 a.held b.held (s.places ∙ sym t.places) (λ x l. s.held x ∙ ap (λ e. cond e (held_at h x) 0) (same_living h a b top s t x) ∙ sym (t.held x)) in
    λ i. heap_by (cells i) (held i) ((s.queued ∙ sym t.queued) i)

-- the function frees
pub length-without_child : (cells : List (Option Cell)) (x : ℕ) → length (without_child cells x) ≡ length cells
length-without_child cells x = by_parent (parent_of (cell_at cells x))
  where
    by_parent : (o : Option Serial) → length (without_child_of o cells x) ≡ length cells
    by_parent None = refl
    by_parent (Some p) = length-set cells p.0 (node_put (bereft x) (cell_at cells p.0))

none_left : (b : Bool) (s : Option Cell) → s ≡ None → cond b None s ≡ None
none_left true s e = refl
none_left false s e = e

length-left : (cells : List (Option Cell)) (top : ℕ) → length (without_subtree cells top) ≡ length cells
unfolding without_subtree
length-left cells top = length-map-range_with_len (left_under cells top) 0 (length cells)

pub cell-left : (cells : List (Option Cell)) (top x : ℕ) → cell_at (without_subtree cells top) x ≡ left_under cells top x
unfolding without_subtree
cell-left cells top x = elim (cases_lt x (length cells)) [
  | inl h ↦ get_or-map-range_with_len (left_under cells top) 0 (length cells) x x None h (omega arith)
  | inr h ↦ get_or_past (without_subtree cells top) x None (omega (arith, length-left cells top, h)) ∙ sym (none_left (is_under cells top x) _ (get_or_past (without_child cells top) x None (omega (arith, length-without_child cells top, h))))
]

cell-cut : (p : ℕ → Bool) (cells : List (Option Cell)) (x : ℕ) → cell_at (map (cut_slot p) cells) x ≡ cut_slot p (cell_at cells x)
cell-cut p [] x = refl
cell-cut p (s ∷ ss) zero = refl
cell-cut p (s ∷ ss) (suc x) = cell-cut p ss x

no_less : (b : Bool) → ◌≡◌ {A = ℕ} (cond b 0 0) 0
no_less true = refl
no_less false = refl

-- what lives then
pub freed_lives : (h : Heap) (top x : ℕ) → is_living (freed h top).cells x ≡ is_living (without_subtree h.cells top) x
freed_lives h top x =
    let left = without_subtree h.cells top in
    ap is_some (cell-cut (is_living left) left x) ∙ cut_lives (is_living left) (cell_at left x)

pub freed_is : (h : Heap) (top : ℕ) → IsFreed h (freed h top) top
freed_is h top =
    let left = without_subtree h.cells top in
    let test : is_living left ≡ is_living (freed h top).cells = λ i y. (sym (freed_lives h top y)) i in
    let cell : (x : ℕ) → cell_at (freed h top).cells x ≡ cut_slot (is_living left) (left_under h.cells top x) = λ x. cell-cut (is_living left) left x ∙ ap (cut_slot (is_living left)) (cell-left h.cells top x) in
    record {
      serials = length-map left (cut_slot (is_living left)) ∙ length-left h.cells top;
      cells = λ x. elim (cases_Bool (is_under h.cells top x)) [
        | inl under ↦ inl (is_under_only h.cells top x under, cell x ∙ ap (λ b. cut_slot (is_living left) (cond b None (cell_at (without_child h.cells top) x))) under)
        | inr apart ↦ inr ((λ u. false≢true (sym apart ∙ under_is h.cells top x u)), cell x ∙ ap (λ b. cut_slot (is_living left) (cond b None (cell_at (without_child h.cells top) x))) apart ∙ ap (λ p. cut_slot p (cell_at (without_child h.cells top) x)) test)
      ];
      places = length-map-range_with_len (λ x. cond (is_living left x) (held_at h x) 0) 0 (length h.held);
      held = λ x. elim (cases_lt x (length h.held)) [
        | inl l ↦ get_or-map-range_with_len (λ y. cond (is_living left y) (held_at h y) 0) 0 (length h.held) x x 0 l (omega arith) ∙ ap (λ p. cond (p x) (held_at h x) 0) test
        | inr l ↦ get_or_past (freed h top).held x 0 (omega (arith, l, length-map-range_with_len (λ y. cond (is_living left y) (held_at h y) 0) 0 (length h.held))) ∙ sym (no_less (is_living (freed h top).cells x)) ∙ ap (λ n. cond (is_living (freed h top).cells x) n 0) (sym (get_or_past h.held x 0 l))
      ];
      queued = refl;
    }

-- a free is the function's answer
pub freed_only : (h new : Heap) (top : ℕ) → IsFreed h new top → new ≡ freed h top
freed_only h new top s = freed_once h new (freed h top) top s (freed_is h top)

-- what is known stays known
put_same : {A : Type 0} (f : Option Cell → A) → ((s : Option Cell) (x : ℕ) → f (node_put (bereft x) s) ≡ f s) → (cells : List (Option Cell)) (x y : ℕ) → f (cell_at (without_child cells x) y) ≡ f (cell_at cells y)
put_same f same cells x y = by_parent (parent_of (cell_at cells x))
  where
    by_parent : (o : Option Serial) → f (cell_at (without_child_of o cells x) y) ≡ f (cell_at cells y)
    by_parent None = refl
    by_parent (Some p) = elim (cases_eq p.0 y) [
      | inl e ↦ elim (cases_lt p.0 (length cells)) [
        | inl h ↦ ap f (ap (cell_at (without_child_of (Some p) cells x)) (sym e) ∙ get_or-set_same cells p.0 (node_put (bereft x) (cell_at cells p.0)) None h) ∙ same (cell_at cells p.0) x ∙ ap (λ z. f (cell_at cells z)) e
        | inr h ↦ ap (λ c. f (cell_at c y)) (set_past cells p.0 (node_put (bereft x) (cell_at cells p.0)) h)
      ]
      | inr ne ↦ ap f (get_or-set_other cells p.0 y (node_put (bereft x) (cell_at cells p.0)) None (λ e. ne (sym e)))
    ]

put_array : (s : Option Cell) (x : ℕ) → is_array (node_put (bereft x) s) ≡ is_array s
put_array None x = refl
put_array (Some (ArrayCell vs of)) x = refl
put_array (Some (DictCell es)) x = refl
put_array (Some (ObjectCell o)) x = refl

put_dict : (s : Option Cell) (x : ℕ) → is_dict (node_put (bereft x) s) ≡ is_dict s
put_dict None x = refl
put_dict (Some (ArrayCell vs of)) x = refl
put_dict (Some (DictCell es)) x = refl
put_dict (Some (ObjectCell o)) x = refl

put_single : (s : Option Cell) (x : ℕ) → is_no_container (node_put (bereft x) s) ≡ is_no_container s
put_single None x = refl
put_single (Some (ArrayCell vs of)) x = refl
put_single (Some (DictCell es)) x = refl
put_single (Some (ObjectCell o)) x = refl

put_lives : (s : Option Cell) (x : ℕ) → is_some (node_put (bereft x) s) ≡ is_some s
put_lives None x = refl
put_lives (Some (ArrayCell vs of)) x = refl
put_lives (Some (DictCell es)) x = refl
put_lives (Some (ObjectCell o)) x = refl

pub lives_as_child : (cells : List (Option Cell)) (top x : ℕ) → is_living (without_child cells top) x ≡ is_living cells x
lives_as_child cells top x = put_same is_some put_lives cells top x

single_array : (s : Option Cell) → is_no_container s ≡ true → is_array s ≡ true → ⊥
single_array None e a = false≢true a
single_array (Some (ArrayCell vs of)) e a = false≢true e
single_array (Some (DictCell es)) e a = false≢true e
single_array (Some (ObjectCell o)) e a = false≢true a

single_dict : (s : Option Cell) → is_no_container s ≡ true → is_dict s ≡ true → ⊥
single_dict None e a = false≢true a
single_dict (Some (ArrayCell vs of)) e a = false≢true e
single_dict (Some (DictCell es)) e a = false≢true e
single_dict (Some (ObjectCell o)) e a = false≢true a

parent_single : (s : Option Cell) (p : Serial) → parent_of s ≡ Some p → is_no_container s ≡ true
parent_single None p e = refl
parent_single (Some (ArrayCell vs of)) p e = absurd (false≢true (ap is_some e))
parent_single (Some (DictCell es)) p e = absurd (false≢true (ap is_some e))
parent_single (Some (ObjectCell o)) p e = refl

-- what goes is an object
pub under_single : (cells : List (Option Cell)) (top x : ℕ) → is_no_container (cell_at cells top) ≡ true → IsUnder cells top x → is_no_container (cell_at cells x) ≡ true
under_single cells top w e itself = e
under_single cells top w e (below x p f u) = parent_single (cell_at cells x) p f

module _ (h new : Heap) (top : ℕ) (single : is_no_container (cell_at h.cells top) ≡ true) (w : IsFreed h new top) where
  array_lasts : (x : ℕ) → is_array (cell_at h.cells x) ≡ true → is_array (cell_at new.cells x) ≡ true
  array_lasts x k = elim (w.cells x) [
    | inl went ↦ absurd (single_array (cell_at h.cells x) (under_single h.cells top x single went.0) k)
    | inr left ↦ ap is_array left.1 ∙ cut_array (is_living new.cells) (cell_at (without_child h.cells top) x) ∙ put_same is_array put_array h.cells top x ∙ k
  ]

  dict_lasts : (x : ℕ) → is_dict (cell_at h.cells x) ≡ true → is_dict (cell_at new.cells x) ≡ true
  dict_lasts x k = elim (w.cells x) [
    | inl went ↦ absurd (single_dict (cell_at h.cells x) (under_single h.cells top x single went.0) k)
    | inr left ↦ ap is_dict left.1 ∙ cut_dict (is_living new.cells) (cell_at (without_child h.cells top) x) ∙ put_same is_dict put_dict h.cells top x ∙ k
  ]

  pub object_lasts : (s : Serial) → knows_object h.cells s ≡ true → knows_object new.cells s ≡ true
  object_lasts s k =
      let parts = and_parts (nat_lt 0 s.0) _ k in
      let later = and_parts (nat_lt s.0 (length h.cells)) _ parts.1 in
      and_from (nat_lt 0 s.0) _ parts.0 (and_from (nat_lt s.0 (length new.cells)) _ (ap (nat_lt s.0) w.serials ∙ later.0) (elim (w.cells s.0) [
        | inl went ↦ ap is_no_container went.1
        | inr left ↦ ap is_no_container left.1 ∙ cut_single (is_living new.cells) (cell_at (without_child h.cells top) s.0) ∙ put_same is_no_container put_single h.cells top s.0 ∙ later.1
      ]))

  pub freed_keeps : (v : Value) → knows h.cells v ≡ true → knows new.cells v ≡ true
  freed_keeps Null k = refl
  freed_keeps (Truth b) k = refl
  freed_keeps (Int i) k = refl
  freed_keeps (Str s) k = refl
  freed_keeps (Array s) k = array_lasts s.0 k
  freed_keeps (Dict s) k = dict_lasts s.0 k
  freed_keeps (Object s) k = object_lasts s k
  freed_keeps (Callable s m) k = object_lasts s k
  freed_keeps (Signal s m) k = object_lasts s k
  freed_keeps (Class c) k = refl
  freed_keeps (Scene f p) k = refl
  freed_keeps (Weak s) k = object_lasts s k
