-- An object and its subtree are taken away.
use Rattle.std.proofs.Common.{◌≡◌, ℕ, ◌+◌, ◌-◌, ◌<◌, ◌≤◌, Bool, true, false, not, cond, List, length, get_or, set, refl, sym, ◌∙◌, ap, subst, Option, Some, None, is_some, arith, inl, inr}
use Rattle.std.proofs.lemmas.List.{set_past, map-set, get_or-set_same, get_or-set_other, get_or_past, length-set, length-map}
use Rattle.std.proofs.lemmas.List.Elements.{All-filter}
use Rattle.std.specs.Prelude.{nat_eq}
use Rattle.std.proofs.lemmas.Bool.{cases_Bool, cases_eq, cases_lt, false≢true}
use Rattle.variant_values.specs.declared.values.Serial.{Serial}
use Rattle.variant_values.specs.declared.cells.NodePart.{NodePart}
use Rattle.variant_values.specs.declared.cells.Cell.{Cell}
use Rattle.variant_values.specs.declared.cells.Cell.TheVariants.{Array as ArrayCell, Dict as DictCell, Object as ObjectCell}
use Rattle.variant_values.specs.Places.{in_cell, in_slot, in_cells, cell_weight, weight}
use Rattle.variant_values.specs.Heaps.{cell_at, is_living, is_object, is_array, is_dict, is_no_container, knows_object, KnowsSlot, KnowsNode}
use Rattle.variant_values.specs.Links.{connections_of, connections_in}
use Rattle.variant_values.specs.Sweeps.{cut_slot}
use Rattle.variant_values.specs.Trees.{parent_of, parent_in, is_node, node_put, bereft, without_child, without_child_of, IsRooted, IsUnder, itself, below, IsFreed}
use Rattle.variant_values.proofs.Sweeping.{slot_le}
use Rattle.variant_values.proofs.Knowing.{IsAlike, slot_alike}
use Rattle.ref_objects.specs.declared.slots.Slot.{Slot}
use Rattle.ref_objects.specs.Slots.{gone, count_at, cells_of, lives, held_of, heap_of, IsKept, IsSteady, IsNow, IsPut, IsCut, IsLowered, IsLost, IsFreeing, IsFreePass, IsPruned, is_orphan, has_gone}
use Rattle.ref_objects.proofs.Raising.{lives-cells, lives_same}
use Rattle.ref_objects.proofs.Holding.{length-held_of}
use Rattle.ref_objects.proofs.Following.{IsFollowed, followed_left, followed_kept}
use Rattle.ref_objects.proofs.Taking.{in_cells-out, weight-out, lives_other, lives_out}
use Rattle.ref_objects.proofs.Swapping.{kind_kept}
use Rattle.ref_objects.proofs.Adopting.{nodes_now, node_apart, node_object}
use Rattle.ref_objects.proofs.Linking.{object_within}
use Rattle.ref_objects.proofs.Steady.{fewer, cut_parent, cut_node, cut_fewer}

-- a cell is cleared
module _ (a b : List Slot) (x total : ℕ) (cell : Cell) (k : IsKept a total) (within : x < length a) (out : b ≡ set a x gone) (at : Some cell ≡ cell_at (cells_of a) x) where
  within_cells : x < length (cells_of a)
  within_cells = rw (length-map a (λ s. s.cell)) within

  cells_b : cells_of b ≡ set (cells_of a) x None
  cells_b = ap cells_of out ∙ map-set (λ s. s.cell) a x gone

  count_x : count_at b x ≡ 0
  count_x = ap (λ s. count_at s x) out ∙ ap (λ s. s.count) (get_or-set_same a x gone gone within)

  count_other : (y : ℕ) → (x ≡ y → ⊥) → count_at b y ≡ count_at a y
  count_other y ne = ap (λ s. count_at s y) out ∙ ap (λ s. s.count) (get_or-set_other a x y gone gone (λ e. ne (sym e)))

  apart : (y : ℕ) → lives b y ≡ true → (x ≡ y → ⊥)
  apart y l e = false≢true (sym (lives_out a b x cells_b within) ∙ subst (λ w. lives b w ≡ true) (sym e) l)

  pub clear_held : (y : ℕ) → lives b y ≡ true → in_cell y cell ≤ count_at b y
  clear_held y l =
      let ne = apart y l in
      let la : lives a y ≡ true = sym (lives_other a b x y cells_b ne) ∙ l in
      let le : in_slot y (cell_at (cells_of a) x) ≤ in_cells y (cells_of a) = slot_le y x (cells_of a) in
      omega (arith, count_other y ne, k.counted y la, le, ap (in_slot y) at)

  module _ (c : List Slot) (object : is_object (cell_at (cells_of a) x) ≡ true) (low : IsLowered b c (λ y. in_cell y cell)) where
    cells_c : cells_of c ≡ set (cells_of a) x None
    cells_c = low.cells ∙ cells_b

    lives_c : (y : ℕ) → lives c y ≡ lives b y
    lives_c y = lives_same b c low.cells y

    cleared_followed : IsFollowed a c
    cleared_followed = record {
      same = sym (length-map c (λ s. s.cell)) ∙ ap length cells_c ∙ length-set (cells_of a) x None ∙ length-map a (λ s. s.cell);
      living = λ y l. sym (lives_other a b x y cells_b (apart y (sym (lives_c y) ∙ l))) ∙ sym (lives_c y) ∙ l;
      counts = λ y l.
          let lb : lives b y ≡ true = sym (lives_c y) ∙ l in
          rw cells_c (omega (arith, rw lb at (low.counts y), count_other y (apart y lb), in_cells-out y x (cells_of a) cell within_cells (sym at)));
      gone = λ y l.
          let lb : lives b y ≡ false = sym (lives_c y) ∙ l in
          elim (cases_eq x y) [
            | inl e ↦ subst (λ w. count_at c w ≡ 0) e (omega (arith, low.counts x, count_x))
            | inr ne ↦ omega (arith, rw lb at (low.counts y), count_other y ne, k.gone y (sym (lives_other a b x y cells_b ne) ∙ lb))
          ];
    }

    none_kind : (f : Option Cell → Bool) → f None ≡ f (cell_at (cells_of a) x) → (y : ℕ) → f (cell_at (set (cells_of a) x None) y) ≡ f (cell_at (cells_of a) y)
    none_kind f e y = kind_kept f (cells_of a) x y None within_cells e

    alike : IsAlike (cells_of a) (set (cells_of a) x None)
    alike = record {
      same = length-set (cells_of a) x None;
      array = none_kind is_array (no_array (cell_at (cells_of a) x) object);
      dict = none_kind is_dict (no_dict (cell_at (cells_of a) x) object);
      object = none_kind is_no_container (single (cell_at (cells_of a) x) object);
    }
      where
        no_array : (s : Option Cell) → is_object s ≡ true → false ≡ is_array s
        no_array None o = refl
        no_array (Some (ArrayCell vs of)) o = absurd (false≢true o)
        no_array (Some (DictCell es)) o = refl
        no_array (Some (ObjectCell p)) o = refl

        no_dict : (s : Option Cell) → is_object s ≡ true → false ≡ is_dict s
        no_dict None o = refl
        no_dict (Some (ArrayCell vs of)) o = refl
        no_dict (Some (DictCell es)) o = absurd (false≢true o)
        no_dict (Some (ObjectCell p)) o = refl

        single : (s : Option Cell) → is_object s ≡ true → true ≡ is_no_container s
        single None o = refl
        single (Some (ArrayCell vs of)) o = absurd (false≢true o)
        single (Some (DictCell es)) o = absurd (false≢true o)
        single (Some (ObjectCell p)) o = refl

    known : (y : ℕ) → KnowsSlot (set (cells_of a) x None) (cell_at (set (cells_of a) x None) y)
    known y = elim (cases_eq x y) [
      | inl e ↦ subst (λ w. KnowsSlot (set (cells_of a) x None) (cell_at (set (cells_of a) x None) w)) e (let P : Option Cell → Type 0 = λ s. KnowsSlot (set (cells_of a) x None) s in subst P (sym (get_or-set_same (cells_of a) x None None within_cells)) tt)
      | inr ne ↦ let P : Option Cell → Type 0 = λ s. KnowsSlot (set (cells_of a) x None) s in subst P (sym (get_or-set_other (cells_of a) x y None None (λ e. ne (sym e)))) (slot_alike (cells_of a) (set (cells_of a) x None) (cell_at (cells_of a) y) alike (k.known y))
    ]

    pub cleared_lost : IsLost a c x
    cleared_lost = record { cells = cells_c; held = followed_left a c total k cleared_followed }

    pub cleared_kept : IsKept c (total - cell_weight cell)
    cleared_kept =
        let w : weight (set (cells_of a) x None) + cell_weight cell ≡ weight (cells_of a) = weight-out x (cells_of a) cell within_cells (sym at) in
        followed_kept a c total (total - cell_weight cell) k cleared_followed (rw cells_c (omega (arith, w, k.weighed))) (omega (arith, k.light)) (rw cells_c known)

-- where parents are the same, so is what is below a node
under_same : (cells cells' : List (Option Cell)) (top : ℕ) → ((y : ℕ) → parent_of (cell_at cells' y) ≡ parent_of (cell_at cells y)) → (x : ℕ) → IsUnder cells top x → IsUnder cells' top x
under_same cells cells' top e w itself = itself
under_same cells cells' top e w (below x p h u) = below x p (e x ∙ h) (under_same cells cells' top e p.0 u)

orphan_parent : (cells : List (Option Cell)) (o : Option Serial) → has_gone cells o ≡ true → (p : Serial) × (o ≡ Some p) × (is_living cells p.0 ≡ false)
orphan_parent cells None h = absurd (false≢true h)
orphan_parent cells (Some p) h = (p, refl, not_true (is_living cells p.0) h)
  where
    not_true : (b : Bool) → not b ≡ true → b ≡ false
    not_true true h = absurd (false≢true h)
    not_true false h = refl

parent_node : (s : Option Cell) (p : Serial) → parent_of s ≡ Some p → is_node s ≡ true
parent_node None p e = absurd (false≢true (ap is_some e))
parent_node (Some (ArrayCell vs of)) p e = absurd (false≢true (ap is_some e))
parent_node (Some (DictCell es)) p e = absurd (false≢true (ap is_some e))
parent_node (Some (ObjectCell o)) p e = part o.node e
  where
    part : (n : Option NodePart) → parent_in n ≡ Some p → is_some n ≡ true
    part None e = absurd (false≢true (ap is_some e))
    part (Some n) e = refl

node_lives : (s : Option Cell) → is_node s ≡ true → is_some s ≡ true
node_lives None n = absurd (false≢true n)
node_lives (Some c) n = refl

pub orphan_object : (cells : List (Option Cell)) (x : ℕ) → is_orphan cells x ≡ true → is_object (cell_at cells x) ≡ true
orphan_object cells x h = let q = orphan_parent cells (parent_of (cell_at cells x)) h in node_object (cell_at cells x) (parent_node (cell_at cells x) q.0 q.1)

-- the top goes first
pub freeing_top : (a b : List Slot) (left top : ℕ) → IsRooted (cells_of a) → top < length a → IsKept b left → IsLost a b top → IsFreeing a b left top
freeing_top a b left top r h k l = record {
  rooted = r;
  kept = k;
  same = sym (length-map b (λ s. s.cell)) ∙ ap length l.cells ∙ length-set (cells_of a) top None ∙ length-map a (λ s. s.cell);
  each = λ y. elim (cases_eq top y) [
    | inl e ↦ inr (ap (λ cells. cell_at cells y) l.cells ∙ subst (λ z. cell_at (set (cells_of a) top None) z ≡ None) e (get_or-set_same (cells_of a) top None None (rw (length-map a (λ s. s.cell)) h)), subst (λ z. IsUnder (cells_of a) top z) e itself)
    | inr ne ↦ inl (ap (λ cells. cell_at cells y) l.cells ∙ get_or-set_other (cells_of a) top y None None (λ e. ne (sym e)))
  ];
  held = l.held;
  top_gone = lives_out a b top l.cells h;
}

lives_lost : (b c : List Slot) (x y : ℕ) → IsLost b c x → lives c y ≡ true → lives b y ≡ true
lives_lost b c x y l lc = elim (cases_eq x y) [
  | inl e ↦ elim (cases_lt x (length b)) [
    | inl h ↦ absurd (false≢true (sym (lives_out b c x l.cells h) ∙ subst (λ z. lives c z ≡ true) (sym e) lc))
    | inr h ↦ absurd (false≢true (sym (past_gone (rw (length_c) (omega (arith, h, e)))) ∙ lc))
  ]
  | inr ne ↦ sym (lives_other b c x y l.cells ne) ∙ lc
]
  where
    length_c : length c ≡ length b
    length_c = sym (length-map c (λ s. s.cell)) ∙ ap length l.cells ∙ length-set (cells_of b) x None ∙ length-map b (λ s. s.cell)

    past_gone : length c ≤ y → lives c y ≡ false
    past_gone h = ap (λ s. is_some s.cell) (get_or_past c y gone h)

-- one more goes, whose parent has gone
pub freeing_more : (a b c : List Slot) (left left' top x : ℕ) → IsFreeing a b left top → is_orphan (cells_of b) x ≡ true → IsKept c left' → IsLost b c x → IsFreeing a c left' top
freeing_more a b c left left' top x f o k l = record {
  rooted = f.rooted;
  kept = k;
  same = sym (length-map c (λ s. s.cell)) ∙ ap length l.cells ∙ length-set (cells_of b) x None ∙ length-map b (λ s. s.cell) ∙ f.same;
  each = λ y. elim (cases_eq x y) [
    | inl e ↦ inr (ap (λ cells. cell_at cells y) l.cells ∙ subst (λ z. cell_at (set (cells_of b) x None) z ≡ None) e (get_or-set_same (cells_of b) x None None (object_within (cells_of b) x (orphan_object (cells_of b) x o))), subst (λ z. IsUnder (cells_of a) top z) e under)
    | inr ne ↦ elim (f.each y) [
      | inl same ↦ inl (ap (λ cells. cell_at cells y) l.cells ∙ get_or-set_other (cells_of b) x y None None (λ e. ne (sym e)) ∙ same)
      | inr went ↦ inr (ap (λ cells. cell_at cells y) l.cells ∙ get_or-set_other (cells_of b) x y None None (λ e. ne (sym e)) ∙ went.0, went.1)
    ]
  ];
  held = λ y. l.held y ∙ held_by y (lives c y) refl;
  top_gone = elim (cases_Bool (lives c top)) [ inl lc ↦ absurd (false≢true (sym f.top_gone ∙ lives_lost b c x top l lc)) | inr lc ↦ lc ];
}
  where
    held_by : (y : ℕ) (t : Bool) → lives c y ≡ t → cond t (get_or (held_of b) y 0) 0 ≡ cond t (get_or (held_of a) y 0) 0
    held_by y true lc = f.held y ∙ ap (λ t. cond t (get_or (held_of a) y 0) 0) (lives_lost b c x y l lc)
    held_by y false lc = refl

    under : IsUnder (cells_of a) top x
    under =
        let q = orphan_parent (cells_of b) (parent_of (cell_at (cells_of b) x)) o in
        elim (f.each x) [
          | inl same ↦
              let here : parent_of (cell_at (cells_of a) x) ≡ Some q.0 = ap parent_of (sym same) ∙ q.1 in
              elim (f.each q.0.0) [
                | inl there ↦ absurd (false≢true (sym q.2 ∙ ap is_some there ∙ node_lives (cell_at (cells_of a) q.0.0) (f.rooted x q.0 here)))
                | inr went ↦ below x q.0 here went.1
              ]
          | inr went ↦ went.1
        ]

-- passes
pub free_pass_none : (a : List Slot) (total : ℕ) → IsKept a total → IsFreePass a a total total 0
free_pass_none a total k = record { freed = λ first top f. f; kept = k; less = omega arith; same = refl; none = λ e x h. absurd (omega (arith, h)) }

pub free_pass_over : (a b : List Slot) (total left i : ℕ) → IsFreePass a b total left i → is_orphan (cells_of b) i ≡ false → IsFreePass a b total left (i + 1)
free_pass_over a b total left i p z = record {
  freed = p.freed;
  kept = p.kept;
  less = p.less;
  same = p.same;
  none = λ e x h. elim (cases_eq i x) [
    | inl same ↦ subst (λ y. is_orphan (cells_of b) y ≡ false) same z
    | inr ne ↦ p.none e x (omega (arith, h, ne))
  ];
}

pub free_pass_more : (a b c : List Slot) (total left left' i : ℕ) → IsFreePass a b total left i → is_orphan (cells_of b) i ≡ true → IsKept c left' → IsLost b c i → left' < left → IsFreePass a c total left' (i + 1)
free_pass_more a b c total left left' i p z kept lost less = record {
  freed = λ first top f. freeing_more first b c left left' top i (p.freed first top f) z kept lost;
  kept = kept;
  less = omega (arith, p.less, less);
  same = sym (length-map c (λ s. s.cell)) ∙ ap length lost.cells ∙ length-set (cells_of b) i None ∙ length-map b (λ s. s.cell) ∙ p.same;
  none = λ e x h. absurd (omega (arith, e, p.less, less));
}

pub free_passed : (a b : List Slot) (total left i : ℕ) → IsFreePass a b total left i → length b ≤ i → left ≡ total → (x : ℕ) → is_orphan (cells_of b) x ≡ false
free_passed a b total left i p h e x = elim (cases_lt x i) [
  | inl l ↦ p.none e x l
  | inr l ↦ ap (λ s. has_gone (cells_of b) (parent_of s)) (get_or_past (cells_of b) x None (rw (length-map b (λ s. s.cell)) (omega (arith, h, l))))
]

-- where no node has lost its parent, all below the top has gone
all_freed : (a b : List Slot) (left top : ℕ) → IsFreeing a b left top → ((x : ℕ) → is_orphan (cells_of b) x ≡ false) → (x : ℕ) → IsUnder (cells_of a) top x → is_living (cells_of b) x ≡ false
all_freed a b left top f none w itself = lives-cells b top ∙ f.top_gone
all_freed a b left top f none w (below x p h u) = elim (f.each x) [
  | inl same ↦ absurd (false≢true (sym (none x) ∙ ap (has_gone (cells_of b)) (ap parent_of same ∙ h) ∙ ap not (all_freed a b left top f none p.0 u)))
  | inr went ↦ ap is_some went.0
]

under_lives : (cells : List (Option Cell)) (top : ℕ) → is_living cells top ≡ true → (x : ℕ) → IsUnder cells top x → is_living cells x ≡ true
under_lives cells top l w itself = l
under_lives cells top l w (below x p h u) = node_lives (cell_at cells x) (parent_node (cell_at cells x) p h)

cut_some : (p : ℕ → Bool) (s : Option Cell) → is_some (cut_slot p s) ≡ is_some s
cut_some p None = refl
cut_some p (Some c) = refl

-- what is the same of a cell and of another that is put there is the same of all cells
put_same : {X : Type 0} (f : Option Cell → X) (cells : List (Option Cell)) (x y : ℕ) (t : Option Cell) → f t ≡ f (cell_at cells x) → f (cell_at (set cells x t) y) ≡ f (cell_at cells y)
put_same f cells x y t e = elim (cases_lt x (length cells)) [
  | inl h ↦ elim (cases_eq x y) [
    | inl same ↦ subst (λ z. f (cell_at (set cells x t) z) ≡ f (cell_at cells z)) same (ap f (get_or-set_same cells x t None h) ∙ e)
    | inr ne ↦ ap f (get_or-set_other cells x y t None (λ e. ne (sym e)))
  ]
  | inr h ↦ ap (λ (d : List (Option Cell)). f (cell_at d y)) (set_past cells x t h)
]

bereft_known : (cells : List (Option Cell)) (x : ℕ) (m : NodePart) → KnowsNode cells (Some m) → KnowsNode cells (Some (bereft x m))
bereft_known cells x m k = (k.0, All-filter (λ (s : Serial). not (nat_eq s.0 x)) (λ s. knows_object cells s ≡ true) m.children k.1)

-- a node is no child of its parent any more
module _ (a : List Slot) (x total : ℕ) (k : IsKept a total) (r : IsRooted (cells_of a)) where
  pub parent_object : (p : Serial) → Some p ≡ parent_of (cell_at (cells_of a) x) → is_object (cell_at (cells_of a) p.0) ≡ true
  parent_object p e = node_object (cell_at (cells_of a) p.0) (r x p (sym e))

  pub parent_within : (p : Serial) → Some p ≡ parent_of (cell_at (cells_of a) x) → p.0 < length a
  parent_within p e = subst (λ n. p.0 < n) (length-map a (λ s. s.cell)) (object_within (cells_of a) p.0 (parent_object p e))

  pub detached_some : (c : List Slot) (p : Serial) → Some p ≡ parent_of (cell_at (cells_of a) x) → IsPut a c p.0 (node_put (bereft x) (cell_at (cells_of a) p.0)) → IsNow a c total (without_child (cells_of a) x)
  detached_some c p e put =
      let P : Option Serial → Type 0 = λ o. IsNow a c total (without_child_of o (cells_of a) x) in
      subst P e (nodes_now a c p.0 total (bereft x) (parent_within p e) k put (bereft_known (cells_of a) x))

  pub detached_none : None ≡ parent_of (cell_at (cells_of a) x) → IsNow a a total (without_child (cells_of a) x)
  detached_none e =
      let P : Option Serial → Type 0 = λ o. IsNow a a total (without_child_of o (cells_of a) x) in
      subst P e (record { kept = k; cells_are = refl; held = refl })

-- what such a cell has is what it had
without_same : {X : Type 0} (f : Option Cell → X) → ((x : ℕ) (s : Option Cell) → f (node_put (bereft x) s) ≡ f s) → (cells : List (Option Cell)) (x y : ℕ) → f (cell_at (without_child cells x) y) ≡ f (cell_at cells y)
without_same f e cells x y = by (parent_of (cell_at cells x))
  where
    by : (o : Option Serial) → f (cell_at (without_child_of o cells x) y) ≡ f (cell_at cells y)
    by None = refl
    by (Some p) = put_same f cells p.0 y (node_put (bereft x) (cell_at cells p.0)) (e x (cell_at cells p.0))

without_length : (cells : List (Option Cell)) (x : ℕ) → length (without_child cells x) ≡ length cells
without_length cells x = by (parent_of (cell_at cells x))
  where
    by : (o : Option Serial) → length (without_child_of o cells x) ≡ length cells
    by None = refl
    by (Some p) = length-set cells p.0 (node_put (bereft x) (cell_at cells p.0))

bereft_parent : (x : ℕ) (s : Option Cell) → parent_of (node_put (bereft x) s) ≡ parent_of s
bereft_parent x s = (node_apart (bereft x) s (λ m. refl)).parent

bereft_node : (x : ℕ) (s : Option Cell) → is_node (node_put (bereft x) s) ≡ is_node s
bereft_node x s = (node_apart (bereft x) s (λ m. refl)).node

bereft_links : (x : ℕ) (s : Option Cell) → connections_of (node_put (bereft x) s) ≡ connections_of s
bereft_links x s = (node_apart (bereft x) s (λ m. refl)).links

bereft_some : (x : ℕ) (s : Option Cell) → is_some (node_put (bereft x) s) ≡ is_some s
bereft_some x None = refl
bereft_some x (Some (ArrayCell vs of)) = refl
bereft_some x (Some (DictCell es)) = refl
bereft_some x (Some (ObjectCell o)) = refl

bereft_object : (x : ℕ) (s : Option Cell) → is_object (node_put (bereft x) s) ≡ is_object s
bereft_object x None = refl
bereft_object x (Some (ArrayCell vs of)) = refl
bereft_object x (Some (DictCell es)) = refl
bereft_object x (Some (ObjectCell o)) = refl

module _ (a a' : List Slot) (x total : ℕ) (n : IsNow a a' total (without_child (cells_of a) x)) where
  same_parent : (y : ℕ) → parent_of (cell_at (cells_of a') y) ≡ parent_of (cell_at (cells_of a) y)
  same_parent y = ap (λ cells. parent_of (cell_at cells y)) n.cells_are ∙ without_same parent_of bereft_parent (cells_of a) x y

  same_node : (y : ℕ) → is_node (cell_at (cells_of a') y) ≡ is_node (cell_at (cells_of a) y)
  same_node y = ap (λ cells. is_node (cell_at cells y)) n.cells_are ∙ without_same is_node bereft_node (cells_of a) x y

  same_lives : (y : ℕ) → is_living (cells_of a') y ≡ is_living (cells_of a) y
  same_lives y = ap (λ cells. is_living cells y) n.cells_are ∙ without_same is_some bereft_some (cells_of a) x y

  pub detached_object : is_object (cell_at (cells_of a) x) ≡ true → is_object (cell_at (cells_of a') x) ≡ true
  detached_object o = ap (λ cells. is_object (cell_at cells x)) n.cells_are ∙ without_same is_object bereft_object (cells_of a) x x ∙ o

  detached_length : length a' ≡ length a
  detached_length = sym (length-map a' (λ s. s.cell)) ∙ ap length n.cells_are ∙ without_length (cells_of a) x ∙ length-map a (λ s. s.cell)

  pub detached_within : x < length a → x < length a'
  detached_within h = rw detached_length h

  pub detached_rooted : IsRooted (cells_of a) → IsRooted (cells_of a')
  detached_rooted r y p e = same_node p.0 ∙ r y p (sym (same_parent y) ∙ e)

  module _ (b c : List Slot) (left : ℕ) (f : IsFreeing a' b left x) (none : (y : ℕ) → is_orphan (cells_of b) y ≡ false) (cut : IsCut b c) (held : held_of c ≡ held_of b) (object : is_object (cell_at (cells_of a) x) ≡ true) where
    living_c : (y : ℕ) → is_living (cells_of c) y ≡ is_living (cells_of b) y
    living_c y = ap is_some (cut.each y) ∙ cut_some (is_living (cells_of b)) (cell_at (cells_of b) y)

    test : is_living (cells_of b) ≡ is_living (cells_of c)
    test = λ i y. sym (living_c y) i

    into : (y : ℕ) → IsUnder (cells_of a) x y → IsUnder (cells_of a') x y
    into y = under_same (cells_of a) (cells_of a') x same_parent y

    back : (y : ℕ) → IsUnder (cells_of a') x y → IsUnder (cells_of a) x y
    back y = under_same (cells_of a') (cells_of a) x (λ z. sym (same_parent z)) y

    object_some : (s : Option Cell) → is_object s ≡ true → is_some s ≡ true
    object_some None o = absurd (false≢true o)
    object_some (Some d) o = refl

    not_under : (y : ℕ) → cell_at (cells_of b) y ≡ cell_at (cells_of a') y → IsUnder (cells_of a) x y → ⊥
    not_under y same u = false≢true (sym (all_freed a' b left x f none y (into y u)) ∙ ap is_some same ∙ same_lives y ∙ under_lives (cells_of a) x (object_some (cell_at (cells_of a) x) object) y u)

    pub pruned : IsPruned a c x
    pruned = record {
      same = cut.same ∙ f.same ∙ detached_length;
      each = λ y. elim (f.each y) [
        | inl same ↦ inr (not_under y same, cut.each y ∙ ap (cut_slot (is_living (cells_of b))) (same ∙ ap (λ cells. cell_at cells y) n.cells_are) ∙ ap (λ t. cut_slot t (cell_at (without_child (cells_of a) x) y)) test)
        | inr went ↦ inl (back y went.1, cut.each y ∙ ap (cut_slot (is_living (cells_of b))) went.0)
      ];
      held = λ y. ap (λ h. get_or h y 0) held ∙ f.held y ∙ ap (λ t. cond t (get_or (held_of a') y 0) 0) (sym (lives-cells b y) ∙ sym (living_c y)) ∙ ap (λ h. cond (is_living (cells_of c) y) (get_or h y 0) 0) n.held;
    }

-- what is left
module _ (a c : List Slot) (x : ℕ) (p : IsPruned a c x) where
  pub pruned_freed : (q : List Serial) → IsFreed (heap_of a q) (heap_of c q) x
  pruned_freed q = record {
    serials = length-map c (λ s. s.cell) ∙ p.same ∙ sym (length-map a (λ s. s.cell));
    cells = p.each;
    places = length-held_of c ∙ p.same ∙ sym (length-held_of a);
    held = p.held;
    queued = refl;
  }

  left_parent : (y : ℕ) (q : Serial) → parent_of (cell_at (cells_of c) y) ≡ Some q → (IsUnder (cells_of a) x y → ⊥) × (parent_of (cell_at (cells_of a) y) ≡ Some q)
  left_parent y q e = elim (p.each y) [
    | inl went ↦ absurd (false≢true (ap is_some (sym (ap parent_of went.1) ∙ e)))
    | inr left ↦ (left.0, sym (without_same parent_of bereft_parent (cells_of a) x y) ∙ sym (cut_parent (is_living (cells_of c)) (cell_at (without_child (cells_of a) x) y)) ∙ sym (ap parent_of left.1) ∙ e)
  ]

  pub pruned_steady : {links : ℕ} (total left : ℕ) → IsSteady a total links → IsKept c left → IsSteady c left links
  pruned_steady total left s k = record {
    kept = k;
    rooted = λ y q e.
        let was = left_parent y q e in
        elim (p.each q.0) [
          | inl went ↦ absurd (was.0 (below y q was.1 went.0))
          | inr stays ↦ ap is_node stays.1 ∙ cut_node (is_living (cells_of c)) (cell_at (without_child (cells_of a) x) q.0) ∙ without_same is_node bereft_node (cells_of a) x q.0 ∙ s.rooted y q was.1
        ];
    few_links = omega (arith, no_more, s.few_links);
    bound = s.bound;
  }
    where
      no_more : connections_in (cells_of c) ≤ connections_in (cells_of a)
      no_more = fewer (cells_of a) (cells_of c) (length-map c (λ s. s.cell) ∙ p.same ∙ sym (length-map a (λ s. s.cell))) (λ y. elim (p.each y) [
        | inl went ↦ omega (arith, ap (λ w. length (connections_of w)) went.1)
        | inr left ↦ omega (arith, ap (λ w. length (connections_of w)) left.1, cut_fewer (is_living (cells_of c)) (cell_at (without_child (cells_of a) x) y), ap length (without_same connections_of bereft_links (cells_of a) x y))
      ])
