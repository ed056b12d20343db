-- A node becomes a child, and a subtree goes: how cells stand to one another then.
use Rattle.std.proofs.Common.{All, Bool, not, ◌++◌, ◌≡◌, ℕ, ◌+◌, ◌<◌, true, false, cond, nat_eq, List, [], ◌∷◌, length, set, filter, refl, sym, ◌∙◌, ap, subst, Option, Some, None, is_some, arith, inl, inr, ◌⊎◌}
use Rattle.std.specs.Option.{option_map}
use Rattle.std.proofs.lemmas.List.{get_or-set_same, get_or-set_other, get_or_past, length-set, set_past}
use Rattle.std.proofs.lemmas.List.Elements.{filter_passes}
use Rattle.std.proofs.lemmas.List.Sums.{sum_by-cons, sum_by_push}
use Rattle.std.proofs.lemmas.Bool.{cases_Bool, cases_eq, cases_lt, false≢true, eqb-true, eq-eqb}
use Rattle.variant_values.specs.declared.values.Serial.{Serial}
use Rattle.variant_values.specs.declared.cells.NodePart.{NodePart}
use Rattle.variant_values.specs.declared.cells.Connection.{Connection}
use Rattle.variant_values.specs.declared.cells.Cell.{Cell}
use Rattle.variant_values.specs.declared.cells.Cell.TheVariants.{Array as ArrayCell, Dict as DictCell, Object as ObjectCell}
use Rattle.variant_values.specs.Places.{is_counted, one_at}
use Rattle.variant_values.specs.Heaps.{Heap, cell_at, is_living, is_no_container}
use Rattle.variant_values.specs.Links.{connections_of, times_linked}
use Rattle.variant_values.specs.Sound.{IsClassed, IsQueue, IsShaped}
use Rattle.variant_values.specs.Trees.{adopted, bereft, children_in, children_of, is_node, is_parent, at_parent, node_put, parent_in, parent_of, placed, times_in, with_child, without_child, without_child_of, IsFreed, IsGrounded, root, child, IsUnder, itself, below}
use Rattle.ref_objects.proofs.Shaping.{cut_kin, cut_links, node_kin, put_children, put_parent, put_same, put_true, queue_as, queue_put, times_left}

one_here : (x : ℕ) → one_at x x ≡ 1
one_here x = ap {B = ℕ} (λ b. cond b 1 0) (eq-eqb x x refl)

one_other : (x p : ℕ) → (p ≡ x → ⊥) → one_at x p ≡ 0
one_other x p ne = elim (cases_Bool (nat_eq p x)) [
  | inl same ↦ absurd (ne (eqb-true p x same))
  | inr other ↦ ap {B = ℕ} (λ b. cond b 1 0) other
]

-- a child more
module _ (a b : List (Option Cell)) (parent kid : Serial) (kids : children_of (cell_at b parent.0) ≡ children_of (cell_at a parent.0) ++ kid ∷ []) (others : (p : ℕ) → (p ≡ parent.0 → ⊥) → children_of (cell_at b p) ≡ children_of (cell_at a p)) (up : parent_of (cell_at b kid.0) ≡ Some parent) (same : (x : ℕ) → (x ≡ kid.0 → ⊥) → parent_of (cell_at b x) ≡ parent_of (cell_at a x)) (orphan : parent_of (cell_at a kid.0) ≡ None) (apart : IsUnder a kid.0 parent.0 → ⊥) where
  safe : (y : ℕ) → IsGrounded a y → (IsUnder a kid.0 y → ⊥) → IsGrounded b y
  safe w (root x n) off = root x (same x (λ e. off (subst (λ z. IsUnder a kid.0 z) (sym e) itself)) ∙ n)
  safe w (child x p f g) off = child x p (same x (λ e. off (subst (λ z. IsUnder a kid.0 z) (sym e) itself)) ∙ f) (safe p.0 g (λ u. off (below x p f u)))

  still_grounded : IsGrounded a parent.0 → (y : ℕ) → IsGrounded a y → IsGrounded b y
  still_grounded top w (root x n) = elim (cases_eq x kid.0) [
    | inl e ↦ child x parent (ap (λ z. parent_of (cell_at b z)) e ∙ up) (safe parent.0 top apart)
    | inr ne ↦ root x (same x ne ∙ n)
  ]
  still_grounded top w (child x p f g) = elim (cases_eq x kid.0) [
    | inl e ↦ child x parent (ap (λ z. parent_of (cell_at b z)) e ∙ up) (safe parent.0 top apart)
    | inr ne ↦ child x p (same x ne ∙ f) (still_grounded top p.0 g)
  ]

  -- where the parent is told
  told : (p x : ℕ) → x ≡ kid.0 → ◌≡◌ {A = ℕ} (cond (is_parent p (parent_of (cell_at b x))) 1 0) (one_at p parent.0)
  told p x e = ap {B = ℕ} (λ o. cond (is_parent p o) 1 0) (ap (λ z. parent_of (cell_at b z)) e ∙ up)

  was_none : (p x : ℕ) → x ≡ kid.0 → ◌≡◌ {A = ℕ} (cond (is_parent p (parent_of (cell_at a x))) 1 0) 0
  was_none p x e = ap {B = ℕ} (λ o. cond (is_parent p o) 1 0) (ap (λ z. parent_of (cell_at a z)) e ∙ orphan)

  more_family : IsShaped a → (p x : ℕ) → times_in x (children_of (cell_at b p)) ≡ cond (is_parent p (parent_of (cell_at b x))) 1 0
  more_family s p x = elim (cases_eq p parent.0) [
    | inl here ↦
        let more : times_in x (children_of (cell_at b p)) ≡ times_in x (children_of (cell_at a p)) + one_at x kid.0 =
        ap (λ z. times_in x (children_of (cell_at b z))) here ∙ ap (times_in x) kids ∙ sum_by_push (λ s. one_at x s.0) (children_of (cell_at a parent.0)) kid ∙ ap (λ z. times_in x (children_of (cell_at a z)) + one_at x kid.0) (sym here) in
        elim (cases_eq x kid.0) [
          | inl e ↦ omega (arith, more, s.family p x, was_none p x e, told p x e, ap (λ z. one_at x z) (sym e), one_here x, ap (λ z. one_at p z) (sym here), one_here p)
          | inr ne ↦ omega (arith, more, s.family p x, one_other x kid.0 (λ e. ne (sym e)), ap {B = ℕ} (λ o. cond (is_parent p o) 1 0) (same x ne))
        ]
    | inr off ↦
        let less = ap (times_in x) (others p off) in
        elim (cases_eq x kid.0) [
          | inl e ↦ omega (arith, less, s.family p x, was_none p x e, told p x e, one_other p parent.0 (λ e. off (sym e)))
          | inr ne ↦ omega (arith, less, s.family p x, ap {B = ℕ} (λ o. cond (is_parent p o) 1 0) (same x ne))
        ]
  ]

part_adopted : (kid : Serial) (n : Option NodePart) → is_some n ≡ true → children_in (option_map (adopted kid) n) ≡ children_in n ++ kid ∷ []
part_adopted kid None e = absurd (false≢true e)
part_adopted kid (Some n) e = refl

put_adopted : (kid : Serial) (s : Option Cell) → is_node s ≡ true → children_of (node_put (adopted kid) s) ≡ children_of s ++ kid ∷ []
put_adopted kid None e = absurd (false≢true e)
put_adopted kid (Some (ArrayCell vs of)) e = absurd (false≢true e)
put_adopted kid (Some (DictCell es)) e = absurd (false≢true e)
put_adopted kid (Some (ObjectCell o)) e = part_adopted kid o.node e

part_placed : (parent : Serial) (n : Option NodePart) → is_some n ≡ true → parent_in (option_map (placed parent) n) ≡ Some parent
part_placed parent None e = absurd (false≢true e)
part_placed parent (Some n) e = refl

put_placed : (parent : Serial) (s : Option Cell) → is_node s ≡ true → parent_of (node_put (placed parent) s) ≡ Some parent
put_placed parent None e = absurd (false≢true e)
put_placed parent (Some (ArrayCell vs of)) e = absurd (false≢true e)
put_placed parent (Some (DictCell es)) e = absurd (false≢true e)
put_placed parent (Some (ObjectCell o)) e = part_placed parent o.node e

node_within : (cells : List (Option Cell)) (x : ℕ) → is_node (cell_at cells x) ≡ true → x < length cells
node_within cells x n = elim (cases_lt x (length cells)) [ inl h ↦ h | inr h ↦ absurd (false≢true (sym (ap is_node (get_or_past cells x None h)) ∙ n)) ]

-- a node is the last child of another
module _ (h : Heap) (parent kid : Serial) (above : is_node (cell_at h.cells parent.0) ≡ true) (node : is_node (cell_at h.cells kid.0) ≡ true) (orphan : parent_of (cell_at h.cells kid.0) ≡ None) (apart : IsUnder h.cells kid.0 parent.0 → ⊥) where
  two : parent.0 ≡ kid.0 → ⊥
  two e = apart (subst (λ y. IsUnder h.cells kid.0 y) (sym e) itself)

  kid_mid : cell_at (set h.cells parent.0 (node_put (adopted kid) (cell_at h.cells parent.0))) kid.0 ≡ cell_at h.cells kid.0
  kid_mid = get_or-set_other h.cells parent.0 kid.0 _ None (λ e. two (sym e))

  -- what is the same of both cells is the same of all
  pub both_same : {X : Type 0} (f : Option Cell → X) → f (node_put (adopted kid) (cell_at h.cells parent.0)) ≡ f (cell_at h.cells parent.0) → f (node_put (placed parent) (cell_at h.cells kid.0)) ≡ f (cell_at h.cells kid.0) → (x : ℕ) → f (cell_at (with_child h parent kid).cells x) ≡ f (cell_at h.cells x)
  both_same f e e' x = put_same f _ kid.0 x _ (e' ∙ ap f (sym kid_mid)) ∙ put_same f h.cells parent.0 x _ e

  kids_are : children_of (cell_at (with_child h parent kid).cells parent.0) ≡ children_of (cell_at h.cells parent.0) ++ kid ∷ []
  kids_are = ap children_of (get_or-set_other (set h.cells parent.0 (node_put (adopted kid) (cell_at h.cells parent.0))) kid.0 parent.0 (node_put (placed parent) (cell_at h.cells kid.0)) None two) ∙ ap children_of (get_or-set_same h.cells parent.0 (node_put (adopted kid) (cell_at h.cells parent.0)) None (node_within h.cells parent.0 above)) ∙ put_adopted kid (cell_at h.cells parent.0) above

  kids_off : (p : ℕ) → (p ≡ parent.0 → ⊥) → children_of (cell_at (with_child h parent kid).cells p) ≡ children_of (cell_at h.cells p)
  kids_off p off = put_same children_of (set h.cells parent.0 (node_put (adopted kid) (cell_at h.cells parent.0))) kid.0 p (node_put (placed parent) (cell_at h.cells kid.0)) (put_children (placed parent) (cell_at h.cells kid.0) (λ m. refl) ∙ ap children_of (sym kid_mid)) ∙ ap children_of (get_or-set_other h.cells parent.0 p (node_put (adopted kid) (cell_at h.cells parent.0)) None off)

  up_is : parent_of (cell_at (with_child h parent kid).cells kid.0) ≡ Some parent
  up_is = ap parent_of (get_or-set_same (set h.cells parent.0 (node_put (adopted kid) (cell_at h.cells parent.0))) kid.0 (node_put (placed parent) (cell_at h.cells kid.0)) None (omega (arith, length-set h.cells parent.0 (node_put (adopted kid) (cell_at h.cells parent.0)), node_within h.cells kid.0 node))) ∙ put_placed parent (cell_at h.cells kid.0) node

  up_same : (x : ℕ) → (x ≡ kid.0 → ⊥) → parent_of (cell_at (with_child h parent kid).cells x) ≡ parent_of (cell_at h.cells x)
  up_same x off = ap parent_of (get_or-set_other (set h.cells parent.0 (node_put (adopted kid) (cell_at h.cells parent.0))) kid.0 x (node_put (placed parent) (cell_at h.cells kid.0)) None off) ∙ put_same parent_of h.cells parent.0 x (node_put (adopted kid) (cell_at h.cells parent.0)) (put_parent (adopted kid) (cell_at h.cells parent.0) (λ m. refl))

  links_same : (x : ℕ) → connections_of (cell_at (with_child h parent kid).cells x) ≡ connections_of (cell_at h.cells x)
  links_same = both_same connections_of (node_kin (adopted kid) (cell_at h.cells parent.0)).links (node_kin (placed parent) (cell_at h.cells kid.0)).links

  lives_same : (x : ℕ) → is_living (with_child h parent kid).cells x ≡ is_living h.cells x
  lives_same = both_same is_some (node_kin (adopted kid) (cell_at h.cells parent.0)).lives (node_kin (placed parent) (cell_at h.cells kid.0)).lives

  pub child_shaped : IsShaped h.cells → IsShaped (with_child h parent kid).cells
  child_shaped s = record {
    family = more_family h.cells (with_child h parent kid).cells parent kid kids_are kids_off up_is up_same orphan apart s;
    grounded = λ x. still_grounded h.cells (with_child h parent kid).cells parent kid kids_are kids_off up_is up_same orphan apart (s.grounded parent.0) x (s.grounded x);
    targets = λ x. let P : List Connection → Type 0 = λ cs. All (λ c. is_living (with_child h parent kid).cells c.target.0 ≡ true) cs in subst P (sym (links_same x)) (λ i d l. lives_same _ ∙ s.targets x i d l);
    once = λ x signal to method. omega (arith, ap (times_linked signal to method) (links_same x), s.once x signal to method);
    classed = λ x. put_true IsClassed (set h.cells parent.0 (node_put (adopted kid) (cell_at h.cells parent.0))) kid.0 x (node_put (placed parent) (cell_at h.cells kid.0)) ((node_kin (placed parent) (cell_at h.cells kid.0)).classed (s.classed kid.0)) (put_true IsClassed h.cells parent.0 x (node_put (adopted kid) (cell_at h.cells parent.0)) ((node_kin (adopted kid) (cell_at h.cells parent.0)).classed (s.classed parent.0)) (s.classed x));
  }

  pub child_queue : (q : List Serial) → IsQueue h.cells q → IsQueue (with_child h parent kid).cells q
  child_queue q k =
      let mid = node_kin (adopted kid) (cell_at h.cells parent.0) in
      let last = node_kin (placed parent) (cell_at h.cells kid.0) in
      queue_put (set h.cells parent.0 (node_put (adopted kid) (cell_at h.cells parent.0))) kid.0 (node_put (placed parent) (cell_at h.cells kid.0)) q (last.single ∙ ap is_no_container (sym kid_mid)) (last.counted ∙ ap is_counted (sym kid_mid))
      (queue_put h.cells parent.0 (node_put (adopted kid) (cell_at h.cells parent.0)) q mid.single mid.counted k)

-- a child less
no_less : (b : Bool) → ◌≡◌ {A = ℕ} (cond b 0 0) 0
no_less true = refl
no_less false = refl

times_less : (top x : ℕ) (ss : List Serial) → times_in x (filter (λ s. not (nat_eq s.0 top)) ss) ≡ cond (nat_eq x top) 0 (times_in x ss)
times_less top x [] = sym (no_less (nat_eq x top))
times_less top x (s ∷ ss) = elim (cases_Bool (nat_eq s.0 top)) [
  | inl here ↦
      let e : s.0 ≡ top = eqb-true s.0 top here in
      let kept : filter (λ (s : Serial). not (nat_eq s.0 top)) (s ∷ ss) ≡ filter (λ (s : Serial). not (nat_eq s.0 top)) ss = ap (λ b. cond (not b) (s ∷ filter (λ (s : Serial). not (nat_eq s.0 top)) ss) (filter (λ (s : Serial). not (nat_eq s.0 top)) ss)) here in
      ap (times_in x) kept ∙ times_less top x ss ∙ elim (cases_Bool (nat_eq x top)) [
        | inl same ↦ ap (λ b. cond b 0 (times_in x ss)) same ∙ sym (ap (λ b. cond b 0 (times_in x (s ∷ ss))) same)
        | inr other ↦ ap (λ b. cond b 0 (times_in x ss)) other ∙ omega (arith, sum_by-cons (λ s. one_at x s.0) s ss, one_other x s.0 (λ d. false≢true (sym other ∙ eq-eqb x top (sym d ∙ e)))) ∙ sym (ap (λ b. cond b 0 (times_in x (s ∷ ss))) other)
      ]
  | inr off ↦
      let kept : filter (λ (s : Serial). not (nat_eq s.0 top)) (s ∷ ss) ≡ s ∷ filter (λ (s : Serial). not (nat_eq s.0 top)) ss = ap (λ b. cond (not b) (s ∷ filter (λ (s : Serial). not (nat_eq s.0 top)) ss) (filter (λ (s : Serial). not (nat_eq s.0 top)) ss)) off in
      ap (times_in x) kept ∙ sum_by-cons (λ s. one_at x s.0) s (filter (λ s. not (nat_eq s.0 top)) ss) ∙ ap (λ n. one_at x s.0 + n) (times_less top x ss) ∙ elim (cases_Bool (nat_eq x top)) [
        | inl same ↦ ap (λ b. one_at x s.0 + cond b 0 (times_in x ss)) same ∙ omega (arith, one_other x s.0 (λ d. false≢true (sym off ∙ eq-eqb s.0 top (d ∙ eqb-true x top same)))) ∙ sym (ap (λ b. cond b 0 (times_in x (s ∷ ss))) same)
        | inr other ↦ ap (λ b. one_at x s.0 + cond b 0 (times_in x ss)) other ∙ sym (sum_by-cons (λ s. one_at x s.0) s ss) ∙ sym (ap (λ b. cond b 0 (times_in x (s ∷ ss))) other)
      ]
]

part_bereft : (top : ℕ) (n : Option NodePart) → children_in (option_map (bereft top) n) ≡ filter (λ s. not (nat_eq s.0 top)) (children_in n)
part_bereft top None = refl
part_bereft top (Some n) = refl

put_bereft : (top : ℕ) (s : Option Cell) → children_of (node_put (bereft top) s) ≡ filter (λ s. not (nat_eq s.0 top)) (children_of s)
put_bereft top None = refl
put_bereft top (Some (ArrayCell vs of)) = refl
put_bereft top (Some (DictCell es)) = refl
put_bereft top (Some (ObjectCell o)) = part_bereft top o.node

at_true : (test : ℕ → Bool) (o : Option Serial) → at_parent test o ≡ true → (p : Serial) × (o ≡ Some p) × (test p.0 ≡ true)
at_true test None e = absurd (false≢true e)
at_true test (Some p) e = (p, refl, e)

under_up : (cells : List (Option Cell)) (top x : ℕ) → IsUnder cells top x → (x ≡ top) ⊎ ((q : Serial) × (parent_of (cell_at cells x) ≡ Some q) × IsUnder cells top q.0)
under_up cells top w itself = inl refl
under_up cells top w (below x q e u) = inr (q, e, u)

-- an object and its subtree went
module _ (h new : Heap) (top : ℕ) (w : IsFreed h new top) where
  as_without : {X : Type 0} (f : Option Cell → X) → ((s : Option Cell) → f (node_put (bereft top) s) ≡ f s) → (x : ℕ) → f (cell_at (without_child h.cells top) x) ≡ f (cell_at h.cells x)
  as_without f e x = by_parent (parent_of (cell_at h.cells top))
    where
      by_parent : (o : Option Serial) → f (cell_at (without_child_of o h.cells top) x) ≡ f (cell_at h.cells x)
      by_parent None = refl
      by_parent (Some p) = put_same f h.cells p.0 x (node_put (bereft top) (cell_at h.cells p.0)) (e (cell_at h.cells p.0))

  left_parent : (x : ℕ) → (IsUnder h.cells top x → ⊥) → parent_of (cell_at new.cells x) ≡ parent_of (cell_at h.cells x)
  left_parent x off = elim (w.cells x) [
    | inl went ↦ absurd (off went.0)
    | inr left ↦ ap parent_of left.1 ∙ (cut_kin (is_living new.cells) (cell_at (without_child h.cells top) x)).parent ∙ as_without parent_of (λ s. put_parent (bereft top) s (λ m. refl)) x
  ]

  new_grounded : (y : ℕ) → IsGrounded h.cells y → IsGrounded new.cells y
  new_grounded v (root x n) = elim (w.cells x) [
    | inl went ↦ root x (ap parent_of went.1)
    | inr left ↦ root x (left_parent x left.0 ∙ n)
  ]
  new_grounded v (child x p f g) = elim (w.cells x) [
    | inl went ↦ root x (ap parent_of went.1)
    | inr left ↦ child x p (left_parent x left.0 ∙ f) (new_grounded p.0 g)
  ]

  module _ (s : IsShaped h.cells) where
    no_child : (p x : ℕ) → is_parent p (parent_of (cell_at h.cells top)) ≡ false → times_in x (children_of (cell_at h.cells p)) ≡ cond (nat_eq x top) 0 (times_in x (children_of (cell_at h.cells p)))
    no_child p x e = elim (cases_Bool (nat_eq x top)) [
      | inl same ↦
          let none : times_in x (children_of (cell_at h.cells p)) ≡ 0 = s.family p x ∙ ap {B = ℕ} (λ z. cond (is_parent p (parent_of (cell_at h.cells z))) 1 0) (eqb-true x top same) ∙ ap {B = ℕ} (λ b. cond b 1 0) e in
          none ∙ sym (ap (λ b. cond b 0 (times_in x (children_of (cell_at h.cells p)))) same)
      | inr other ↦ sym (ap (λ b. cond b 0 (times_in x (children_of (cell_at h.cells p)))) other)
    ]

    kids_by : (o : Option Serial) → parent_of (cell_at h.cells top) ≡ o → (p x : ℕ) → times_in x (children_of (cell_at (without_child_of o h.cells top) p)) ≡ cond (nat_eq x top) 0 (times_in x (children_of (cell_at h.cells p)))
    kids_by None e p x = no_child p x (ap (is_parent p) e)
    kids_by (Some q) e p x = elim (cases_eq q.0 p) [
      | inl same ↦ elim (cases_lt q.0 (length h.cells)) [
        | inl within ↦ ap (λ z. times_in x (children_of (cell_at (without_child_of (Some q) h.cells top) z))) (sym same) ∙ ap (λ d. times_in x (children_of d)) (get_or-set_same h.cells q.0 (node_put (bereft top) (cell_at h.cells q.0)) None within) ∙ ap (times_in x) (put_bereft top (cell_at h.cells q.0)) ∙ times_less top x (children_of (cell_at h.cells q.0)) ∙ ap (λ z. cond (nat_eq x top) 0 (times_in x (children_of (cell_at h.cells z)))) same
        | inr past ↦
            let none : children_of (cell_at h.cells p) ≡ [] = ap (λ z. children_of (cell_at h.cells z)) (sym same) ∙ ap children_of (get_or_past h.cells q.0 None past) in
            ap (λ d. times_in x (children_of (cell_at d p))) (set_past h.cells q.0 (node_put (bereft top) (cell_at h.cells q.0)) past) ∙ ap (times_in x) none ∙ times_less top x [] ∙ ap (λ ss. cond (nat_eq x top) 0 (times_in x ss)) (sym none)
      ]
      | inr ne ↦ ap (λ d. times_in x (children_of d)) (get_or-set_other h.cells q.0 p (node_put (bereft top) (cell_at h.cells q.0)) None (λ d. ne (sym d))) ∙ no_child p x (ap (is_parent p) e ∙ not_eq q.0 p ne)
    ]
      where
        not_eq : (a b : ℕ) → (a ≡ b → ⊥) → nat_eq a b ≡ false
        not_eq a b ne = elim (cases_Bool (nat_eq a b)) [ inl t ↦ absurd (ne (eqb-true a b t)) | inr f ↦ f ]

    kids_left : (p x : ℕ) → (IsUnder h.cells top p → ⊥) → times_in x (children_of (cell_at new.cells p)) ≡ cond (nat_eq x top) 0 (cond (is_parent p (parent_of (cell_at h.cells x))) 1 0)
    kids_left p x off = elim (w.cells p) [
      | inl went ↦ absurd (off went.0)
      | inr left ↦ ap (λ d. times_in x (children_of d)) left.1 ∙ ap (times_in x) (cut_kin (is_living new.cells) (cell_at (without_child h.cells top) p)).children ∙ kids_by (parent_of (cell_at h.cells top)) refl p x ∙ ap (λ n. cond (nat_eq x top) 0 n) (s.family p x)
    ]

    -- a cell is the parent of none of another subtree
    parent_apart : (p x : ℕ) → ((q : Serial) → parent_of (cell_at h.cells x) ≡ Some q → q.0 ≡ p → ⊥) → ◌≡◌ {A = ℕ} (cond (is_parent p (parent_of (cell_at h.cells x))) 1 0) 0
    parent_apart p x off = elim (cases_Bool (is_parent p (parent_of (cell_at h.cells x)))) [
      | inl is ↦ let up = at_true (λ z. nat_eq z p) (parent_of (cell_at h.cells x)) is in absurd (off up.0 up.1 (eqb-true up.0.0 p up.2))
      | inr none ↦ ap {B = ℕ} (λ b. cond b 1 0) none
    ]

    left_family : (p x : ℕ) → times_in x (children_of (cell_at new.cells p)) ≡ cond (is_parent p (parent_of (cell_at new.cells x))) 1 0
    left_family p x = elim (w.cells p) [
      | inl went ↦ ap (λ d. times_in x (children_of d)) went.1 ∙ elim (w.cells x) [
        | inl went' ↦ sym (ap {B = ℕ} (λ d. cond (is_parent p (parent_of d)) 1 0) went'.1)
        | inr left' ↦ sym (ap {B = ℕ} (λ o. cond (is_parent p o) 1 0) (left_parent x left'.0) ∙ parent_apart p x (λ q e same. left'.0 (below x q e (subst (λ z. IsUnder h.cells top z) (sym same) went.0))))
      ]
      | inr left ↦ kids_left p x left.0 ∙ elim (w.cells x) [
        | inl went' ↦ elim (under_up h.cells top x went'.0) [
          | inl here ↦ ap {B = ℕ} (λ b. cond b 0 (cond (is_parent p (parent_of (cell_at h.cells x))) 1 0)) (eq-eqb x top here) ∙ sym (ap {B = ℕ} (λ d. cond (is_parent p (parent_of d)) 1 0) went'.1)
          | inr up ↦
              let none = parent_apart p x (λ q e same. left.0 (subst (λ z. IsUnder h.cells top z) same (subst (λ (o : Serial). IsUnder h.cells top o.0) (let d : Some up.0 ≡ Some q = sym up.1 ∙ e in cc) up.2))) in
              ap (λ n. cond (nat_eq x top) 0 n) none ∙ no_less (nat_eq x top) ∙ sym (ap {B = ℕ} (λ d. cond (is_parent p (parent_of d)) 1 0) went'.1)
        ]
        | inr left' ↦
            let off : nat_eq x top ≡ false = elim (cases_Bool (nat_eq x top)) [ inl t ↦ absurd (left'.0 (subst (λ z. IsUnder h.cells top z) (sym (eqb-true x top t)) itself)) | inr f ↦ f ] in
            ap {B = ℕ} (λ b. cond b 0 (cond (is_parent p (parent_of (cell_at h.cells x))) 1 0)) off ∙ sym (ap {B = ℕ} (λ o. cond (is_parent p o) 1 0) (left_parent x left'.0))
      ]
    ]

    without_classed : (x : ℕ) → IsClassed (cell_at (without_child h.cells top) x)
    without_classed x = by_parent (parent_of (cell_at h.cells top))
      where
        by_parent : (o : Option Serial) → IsClassed (cell_at (without_child_of o h.cells top) x)
        by_parent None = s.classed x
        by_parent (Some p) = put_true IsClassed h.cells p.0 x (node_put (bereft top) (cell_at h.cells p.0)) ((node_kin (bereft top) (cell_at h.cells p.0)).classed (s.classed p.0)) (s.classed x)

    left_links : (x : ℕ) → connections_of (cell_at (without_child h.cells top) x) ≡ connections_of (cell_at h.cells x)
    left_links = as_without connections_of (λ s. (node_kin (bereft top) s).links)

    pub freed_shaped : IsShaped new.cells
    freed_shaped = record {
      family = left_family;
      grounded = λ x. new_grounded x (s.grounded x);
      targets = λ x.
          let P : List Connection → Type 0 = λ cs. All (λ c. is_living new.cells c.target.0 ≡ true) cs in
          elim (w.cells x) [
            | inl went ↦ subst P (sym (ap connections_of went.1)) (λ i d l. absurd (omega (arith, l)))
            | inr left ↦ subst P (sym (ap connections_of left.1 ∙ cut_links (is_living new.cells) (cell_at (without_child h.cells top) x))) (filter_passes (λ (c : Connection). is_living new.cells c.target.0) (connections_of (cell_at (without_child h.cells top) x)))
          ];
      once = λ x signal to method. elim (w.cells x) [
        | inl went ↦ omega (arith, ap (λ s. times_linked signal to method (connections_of s)) went.1)
        | inr left ↦ omega (arith, ap (λ s. times_linked signal to method (connections_of s)) left.1, ap (times_linked signal to method) (cut_links (is_living new.cells) (cell_at (without_child h.cells top) x)), times_left (λ c. is_living new.cells c.target.0) signal to method (connections_of (cell_at (without_child h.cells top) x)), ap (times_linked signal to method) (left_links x), s.once x signal to method)
      ];
      classed = λ x. elim (w.cells x) [
        | inl went ↦ subst IsClassed (sym went.1) tt
        | inr left ↦ subst IsClassed (sym left.1) ((cut_kin (is_living new.cells) (cell_at (without_child h.cells top) x)).classed (without_classed x))
      ];
    }

  pub freed_queue : (q : List Serial) → IsQueue h.cells q → IsQueue new.cells q
  freed_queue q k = queue_as h.cells new.cells q (omega (arith, w.serials)) (λ x l f g. elim (w.cells x) [
    | inl went ↦ (ap is_no_container went.1, ap is_counted went.1)
    | inr left ↦
        let cut = cut_kin (is_living new.cells) (cell_at (without_child h.cells top) x) in
        (ap is_no_container left.1 ∙ cut.single ∙ as_without is_no_container (λ s. (node_kin (bereft top) s).single) x ∙ f, ap is_counted left.1 ∙ cut.counted ∙ as_without is_counted (λ s. (node_kin (bereft top) s).counted) x ∙ g)
  ]) k
