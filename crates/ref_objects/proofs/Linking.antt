-- An object gets or loses a connection.
use Rattle.std.proofs.Common.{◌≡◌, ℕ, ◌<◌, ◌^◌, true, not, nat_lt, List, [], ◌∷◌, ◌++◌, filter, length, set, refl, sym, ◌∙◌, ap, subst, Option, Some, None, is_some, arith, inl, inr, All}
use Rattle.std.specs.Prelude.{Result, Ok, Err, OnOk, OnErr}
use Rattle.std.proofs.lemmas.List.{length-map, length_push, get_or_past}
use Rattle.std.proofs.lemmas.List.Elements.{All-filter, All-push}
use Rattle.std.proofs.lemmas.List.Filters.{length-filter_both}
use Rattle.std.proofs.lemmas.Bool.{cases_lt, false≢true, lt-ltb, and_from}
use Rattle.variant_values.specs.declared.values.Serial.{Serial}
use Rattle.variant_values.specs.declared.faults.Trouble.{Trouble}
use Rattle.variant_values.specs.declared.cells.Connection.{Connection}
use Rattle.variant_values.specs.declared.cells.Cell.{Cell}
use Rattle.variant_values.specs.declared.cells.Cell.TheVariants.{Array as ArrayCell, Dict as DictCell, Object as ObjectCell}
use Rattle.variant_values.specs.Heaps.{Heap, cell_at, is_object, is_no_container, knows_object}
use Rattle.variant_values.specs.Links.{connections_of, connections_put, connections_in, is_connection, connected, disconnected}
use Rattle.ref_objects.specs.declared.slots.Slot.{Slot}
use Rattle.ref_objects.specs.Slots.{cells_of, heap_of, IsSteady, IsNow, IsPut}
use Rattle.ref_objects.proofs.Raising.{lives-cells}
use Rattle.ref_objects.proofs.Holding.{same_heap}
use Rattle.ref_objects.proofs.Steady.{links_now, links_before, links_steady}

pub object_within : (cells : List (Option Cell)) (x : ℕ) → is_object (cell_at cells x) ≡ true → x < length cells
object_within cells x o = elim (cases_lt x (length cells)) [ inl h ↦ h | inr h ↦ absurd (false≢true (sym (ap is_object (get_or_past cells x None h)) ∙ o)) ]

pub object_lives : (s : Option Cell) → is_object s ≡ true → is_some s ≡ true
object_lives None o = absurd (false≢true o)
object_lives (Some c) o = refl

object_single : (s : Option Cell) → is_object s ≡ true → is_no_container s ≡ true
object_single None o = refl
object_single (Some (ArrayCell vs of)) o = absurd (false≢true o)
object_single (Some (DictCell es)) o = absurd (false≢true o)
object_single (Some (ObjectCell x)) o = refl

-- an object that lives may be named
pub object_known : {links : ℕ} (a : List Slot) (total : ℕ) (s : Serial) → IsSteady a total links → is_object (cell_at (cells_of a) s.0) ≡ true → knows_object (cells_of a) s ≡ true
object_known a total s k o = and_from (nat_lt 0 s.0) _ (lt-ltb 0 s.0 (positive s.0 refl)) (and_from (nat_lt s.0 (length (cells_of a))) _ (lt-ltb s.0 _ (object_within (cells_of a) s.0 o)) (object_single (cell_at (cells_of a) s.0) o))
  where
    positive : (n : ℕ) → n ≡ s.0 → 0 < s.0
    positive n e = elim (cases_lt 0 s.0) [
      | inl h ↦ h
      | inr h ↦
          let zero : s.0 ≡ 0 = omega (arith, h) in
          absurd (false≢true (sym k.kept.first ∙ sym (lives-cells a 0) ∙ ap (λ z. is_some (cell_at (cells_of a) z)) (sym zero) ∙ object_lives (cell_at (cells_of a) s.0) o))
    ]

module _ (a c : List Slot) (x total links : ℕ) (q : List Serial) (h : Heap) (e : heap_of a q ≡ h) (object : is_object (cell_at h.cells x) ≡ true) (s : IsSteady a total links) where
  here : is_object (cell_at (cells_of a) x) ≡ true
  here = subst (λ (g : Heap). is_object (cell_at g.cells x) ≡ true) (sym e) object

  within : x < length a
  within = subst (λ n. x < n) (length-map a (λ s. s.cell)) (object_within (cells_of a) x here)

  before : All (λ r. knows_object (cells_of a) r.target ≡ true) (connections_of (cell_at (cells_of a) x))
  before = links_before (cells_of a) (cell_at (cells_of a) x) here (s.kept.known x)

  module _ (signal : List ℕ) (to : Serial) (method : List ℕ) (p : IsPut a c x (connections_put (filter (λ r. not (is_connection signal to method r)) (connections_of (cell_at (cells_of a) x))) (cell_at (cells_of a) x))) where
    rest_now : IsNow a c total (set (cells_of a) x (connections_put (filter (λ r. not (is_connection signal to method r)) (connections_of (cell_at (cells_of a) x))) (cell_at (cells_of a) x)))
    rest_now = links_now a c x total _ within s.kept p (All-filter (λ r. not (is_connection signal to method r)) (λ r. knows_object (cells_of a) r.target ≡ true) (connections_of (cell_at (cells_of a) x)) before)

    pub removed_steady : IsSteady c total links
    removed_steady = links_steady a c x total links _ within here s rest_now (omega (arith, s.few_links, length-filter_both (λ r. not (is_connection signal to method r)) (λ r. not (not (is_connection signal to method r))) (λ r. refl) (connections_of (cell_at (cells_of a) x)))) s.bound

    pub removed_heap : heap_of c q ≡ disconnected h x signal to method
    removed_heap = same_heap _ _ _ _ q rest_now.cells_are rest_now.held ∙ ap (λ g. disconnected g x signal to method) e

  module _ (row : Connection) (target : is_object (cell_at h.cells row.target.0) ≡ true) (p : IsPut a c x (connections_put (connections_of (cell_at (cells_of a) x) ++ row ∷ []) (cell_at (cells_of a) x))) where
    more_now : IsNow a c total (set (cells_of a) x (connections_put (connections_of (cell_at (cells_of a) x) ++ row ∷ []) (cell_at (cells_of a) x)))
    more_now = links_now a c x total _ within s.kept p (All-push (λ r. knows_object (cells_of a) r.target ≡ true) (connections_of (cell_at (cells_of a) x)) row before (object_known a total row.target s (subst (λ (g : Heap). is_object (cell_at g.cells row.target.0) ≡ true) (sym e) target)))

    added_steady : (most : ℕ) → connections_in (cells_of a) < most → most < 2 ^ 32 → IsSteady c total most
    added_steady most few bound = links_steady a c x total most _ within here s more_now (omega (arith, few, length_push (connections_of (cell_at (cells_of a) x)) row)) bound

    added_heap : heap_of c q ≡ connected h x row
    added_heap = same_heap _ _ _ _ q more_now.cells_are more_now.held ∙ ap (λ g. connected g x row) e

  pub added_kept : (row : Connection) → is_object (cell_at h.cells row.target.0) ≡ true → (most : ℕ) → connections_in (cells_of a) < most → most < 2 ^ 32 → (r : Result (Unit {0}) Trouble) → OnOk r (IsPut a c x (connections_put (connections_of (cell_at (cells_of a) x) ++ row ∷ []) (cell_at (cells_of a) x))) → OnErr r (c ≡ a) → IsSteady c total most
  added_kept row target most few bound (Ok u) p same = added_steady row target p most few bound
  added_kept row target most few bound (Err t) p same = subst (λ z. IsSteady z total most) (sym same) (record { kept = s.kept; rooted = s.rooted; few_links = omega (arith, few); bound = bound })

  pub added_is : (row : Connection) → is_object (cell_at h.cells row.target.0) ≡ true → (r : Result (Unit {0}) Trouble) → OnOk r (IsPut a c x (connections_put (connections_of (cell_at (cells_of a) x) ++ row ∷ []) (cell_at (cells_of a) x))) → OnOk r (heap_of c q ≡ connected h x row)
  added_is row target (Ok u) p = added_heap row target p
  added_is row target (Err t) p = p
