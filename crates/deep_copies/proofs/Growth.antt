-- The cells that a copy makes stand behind those that were there.
use Rattle.std.proofs.Common.{◌≡◌, ℕ, zero, suc, ◌<◌, ◌≤◌, ◌∙◌, ap, sym, subst, refl, List, [], ◌∷◌, ◌++◌, length, Option, Some, None, arith}
use Rattle.std.proofs.lemmas.List.{append_assoc, append-nil, length-append, get_or_append_left}
use Rattle.std.proofs.lemmas.List.Sums.{sum_by-append}
use Rattle.variant_values.specs.declared.cells.Cell.{Cell}
use Rattle.variant_values.specs.declared.cells.Cell.TheVariants.{Array as ArrayCell, Dict as DictCell}
use Rattle.variant_values.specs.declared.values.Key.{Key}
use Rattle.variant_values.specs.declared.values.Value.{Value}
use Rattle.variant_values.specs.declared.values.Value.TheVariants.{Array, Dict}
use Rattle.variant_values.specs.Copies.{copied, copied_items, copied_entries}
use Rattle.variant_values.specs.ElementTypes.{element_of}
use Rattle.variant_values.specs.Heaps.{Heap, cell_at, items_of, entries_of}
use Rattle.variant_values.specs.Places.{slot_weight, weight}
use Rattle.deep_copies.specs.CopyWeights.{array_copy, dict_copy, Fits}
use Rattle.deep_copies.proofs.Levels.{by_kind, copied-zero, copied-suc}

pub record IsGrown (old new : List (Option Cell)) : Type 0 where
  pub more : List (Option Cell)
  pub cells : new ≡ old ++ more

pub grown_none : (a : List (Option Cell)) → IsGrown a a
grown_none a = record { more = []; cells = sym (append-nil a) }

pub grown_then : (a b c : List (Option Cell)) → IsGrown a b → IsGrown b c → IsGrown a c
grown_then a b c f g = record {
  more = f.more ++ g.more;
  cells = g.cells ∙ ap (λ (x : List (Option Cell)). x ++ g.more) f.cells ∙ append_assoc a f.more g.more;
}

pub grown_new : (a : List (Option Cell)) (c : Cell) → IsGrown a (a ++ Some c ∷ [])
grown_new a c = record { more = Some c ∷ []; cells = refl }

pub grown_weight : (a b : List (Option Cell)) → IsGrown a b → weight a ≤ weight b
grown_weight a b g = omega (arith, ap weight g.cells, sum_by-append slot_weight a g.more)

pub grown_length : (a b : List (Option Cell)) → IsGrown a b → length a ≤ length b
grown_length a b g = omega (arith, ap length g.cells, length-append a g.more)

-- what fits once it has grown fits before
pub fits_before : (a b : List (Option Cell)) → IsGrown a b → Fits b → Fits a
fits_before a b g f = record { light = omega (arith, grown_weight a b g, f.light); few = omega (arith, grown_length a b g, f.few) }

pub grown_cell : (a b : List (Option Cell)) (x : ℕ) → IsGrown a b → x < length a → cell_at b x ≡ cell_at a x
grown_cell a b x g l = ap (λ (c : List (Option Cell)). cell_at c x) g.cells ∙ get_or_append_left a g.more None x l

-- a copy of a value that makes cells alone
abbrev pub Grows : (Heap → Value → Value × Heap) → Type 0
Grows copy = (h : Heap) (v : Value) → IsGrown h.cells (copy h v).1.cells

pub items_grown : (copy : Heap → Value → Value × Heap) → Grows copy → (h : Heap) (vs : List Value) → IsGrown h.cells (copied_items copy h vs).1.cells
items_grown copy grows h [] = grown_none h.cells
items_grown copy grows h (v ∷ vs) = grown_then h.cells (copy h v).1.cells (copied_items copy (copy h v).1 vs).1.cells (grows h v) (items_grown copy grows (copy h v).1 vs)

pub entries_grown : (copy : Heap → Value → Value × Heap) → Grows copy → (h : Heap) (es : List (Key × Value)) → IsGrown h.cells (copied_entries copy h es).1.cells
entries_grown copy grows h [] = grown_none h.cells
entries_grown copy grows h (e ∷ es) = grown_then h.cells (copy h e.1).1.cells (copied_entries copy (copy h e.1).1 es).1.cells (grows h e.1) (entries_grown copy grows (copy h e.1).1 es)

value_grown : (n : ℕ) → Grows (copied n) → (h : Heap) (v : Value) → IsGrown h.cells (copied (suc n) h v).1.cells
value_grown n grows h v = by_kind (λ w. IsGrown h.cells (copied (suc n) h w).1.cells)
    (λ s.
    let inside = copied_items (copied n) h (items_of (cell_at h.cells s.0)) in
    by (Array s) (array_copy n h s) (copied-suc n h (Array s)) (grown_then h.cells inside.1.cells (array_copy n h s).1.cells (items_grown (copied n) grows h (items_of (cell_at h.cells s.0))) (grown_new inside.1.cells (ArrayCell inside.0 (element_of (cell_at h.cells s.0))))))
    (λ s.
    let inside = copied_entries (copied n) h (entries_of (cell_at h.cells s.0)) in
    by (Dict s) (dict_copy n h s) (copied-suc n h (Dict s)) (grown_then h.cells inside.1.cells (dict_copy n h s).1.cells (entries_grown (copied n) grows h (entries_of (cell_at h.cells s.0))) (grown_new inside.1.cells (DictCell inside.0))))
    (λ w one. by w (w, h) (copied-suc n h w ∙ one.copy (array_copy n h) (dict_copy n h) h) (grown_none h.cells))
    v
  where
    by : (w : Value) (c : Value × Heap) → copied (suc n) h w ≡ c → IsGrown h.cells c.1.cells → IsGrown h.cells (copied (suc n) h w).1.cells
    by w c e g = subst (λ (d : Value × Heap). IsGrown h.cells d.1.cells) (sym e) g

pub copied_grown : (n : ℕ) (h : Heap) (v : Value) → IsGrown h.cells (copied n h v).1.cells
copied_grown zero h v = subst (λ (d : Value × Heap). IsGrown h.cells d.1.cells) (sym (copied-zero h v)) (grown_none h.cells)
copied_grown (suc n) h v = value_grown n (copied_grown n) h v
