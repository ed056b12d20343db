-- Arrays, dictionaries, and what a copy leaves as it is.
use Rattle.std.proofs.Common.{◌≡◌, ◌≢◌, ℕ, zero, suc, ◌+◌, ◌-◌, ◌∙◌, ap, refl, false, List, Option, arith}
use Rattle.variant_values.specs.declared.cells.Cell.{Cell}
use Rattle.variant_values.specs.declared.values.Serial.{Serial}
use Rattle.variant_values.specs.declared.values.Value.{Value}
use Rattle.variant_values.specs.declared.values.Value.TheVariants.{Null, Bool as Truth, Int, Str, Array, Dict, Object, Callable, Signal, Class, Scene, Weak}
use Rattle.variant_values.specs.Copies.{copied, copied_with}
use Rattle.variant_values.specs.Heaps.{Heap, cell_at, items_of, entries_of}
use Rattle.deep_copies.specs.CopyWeights.{array_copy, dict_copy, cell_cost, copy_cost, entry_cost, item_cost, total, weight_with}
use Rattle.deep_copies.specs.declared.rooms.Measure.{Measure}
use Rattle.deep_copies.specs.DeepCopies.{is_container}

-- one that is no container
pub record IsScalar (v : Value) : Type 0 where
  pub copy : (arrays dicts : Serial → Value × Heap) (h : Heap) → copied_with arrays dicts h v ≡ (v, h)
  pub weight : (arrays dicts : Serial → ℕ) → weight_with arrays dicts v ≡ 0
  pub plain : is_container v ≡ false

pub by_kind : (P : Value → Type 0) → ((s : Serial) → P (Array s)) → ((s : Serial) → P (Dict s)) → ((v : Value) → IsScalar v → P v) → (v : Value) → P v
by_kind P array dict other Null = other Null (record { copy = λ arrays dicts h. refl; weight = λ arrays dicts. refl; plain = refl })
by_kind P array dict other (Truth b) = other (Truth b) (record { copy = λ arrays dicts h. refl; weight = λ arrays dicts. refl; plain = refl })
by_kind P array dict other (Int n) = other (Int n) (record { copy = λ arrays dicts h. refl; weight = λ arrays dicts. refl; plain = refl })
by_kind P array dict other (Str s) = other (Str s) (record { copy = λ arrays dicts h. refl; weight = λ arrays dicts. refl; plain = refl })
by_kind P array dict other (Array s) = array s
by_kind P array dict other (Dict s) = dict s
by_kind P array dict other (Object s) = other (Object s) (record { copy = λ arrays dicts h. refl; weight = λ arrays dicts. refl; plain = refl })
by_kind P array dict other (Callable s m) = other (Callable s m) (record { copy = λ arrays dicts h. refl; weight = λ arrays dicts. refl; plain = refl })
by_kind P array dict other (Signal s m) = other (Signal s m) (record { copy = λ arrays dicts h. refl; weight = λ arrays dicts. refl; plain = refl })
by_kind P array dict other (Class c) = other (Class c) (record { copy = λ arrays dicts h. refl; weight = λ arrays dicts. refl; plain = refl })
by_kind P array dict other (Scene f p) = other (Scene f p) (record { copy = λ arrays dicts h. refl; weight = λ arrays dicts. refl; plain = refl })
by_kind P array dict other (Weak s) = other (Weak s) (record { copy = λ arrays dicts h. refl; weight = λ arrays dicts. refl; plain = refl })

scalar : (v : Value) → ((s : Serial) → v ≡ Array s → ⊥) → ((s : Serial) → v ≡ Dict s → ⊥) → IsScalar v
scalar v a d = by_kind (λ w. v ≡ w → IsScalar w) (λ s e. absurd (a s e)) (λ s e. absurd (d s e)) (λ w one e. one) v refl

pub copied-zero : (h : Heap) (v : Value) → copied zero h v ≡ (v, h)
unfolding copied
copied-zero h v = refl

pub copied-suc : (n : ℕ) (h : Heap) (v : Value) → copied (suc n) h v ≡ copied_with (array_copy n h) (dict_copy n h) h v
unfolding copied
copied-suc n h v = refl

abbrev pub array_cost : Measure → ℕ → List (Option Cell) → Serial → ℕ
array_cost m n cells s = cell_cost m + total (λ w. item_cost m w + copy_cost m n cells w) (items_of (cell_at cells s.0))

abbrev pub dict_cost : Measure → ℕ → List (Option Cell) → Serial → ℕ
dict_cost m n cells s = cell_cost m + total (λ e. entry_cost m e + copy_cost m n cells e.1) (entries_of (cell_at cells s.0))

pub cost-zero : (m : Measure) (cells : List (Option Cell)) (v : Value) → copy_cost m zero cells v ≡ 0
unfolding copy_cost
cost-zero m cells v = refl

pub cost-suc : (m : Measure) (n : ℕ) (cells : List (Option Cell)) (v : Value) → copy_cost m (suc n) cells v ≡ weight_with (array_cost m n cells) (dict_cost m n cells) v
unfolding copy_cost
cost-suc m n cells v = refl

-- ---- as the code goes down

pub copied_last : (n : ℕ) (h : Heap) (v : Value) → n ≡ 0 → copied n h v ≡ (v, h)
copied_last zero h v e = copied-zero h v
copied_last (suc n) h v e = absurd (omega arith)

pub copied_scalar : (n : ℕ) (h : Heap) (v : Value) → ((s : Serial) → v ≡ Array s → ⊥) → ((s : Serial) → v ≡ Dict s → ⊥) → copied n h v ≡ (v, h)
copied_scalar zero h v a d = copied-zero h v
copied_scalar (suc n) h v a d = copied-suc n h v ∙ (scalar v a d).copy (array_copy n h) (dict_copy n h) h

pub copied_array : (n : ℕ) (h : Heap) (v : Value) (s : Serial) → v ≡ Array s → n ≢ 0 → copied n h v ≡ array_copy (n - 1) h s
copied_array zero h v s is some = absurd (some refl)
copied_array (suc n) h v s is some = let e : n ≡ suc n - 1 = omega arith in ap (copied (suc n) h) is ∙ copied-suc n h (Array s) ∙ ap (λ m. array_copy m h s) e

pub copied_dict : (n : ℕ) (h : Heap) (v : Value) (s : Serial) → v ≡ Dict s → n ≢ 0 → copied n h v ≡ dict_copy (n - 1) h s
copied_dict zero h v s is some = absurd (some refl)
copied_dict (suc n) h v s is some = let e : n ≡ suc n - 1 = omega arith in ap (copied (suc n) h) is ∙ copied-suc n h (Dict s) ∙ ap (λ m. dict_copy m h s) e

pub cost_last : (m : Measure) (n : ℕ) (cells : List (Option Cell)) (v : Value) → n ≡ 0 → copy_cost m n cells v ≡ 0
cost_last m zero cells v e = cost-zero m cells v
cost_last m (suc n) cells v e = absurd (omega arith)

pub cost_scalar : (m : Measure) (n : ℕ) (cells : List (Option Cell)) (v : Value) → ((s : Serial) → v ≡ Array s → ⊥) → ((s : Serial) → v ≡ Dict s → ⊥) → copy_cost m n cells v ≡ 0
cost_scalar m zero cells v a d = cost-zero m cells v
cost_scalar m (suc n) cells v a d = cost-suc m n cells v ∙ (scalar v a d).weight (array_cost m n cells) (dict_cost m n cells)

pub cost_array : (m : Measure) (n : ℕ) (cells : List (Option Cell)) (v : Value) (s : Serial) → v ≡ Array s → n ≢ 0 → copy_cost m n cells v ≡ array_cost m (n - 1) cells s
cost_array m zero cells v s is some = absurd (some refl)
cost_array m (suc n) cells v s is some = let e : n ≡ suc n - 1 = omega arith in ap (copy_cost m (suc n) cells) is ∙ cost-suc m n cells (Array s) ∙ ap (λ k. array_cost m k cells s) e

pub cost_dict : (m : Measure) (n : ℕ) (cells : List (Option Cell)) (v : Value) (s : Serial) → v ≡ Dict s → n ≢ 0 → copy_cost m n cells v ≡ dict_cost m (n - 1) cells s
cost_dict m zero cells v s is some = absurd (some refl)
cost_dict m (suc n) cells v s is some = let e : n ≡ suc n - 1 = omega arith in ap (copy_cost m (suc n) cells) is ∙ cost-suc m n cells (Dict s) ∙ ap (λ k. dict_cost m k cells s) e
