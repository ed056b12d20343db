-- What a format has come to.
use Rattle.std.specs.Prelude.{◌≡◌, ◌<◌, ℕ, Bool, true, false, not, ◌&&◌, List, ◌∷◌, ◌++◌, length, drop, Option, Some, None}
use Rattle.variant_values.specs.Operators.{longest}
use Rattle.string_calls.specs.declared.formats.Draft.{Draft}
use Rattle.string_calls.specs.declared.formats.Taken.{Taken}
use Rattle.variant_values.specs.declared.values.Value.{Value}
use Rattle.variant_values.specs.Formats.{Directive, Formatted, followed}
use Rattle.string_calls.specs.Passes.{formatted_after}

-- The draft stands for a text, and for whether all walks so far stay within the limits.
pub record Stands (d : Draft) (within : Bool) (front : List ℕ) : Type 0 where
  pub deep : d.is_deep ≡ not within
  pub kept : within ≡ true → d.is_long ≡ false → d.out ≡ front
  pub lost : within ≡ true → d.is_long ≡ true → longest < length front

-- a text more, whose walk stays within the limits or not
abbrev pub Grows : Draft → Draft → Bool → List ℕ → Type 0
Grows old new fits text = (within : Bool) (front : List ℕ) → Stands old within front → Stands new (within && fits) (front ++ text)

-- where the format is good so far, its text was added
abbrev pub Fills : Draft → Draft → Bool → Formatted → Type 0
Fills old new false formatted = formatted ≡ None
Fills old new true formatted = (fits : Bool) × ((text : List ℕ) × ((formatted ≡ Some (fits, text)) × Grows old new fits text))

-- what stands behind a `%` was added, and so many bytes and values were taken
abbrev pub Takes : Draft → Draft → (Directive → Value → Formatted) → Option Taken → List ℕ → List Value → Type 0
Takes old new value None after left = formatted_after value 0 (37 ∷ after) left ≡ None
Takes old new value (Some t) after left = (fits : Bool) × ((text : List ℕ) × ((formatted_after value 0 (37 ∷ after) left ≡ followed (Some (fits, text)) (formatted_after value 0 (drop t.bytes after) (drop t.values left))) × Grows old new fits text))
