-- Rows of the table by their names.
use Rattle.std.proofs.Common.{◌≡◌, ℕ, Bool, true, false, List, [], ◌∷◌, Option, Some, None, refl}
use Rattle.std.specs.Prelude.{bytes_eq, if◌then◌else◌}
use Rattle.native_calls.specs.Table.{Kind, GlobalFunctions, StringMethods, ArrayMethods, DictionaryMethods, CallableMethods, SignalMethods, WeakRefMethods, SceneMethods, ClassMethods, ObjectMethods, NodeMethods, Row, rows_of, row_named, are_named_once}
use Rattle.native_calls.specs.Natives.{first_row}

pub named_once : (kind : Kind) → are_named_once (rows_of kind) ≡ true
unfolding rows_of
named_once GlobalFunctions = refl
named_once StringMethods = refl
named_once ArrayMethods = refl
named_once DictionaryMethods = refl
named_once CallableMethods = refl
named_once SignalMethods = refl
named_once WeakRefMethods = refl
named_once SceneMethods = refl
named_once ClassMethods = refl
named_once ObjectMethods = refl
named_once NodeMethods = refl

abbrev pub Each : (Row → Type 0) → List Row → Type 0
Each P [] = Unit {0}
Each P (row ∷ rows) = P row × Each P rows

-- what holds of each row holds of one that is found by its name
found_by : (P : Row → Type 0) (b : Bool) (row other : Row) (rest : Option Row) → P other → (rest ≡ Some row → P row) → (if b then Some other else rest) ≡ Some row → P row
found_by P true row other rest here there is = rw (some_is is) here where
  some_is : Some other ≡ Some row → row ≡ other
  some_is h = cc
found_by P false row other rest here there is = there is

pub row_found : (P : Row → Type 0) (rows : List Row) (name : List ℕ) (row : Row) → Each P rows → row_named rows name ≡ Some row → P row
row_found P [] name row all is = cc
row_found P (other ∷ rows) name row all is = found_by P (bytes_eq other.name name) row other (row_named rows name) all.0 (λ h. row_found P rows name row all.1 h) is

pub first_only : (row : Option Row) → first_row row None ≡ row
first_only (Some row) = refl
first_only None = refl
