-- Rows by their names, and what the call of a row gives.
use Rattle.std.proofs.Common.{◌≡◌, ℕ, Bool, true, false, List, [], ◌∷◌, Option, Some, None, refl, sym, ap, ◌∙◌}
use Rattle.std.specs.Prelude.{bytes_eq, if◌then◌else◌, option_map, Ok, Err, chars, codes}
use Rattle.std.proofs.lemmas.Slice.Eq.{bytes_eq-Decides}
use Rattle.variant_values.specs.declared.faults.RunFault.TheVariants.{NoMethod, FreedAccess}
use Rattle.variant_values.specs.declared.values.Value.{Value}
use Rattle.variant_values.specs.declared.values.Serial.{Serial}
use Rattle.variant_values.specs.declared.values.Value.TheVariants.{Object, Callable}
use Rattle.variant_values.specs.Heaps.{Heap, is_living}
use Rattle.native_calls.specs.Table.{Kind, CallableMethods, NativeCall, Row, rows_of, row_named, row_in}
use Rattle.native_calls.specs.Natives.{Native, GoesOn, HasFunction, call_given, first_row, method_given, row_given}
use Rattle.machine_calls.specs.Answers.{call_named}

abbrev pub NoneNamed : List Row → List ℕ → Type 0
NoneNamed [] name = Unit {0}
NoneNamed (row ∷ rows) name = (name ≡ row.name → ⊥) × NoneNamed rows name

passes : (row : Row) (rows : List Row) (name : List ℕ) (b : Bool) → bytes_eq row.name name ≡ b → (name ≡ row.name → ⊥) → row_named rows name ≡ None → row_named (row ∷ rows) name ≡ None
passes row rows name true is other rest = elim (other (sym ((bytes_eq-Decides row.name name).0 is))) as (λ _. row_named (row ∷ rows) name ≡ None) [ ]
passes row rows name false is other rest = rw is rest

-- a name that no row has
pub absent : (rows : List Row) (name : List ℕ) → NoneNamed rows name → row_named rows name ≡ None
absent [] name none = refl
absent (row ∷ rows) name none = passes row rows name (bytes_eq row.name name) refl none.0 (absent rows name none.1)

pub not_named : (kind : Kind) (name : List ℕ) → NoneNamed (rows_of kind) name → call_named kind name ≡ None
not_named kind name none = ap (option_map (λ (row : Row). row.call)) (absent (rows_of kind) name none)

-- what the call of a row gives
pub called : (has : HasFunction) (h : Heap) (v : Value) (args : List Value) (row : Option Row) (call : NativeCall) → option_map (λ (r : Row). r.call) row ≡ Some (Some call) → row_given has h v args (first_row row None) ≡ method_given has h v call args
called has h v args None call is = cc
called has h v args (Some row) call is = ap (call_given has h v args) (inner is) where
  inner : Some row.call ≡ Some (Some call) → row.call ≡ Some call
  inner e = cc

-- there is no row
pub uncalled : (has : HasFunction) (h : Heap) (v : Value) (args : List Value) (row : Option Row) → option_map (λ (r : Row). r.call) row ≡ None → row_given has h v args (first_row row None) ≡ Some (Err NoMethod)
uncalled has h v args None is = refl
uncalled has h v args (Some row) is = cc

-- `call` of a callable
abbrev given_by_call : Bool → Serial → List ℕ → List Value → Option Native
given_by_call lives s m args = Some (if lives then Ok (GoesOn (Object s) (chars m) args) else Err FreedAccess)

pub call_named_so : (has : HasFunction) (h : Heap) (s : Serial) (m : List ℕ) (args : List Value) (name : List ℕ) (b : Bool) → name ≡ codes "call" → is_living h.cells s.0 ≡ b → row_given has h (Callable s m) args (first_row (row_in CallableMethods name) None) ≡ given_by_call b s m args
unfolding rows_of
call_named_so has h s m args name b is lives = ap (λ n. row_given has h (Callable s m) args (first_row (row_in CallableMethods n) None)) is ∙ ap (λ l. given_by_call l s m args) lives

pub no_call : (has : HasFunction) (h : Heap) (s : Serial) (m : List ℕ) (args : List Value) (name : List ℕ) → (name ≡ codes "call" → ⊥) → bytes_eq (codes "is_valid") name ≡ false → row_given has h (Callable s m) args (first_row (row_in CallableMethods name) None) ≡ Some (Err NoMethod)
unfolding rows_of
no_call has h s m args name other made = uncalled has h (Callable s m) args (row_in CallableMethods name) (not_named CallableMethods name (other, (apart, record {}))) where
  apart : name ≡ codes "is_valid" → ⊥
  apart e = let here : bytes_eq (codes "is_valid") name ≡ true = (bytes_eq-Decides (codes "is_valid") name).1 (sym e) in cc
