-- What the native calls made here give, and which calls these are.
use Rattle.std.specs.Prelude.{◌≡◌, ℕ, Bool, true, false, not, bytes_eq, codes, List, chars, Option, Some, option_map, Result, Ok, Err}
use Rattle.variant_values.specs.declared.cells.Cell.{Cell}
use Rattle.variant_values.specs.declared.faults.Trouble.{Trouble}
use Rattle.variant_values.specs.declared.faults.Trouble.TheVariants.{Fault, NoMemory}
use Rattle.variant_values.specs.declared.values.Value.{Value}
use Rattle.variant_values.specs.declared.values.Value.TheVariants.{Null, Bool as Truth, Int, Str, Array, Dict, Object, Callable, Signal, Class, Scene, Weak}
use Rattle.variant_values.specs.Heaps.{Heap, is_living, knows}
use Rattle.native_calls.specs.Table.{Kind, NativeCall, row_in}
use Rattle.native_calls.specs.Natives.{Gives, GoesOn, Native}
use Rattle.machine_calls.specs.declared.answers.NativeAnswer.{NativeAnswer}
use Rattle.machine_calls.specs.declared.answers.NativeAnswer.TheVariants as native_answer

-- what the row of a name does, where the table has one
abbrev pub call_named : Kind → List ℕ → Option (Option NativeCall)
call_named kind name = option_map (λ row. row.call) (row_in kind name)

-- Which calls of methods are made here: all of strings, arrays and dictionaries, those of a value without methods, of an object
-- that has gone, and of a callable all but `is_valid`.
abbrev pub is_made : List (Option Cell) → Value → List ℕ → Bool
is_made cells Null name = true
is_made cells (Truth b) name = true
is_made cells (Int n) name = true
is_made cells (Str s) name = true
is_made cells (Array s) name = true
is_made cells (Dict s) name = true
is_made cells (Object s) name = not (is_living cells s.0)
is_made cells (Callable s m) name = not (bytes_eq (codes "is_valid") name)
is_made cells (Signal s m) name = not (is_living cells s.0)
is_made cells (Class c) name = false
is_made cells (Scene f p) name = false
is_made cells (Weak s) name = false

-- a callable goes on with the function of its object
abbrev pub HasGoneOn : Value → List Value → Heap → Heap → Option Native → Type 0
HasGoneOn (Callable s m) args old new given = (given ≡ Some (Ok (GoesOn (Object s) (chars m) args))) × (new ≡ old)
HasGoneOn v args old new given = ⊥

abbrev pub HasTold : NativeAnswer → List Value → Heap → Heap → Option Native → Type 0
HasTold (native_answer.Value v) args old new given = given ≡ Some (Ok (Gives v new))
HasTold (native_answer.Call v) args old new given = HasGoneOn v args old new given

-- A call's answer and the heap after it are what is given. Where memory ran out, nothing is said.
abbrev pub HasAnswered : Result NativeAnswer Trouble → List Value → Heap → Heap → Option Native → Type 0
HasAnswered (Ok answer) args old new given = HasTold answer args old new given
HasAnswered (Err (Fault fault)) args old new given = (given ≡ Some (Err fault)) × (new ≡ old)
HasAnswered (Err NoMemory) args old new given = Unit {0}

-- what an answer names is known
abbrev pub KnowsAnswer : List (Option Cell) → NativeAnswer → Type 0
KnowsAnswer cells (native_answer.Value v) = knows cells v ≡ true
KnowsAnswer cells (native_answer.Call v) = knows cells v ≡ true
