-- The values of constants, whose containers each read makes anew.
use Rattle.std.specs.Prelude.{List, [], ◌∷◌, None, Result, Ok, Err}
use Rattle.folder_meaning.specs.declared.const_value.ConstValue.{ConstValue}
use Rattle.folder_meaning.specs.declared.const_value.ConstValue.TheOpen.{ConstValue-F}
use Rattle.folder_meaning.specs.declared.const_value.ConstValue.TheFolds.{fold-ConstValue}
use Rattle.variant_values.specs.declared.faults.RunFault.{RunFault}
use Rattle.variant_values.specs.declared.values.Key.{Key}
use Rattle.variant_values.specs.declared.values.Value.{Value}
use Rattle.variant_values.specs.declared.values.Value.TheVariants.{Null, Bool as Truth, Int, Str, Class, Scene}
use Rattle.variant_values.specs.Changes.{Given, looked, new_array, new_dict}
use Rattle.variant_values.specs.Heaps.{Heap}
use Rattle.variant_values.specs.Keys.{with_entry}
use Rattle.variant_values.specs.Operators.{key_of}
use Rattle.script_meaning.specs.State.{Making}

-- ---- dictionaries of values in order

-- The entries of these pairs: a key that stands twice keeps its first place and its last value, and a value that can be no key
-- is `BadKey`.
abbrev pub entries_by : List (Key × Value) → List (Value × Value) → Result (List (Key × Value)) RunFault
entries_by es [] = Ok es
entries_by es (p ∷ ps) = elim (key_of p.0) [ Ok k ↦ entries_by (with_entry es k p.1) ps | Err kind ↦ Err kind ]

abbrev pub dict_by : Heap → Result (List (Key × Value)) RunFault → Given
dict_by h (Ok es) = new_dict h es
dict_by h (Err kind) = Err kind

abbrev pub new_dict_of : Heap → List (Value × Value) → Given
new_dict_of h pairs = dict_by h (entries_by [] pairs)

-- ---- what a read makes

-- what is made one after the other, and the heap then
abbrev pub Made : Type 0 → Type 0
Made A = Result (A × Heap) RunFault

abbrev pub and_make : {A B : Type 0} → Made A → (A → Heap → Made B) → Made B
and_make (Ok (a, h)) go = go a h
and_make (Err kind) go = Err kind

abbrev pub made_all : List Making → Heap → Made (List Value)
made_all [] h = Ok ([], h)
made_all (m ∷ ms) h = and_make (m h) (λ v g. and_make (made_all ms g) (λ vs f. Ok (v ∷ vs, f)))

abbrev pub made_pairs : List (Making × Making) → Heap → Made (List (Value × Value))
made_pairs [] h = Ok ([], h)
made_pairs (m ∷ ms) h = and_make (m.0 h) (λ k g. and_make (m.1 g) (λ v f. and_make (made_pairs ms f) (λ vs e. Ok ((k, v) ∷ vs, e))))

abbrev pub scalar_made : Value → Making
scalar_made v h = looked h (Ok v)

abbrev pub array_made : List Making → Making
array_made ms h = and_make (made_all ms h) (λ vs g. new_array g vs None)

abbrev pub dict_made : List (Making × Making) → Making
dict_made ms h = and_make (made_pairs ms h) (λ vs g. new_dict_of g vs)

abbrev pub const_step : ConstValue-F Making → Making
const_step ConstValue-F.Null h = scalar_made Null h
const_step (ConstValue-F.Bool b) h = scalar_made (Truth b) h
const_step (ConstValue-F.Int n) h = scalar_made (Int n) h
const_step (ConstValue-F.Str text) h = scalar_made (Str text) h
const_step (ConstValue-F.Array all) h = array_made all h
const_step (ConstValue-F.Dict all) h = dict_made all h
const_step (ConstValue-F.Class class) h = scalar_made (Class class) h
const_step (ConstValue-F.Scene file path) h = scalar_made (Scene file path) h

-- what a read of a constant of this value gives
unfoldable pub made : ConstValue → Making
made = fold-ConstValue Making const_step
