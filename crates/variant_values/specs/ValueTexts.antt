-- The text of a value, as `str` and `print` show it.
use Rattle.std.specs.Prelude.{ℕ, zero, suc, ◌+◌, Bool, true, false, List, [], ◌∷◌, ◌++◌, length, codes, decimal, if◌then◌else◌, nat_le, Option, Some, None, Result, Ok, Err}
use Rattle.std.specs.Fmt.{signed_decimal}
use Rattle.std.specs.List.{join_by}
use Rattle.variant_values.specs.declared.classes.ClassTag.{ClassTag}
use Rattle.variant_values.specs.declared.values.Serial.{Serial}
use Rattle.variant_values.specs.declared.values.Value.{Value}
use Rattle.variant_values.specs.declared.values.Value.TheVariants.{Null, Bool as Truth, Int, Str, Array, Dict, Object, Callable, Signal, Class, Scene, Weak}
use Rattle.variant_values.specs.declared.values.Key.{Key}
use Rattle.variant_values.specs.declared.values.Key.TheVariants.{Bool as KeyTruth, Int as KeyInt, Str as KeyStr, Object as KeyObject}
use Rattle.variant_values.specs.declared.cells.Cell.{Cell}
use Rattle.variant_values.specs.declared.cells.Cell.TheVariants.{Object as ObjectCell}
use Rattle.variant_values.specs.declared.faults.RunFault.{RunFault}
use Rattle.variant_values.specs.declared.faults.RunFault.TheVariants.{TooDeep, TooLong}
use Rattle.variant_values.specs.Classes.{class_text}
use Rattle.variant_values.specs.Heaps.{cell_at, items_of, entries_of}
use Rattle.variant_values.specs.Operators.{longest, most_items}

-- the names of classes
abbrev pub Names : Type 0
Names = List (ClassTag × List ℕ)

abbrev pub truth_text : Bool → List ℕ
truth_text true = codes "true"
truth_text false = codes "false"

-- a string within a container: between quotes, without escapes
abbrev pub quoted : List ℕ → List ℕ
quoted text = codes "\"" ++ text ++ codes "\""

-- the name of an object's class, the nearest of its lineage
abbrev pub own_name : Names → List ClassTag → List ℕ
own_name names [] = []
own_name names (class ∷ others) = class_text names class

-- an object that lives shows its class and its serial
abbrev pub object_text : Names → ℕ → Option Cell → List ℕ
object_text names serial (Some (ObjectCell o)) = codes "<" ++ own_name names o.lineage ++ codes "#" ++ decimal serial ++ codes ">"
object_text names serial _ = codes "<Freed Object>"

-- the text of a value, where `arrays` and `dicts` give that of a container
abbrev pub text_with : (Serial → List ℕ) → (Serial → List ℕ) → List (Option Cell) → Names → Value → List ℕ
text_with arrays dicts cells names Null = codes "<null>"
text_with arrays dicts cells names (Truth b) = truth_text b
text_with arrays dicts cells names (Int n) = signed_decimal n
text_with arrays dicts cells names (Str text) = text
text_with arrays dicts cells names (Array s) = arrays s
text_with arrays dicts cells names (Dict s) = dicts s
text_with arrays dicts cells names (Object s) = object_text names s.0 (cell_at cells s.0)
text_with arrays dicts cells names (Callable s method) = codes "<Callable " ++ method ++ codes ">"
text_with arrays dicts cells names (Signal s signal) = codes "<Signal " ++ signal ++ codes ">"
text_with arrays dicts cells names (Class class) = codes "<" ++ class_text names class ++ codes ">"
text_with arrays dicts cells names (Scene file path) = codes "<PackedScene " ++ path ++ codes ">"
text_with arrays dicts cells names (Weak s) = codes "<WeakRef>"

-- within a container a string stands in quotes
abbrev pub shown : (Value → List ℕ) → Value → List ℕ
shown text (Str s) = quoted s
shown text v = text v

abbrev pub key_text : List (Option Cell) → Names → Key → List ℕ
key_text cells names (KeyTruth b) = truth_text b
key_text cells names (KeyInt n) = signed_decimal n
key_text cells names (KeyStr s) = quoted s
key_text cells names (KeyObject s) = object_text names s.0 (cell_at cells s.0)

abbrev pub array_text : (Value → List ℕ) → List Value → List ℕ
array_text text items = codes "[" ++ join_by (shown text) (codes ", ") items ++ codes "]"

abbrev pub entry_text : List (Option Cell) → Names → (Value → List ℕ) → Key × Value → List ℕ
entry_text cells names text e = key_text cells names e.0 ++ codes ": " ++ shown text e.1

abbrev pub dict_text : List (Option Cell) → Names → (Value → List ℕ) → List (Key × Value) → List ℕ
dict_text cells names text [] = codes "{}"
dict_text cells names text (e ∷ es) = codes "{ " ++ join_by (entry_text cells names text) (codes ", ") (e ∷ es) ++ codes " }"

-- The text of a value, with so many levels of containers opened. One that stands deeper is left out; a text that has such a
-- one is refused.
unfoldable pub text_in : ℕ → List (Option Cell) → Names → Value → List ℕ
text_in zero cells names v = text_with (λ s. codes "[...]") (λ s. codes "{...}") cells names v
text_in (suc n) cells names v = text_with (λ s. array_text (text_in n cells names) (items_of (cell_at cells s.0))) (λ s. dict_text cells names (text_in n cells names) (entries_of (cell_at cells s.0))) cells names v

-- two counts together, where both are there
abbrev pub with_count : Option ℕ → Option ℕ → Option ℕ
with_count None b = None
with_count (Some a) None = None
with_count (Some a) (Some b) = Some (a + b)

-- the items or entries of a container, each with what it has below it
abbrev pub count_items : {A : Type 0} → (A → Option ℕ) → List A → Option ℕ
count_items below [] = Some 0
count_items below (x ∷ xs) = with_count (with_count (Some 1) (below x)) (count_items below xs)

abbrev pub count_with : (Serial → Option ℕ) → (Serial → Option ℕ) → Value → Option ℕ
count_with arrays dicts (Array s) = arrays s
count_with arrays dicts (Dict s) = dicts s
count_with arrays dicts v = Some 0

-- The items and entries that a walk of a value comes to, each as often as it does, and none where the walk would open a
-- container below so many levels.
unfoldable pub items_in : ℕ → List (Option Cell) → Value → Option ℕ
items_in zero cells v = count_with (λ s. None) (λ s. None) v
items_in (suc n) cells v = count_with (λ s. count_items (items_in n cells) (items_of (cell_at cells s.0))) (λ s. count_items (λ e. items_in n cells e.1) (entries_of (cell_at cells s.0))) v

-- the levels of containers that a walk may open
abbrev pub most_levels : ℕ
most_levels = 64

-- whether a walk stays within the limits
abbrev pub is_within : Option ℕ → Bool
is_within None = false
is_within (Some n) = nat_le n most_items

-- whether a text is no longer than a string may be
abbrev pub fits_string : List ℕ → Bool
fits_string text = nat_le (length text) longest

-- a string of the language, where it is no longer than one may be
abbrev pub fitting : List ℕ → Result (List ℕ) RunFault
fitting text = if fits_string text then Ok text else Err TooLong

-- the text of a value: `TooDeep` where the walk passes a limit, and then `TooLong`
abbrev pub value_text : List (Option Cell) → Names → Value → Result (List ℕ) RunFault
value_text cells names v = if is_within (items_in most_levels cells v) then fitting (text_in most_levels cells names v) else Err TooDeep
