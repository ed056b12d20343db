-- When a value is true, and when values are equal by their contents, after the Godot manual's "GDScript reference" and
-- the pages of Array and Dictionary.
use Rattle.std.specs.Prelude.{ℕ, zero, suc, ◌-◌, pos, ◌+◌, Bool, true, false, not, nat_eq, if◌then◌else◌, List, [], ◌∷◌, length, Option, Some, None, Result, Ok, Err}
use Rattle.std.specs.Map.{lookup}
use Rattle.std.specs.Ordering.{int_eq}
use Rattle.variant_values.specs.declared.cells.Cell.{Cell}
use Rattle.variant_values.specs.declared.faults.RunFault.{RunFault}
use Rattle.variant_values.specs.declared.faults.RunFault.TheVariants.{BadOperands, TooDeep}
use Rattle.variant_values.specs.declared.values.Key.{Key}
use Rattle.variant_values.specs.declared.values.Value.{Value}
use Rattle.variant_values.specs.declared.values.Value.TheVariants.{Null, Bool as Truth, Int, Str, Array, Dict, Object, Callable, Signal, Class, Scene, Weak}
use Rattle.variant_values.specs.Heaps.{cell_at, is_living, items_of, entries_of}
use Rattle.variant_values.specs.Keys.{same_key}
use Rattle.variant_values.specs.Operators.{equal, most_items}
use Rattle.variant_values.specs.ValueTexts.{most_levels}

-- false are null, false, 0, the empty text, an empty container, and an object that has gone
abbrev pub is_true : List (Option Cell) → Value → Bool
is_true cells Null = false
is_true cells (Truth b) = b
is_true cells (Int n) = not (int_eq n (pos 0))
is_true cells (Str s) = not (nat_eq (length s) 0)
is_true cells (Array s) = not (nat_eq (length (items_of (cell_at cells s.0))) 0)
is_true cells (Dict s) = not (nat_eq (length (entries_of (cell_at cells s.0))) 0)
is_true cells (Object s) = is_living cells s.0
is_true cells (Callable s m) = true
is_true cells (Signal s m) = true
is_true cells (Class c) = true
is_true cells (Scene f p) = true
is_true cells (Weak s) = true

-- What a walk over two values tells: that they are equal, and how many items it may still come to; that they differ; or
-- that it goes too deep. It stops at the first difference.
abbrev pub Walk : Type 0
Walk = Result (Option ℕ) RunFault

abbrev pub then_on : Walk → (ℕ → Walk) → Walk
then_on (Ok (Some left)) next = next left
then_on (Ok None) next = Ok None
then_on (Err fault) next = Err fault

-- the walk comes to one item more
abbrev pub come_to : ℕ → (ℕ → Walk) → Walk
come_to room next = if nat_eq room 0 then Err TooDeep else next (room - 1)

-- the items of an array, in order
abbrev pub same_items : (Value → Value → ℕ → Walk) → List Value → List Value → ℕ → Walk
same_items same [] ws room = Ok (Some room)
same_items same (v ∷ vs) [] room = Ok None
same_items same (v ∷ vs) (w ∷ ws) room = come_to room (λ left. then_on (same v w left) (λ rest. same_items same vs ws rest))

abbrev pub same_found : (Value → Value → ℕ → Walk) → Value → Option Value → ℕ → Walk
same_found same v None room = Ok None
same_found same v (Some w) room = same v w room

-- the entries of a dictionary, in order; those of the other are found by key
abbrev pub same_entries : (Value → Value → ℕ → Walk) → List (Key × Value) → List (Key × Value) → ℕ → Walk
same_entries same [] fs room = Ok (Some room)
same_entries same (e ∷ es) fs room = come_to room (λ left. then_on (same_found same e.1 (lookup (same_key e.0) fs) left) (λ rest. same_entries same es fs rest))

-- values of other kinds are unequal
abbrev pub compared : Option Bool → ℕ → Walk
compared None room = Ok None
compared (Some false) room = Ok None
compared (Some true) room = Ok (Some room)

-- One cell equals itself without a look inside, and containers of other sizes are unequal without one.
abbrev pub opened : Bool → Bool → ℕ → Walk → Walk
opened one sized room inside = if one then Ok (Some room) else (if sized then inside else Ok None)

-- two values, where `arrays` and `dicts` open two containers
abbrev pub same_by : List (Option Cell) → (List Value → List Value → ℕ → Walk) → (List (Key × Value) → List (Key × Value) → ℕ → Walk) → Value → Value → ℕ → Walk
same_by cells arrays dicts (Array a) (Array b) room = opened (nat_eq a.0 b.0) (nat_eq (length (items_of (cell_at cells a.0))) (length (items_of (cell_at cells b.0)))) room (arrays (items_of (cell_at cells a.0)) (items_of (cell_at cells b.0)) room)
same_by cells arrays dicts (Dict a) (Dict b) room = opened (nat_eq a.0 b.0) (nat_eq (length (entries_of (cell_at cells a.0))) (length (entries_of (cell_at cells b.0)))) room (dicts (entries_of (cell_at cells a.0)) (entries_of (cell_at cells b.0)) room)
same_by cells arrays dicts v w room = compared (equal v w) room

-- the walk over two values, where so many levels of containers may be opened
unfoldable pub same_at : List (Option Cell) → ℕ → Value → Value → ℕ → Walk
same_at cells zero v w room = same_by cells (λ vs ws left. Err TooDeep) (λ es fs left. Err TooDeep) v w room
same_at cells (suc levels) v w room = same_by cells (λ vs ws left. same_items (λ a b n. same_at cells levels a b n) vs ws left) (λ es fs left. same_entries (λ a b n. same_at cells levels a b n) es fs left) v w room

abbrev pub verdict : Walk → Result Bool RunFault
verdict (Ok (Some left)) = Ok true
verdict (Ok None) = Ok false
verdict (Err fault) = Err fault

-- whether two values are of one kind and equal, by a whole walk: 64 levels, 1,048,576 items
unfoldable pub same_value : List (Option Cell) → Value → Value → Result Bool RunFault
same_value cells v w = verdict (same_at cells most_levels v w most_items)

abbrev pub or_refused : Option Bool → Result Bool RunFault
or_refused None = Err BadOperands
or_refused (Some b) = Ok b

-- `v == w`: both are of one kind, or one is null
abbrev pub equality : List (Option Cell) → Value → Value → Result Bool RunFault
equality cells (Array a) (Array b) = same_value cells (Array a) (Array b)
equality cells (Dict a) (Dict b) = same_value cells (Dict a) (Dict b)
equality cells v w = or_refused (equal v w)

-- which of two outcomes comes of a test
abbrev pub by_test : {A : Type 0} → Result Bool RunFault → Result A RunFault → Result A RunFault → Result A RunFault
by_test (Ok true) found other = found
by_test (Ok false) found other = other
by_test (Err fault) found other = Err fault

-- the place of the first item that is equal, where the first item has the place n
abbrev pub first_equal : (Value → Result Bool RunFault) → ℕ → List Value → Result (Option ℕ) RunFault
first_equal same n [] = Ok None
first_equal same n (v ∷ vs) = by_test (same v) (Ok (Some n)) (first_equal same (n + 1) vs)

-- how many items are equal, where n were before
abbrev pub count_equal : (Value → Result Bool RunFault) → ℕ → List Value → Result ℕ RunFault
count_equal same n [] = Ok n
count_equal same n (v ∷ vs) = by_test (same v) (count_equal same (n + 1) vs) (count_equal same n vs)
