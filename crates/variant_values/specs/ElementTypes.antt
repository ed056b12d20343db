-- The element types of typed arrays.
use Rattle.std.specs.Prelude.{Bool, true, false, if◌then◌else◌, List, [], Option, Some, None}
use Rattle.std.specs.List.{list_any, list_all}
use Rattle.variant_values.specs.declared.cells.Cell.{Cell}
use Rattle.variant_values.specs.declared.cells.Cell.TheVariants.{Array as ArrayCell, Dict as DictCell, Object as ObjectCell}
use Rattle.variant_values.specs.declared.classes.ClassTag.{ClassTag}
use Rattle.variant_values.specs.declared.classes.ElementTag.{ElementTag}
use Rattle.variant_values.specs.declared.classes.ElementTag.TheVariants.{Bool as OfTruths, Int as OfInts, Str as OfStrs, Array as OfArrays, Dict as OfDicts, Callable as OfCallables, Signal as OfSignals, Scene as OfScenes, Weak as OfWeaks, Class as OfObjects}
use Rattle.variant_values.specs.declared.values.Value.{Value}
use Rattle.variant_values.specs.declared.values.Value.TheVariants.{Null, Bool as Truth, Int, Str, Array, Dict, Object, Callable, Signal, Scene, Weak}
use Rattle.variant_values.specs.Classes.{same_class}
use Rattle.variant_values.specs.Heaps.{cell_at}

-- the element type of an array, where it has one
abbrev pub element_of : Option Cell → Option ElementTag
element_of None = None
element_of (Some (ArrayCell vs of)) = of
element_of (Some (DictCell es)) = None
element_of (Some (ObjectCell o)) = None

-- the class of an object and its ancestors
abbrev pub lineage_of : Option Cell → List ClassTag
lineage_of None = []
lineage_of (Some (ArrayCell vs of)) = []
lineage_of (Some (DictCell es)) = []
lineage_of (Some (ObjectCell o)) = o.lineage

-- null, or a living object of the class
abbrev pub is_instance : List (Option Cell) → ClassTag → Value → Bool
is_instance cells c Null = true
is_instance cells c (Object s) = list_any (same_class c) (lineage_of (cell_at cells s.0))
is_instance cells c v = false

-- whether a value is of an element type
abbrev pub is_of : List (Option Cell) → ElementTag → Value → Bool
is_of cells OfTruths (Truth b) = true
is_of cells OfInts (Int n) = true
is_of cells OfStrs (Str s) = true
is_of cells OfArrays (Array s) = true
is_of cells OfDicts (Dict s) = true
is_of cells OfCallables (Callable s m) = true
is_of cells OfSignals (Signal s m) = true
is_of cells OfScenes (Scene f p) = true
is_of cells OfWeaks (Weak s) = true
is_of cells (OfObjects c) v = is_instance cells c v
is_of cells of v = false

-- an array without an element type takes every value
abbrev pub is_taken : List (Option Cell) → Option ElementTag → Value → Bool
is_taken cells None v = true
is_taken cells (Some of) v = is_of cells of v

abbrev pub all_taken : List (Option Cell) → Option ElementTag → List Value → Bool
all_taken cells of vs = list_all (is_taken cells of) vs

-- whether two element types are one
abbrev pub same_tag : ElementTag → ElementTag → Bool
same_tag OfTruths OfTruths = true
same_tag OfInts OfInts = true
same_tag OfStrs OfStrs = true
same_tag OfArrays OfArrays = true
same_tag OfDicts OfDicts = true
same_tag OfCallables OfCallables = true
same_tag OfSignals OfSignals = true
same_tag OfScenes OfScenes = true
same_tag OfWeaks OfWeaks = true
same_tag (OfObjects c) (OfObjects d) = same_class c d
same_tag a b = false

-- the element type that both have, where it is one
abbrev pub common : Option ElementTag → Option ElementTag → Option ElementTag
common (Some a) (Some b) = if same_tag a b then Some a else None
common a b = None
