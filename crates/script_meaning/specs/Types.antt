-- What types say of values while a script runs.
use Rattle.std.specs.Prelude.{Bool, true, false, if◌then◌else◌, List, [], Option, Some, None, codes, Ok, Err, pos}
use Rattle.std.specs.List.{list_any}
use Rattle.folder_meaning.specs.declared.script_type.ScriptType.{ScriptType}
use Rattle.folder_meaning.specs.declared.script_type.ScriptType.TheVariants as of_type
use Rattle.variant_values.specs.declared.cells.Cell.{Cell}
use Rattle.variant_values.specs.declared.classes.ClassTag.{ClassTag}
use Rattle.variant_values.specs.declared.classes.ElementTag.{ElementTag}
use Rattle.variant_values.specs.declared.faults.RunFault.TheVariants.{BadType}
use Rattle.variant_values.specs.declared.values.Value.{Value}
use Rattle.variant_values.specs.declared.values.Value.TheVariants.{Null, Bool as Truth, Int, Str, Array, Dict, Object, Callable, Signal, Class, Scene, Weak}
use Rattle.variant_values.specs.Changes.{Given, looked, new_array, new_dict}
use Rattle.variant_values.specs.Classes.{same_class}
use Rattle.variant_values.specs.ElementTypes.{element_of, is_instance, lineage_of, same_tag}
use Rattle.variant_values.specs.Heaps.{Heap, cell_at}
use Rattle.variant_values.specs.Operators.{Outcome}

-- whether an array has this very element type, or only any where none is asked for
abbrev pub fits_element : Option ElementTag → Option ElementTag → Bool
fits_element None found = true
fits_element (Some of) None = false
fits_element (Some of) (Some found) = same_tag of found

-- The check of a declared type while a script runs. Every value fits Variant, null alone fits `void` and the type of `null`. A
-- class takes null and a living object of it or of a class below it, so no object that has gone.
abbrev pub fits_at_run : List (Option Cell) → ScriptType → Value → Bool
fits_at_run cells of_type.Variant v = true
fits_at_run cells of_type.Null Null = true
fits_at_run cells of_type.Void Null = true
fits_at_run cells of_type.Bool (Truth b) = true
fits_at_run cells of_type.Int (Int n) = true
fits_at_run cells of_type.Str (Str text) = true
fits_at_run cells (of_type.Array of) (Array s) = fits_element of (element_of (cell_at cells s.0))
fits_at_run cells of_type.Dict (Dict s) = true
fits_at_run cells of_type.Callable (Callable s name) = true
fits_at_run cells of_type.Signal (Signal s name) = true
fits_at_run cells of_type.Scene (Scene file path) = true
fits_at_run cells of_type.Weak (Weak s) = true
fits_at_run cells (of_type.Instance class) v = is_instance cells class v
fits_at_run cells (of_type.ClassValue class) (Class other) = same_class class other
fits_at_run cells type v = false

-- a living object of a class or of one below it
abbrev pub is_object_of : List (Option Cell) → ClassTag → Value → Bool
is_object_of cells class (Object s) = list_any (same_class class) (lineage_of (cell_at cells s.0))
is_object_of cells class v = false

-- `v is T`: a living object of the class, or a value of the type
abbrev pub is_of_type : List (Option Cell) → ScriptType → Value → Bool
is_of_type cells (of_type.Instance class) v = is_object_of cells class v
is_of_type cells type v = fits_at_run cells type v

-- `v as T`: the object or null for a class, the value itself for another type, which has to be of it
abbrev pub taken_as : List (Option Cell) → ScriptType → Value → Outcome
taken_as cells (of_type.Instance class) v = Ok (if is_object_of cells class v then v else Null)
taken_as cells type v = if fits_at_run cells type v then Ok v else Err BadType

-- ---- the value of a variable without an initialiser

-- that of a type whose values are no containers, and null for the others
abbrev pub plain_default : ScriptType → Value
plain_default of_type.Bool = Truth false
plain_default of_type.Int = Int (pos 0)
plain_default of_type.Str = Str (codes "")
plain_default type = Null

-- a container is made
abbrev pub default_of : ScriptType → Heap → Given
default_of (of_type.Array of) h = new_array h [] of
default_of of_type.Dict h = new_dict h []
default_of type h = looked h (Ok (plain_default type))
