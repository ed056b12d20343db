-- The types of the language, after the Godot manual's "GDScript reference", "Built-in types" and "Typed GDScript". That the
-- types of two arrays fit by the types of their elements alone is this project's own.
use Rattle.std.specs.Prelude.{Bool, true, false, ◌||◌, pos, List, [], Option, Some, None}
use Rattle.std.specs.List.{list_any}
use Rattle.variant_values.specs.declared.classes.ClassTag.{ClassTag}
use Rattle.variant_values.specs.declared.classes.ElementTag.{ElementTag}
use Rattle.variant_values.specs.declared.classes.ElementTag.TheVariants as e
use Rattle.variant_values.specs.Classes.{same_class}
use Rattle.variant_values.specs.ElementTypes.{same_tag}
use Rattle.folder_meaning.specs.declared.const_value.ConstValue.{ConstValue}
use Rattle.folder_meaning.specs.declared.const_value.ConstValue.TheVariants as c
use Rattle.folder_meaning.specs.declared.script_type.ScriptType.{ScriptType}
use Rattle.folder_meaning.specs.declared.script_type.ScriptType.TheVariants as t

-- whether two element types are one, where none is one too
abbrev pub same_element : Option ElementTag → Option ElementTag → Bool
same_element None None = true
same_element (Some a) (Some b) = same_tag a b
same_element a b = false

-- whether two types are one
abbrev pub same_type : ScriptType → ScriptType → Bool
same_type t.Variant t.Variant = true
same_type t.Null t.Null = true
same_type t.Void t.Void = true
same_type t.Bool t.Bool = true
same_type t.Int t.Int = true
same_type t.Str t.Str = true
same_type (t.Array a) (t.Array b) = same_element a b
same_type t.Dict t.Dict = true
same_type t.Callable t.Callable = true
same_type t.Signal t.Signal = true
same_type t.Scene t.Scene = true
same_type t.Weak t.Weak = true
same_type (t.Instance a) (t.Instance b) = same_class a b
same_type (t.ClassValue a) (t.ClassValue b) = same_class a b
same_type S T = false

abbrev pub is_variant : ScriptType → Bool
is_variant t.Variant = true
is_variant T = false

-- null where an object of a class may be
abbrev pub is_null_object : ScriptType → ScriptType → Bool
is_null_object t.Null (t.Instance b) = true
is_null_object S T = false

-- an array with an element type where one without may be
abbrev pub is_plain_array : ScriptType → ScriptType → Bool
is_plain_array (t.Array (Some a)) (t.Array None) = true
is_plain_array S T = false

module _ (lineage : ClassTag → List ClassTag) where
  -- Whether a class is another or derives from it. A class's lineage is the class and its ancestors.
  abbrev pub derives : ClassTag → ClassTag → Bool
  derives a b = list_any (same_class b) (lineage a)

  -- an object of a class where one of an ancestor may be
  abbrev pub is_upcast : ScriptType → ScriptType → Bool
  is_upcast (t.Instance a) (t.Instance b) = derives a b
  is_upcast S T = false

  -- Whether each value of S may stand where T is asked for, so that no check is made at run time.
  abbrev pub surely_fits : ScriptType → ScriptType → Bool
  surely_fits S T = same_type S T || is_variant T || is_null_object S T || is_upcast S T || is_plain_array S T

  -- Whether S fits T. Where it does not surely fit, the value is checked at run time.
  abbrev pub fits : ScriptType → ScriptType → Bool
  fits S T = surely_fits S T || is_variant S || is_upcast T S || is_plain_array T S

-- What a variable holds to which nothing was assigned. That of an array with an element type has this type too.
abbrev pub default_of : ScriptType → ConstValue
default_of t.Bool = c.Bool false
default_of t.Int = c.Int (pos 0)
default_of t.Str = c.Str []
default_of (t.Array of) = c.Array []
default_of t.Dict = c.Dict []
default_of T = c.Null

-- the element type of an array's type, where it has one
abbrev pub element_of_type : ScriptType → Option ElementTag
element_of_type (t.Array of) = of
element_of_type T = None

-- the type of the elements of an array
abbrev pub type_of_element : ElementTag → ScriptType
type_of_element e.Bool = t.Bool
type_of_element e.Int = t.Int
type_of_element e.Str = t.Str
type_of_element e.Array = t.Array None
type_of_element e.Dict = t.Dict
type_of_element e.Callable = t.Callable
type_of_element e.Signal = t.Signal
type_of_element e.Scene = t.Scene
type_of_element e.Weak = t.Weak
type_of_element (e.Class class) = t.Instance class

-- the type of an item that is read from a value of this type
abbrev pub type_of_items : Option ElementTag → ScriptType
type_of_items None = t.Variant
type_of_items (Some of) = type_of_element of

-- The element type that a type is. An array of Variants is one without; `void` and an array with an element type are none.
abbrev pub element_tag : ScriptType → Option ElementTag
element_tag t.Bool = Some e.Bool
element_tag t.Int = Some e.Int
element_tag t.Str = Some e.Str
element_tag (t.Array None) = Some e.Array
element_tag t.Dict = Some e.Dict
element_tag t.Callable = Some e.Callable
element_tag t.Signal = Some e.Signal
element_tag t.Scene = Some e.Scene
element_tag t.Weak = Some e.Weak
element_tag (t.Instance class) = Some (e.Class class)
element_tag T = None
