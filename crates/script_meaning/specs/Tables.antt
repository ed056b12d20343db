-- A project whose classes are listed one by one.
use Rattle.std.specs.Prelude.{ℕ, suc, false, nat_eq, if◌then◌else◌, List, [], ◌∷◌, ◌++◌, map, codes, bytes_eq, Option, Some, None, option_map, Ok}
use Rattle.std.specs.Option.{option_or}
use Rattle.folder_meaning.specs.declared.script_type.ScriptType.TheVariants.{Variant}
use Rattle.gd_syntax.specs.declared.fault.Place.{Place}
use Rattle.variant_values.specs.declared.classes.ClassTag.{ClassTag}
use Rattle.variant_values.specs.declared.classes.ClassTag.TheVariants.{Object, RefCounted, Node, Script as OfScript}
use Rattle.variant_values.specs.declared.values.Value.TheVariants.{Null}
use Rattle.variant_values.specs.Changes.{looked}
use Rattle.variant_values.specs.Classes.{same_class}
use Rattle.variant_values.specs.ValueTexts.{Names}
use Rattle.script_meaning.specs.Projects.{Project, Field, Meant, AField}
use Rattle.script_meaning.specs.Meanings.{Means}
use Rattle.script_meaning.specs.Functions.{Bodies, FunctionMeans}

-- A class of a script: its file, its name in texts, its ancestors from the nearest on, the classes round it from the nearest
-- outwards, the fields that it declares, in order, and what its other members mean by their names.
pub record ClassRow : Type 0 where
  pub class : ClassTag
  pub file : ℕ
  pub text : List ℕ
  pub above : List ClassTag
  pub enclosing : List ClassTag
  pub fields : List Field
  pub members : List (List ℕ × Meant)

-- What the initialisers and the functions of a class do, by name.
pub record ClassMeans : Type 0 where
  pub class : ClassTag
  pub starts : List (List ℕ × Means)
  pub functions : List (List ℕ × FunctionMeans)

-- ---- look-ups

-- the first row of a name
abbrev pub by_name : {A : Type 0} → List (List ℕ × A) → List ℕ → Option A
by_name [] name = None
by_name (x ∷ xs) name = if bytes_eq x.0 name then Some x.1 else by_name xs name

-- the place of a field of that name
abbrev pub place_named : List Field → List ℕ → Option ℕ
place_named [] name = None
place_named (f ∷ fs) name = if bytes_eq f.name name then Some 0 else option_map (λ n. suc n) (place_named fs name)

-- a fact that is known at some lines
abbrev pub at_line : {A : Type 0} → A → List (ℕ × A) → Place → A
at_line else_so [] place = else_so
at_line else_so (x ∷ xs) place = if nat_eq x.0 place.line then x.1 else at_line else_so xs place

-- the row of a class
abbrev pub row_of : List ClassRow → ClassTag → Option ClassRow
row_of [] class = None
row_of (row ∷ rows) class = if same_class row.class class then Some row else row_of rows class

-- what the functions of a class do
abbrev pub means_of : List ClassMeans → ClassTag → Option ClassMeans
means_of [] class = None
means_of (row ∷ rows) class = if same_class row.class class then Some row else means_of rows class

-- ---- what rows say

-- the ancestors of a native class
abbrev pub native_above : ClassTag → List ClassTag
native_above Object = []
native_above RefCounted = Object ∷ []
native_above Node = Object ∷ []
native_above (OfScript id) = []

-- the ancestors of a class, from the nearest on
abbrev pub above_in : Option ClassRow → ClassTag → List ClassTag
above_in (Some row) class = row.above
above_in None class = native_above class

-- the classes round it
abbrev pub enclosing_in : Option ClassRow → List ClassTag
enclosing_in (Some row) = row.enclosing
enclosing_in None = []

-- its file
abbrev pub file_in : Option ClassRow → ℕ
file_in (Some row) = row.file
file_in None = 0

-- the fields that it declares
abbrev pub fields_in : Option ClassRow → List Field
fields_in (Some row) = row.fields
fields_in None = []

-- what another member of it means
abbrev pub member_in : Option ClassRow → List ℕ → Option Meant
member_in (Some row) name = by_name row.members name
member_in None name = None

-- the class and its ancestors, nearest first
abbrev pub lineage_in : List ClassRow → ClassTag → List ClassTag
lineage_in rows class = class ∷ above_in (row_of rows class) class

-- base class first
abbrev pub fields_of : List ClassRow → List ClassTag → List Field
fields_of rows [] = []
fields_of rows (class ∷ classes) = fields_of rows classes ++ fields_in (row_of rows class)

-- a member that is no field, of the nearest of these classes that has it
abbrev pub other_member : List ClassRow → List ClassTag → List ℕ → Option Meant
other_member rows [] name = None
other_member rows (class ∷ classes) name = option_or (member_in (row_of rows class) name) (other_member rows classes name)

-- a member of the nearest of these classes that has it; no class hides a field of another
abbrev pub member_of_rows : List ClassRow → List ClassTag → List ℕ → Option Meant
member_of_rows rows classes name = option_or (option_map (λ i. AField i) (place_named (fields_of rows classes) name)) (other_member rows classes name)

-- the names of the native classes in texts
abbrev pub native_names : Names
native_names = (RefCounted, codes "RefCounted") ∷ (Object, codes "Object") ∷ (Node, codes "Node") ∷ []

-- The project of these classes, in which nothing has a type and no name is global. Facts at places are put in by a `record`
-- over it.
abbrev pub project_of_rows : List ClassRow → Project
project_of_rows rows = record {
  file = λ class. file_in (row_of rows class);
  lineage = lineage_in rows;
  enclosing = λ class. enclosing_in (row_of rows class);
  member = λ class name. member_of_rows rows (lineage_in rows class) name;
  global_class = λ name. None;
  fields = λ class. fields_of rows (lineage_in rows class);
  names = map (λ row. (row.class, row.text)) rows ++ native_names;
  type_at = λ class place. Variant;
  constant_at = λ class place h. looked h (Ok Null);
  fits_at = λ class place. false;
  element_at = λ class place. None;
  knows_enum_at = λ class place. false;
  resource = λ class path. None;
}

-- an initialiser of a class
abbrev pub start_in : Option ClassMeans → List ℕ → Option Means
start_in (Some row) name = by_name row.starts name
start_in None name = None

-- a function of a class
abbrev pub function_in : Option ClassMeans → List ℕ → Option FunctionMeans
function_in (Some row) name = by_name row.functions name
function_in None name = None

-- the functions and initialisers of these classes
abbrev pub bodies_of_rows : List ClassMeans → Bodies
bodies_of_rows rows = record {
  function = λ class name. function_in (means_of rows class) name;
  start = λ class name. start_in (means_of rows class) name;
}
