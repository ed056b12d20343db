-- A project of one file that has one class, in which nothing has a type.
use Rattle.std.specs.Prelude.{ℕ, false, List, [], ◌∷◌, map, Option, Some, None}
use Rattle.std.specs.List.{flat_map}
use Rattle.folder_meaning.specs.declared.script_type.ScriptType.TheVariants.{Variant}
use Rattle.gd_syntax.specs.declared.tree.member.Func.{Func}
use Rattle.gd_syntax.specs.declared.tree.member.Var.{Var}
use Rattle.gd_syntax.specs.declared.tree.member.Member.{Member, out-Member}
use Rattle.gd_syntax.specs.declared.tree.member.Member.TheOpen.{Member-F}
use Rattle.gd_syntax.specs.declared.tree.expr.Expr.{Expr}
use Rattle.variant_values.specs.declared.classes.ClassTag.{ClassTag}
use Rattle.variant_values.specs.declared.classes.ClassTag.TheVariants.{Object, RefCounted, Script as OfScript}
use Rattle.script_meaning.specs.Projects.{Project, Field, Starts, Never, WithNew, AFunction}
use Rattle.script_meaning.specs.Meanings.{Means}
use Rattle.script_meaning.specs.Exprs.{expr}
use Rattle.script_meaning.specs.Statements.{initial}
use Rattle.script_meaning.specs.Functions.{function_means}
use Rattle.script_meaning.specs.Runs.{Run, run_of}
use Rattle.script_meaning.specs.Tables.{ClassRow, ClassMeans, project_of_rows, bodies_of_rows}

-- the file's class
abbrev pub own : ClassTag
own = OfScript (record { file = 0; index = 0 })

-- the function that a member is
abbrev pub function_of : {A B : Type 0} → Member-F A B → List Func
function_of (Member-F.Func f) = f ∷ []
function_of member = []

-- the variable that a member is
abbrev pub vars_in : {A B : Type 0} → Member-F A B → List Var
vars_in (Member-F.Var v) = v ∷ []
vars_in member = []

-- the functions of a file, in order
abbrev pub functions : List Member → List Func
functions members = flat_map (λ x. function_of (out-Member x)) members

-- its variables, in order
abbrev pub vars : List Member → List Var
vars members = flat_map (λ x. vars_in (out-Member x)) members

-- whether a variable has an initialiser, which runs with `new`
abbrev pub starts_by : {A : Type 0} → Option A → Starts
starts_by None = Never
starts_by (Some e) = WithNew

-- a variable as a field
abbrev pub field_of : Var → Field
field_of v = record { name = v.name.name; class = own; line = v.name.place.line; type = Variant; starts = starts_by (initial v.declared) }

-- the one class, with these fields, and functions of these names
abbrev pub own_row : List ℕ → List Field → List (List ℕ) → ClassRow
own_row path fields functions = record {
  class = own;
  file = 0;
  text = path;
  above = RefCounted ∷ Object ∷ [];
  enclosing = [];
  fields = fields;
  members = map (λ name. (name, AFunction own false)) functions;
}

-- the project of that class alone
abbrev pub one_class : List ℕ → List Field → List (List ℕ) → Project
one_class path fields functions = project_of_rows (own_row path fields functions ∷ [])

-- the project of a file with these members
abbrev pub project_of : List ℕ → List Member → Project
project_of path members = one_class path (map field_of (vars members)) (map (λ f. f.name.name) (functions members))

-- the initialiser of a variable, where it has one
abbrev pub start_of : Project → List ℕ → Option Expr → List (List ℕ × Means)
start_of project name None = []
start_of project name (Some e) = (name, expr project e) ∷ []

-- what its initialisers and functions do
abbrev pub own_means : Project → List Member → ClassMeans
own_means project members = record {
  class = own;
  starts = flat_map (λ v. start_of project v.name.name (initial v.declared)) (vars members);
  functions = map (λ f. (f.name.name, function_means project own f)) (functions members);
}

-- what a run of the script prints, and how it ends
abbrev pub script_run : List ℕ → List Member → ℕ → Run
script_run path members steps =
    let project : Project = project_of path members in
    run_of project (bodies_of_rows (own_means project members ∷ [])) own steps
