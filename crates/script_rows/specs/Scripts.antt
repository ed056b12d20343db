-- Short names for worked runs: the meanings of trees, each one layer of the evaluator over the meanings of its parts, and the
-- projects of a few classes.
use Rattle.std.specs.Prelude.{ℕ, zero, suc, ℤ, Bool, false, nat_eq, ◌&&◌, if◌then◌else◌, List, [], ◌∷◌, map, codes, Option, None}
use Rattle.folder_meaning.specs.declared.script_type.ScriptType.{ScriptType}
use Rattle.folder_meaning.specs.declared.script_type.ScriptType.TheVariants.{Variant}
use Rattle.gd_syntax.specs.declared.fault.Place.{Place}
use Rattle.gd_syntax.specs.declared.tree.expr.Expr.TheOpen.{Expr-F}
use Rattle.gd_syntax.specs.declared.tree.expr.Literal.{Literal}
use Rattle.gd_syntax.specs.declared.tree.expr.Literal.TheVariants as literal
use Rattle.gd_syntax.specs.declared.tree.expr.TreeOp.{TreeOp}
use Rattle.gd_syntax.specs.declared.tree.expr.TreePrefix.{TreePrefix}
use Rattle.gd_syntax.specs.declared.tree.pattern.Pattern.TheOpen.{Pattern-F}
use Rattle.gd_syntax.specs.declared.tree.statement.AssignOp.{AssignOp}
use Rattle.gd_syntax.specs.declared.tree.type_name.Identifier.{Identifier}
use Rattle.gd_syntax.specs.declared.tree.type_name.TypeName.{TypeName}
use Rattle.gd_syntax.specs.declared.tree.type_name.TypeName.TheVariants.{Named}
use Rattle.variant_values.specs.declared.classes.ClassTag.{ClassTag}
use Rattle.variant_values.specs.declared.classes.ClassTag.TheVariants as class_of
use Rattle.variant_values.specs.declared.values.Value.{Value}
use Rattle.variant_values.specs.declared.values.Value.TheVariants.{Null}
use Rattle.script_meaning.specs.State.{Making}
use Rattle.script_meaning.specs.Projects.{Project, Meant, AFunction}
use Rattle.script_meaning.specs.Constants.{scalar_made}
use Rattle.script_meaning.specs.Meanings.{Means}
use Rattle.script_meaning.specs.Exprs.{expr_step}
use Rattle.script_meaning.specs.Patterns.{Matches, KeyMatches, pattern_step, entry_step}
use Rattle.script_meaning.specs.Statements.{Runs, BranchRuns, MatchRuns, run_pass, run_break, run_continue, run_return, run_var, run_const, run_assert, run_assign, run_expr, run_if, run_while, run_for, run_match}
use Rattle.script_meaning.specs.Functions.{FunctionMeans, ParamMeans}
use Rattle.script_meaning.specs.Runs.{run_of, whole_text}
use Rattle.script_meaning.specs.Tables.{ClassRow, ClassMeans, by_name, project_of_rows, bodies_of_rows}

-- ---- trees

-- a line and a column
abbrev pub at : ℕ → ℕ → Place
at line column = record { line = line; column = column }

abbrev pub identifier : Place → List ℕ → Identifier
identifier place name = record { place = place; name = name }

abbrev pub named_type : Place → List (List ℕ) → TypeName
named_type place names = Named place names None

abbrev pub match_branch : List Matches → List Runs → MatchRuns
match_branch patterns body = record { patterns = patterns; body = body }

module _ (P : Project) where
  abbrev pub lit : Place → Literal → Means
  lit place value = expr_step P (Expr-F.Literal place value)

  abbrev pub num : Place → ℤ → Means
  num place n = lit place (literal.Int n)

  abbrev pub txt : Place → List ℕ → Means
  txt place text = lit place (literal.Text text)

  abbrev pub name : Place → List ℕ → Means
  name place text = expr_step P (Expr-F.Name place text)

  abbrev pub this : Place → Means
  this place = expr_step P (Expr-F.This place)

  abbrev pub paren : Place → Means → Means
  paren place a = expr_step P (Expr-F.Paren place a)

  abbrev pub array : Place → List Means → Means
  array place all = expr_step P (Expr-F.Array place all)

  abbrev pub dictionary : Place → List (Means × Means) → Means
  dictionary place all = expr_step P (Expr-F.Dict place all)

  abbrev pub table : Place → List (Identifier × Means) → Means
  table place all = expr_step P (Expr-F.Table place all)

  abbrev pub preloaded : Place → Place → List ℕ → Means
  preloaded place of path = expr_step P (Expr-F.Preload place (record { place = of; text = path }))

  abbrev pub loaded : Place → Place → List ℕ → Means
  loaded place of path = expr_step P (Expr-F.Load place (record { place = of; text = path }))

  abbrev pub super_init : Place → List Means → Means
  super_init place args = expr_step P (Expr-F.Super place args)

  abbrev pub super_call : Place → List ℕ → List Means → Means
  super_call place f args = expr_step P (Expr-F.SuperCall place f args)

  abbrev pub index : Place → Means → Means → Means
  index place a i = expr_step P (Expr-F.Index place a i)

  abbrev pub member : Place → Means → List ℕ → Means
  member place a x = expr_step P (Expr-F.Member place a x)

  abbrev pub call : Place → Means → List Means → Means
  call place f args = expr_step P (Expr-F.Call place f args)

  abbrev pub is_a : Place → Means → TypeName → Means
  is_a place a type = expr_step P (Expr-F.Is place a type)

  abbrev pub is_no : Place → Means → TypeName → Means
  is_no place a type = expr_step P (Expr-F.IsNot place a type)

  abbrev pub taken : Place → Means → TypeName → Means
  taken place a type = expr_step P (Expr-F.As place a type)

  abbrev pub prefixed : Place → TreePrefix → Means → Means
  prefixed place op a = expr_step P (Expr-F.Prefix place op a)

  abbrev pub binary : Place → TreeOp → Means → Means → Means
  binary place op a b = expr_step P (Expr-F.Binary place op a b)

  abbrev pub negated : Place → Means → Means
  negated place a = expr_step P (Expr-F.Not place a)

  abbrev pub ternary : Place → Means → Means → Means → Means
  ternary place a c b = expr_step P (Expr-F.Ternary place a c b)

  abbrev pub wildcard : Place → Matches
  wildcard place = pattern_step P (Pattern-F.Wildcard place)

  abbrev pub bind : Place → Identifier → Matches
  bind place x = pattern_step P (Pattern-F.Bind place x)

  abbrev pub literal_pattern : Place → Bool → Literal → Matches
  literal_pattern place minus value = pattern_step P (Pattern-F.Literal place minus value)

  abbrev pub path_pattern : Place → List (List ℕ) → Matches
  path_pattern place names = pattern_step P (Pattern-F.Path place names)

  abbrev pub array_pattern : Place → List Matches → Bool → Matches
  array_pattern place all unended = pattern_step P (Pattern-F.Array place all unended)

  abbrev pub dict_pattern : Place → List KeyMatches → Bool → Matches
  dict_pattern place all unended = pattern_step P (Pattern-F.Dict place all unended)

  abbrev pub entry_pattern : Place → Literal → Option Matches → KeyMatches
  entry_pattern place key value = entry_step (record { place = place; key = key; value = value })

  abbrev pub passes : Place → Runs
  passes place = run_pass P place.line

  abbrev pub breaks : Place → Runs
  breaks place = run_break P place.line

  abbrev pub continues : Place → Runs
  continues place = run_continue P place.line

  abbrev pub returns : Place → Option Means → Runs
  returns place e = run_return P place.line e

  abbrev pub local : Place → Identifier → Option Means → Runs
  local place x e = run_var P place.line x e

  abbrev pub local_constant : Place → Identifier → Runs
  local_constant place x = run_const P place.line x

  abbrev pub asserts : Place → Means → Option Means → Runs
  asserts place c message = run_assert P place.line c message

  abbrev pub assigns : Place → Means → AssignOp → Means → Runs
  assigns place to op e = run_assign P place.line to op e

  abbrev pub does : Place → Means → Runs
  does place e = run_expr P place.line e

  abbrev pub branch : Place → Means → List Runs → BranchRuns
  branch place c body = record { place = place; condition = c; body = body }

  abbrev pub tests : Place → List BranchRuns → Option (List Runs) → Runs
  tests place all other = run_if P place.line all other

  abbrev pub loops : Place → Means → List Runs → Runs
  loops place c body = run_while P place.line c body

  abbrev pub walks : Place → Identifier → Means → List Runs → Runs
  walks place x subject body = run_for P place.line x subject body

  abbrev pub matches : Place → Means → List MatchRuns → Runs
  matches place subject all = run_match P place.line subject all

  -- a parameter and a function have the types that are known at their names
  abbrev pub param : ClassTag → Identifier → Option Means → ParamMeans
  param class x e = record { name = x.name; type = P.type_at class x.place; default = e }

  abbrev pub func : ClassTag → Bool → Identifier → List ParamMeans → List Runs → List ℕ × FunctionMeans
  func class is_static x params body = (
    x.name,
    record {
      name = x.name;
      line = x.place.line;
      is_static = is_static;
      params = params;
      result = P.type_at class x.place;
      body = body;
    },
  )

-- ---- projects

-- a class by its file and its place there
abbrev pub class_at : ℕ → ℕ → ClassTag
class_at file place = class_of.Script (record { file = file; index = place })

abbrev pub own : ClassTag
own = class_at 0 0

abbrev pub path_of : ℕ → List ℕ
path_of zero = codes "res://m.gd"
path_of (suc n) = codes "res://b.gd"

-- What is known of a project: its classes, the global ones by their names, types and local constants by file and place, what paths
-- name, and at which places an enum of a known type is named.
pub record Facts : Type 0 where
  pub classes : List ClassRow
  pub globals : List (List ℕ × ClassTag)
  pub types : List (ℕ × Place × ScriptType)
  pub constants : List (ℕ × Place × Making)
  pub resources : List (List ℕ × Value)
  pub enums : List (ℕ × Place × Bool)

abbrev pub same_place : Place → Place → Bool
same_place p r = nat_eq p.line r.line && nat_eq p.column r.column

abbrev pub known_at : {A : Type 0} → A → List (ℕ × Place × A) → ℕ → Place → A
known_at else_so [] file place = else_so
known_at else_so (x ∷ xs) file place = if nat_eq x.0 file && same_place x.1 place then x.2 else known_at else_so xs file place

abbrev pub with_facts : Project → Facts → Project
with_facts bare facts = record bare {
  global_class = by_name facts.globals;
  type_at = λ class. known_at Variant facts.types (bare.file class);
  constant_at = λ class. known_at (scalar_made Null) facts.constants (bare.file class);
  resource = λ class. by_name facts.resources;
  knows_enum_at = λ class. known_at false facts.enums (bare.file class);
}

abbrev pub project_of : Facts → Project
project_of facts = with_facts (project_of_rows facts.classes) facts

abbrev pub own_row : List (List ℕ × Meant) → ClassRow
own_row members = record { class = own; file = 0; text = path_of 0; above = class_of.RefCounted ∷ class_of.Object ∷ []; enclosing = []; fields = []; members = members }

-- one file with these functions and nothing more
abbrev pub plain_names : List (List ℕ) → Project
plain_names functions = project_of_rows (own_row (map (λ f. (f, AFunction own false)) functions) ∷ [])

-- What a run of the first file's class writes, of a project and of what its code does over it.
abbrev pub writes : Project → (Project → List ClassMeans) → ℕ → List ℕ
writes P code steps = whole_text path_of (run_of P (bodies_of_rows (code P)) own steps)
