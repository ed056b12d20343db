-- What a file of one class does is what its trees mean.
use Rattle.std.proofs.Common.{◌≡◌, refl, ℕ, List, [], ◌∷◌, ◌++◌, map, Option, Some, None, Bool, true, false}
use Rattle.std.specs.Prelude.{if◌then◌else◌, IfSome, bytes_eq}
use Rattle.std.specs.List.{flat_map}
use Rattle.gd_syntax.specs.declared.tree.expr.Expr.{Expr}
use Rattle.gd_syntax.specs.declared.tree.member.Func.{Func}
use Rattle.gd_syntax.specs.declared.tree.member.Member.{Member}
use Rattle.gd_syntax.specs.declared.tree.member.Var.{Var}
use Rattle.variant_values.specs.declared.classes.ClassTag.{ClassTag}
use Rattle.variant_values.specs.Classes.{same_class}
use Rattle.script_meaning.specs.Projects.{Project}
use Rattle.script_meaning.specs.Meanings.{Means}
use Rattle.script_meaning.specs.Exprs.{expr}
use Rattle.script_meaning.specs.Statements.{initial}
use Rattle.script_meaning.specs.Functions.{FunctionMeans, function_means}
use Rattle.script_meaning.specs.Tables.{ClassMeans, by_name, bodies_of_rows, function_in, start_in}
use Rattle.script_meaning.specs.OneClass.{own, own_means, start_of, functions, vars}
use Rattle.script_laws.specs.Allowance.{AreOfTrees}

module _ (P : Project) where
  abbrev IsFunction : FunctionMeans → Type 0
  IsFunction f = (owner : ClassTag) × (tree : Func) × (f ≡ function_means P owner tree)

  abbrev IsStart : Means → Type 0
  IsStart e = (tree : Expr) × (e ≡ expr P tree)

  named : {A : Type 0} (Q : A → Type 0) (x : A) (b : Bool) (o : Option A) → Q x → IfSome o Q → IfSome (if b then Some x else o) Q
  named Q x true o q h = q
  named Q x false o q h = h

  named_function : (fs : List Func) (name : List ℕ) → IfSome (by_name (map (λ f. (f.name.name, function_means P own f)) fs) name) IsFunction
  named_function [] name = tt
  named_function (f ∷ fs) name = named IsFunction (function_means P own f) (bytes_eq f.name.name name) _ (own, f, refl) (named_function fs name)

  started : (v : List ℕ) (o : Option Expr) (rest : List (List ℕ × Means)) (name : List ℕ) → IfSome (by_name rest name) IsStart → IfSome (by_name (start_of P v o ++ rest) name) IsStart
  started v None rest name h = h
  started v (Some e) rest name h = named IsStart (expr P e) (bytes_eq v name) (by_name rest name) (e, refl) h

  named_start : (vs : List Var) (name : List ℕ) → IfSome (by_name (flat_map (λ v. start_of P v.name.name (initial v.declared)) vs) name) IsStart
  named_start [] name = tt
  named_start (v ∷ vs) name = started v.name.name (initial v.declared) _ name (named_start vs name)

  in_class : {A : Type 0} (Q : A → Type 0) (b : Bool) (row : ClassMeans) (look : Option ClassMeans → Option A) → IfSome (look (Some row)) Q → IfSome (look None) Q → IfSome (look (if b then Some row else None)) Q
  in_class Q true row look h g = h
  in_class Q false row look h g = g

  pub file_is_of_trees : (members : List Member) → AreOfTrees P (bodies_of_rows (own_means P members ∷ []))
  file_is_of_trees members = record {
    function = λ class name. in_class IsFunction (same_class own class) (own_means P members) (λ row. function_in row name) (named_function (functions members) name) tt;
    start = λ class name. in_class IsStart (same_class own class) (own_means P members) (λ row. start_in row name) (named_start (vars members) name) tt;
  }
