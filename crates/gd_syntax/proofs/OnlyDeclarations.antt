-- No reading of an annotation, a variable or a constant has two outcomes.
use Rattle.std.proofs.Common.{ℕ, Bool, List, [], Option, Some}
use Rattle.gd_syntax.specs.declared.fault.Place.{Place}
use Rattle.gd_syntax.specs.declared.token.Token.{Token}
use Rattle.gd_syntax.specs.declared.token.Mark.{Mark}
use Rattle.gd_syntax.specs.declared.token.Mark.TheVariants as m
use Rattle.gd_syntax.specs.declared.tree.member.Annotation.{Annotation}
use Rattle.gd_syntax.specs.declared.tree.member.Var.{Var}
use Rattle.gd_syntax.specs.declared.stops.Sought.{Sought}
use Rattle.gd_syntax.specs.declared.stops.Sought.TheVariants.{VarType, AnnotationName, Other}
use Rattle.gd_syntax.specs.Operators.{AS}
use Rattle.gd_syntax.specs.TokenReading.{max_levels, any_name}
use Rattle.gd_syntax.specs.DeclarationGrammar.{annotation_word, const_sign, expr, below, new_name, type_by, value_by, declared_by, declared, args_by, line_end_by, annot, annots_by, annots, var_end_by, var, const}
use Rattle.gd_syntax.proofs.Only.{Only, only_is, only_then, only_look, only_loop, only_skip, only_one, only_list}
use Rattle.gd_syntax.proofs.OnlyTypes.{only_type_name}
use Rattle.gd_syntax.proofs.OnlyExprs.{only_expression}

module _ (tokens : List Token) where
  pub only_expr : Only (expr tokens)
  only_expr = only_expression tokens max_levels AS

  pub only_below : (n most : ℕ) → Only (below tokens n most)
  only_below n most = only_is _

  pub only_new_name : Only (new_name tokens)
  only_new_name at = only_then _ _ (only_one tokens any_name Other) (λ name. only_is _) at

  pub only_type_by : (sought : Sought) (k : Option Mark) → Only (type_by tokens sought k)
  only_type_by sought (Some m.Colon) = only_then _ _ (only_skip tokens) (λ _. only_then _ _ (only_type_name tokens sought) (λ t. only_is _))
  only_type_by sought _ = only_is _

  pub only_value_by : (k : Option Mark) → Only (value_by tokens k)
  only_value_by (Some m.Assign) = only_then _ _ (only_skip tokens) (λ _. only_then _ _ only_expr (λ x. only_is _))
  only_value_by _ = only_is _

  only_declared_by : (sought : Sought) (k : Option Mark) → Only (declared_by tokens sought k)
  only_declared_by sought (Some m.ColonAssign) = only_then _ _ (only_skip tokens) (λ _. only_then _ _ only_expr (λ x. only_is _))
  only_declared_by sought _ = only_then _ _ (only_look _ _ (only_type_by sought)) (λ t. only_then _ _ (only_look _ _ only_value_by) (λ x. only_is _))

  pub only_declared : (sought : Sought) → Only (declared tokens sought)
  only_declared sought = only_look _ _ (only_declared_by sought)

  only_args_by : (k : Option Mark) → Only (args_by tokens k)
  only_args_by (Some m.LParen) = only_then _ _ (only_skip tokens) (λ _. only_list tokens (expr tokens) only_expr m.RParen)
  only_args_by _ = only_is _

  only_line_end_by : (k : Option Mark) → Only (line_end_by tokens k)
  only_line_end_by (Some m.Newline) = only_skip tokens
  only_line_end_by _ = only_is _

  pub only_annot : (may : List ℕ → Bool) → Only (annot tokens may)
  only_annot may at = only_then _ _ (only_skip tokens) (λ _. only_then _ _ (only_one tokens (annotation_word may) AnnotationName)
      (λ name. only_then _ _ (only_look _ _ only_args_by) (λ args. only_then _ _ (only_look _ _ only_line_end_by) (λ _. only_is _)))) at

  only_annots_by : (may : List ℕ → Bool) (sofar : List Annotation) (k : Option Mark) → Only (annots_by tokens may sofar k)
  only_annots_by may sofar (Some m.At) = only_then _ _ (only_annot may) (λ a. only_is _)
  only_annots_by may sofar _ = only_is _

  pub only_annots : (may : List ℕ → Bool) → Only (annots tokens may)
  only_annots may = only_loop _ (λ sofar. only_look _ _ (only_annots_by may sofar)) []

  only_var_end_by : (tree : Var) (k : Option Mark) → Only (var_end_by tokens tree k)
  only_var_end_by tree (Some m.Colon) = only_is _
  only_var_end_by tree _ = only_is _

  pub only_var : (place : Place) (before : List Annotation) → Only (var tokens place before)
  only_var place before = only_then _ _ (only_skip tokens) (λ _. only_then _ _ only_new_name
      (λ name. only_then _ _ (only_declared VarType) (λ what. only_look _ _ (only_var_end_by _))))

  pub only_const : (place : Place) → Only (const tokens place)
  only_const place = only_then _ _ (only_skip tokens) (λ _. only_then _ _ only_new_name (λ name. only_then _ _ (only_look _ _ (only_type_by Other))
      (λ t. only_then _ _ (only_one tokens const_sign Other) (λ _. only_then _ _ only_expr (λ x. only_is _)))))
