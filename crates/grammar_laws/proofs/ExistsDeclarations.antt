-- Each reading of an annotation, a variable or a constant has an outcome.
use Rattle.std.proofs.Common.{ℕ, nat_lt, Bool, List, [], Option, Some, refl}
use Rattle.gd_syntax.specs.declared.fault.Place.{Place}
use Rattle.gd_syntax.specs.declared.token.Token.{Token}
use Rattle.gd_syntax.specs.declared.token.Mark.{Mark}
use Rattle.gd_syntax.specs.declared.token.Mark.TheVariants as m
use Rattle.gd_syntax.specs.declared.tree.member.Annotation.{Annotation}
use Rattle.gd_syntax.specs.declared.tree.member.Var.{Var}
use Rattle.gd_syntax.specs.declared.stops.Sought.{Sought}
use Rattle.gd_syntax.specs.declared.stops.Sought.TheVariants.{VarType, VarEnd, AnnotationName, Other}
use Rattle.gd_syntax.specs.Operators.{AS}
use Rattle.gd_syntax.specs.Reading.{Reading, Then, Look, give}
use Rattle.gd_syntax.specs.TokenReading.{max_levels, any_name, mark_at, place_at, skip, OneOf}
use Rattle.gd_syntax.specs.DeclarationGrammar.{annotation_word, const_sign, expr, below, new_name, type_by, value_by, declared_by, declared, args_by, line_end_by, annot, annots_by, annots, var_end_by, var, const}
use Rattle.grammar_laws.proofs.Exists.{Reads, Takes, Moves, taken, reads_then, reads, sound_look, sound_at, sound_refuse, reads_if, reads_give, goes_on, ends, moves_look, starts_one, starts_then, Starts, ends_mark, reads_loop, takes_skip, takes_one, Form, takes_list}
use Rattle.grammar_laws.proofs.ExistsTypes.{takes_type_name}
use Rattle.grammar_laws.proofs.ExistsExprs.{form_expression}

module _ (tokens : List Token) where
  -- after a token, what takes one reads on
  pub past : {A : Type 0} (R : Reading A) → Takes R → Takes (Then (skip tokens) (λ _. R))
  past R t = taken _ _ (takes_skip tokens) (λ _. reads R t)

  pub form_expr : Form tokens (expr tokens)
  form_expr = form_expression tokens max_levels AS

  pub takes_expr : Takes (expr tokens)
  takes_expr = form_expr.takes

  pub reads_below : (n most : ℕ) → Reads (below tokens n most)
  reads_below n most = reads_if (λ at. nat_lt n most) _

  pub takes_new_name : Takes (new_name tokens)
  takes_new_name = sound_at 1 (λ place. Then (OneOf tokens any_name Other) (λ name. give (record { place = place_at tokens place; name = name })))
      (λ at. taken _ _ (takes_one tokens any_name Other) (λ name. reads_give _))

  pub starts_new_name : Starts tokens (new_name tokens)
  starts_new_name at = starts_then tokens _ _ (starts_one tokens any_name Other refl) at

  pub reads_type_by : (sought : Sought) (k : Option Mark) → Reads (type_by tokens sought k)
  reads_type_by sought (Some m.Colon) = reads _ (past _ (taken _ _ (takes_type_name tokens sought) (λ t. reads_give _)))
  reads_type_by sought _ = reads_give _

  pub reads_value_by : (k : Option Mark) → Reads (value_by tokens k)
  reads_value_by (Some m.Assign) = reads _ (past _ (taken _ _ takes_expr (λ x. reads_give _)))
  reads_value_by _ = reads_give _

  reads_declared_by : (sought : Sought) (k : Option Mark) → Reads (declared_by tokens sought k)
  reads_declared_by sought (Some m.ColonAssign) = reads _ (past _ (taken _ _ takes_expr (λ x. reads_give _)))
  reads_declared_by sought _ = reads_then _ _ (sound_look 0 _ _ (reads_type_by sought)) (λ t. reads_then _ _ (sound_look 0 _ _ reads_value_by) (λ x. reads_give _))

  pub reads_declared : (sought : Sought) → Reads (declared tokens sought)
  reads_declared sought = sound_look 0 _ _ (reads_declared_by sought)

  reads_args_by : (k : Option Mark) → Reads (args_by tokens k)
  reads_args_by (Some m.LParen) = reads _ (past _ (takes_list tokens (expr tokens) form_expr m.RParen))
  reads_args_by _ = reads_give _

  reads_line_end_by : (k : Option Mark) → Reads (line_end_by tokens k)
  reads_line_end_by (Some m.Newline) = reads _ (takes_skip tokens)
  reads_line_end_by _ = reads_give _

  pub takes_annot : (may : List ℕ → Bool) → Takes (annot tokens may)
  takes_annot may = sound_at 1 (λ place. Then (skip tokens) (λ _. Then (OneOf tokens (annotation_word may) AnnotationName) (λ name. Then (Look (mark_at tokens) (args_by tokens))
      (λ args. Then (Look (mark_at tokens) (line_end_by tokens)) (λ _. give (record { place = place_at tokens place; name = name; args = args }))))))
      (λ at. past _ (taken _ _ (takes_one tokens (annotation_word may) AnnotationName)
      (λ name. reads_then _ _ (sound_look 0 _ _ reads_args_by) (λ args. reads_then _ _ (sound_look 0 _ _ reads_line_end_by) (λ _. reads_give _)))))

  moves_annots_by : (may : List ℕ → Bool) (sofar : List Annotation) (k : Option Mark) → Moves (annots_by tokens may sofar k)
  moves_annots_by may sofar (Some m.At) = goes_on _ (taken _ _ (takes_annot may) (λ a. reads_give _))
  moves_annots_by may sofar _ = ends sofar

  pub reads_annots : (may : List ℕ → Bool) → Reads (annots tokens may)
  reads_annots may = reads_loop tokens _ (λ sofar. moves_look _ _ (moves_annots_by may sofar)) (λ sofar. ends_mark tokens (annots_by tokens may sofar) (λ at next b i e. cc e)) []

  reads_var_end_by : (tree : Var) (k : Option Mark) → Reads (var_end_by tokens tree k)
  reads_var_end_by tree (Some m.Colon) = sound_refuse tokens 0 VarEnd
  reads_var_end_by tree _ = reads_give _

  pub takes_var : (place : Place) (before : List Annotation) → Takes (var tokens place before)
  takes_var place before = past _ (taken _ _ takes_new_name (λ name. reads_then _ _ (reads_declared VarType) (λ what. sound_look 0 _ _ (reads_var_end_by _))))

  pub takes_const : (place : Place) → Takes (const tokens place)
  takes_const place = past _ (taken _ _ takes_new_name (λ name. reads_then _ _ (sound_look 0 _ _ (reads_type_by Other))
      (λ t. reads _ (taken _ _ (takes_one tokens const_sign Other) (λ _. reads _ (taken _ _ takes_expr (λ x. reads_give _)))))))
