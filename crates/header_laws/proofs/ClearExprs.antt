-- No `class_name` is passed by types, expressions, annotations, variables and constants.
use Rattle.std.proofs.Common.{◌≡◌, ℕ, zero, suc, ◌+◌, ◌-◌, ◌==◌, Bool, true, false, List, [], ◌∷◌, Option, Some, None, refl, sym, ap, ◌∙◌}
use Rattle.gd_syntax.specs.declared.fault.Place.{Place}
use Rattle.gd_syntax.specs.declared.fault.Form.{Form as Taken}
use Rattle.gd_syntax.specs.declared.token.Token.{Token}
use Rattle.gd_syntax.specs.declared.token.Kind.{Kind}
use Rattle.gd_syntax.specs.declared.token.Kind.TheVariants.{Mark as Marked, Name, Text}
use Rattle.gd_syntax.specs.declared.token.Mark.{Mark}
use Rattle.gd_syntax.specs.declared.token.Mark.TheVariants as m
use Rattle.gd_syntax.specs.declared.tree.expr.Literal.{Literal}
use Rattle.gd_syntax.specs.declared.tree.expr.TreeOp.{TreeOp}
use Rattle.gd_syntax.specs.declared.tree.expr.TreePrefix.{TreePrefix}
use Rattle.gd_syntax.specs.declared.tree.expr.Expr.{Expr}
use Rattle.gd_syntax.specs.declared.tree.member.Annotation.{Annotation}
use Rattle.gd_syntax.specs.declared.tree.member.Var.{Var}
use Rattle.gd_syntax.specs.Levels.{levels}
use Rattle.gd_syntax.specs.Operators.{PREFIX, NOT, OR, TERNARY, AS, level_of, prefix_of, is_not}
use Rattle.gd_syntax.specs.Reading.{Read, Reading, Then, Look, Turn, Loop, give}
use Rattle.gd_syntax.specs.declared.stops.Sought.{Sought}
use Rattle.gd_syntax.specs.declared.stops.Sought.TheVariants.{Operand, Node, LoadPath, VarType, AnnotationName, VarEnd, Other}
use Rattle.gd_syntax.specs.Refusals.{is_load}
use Rattle.gd_syntax.specs.TokenReading.{max_levels, is_uid, skip, list, kind_at, mark_of, mark_at, place_at, any_name, plain_name, is_plain, literal_of, OneOf, path_text, path_text_by, identifier}
use Rattle.gd_syntax.specs.TypeGrammar.{dotted, dotted_by, bracket_form, typed_by, type_name, result_by, result_type}
use Rattle.gd_syntax.specs.ExprGrammar.{is_step, leaf, entry, field_name, field_name_by, field, dict_by, preload, load, step, step_by, node_by, super_by, named, other_by, operand_by, operand, part, part_by, postfix, kind_test_by, test, test_by, type_test, prefix_by, prefix, operation, operation_by, BinaryTurn, binary, negation_by, negation, level, ternary_by, ternary, cast_by, cast, form, deeper}
use Rattle.gd_syntax.specs.DeclarationGrammar.{annotation_word, const_sign, expr, new_name, type_by, value_by, declared_by, declared, args_by, line_end_by, annot, annots_by, annots, var_end_by, var, const}
use Rattle.token_laws.specs.HeaderNames.{is_word_kind}
use Rattle.header_laws.proofs.Clear.{Free, Clear, Begun, word_kind, free_none, b_clear, c_then, b_then, b_token, b_skip, b_stay, s_fits, c_give, c_stops, c_refuse, c_either, b_either, c_at, b_at, c_look, c_mark, c_kind, c_any, b_any, c_loop, c_due, c_one, c_list}

level_other : (kind : Kind) (n : ℕ) → level_of (mark_of kind) ≡ suc n → (b : Bool) → is_word_kind kind ≡ b → b ≡ false
level_other kind n e false is = refl
level_other kind n e true is = absurd (let h : 0 ≡ suc n = sym (ap (λ k. level_of (mark_of k)) (word_kind kind is)) ∙ e in cc h)

module _ (tokens : List Token) where
  -- ---- types

  begun_dotted_by : (sofar : List (List ℕ)) (k : Option Mark) → Begun tokens (dotted_by tokens sofar k)
  begun_dotted_by sofar (Some m.Dot) = b_skip tokens _ (c_then tokens _ _ (c_one tokens plain_name Other refl) (λ name. c_give tokens _))
  begun_dotted_by sofar _ = b_clear tokens (c_give tokens _)

  clear_dotted : (sofar : List (List ℕ)) → Clear tokens (dotted tokens sofar)
  clear_dotted sofar = c_mark tokens _ (c_give tokens _) (begun_dotted_by sofar)

  clear_typed_by : (place : Place) (names : List (List ℕ)) (form : Option Taken) → Clear tokens (typed_by tokens place names form)
  clear_typed_by place names (Some form) = c_stops tokens _
  clear_typed_by place names None = c_give tokens _

  pub clear_type_name : (sought : Sought) → Clear tokens (type_name tokens sought)
  clear_type_name sought = c_at tokens (λ place. Then (OneOf tokens plain_name sought) (λ first. Then (Loop (dotted tokens) (first ∷ []))
      (λ names. Look (λ to. bracket_form names (mark_at tokens to)) (typed_by tokens (place_at tokens place) names))))
      (λ at. c_then tokens _ _ (c_one tokens plain_name sought refl) (λ first. c_then tokens _ _ (c_loop tokens _ clear_dotted (first ∷ [])) (λ names. c_any tokens _ _ (clear_typed_by (place_at tokens at) names))))

  begun_result_by : (place : Place) (k : Option Mark) → Begun tokens (result_by tokens place k)
  begun_result_by place (Some m.Void) = b_skip tokens _ (c_give tokens _)
  begun_result_by place _ = b_clear tokens (clear_type_name Other)

  pub clear_result_type : Clear tokens (result_type tokens)
  clear_result_type = c_at tokens (λ place. Look (mark_at tokens) (result_by tokens (place_at tokens place))) (λ at. c_mark tokens _ (clear_type_name Other) (begun_result_by (place_at tokens at)))

  pub clear_identifier : Clear tokens (identifier tokens)
  clear_identifier = c_at tokens (λ place. Then (OneOf tokens plain_name Other) (λ name. give (record { place = place_at tokens place; name = name })))
      (λ at. c_then tokens _ _ (c_one tokens plain_name Other refl) (λ name. c_give tokens _))

  begun_path_by : (sought : Sought) (place : Place) (k : Kind) → Begun tokens (path_text_by tokens sought place k)
  begun_path_by sought place (Text text) = b_either tokens (is_uid text) _ _ (b_clear tokens (c_stops tokens _)) (b_skip tokens _ (c_give tokens _))
  begun_path_by sought place _ = b_clear tokens (c_refuse tokens sought)

  clear_path : (sought : Sought) → Clear tokens (path_text tokens sought)
  clear_path sought = c_at tokens (λ to. Look (kind_at tokens) (path_text_by tokens sought (place_at tokens to))) (λ at. c_kind tokens _ (c_refuse tokens sought) (begun_path_by sought (place_at tokens at)))

  -- ---- expressions

  module _ (room : ℕ) (inner : ℕ → ℕ → Reading Expr) (i : (k n : ℕ) → Clear tokens (inner k n)) where
    begun_leaf : (tree : Expr) → Begun tokens (leaf tokens room inner tree)
    begun_leaf tree = b_skip tokens _ (c_give tokens _)

    clear_entry : Clear tokens (entry tokens room inner)
    clear_entry = c_then tokens _ _ (i 0 AS) (λ key. c_then tokens _ _ (c_due tokens Other m.Colon refl) (λ _. c_then tokens _ _ (i 0 AS) (λ value. c_give tokens _)))

    begun_field_name_by : (place : Place) (name : Option (List ℕ)) → Begun tokens (field_name_by tokens room inner place name)
    begun_field_name_by place (Some name) = b_stay tokens _ _ (s_fits tokens room 2) (λ _. b_skip tokens _ (c_give tokens _))
    begun_field_name_by place None = b_clear tokens (c_refuse tokens Other)

    clear_field_name : Clear tokens (field_name tokens room inner)
    clear_field_name = c_at tokens (λ place. Look (λ to. plain_name (kind_at tokens to)) (field_name_by tokens room inner (place_at tokens place)))
        (λ at. c_look tokens _ _ (λ k to. plain_name k) (λ to. refl) (λ to. c_refuse tokens Other) (begun_field_name_by (place_at tokens at)))

    clear_field : Clear tokens (field tokens room inner)
    clear_field = c_then tokens _ _ clear_field_name (λ key. c_then tokens _ _ (c_due tokens Other m.Assign refl) (λ _. c_then tokens _ _ (i 0 AS) (λ value. c_give tokens _)))

    clear_dict_by : (place : Place) (b : Bool) → Clear tokens (dict_by tokens room inner place b)
    clear_dict_by place true = c_then tokens _ _ (c_list tokens _ clear_field m.RBrace refl) (λ all. c_give tokens _)
    clear_dict_by place false = c_then tokens _ _ (c_list tokens _ clear_entry m.RBrace refl) (λ all. c_give tokens _)

    clear_args : Clear tokens (list tokens (inner 0 AS) m.RParen)
    clear_args = c_list tokens (inner 0 AS) (i 0 AS) m.RParen refl

    begun_preload : (place : Place) → Begun tokens (preload tokens room inner place)
    begun_preload place = b_skip tokens _ (c_then tokens _ _ (c_due tokens Other m.LParen refl) (λ _. c_then tokens _ _ (clear_path Other) (λ path. c_then tokens _ _ (c_due tokens Other m.RParen refl) (λ _. c_give tokens _))))

    begun_load : (place : Place) → Begun tokens (load tokens room inner place)
    begun_load place = b_skip tokens _ (c_then tokens _ _ (c_due tokens Other m.LParen refl) (λ _. c_then tokens _ _ (clear_path LoadPath) (λ path. c_then tokens _ _ (c_due tokens LoadPath m.RParen refl) (λ _. c_give tokens _))))

    begun_step_by : (sofar : List (List ℕ)) (b : Bool) → Begun tokens (step_by tokens room inner sofar b)
    begun_step_by sofar true = b_skip tokens _ (c_then tokens _ _ (c_one tokens plain_name Other refl) (λ name. c_give tokens _))
    begun_step_by sofar false = b_clear tokens (c_give tokens _)

    clear_step : (sofar : List (List ℕ)) → Clear tokens (step tokens room inner sofar)
    clear_step sofar = c_look tokens _ _ (λ k at. is_step (mark_of k) (plain_name (kind_at tokens (at + 1)))) (λ at. refl) (λ at. c_give tokens _) (begun_step_by sofar)

    clear_names : (place : Place) → Clear tokens (node_by tokens room inner place (Marked m.ClassName))
    clear_names place = c_then tokens _ _ (c_one tokens plain_name Node refl) (λ first. c_then tokens _ _ (c_loop tokens _ clear_step (first ∷ [])) (λ names. c_give tokens _))

    begun_node_by : (place : Place) (k : Kind) → Begun tokens (node_by tokens room inner place k)
    begun_node_by place (Text text) = begun_leaf _
    begun_node_by place _ = b_clear tokens (clear_names place)

    begun_super_by : (place : Place) (k : Option Mark) → Begun tokens (super_by tokens room inner place k)
    begun_super_by place (Some m.LParen) = b_skip tokens _ (c_then tokens _ _ clear_args (λ args. c_give tokens _))
    begun_super_by place (Some m.Dot) = b_skip tokens _ (c_then tokens _ _ (c_one tokens any_name Other refl) (λ name. c_then tokens _ _ (c_due tokens Other m.LParen refl) (λ _. c_then tokens _ _ clear_args (λ args. c_give tokens _))))
    begun_super_by place _ = b_clear tokens (c_refuse tokens Other)

    begun_named : (place : Place) (text : List ℕ) → Begun tokens (named tokens room inner place text)
    begun_named place text = b_either tokens (is_plain text) _ _ (begun_leaf _) (b_either tokens (is_load text) _ _ (begun_load place) (b_clear tokens (c_refuse tokens Operand)))

    begun_other_by : (place : Place) (k : Kind) → Begun tokens (other_by tokens room inner place k)
    begun_other_by place (Name text) = begun_named place text
    begun_other_by place (Marked m.This) = begun_leaf _
    begun_other_by place (Marked m.LParen) = b_stay tokens _ _ (s_fits tokens room 2) (λ _. b_skip tokens _ (c_then tokens _ _ (i 0 AS) (λ x. c_then tokens _ _ (c_due tokens Other m.RParen refl) (λ _. c_give tokens _))))
    begun_other_by place (Marked m.LBracket) = b_skip tokens _ (c_then tokens _ _ (c_list tokens (inner 0 AS) (i 0 AS) m.RBracket refl) (λ all. c_give tokens _))
    begun_other_by place (Marked m.LBrace) = b_skip tokens _ (c_any tokens _ _ (clear_dict_by place))
    begun_other_by place (Marked m.Preload) = begun_preload place
    begun_other_by place (Marked m.Super) = b_skip tokens _ (c_mark tokens _ (c_refuse tokens Other) (begun_super_by place))
    begun_other_by place (Marked m.Dollar) = b_skip tokens _ (c_kind tokens _ (clear_names place) (begun_node_by place))
    begun_other_by place _ = b_clear tokens (c_refuse tokens Operand)

    clear_other : (place : Place) → Clear tokens (Look (kind_at tokens) (other_by tokens room inner place))
    clear_other place = c_kind tokens _ (c_refuse tokens Operand) (begun_other_by place)

    begun_operand_by : (place : Place) (value : Option Literal) → Begun tokens (operand_by tokens room inner place value)
    begun_operand_by place (Some value) = begun_leaf _
    begun_operand_by place None = b_clear tokens (clear_other place)

    clear_operand : Clear tokens (operand tokens room inner)
    clear_operand = c_at tokens (λ place. Look (λ to. literal_of (kind_at tokens to)) (operand_by tokens room inner (place_at tokens place)))
        (λ at. c_look tokens _ _ (λ k to. literal_of k) (λ to. refl) (λ to. clear_other (place_at tokens at)) (begun_operand_by (place_at tokens at)))

    begun_part_by : (place : Place) (a : Expr) (k : Option Mark) → Begun tokens (part_by tokens room inner place a k)
    begun_part_by place a (Some m.LBracket) = b_stay tokens _ _ (s_fits tokens room (levels a + 1)) (λ _. b_skip tokens _ (c_then tokens _ _ (i 0 AS) (λ x. c_then tokens _ _ (c_due tokens Other m.RBracket refl) (λ _. c_give tokens _))))
    begun_part_by place a (Some m.Dot) = b_stay tokens _ _ (s_fits tokens room (levels a + 1)) (λ _. b_skip tokens _ (c_then tokens _ _ (c_one tokens any_name Other refl) (λ name. c_give tokens _)))
    begun_part_by place a (Some m.LParen) = b_stay tokens _ _ (s_fits tokens room (levels a + 1)) (λ _. b_skip tokens _ (c_then tokens _ _ clear_args (λ args. c_give tokens _)))
    begun_part_by place a _ = b_clear tokens (c_give tokens _)

    clear_part : (place : Place) (a : Expr) → Clear tokens (part tokens room inner place a)
    clear_part place a = c_mark tokens _ (c_give tokens _) (begun_part_by place a)

    clear_postfix : Clear tokens (postfix tokens room inner)
    clear_postfix = c_at tokens (λ place. Then (operand tokens room inner) (Loop (part tokens room inner (place_at tokens place))))
        (λ at. c_then tokens _ _ clear_operand (λ a. c_loop tokens _ (clear_part (place_at tokens at)) a))

    clear_kind : (place : Place) (a : Expr) → Clear tokens (kind_test_by tokens room inner place a (Some m.ClassName))
    clear_kind place a = c_then tokens _ _ (clear_type_name Other) (λ t. c_give tokens _)

    begun_kind_test_by : (place : Place) (a : Expr) (k : Option Mark) → Begun tokens (kind_test_by tokens room inner place a k)
    begun_kind_test_by place a (Some m.Not) = b_skip tokens _ (c_then tokens _ _ (clear_type_name Other) (λ t. c_give tokens _))
    begun_kind_test_by place a _ = b_clear tokens (clear_kind place a)

    begun_test_by : (place : Place) (a : Expr) (k : Option Mark) → Begun tokens (test_by tokens room inner place a k)
    begun_test_by place a (Some m.Is) = b_stay tokens _ _ (s_fits tokens room (levels a + 1)) (λ _. b_skip tokens _ (c_mark tokens _ (clear_kind place a) (begun_kind_test_by place a)))
    begun_test_by place a _ = b_clear tokens (c_give tokens _)

    clear_test : (place : Place) (a : Expr) → Clear tokens (test tokens room inner place a)
    clear_test place a = c_mark tokens _ (c_give tokens _) (begun_test_by place a)

    clear_type_test : Clear tokens (type_test tokens room inner)
    clear_type_test = c_at tokens (λ place. Then (postfix tokens room inner) (Loop (test tokens room inner (place_at tokens place))))
        (λ at. c_then tokens _ _ clear_postfix (λ a. c_loop tokens _ (clear_test (place_at tokens at)) a))

    begun_prefix_by : (place : Place) (op : Option TreePrefix) → Begun tokens (prefix_by tokens room inner place op)
    begun_prefix_by place (Some op) = b_stay tokens _ _ (s_fits tokens room 2) (λ _. b_skip tokens _ (c_then tokens _ _ (i 0 PREFIX) (λ x. c_give tokens _)))
    begun_prefix_by place None = b_clear tokens clear_type_test

    clear_prefix : Clear tokens (prefix tokens room inner)
    clear_prefix = c_at tokens (λ place. Look (λ to. prefix_of (mark_at tokens to)) (prefix_by tokens room inner (place_at tokens place)))
        (λ at. c_look tokens _ _ (λ k to. prefix_of (mark_of k)) (λ to. refl) (λ to. clear_type_test) (begun_prefix_by (place_at tokens at)))

    begun_operation_by : (n : ℕ) (place : Place) (a : Expr) (op : Option TreeOp) → Begun tokens (operation_by tokens room inner n place a op)
    begun_operation_by n place a (Some op) = b_stay tokens _ _ (s_fits tokens room (levels a + 1)) (λ _. b_skip tokens _ (c_then tokens _ _ (i 0 (n - 1)) (λ b. c_give tokens _)))
    begun_operation_by n place a None = b_stay tokens _ _ (s_fits tokens room (levels a + 2)) (λ _. b_skip tokens _ (c_then tokens _ _ (c_due tokens Other m.In refl) (λ _. c_then tokens _ _ (i 1 (n - 1)) (λ b. c_give tokens _))))

    begun_operation : (n : ℕ) (place : Place) (a : Expr) → Begun tokens (operation tokens room inner n place a)
    begun_operation n place a = b_any tokens _ _ (begun_operation_by n place a)

    binary_passes : (n : ℕ) (place : Place) (a : Expr) (at next : ℕ) (b : Turn Expr) → BinaryTurn tokens room inner (suc n) place a at (Read b next) → Free tokens at next
    binary_passes n place a at next b (BinaryTurn.operated x y) = (begun_operation (suc n) place a).passes at next b (level_other (kind_at tokens at) n x (is_word_kind (kind_at tokens at)) refl) y
    binary_passes n place a at next b (BinaryTurn.ends x) = free_none tokens at next refl

    clear_binary : (n : ℕ) (tighter : Reading Expr) → Clear tokens tighter → Clear tokens (binary tokens room inner (suc n) tighter)
    clear_binary n tighter t = c_at tokens (λ place. Then tighter (Loop (BinaryTurn tokens room inner (suc n) (place_at tokens place))))
        (λ at. c_then tokens _ _ t (λ a. c_loop tokens _ (λ b. record { passes = binary_passes n (place_at tokens at) b }) a))

    begun_negation_by : (place : Place) (tighter : Reading Expr) → Clear tokens tighter → (b : Bool) → Begun tokens (negation_by tokens room inner place tighter b)
    begun_negation_by place tighter t true = b_stay tokens _ _ (s_fits tokens room 2) (λ _. b_skip tokens _ (c_then tokens _ _ (i 0 NOT) (λ x. c_give tokens _)))
    begun_negation_by place tighter t false = b_clear tokens t

    clear_negation : (tighter : Reading Expr) → Clear tokens tighter → Clear tokens (negation tokens room inner tighter)
    clear_negation tighter t = c_at tokens (λ place. Look (λ to. is_not (mark_at tokens to)) (negation_by tokens room inner (place_at tokens place) tighter))
        (λ at. c_look tokens _ _ (λ k to. is_not (mark_of k)) (λ to. refl) (λ to. t) (begun_negation_by (place_at tokens at) tighter t))

    clear_level : (n : ℕ) → Clear tokens (level tokens room inner n)
    unfolding level
    clear_level zero = clear_prefix
    clear_level (suc n) = c_either tokens (n == 8) _ _ (clear_negation _ (clear_level n)) (clear_binary n _ (clear_level n))

    begun_ternary_by : (place : Place) (a : Expr) (k : Option Mark) → Begun tokens (ternary_by tokens room inner place a k)
    begun_ternary_by place a (Some m.If) = b_stay tokens _ _ (s_fits tokens room (levels a + 1)) (λ _. b_skip tokens _ (c_then tokens _ _ (i 0 OR)
        (λ c. c_then tokens _ _ (c_due tokens Other m.Else refl) (λ _. c_then tokens _ _ (i 0 TERNARY) (λ b. c_give tokens _)))))
    begun_ternary_by place a _ = b_clear tokens (c_give tokens _)

    clear_ternary : Clear tokens (ternary tokens room inner)
    clear_ternary = c_at tokens (λ place. Then (level tokens room inner OR) (λ a. Look (mark_at tokens) (ternary_by tokens room inner (place_at tokens place) a)))
        (λ at. c_then tokens _ _ (clear_level OR) (λ a. c_mark tokens _ (c_give tokens _) (begun_ternary_by (place_at tokens at) a)))

    begun_cast_by : (place : Place) (a : Expr) (k : Option Mark) → Begun tokens (cast_by tokens room inner place a k)
    begun_cast_by place a (Some m.As) = b_stay tokens _ _ (s_fits tokens room (levels a + 1)) (λ _. b_skip tokens _ (c_then tokens _ _ (clear_type_name Other) (λ t. c_give tokens _)))
    begun_cast_by place a _ = b_clear tokens (c_give tokens _)

    clear_cast : Clear tokens (cast tokens room inner)
    clear_cast = c_at tokens (λ place. Then (ternary tokens room inner) (Loop (λ b. Look (mark_at tokens) (cast_by tokens room inner (place_at tokens place) b))))
        (λ at. c_then tokens _ _ clear_ternary (λ a. c_loop tokens _ (λ b. c_mark tokens _ (c_give tokens _) (begun_cast_by (place_at tokens at) b)) a))

    clear_form : (n : ℕ) → Clear tokens (form tokens room inner n)
    unfolding form
    clear_form n = c_either tokens (n == AS) _ _ clear_cast (c_either tokens (n == TERNARY) _ _ clear_ternary (clear_level n))

  clear_deeper : (room k n : ℕ) → Clear tokens (deeper tokens room k n)
  unfolding deeper
  clear_deeper zero k n = c_stops tokens _
  clear_deeper (suc room) zero n = clear_form (suc room) (deeper tokens room) (clear_deeper room) n
  clear_deeper (suc room) (suc k) n = clear_deeper room k n

  pub clear_expr : Clear tokens (expr tokens)
  clear_expr = clear_deeper max_levels 0 AS

  -- ---- declarations

  pub clear_new_name : Clear tokens (new_name tokens)
  clear_new_name = c_at tokens (λ place. Then (OneOf tokens any_name Other) (λ name. give (record { place = place_at tokens place; name = name })))
      (λ at. c_then tokens _ _ (c_one tokens any_name Other refl) (λ name. c_give tokens _))

  begun_type_by : (sought : Sought) (k : Option Mark) → Begun tokens (type_by tokens sought k)
  begun_type_by sought (Some m.Colon) = b_skip tokens _ (c_then tokens _ _ (clear_type_name sought) (λ t. c_give tokens _))
  begun_type_by sought _ = b_clear tokens (c_give tokens _)

  pub clear_type : (sought : Sought) → Clear tokens (Look (mark_at tokens) (type_by tokens sought))
  clear_type sought = c_mark tokens _ (c_give tokens _) (begun_type_by sought)

  begun_value_by : (k : Option Mark) → Begun tokens (value_by tokens k)
  begun_value_by (Some m.Assign) = b_skip tokens _ (c_then tokens _ _ clear_expr (λ x. c_give tokens _))
  begun_value_by _ = b_clear tokens (c_give tokens _)

  pub clear_value : Clear tokens (Look (mark_at tokens) (value_by tokens))
  clear_value = c_mark tokens _ (c_give tokens _) begun_value_by

  clear_typed : (sought : Sought) → Clear tokens (declared_by tokens sought (Some m.ClassName))
  clear_typed sought = c_then tokens _ _ (clear_type sought) (λ t. c_then tokens _ _ clear_value (λ x. c_give tokens _))

  begun_declared_by : (sought : Sought) (k : Option Mark) → Begun tokens (declared_by tokens sought k)
  begun_declared_by sought (Some m.ColonAssign) = b_skip tokens _ (c_then tokens _ _ clear_expr (λ x. c_give tokens _))
  begun_declared_by sought _ = b_clear tokens (clear_typed sought)

  pub clear_declared : (sought : Sought) → Clear tokens (declared tokens sought)
  clear_declared sought = c_mark tokens _ (clear_typed sought) (begun_declared_by sought)

  begun_args_by : (k : Option Mark) → Begun tokens (args_by tokens k)
  begun_args_by (Some m.LParen) = b_skip tokens _ (c_list tokens (expr tokens) clear_expr m.RParen refl)
  begun_args_by _ = b_clear tokens (c_give tokens _)

  begun_line_end_by : (k : Option Mark) → Begun tokens (line_end_by tokens k)
  begun_line_end_by (Some m.Newline) = b_token tokens
  begun_line_end_by _ = b_clear tokens (c_give tokens _)

  pub begun_annot : (may : List ℕ → Bool) → Begun tokens (annot tokens may)
  begun_annot may = b_at tokens (λ place. Then (skip tokens) (λ _. Then (OneOf tokens (annotation_word may) AnnotationName) (λ name. Then (Look (mark_at tokens) (args_by tokens))
      (λ args. Then (Look (mark_at tokens) (line_end_by tokens)) (λ _. give (record { place = place_at tokens place; name = name; args = args }))))))
      (λ at. b_skip tokens _ (c_then tokens _ _ (c_one tokens (annotation_word may) AnnotationName refl) (λ name. c_then tokens _ _ (c_mark tokens _ (c_give tokens _) begun_args_by) (λ args. c_then tokens _ _ (c_mark tokens _ (c_give tokens _) begun_line_end_by) (λ _. c_give tokens _)))))

  begun_annots_by : (may : List ℕ → Bool) (sofar : List Annotation) (k : Option Mark) → Begun tokens (annots_by tokens may sofar k)
  begun_annots_by may sofar (Some m.At) = b_then tokens _ _ (begun_annot may) (λ a. c_give tokens _)
  begun_annots_by may sofar _ = b_clear tokens (c_give tokens _)

  pub clear_annots : (may : List ℕ → Bool) → Clear tokens (annots tokens may)
  clear_annots may = c_loop tokens _ (λ sofar. c_mark tokens _ (c_give tokens _) (begun_annots_by may sofar)) []

  clear_var_end_by : (tree : Var) (k : Option Mark) → Clear tokens (var_end_by tokens tree k)
  clear_var_end_by tree (Some m.Colon) = c_refuse tokens VarEnd
  clear_var_end_by tree _ = c_give tokens _

  pub begun_var : (place : Place) (before : List Annotation) → Begun tokens (var tokens place before)
  begun_var place before = b_skip tokens _ (c_then tokens _ _ clear_new_name (λ name. c_then tokens _ _ (clear_declared VarType) (λ what. c_any tokens _ _ (clear_var_end_by (record { place = place; annotations = before; name = name; declared = what })))))

  pub begun_const : (place : Place) → Begun tokens (const tokens place)
  begun_const place = b_skip tokens _ (c_then tokens _ _ clear_new_name (λ name. c_then tokens _ _ (clear_type Other) (λ t. c_then tokens _ _ (c_one tokens const_sign Other refl) (λ _. c_then tokens _ _ clear_expr (λ x. c_give tokens _)))))
