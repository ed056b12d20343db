-- No reading of an expression has two outcomes.
use Rattle.std.proofs.Common.{ℕ, zero, suc, ◌-◌, ◌==◌, Bool, true, false, List, [], ◌∷◌, Option, Some, None, refl}
use Rattle.gd_syntax.specs.declared.fault.Place.{Place}
use Rattle.gd_syntax.specs.declared.token.Token.{Token}
use Rattle.gd_syntax.specs.declared.token.Kind.{Kind}
use Rattle.gd_syntax.specs.declared.token.Kind.TheVariants.{Mark as Marked, Name, Text}
use Rattle.gd_syntax.specs.declared.token.Mark.{Mark}
use Rattle.gd_syntax.specs.declared.token.Mark.TheVariants as m
use Rattle.gd_syntax.specs.declared.tree.expr.Literal.{Literal}
use Rattle.gd_syntax.specs.declared.tree.expr.TreeOp.{TreeOp}
use Rattle.gd_syntax.specs.declared.tree.expr.TreePrefix.{TreePrefix}
use Rattle.gd_syntax.specs.declared.tree.expr.Expr.{Expr}
use Rattle.gd_syntax.specs.Operators.{PREFIX, NOT, OR, TERNARY, AS}
use Rattle.gd_syntax.specs.Reading.{Reading}
use Rattle.gd_syntax.specs.declared.stops.Sought.TheVariants.{Node, LoadPath, Other}
use Rattle.gd_syntax.specs.Refusals.{is_load}
use Rattle.gd_syntax.specs.TokenReading.{list, place_at, any_name, plain_name, is_plain}
use Rattle.gd_syntax.specs.ExprGrammar.{leaf, entry, field_name, field_name_by, field, dict_by, preload, load, step_by, node_by, super_by, named, other_by, operand_by, operand, part_by, postfix, kind_test_by, test_by, type_test, prefix_by, prefix, operation_by, BinaryTurn, binary, negation_by, negation, level, ternary_by, ternary, cast_by, cast, form, deeper, expression}
use Rattle.gd_syntax.proofs.Only.{Only, only_is, only_then, only_look, only_loop, only_either, only_skip, only_due, only_one, only_path_text, only_list}
use Rattle.gd_syntax.proofs.OnlyTypes.{only_type_name}

module _ (tokens : List Token) where
  module _ (room : ℕ) (inner : ℕ → ℕ → Reading Expr) (i : (k n : ℕ) → Only (inner k n)) where
    only_leaf : (tree : Expr) → Only (leaf tokens room inner tree)
    only_leaf tree = only_then _ _ (only_skip tokens) (λ _. only_is _)

    only_entry : Only (entry tokens room inner)
    only_entry = only_then _ _ (i 0 AS) (λ key. only_then _ _ (only_due tokens Other m.Colon) (λ _. only_then _ _ (i 0 AS) (λ value. only_is _)))

    only_field_name_by : (place : Place) (name : Option (List ℕ)) → Only (field_name_by tokens room inner place name)
    only_field_name_by place (Some name) = only_then _ _ (only_is _) (λ _. only_then _ _ (only_skip tokens) (λ _. only_is _))
    only_field_name_by place None = only_is _

    only_field_name : Only (field_name tokens room inner)
    only_field_name at = only_look _ _ (only_field_name_by (place_at tokens at)) at

    only_field : Only (field tokens room inner)
    only_field = only_then _ _ only_field_name (λ key. only_then _ _ (only_due tokens Other m.Assign) (λ _. only_then _ _ (i 0 AS) (λ value. only_is _)))

    only_dict_by : (place : Place) (b : Bool) → Only (dict_by tokens room inner place b)
    only_dict_by place true = only_then _ _ (only_list tokens _ only_field m.RBrace) (λ all. only_is _)
    only_dict_by place false = only_then _ _ (only_list tokens _ only_entry m.RBrace) (λ all. only_is _)

    only_args : Only (list tokens (inner 0 AS) m.RParen)
    only_args = only_list tokens (inner 0 AS) (i 0 AS) m.RParen

    only_preload : (place : Place) → Only (preload tokens room inner place)
    only_preload place = only_then _ _ (only_skip tokens) (λ _. only_then _ _ (only_due tokens Other m.LParen)
        (λ _. only_then _ _ (only_path_text tokens Other) (λ path. only_then _ _ (only_due tokens Other m.RParen) (λ _. only_is _))))

    only_load : (place : Place) → Only (load tokens room inner place)
    only_load place = only_then _ _ (only_skip tokens) (λ _. only_then _ _ (only_due tokens Other m.LParen)
        (λ _. only_then _ _ (only_path_text tokens LoadPath) (λ path. only_then _ _ (only_due tokens LoadPath m.RParen) (λ _. only_is _))))

    only_step_by : (sofar : List (List ℕ)) (b : Bool) → Only (step_by tokens room inner sofar b)
    only_step_by sofar true = only_then _ _ (only_skip tokens) (λ _. only_then _ _ (only_one tokens plain_name Other) (λ name. only_is _))
    only_step_by sofar false = only_is _

    only_node_by : (place : Place) (k : Kind) → Only (node_by tokens room inner place k)
    only_node_by place (Text text) = only_leaf _
    only_node_by place _ = only_then _ _ (only_one tokens plain_name Node)
        (λ first. only_then _ _ (only_loop _ (λ sofar. only_look _ _ (only_step_by sofar)) (first ∷ [])) (λ names. only_is _))

    only_super_by : (place : Place) (k : Option Mark) → Only (super_by tokens room inner place k)
    only_super_by place (Some m.LParen) = only_then _ _ (only_skip tokens) (λ _. only_then _ _ only_args (λ args. only_is _))
    only_super_by place (Some m.Dot) = only_then _ _ (only_skip tokens) (λ _. only_then _ _ (only_one tokens any_name Other)
        (λ name. only_then _ _ (only_due tokens Other m.LParen) (λ _. only_then _ _ only_args (λ args. only_is _))))
    only_super_by place _ = only_is _

    only_named : (place : Place) (text : List ℕ) → Only (named tokens room inner place text)
    only_named place text = only_either (is_plain text) _ _ (only_leaf _) (only_either (is_load text) _ _ (only_load place) (only_is _))

    only_other_by : (place : Place) (k : Kind) → Only (other_by tokens room inner place k)
    only_other_by place (Name text) = only_named place text
    only_other_by place (Marked m.This) = only_leaf _
    only_other_by place (Marked m.LParen) = only_then _ _ (only_is _) (λ _. only_then _ _ (only_skip tokens)
        (λ _. only_then _ _ (i 0 AS) (λ x. only_then _ _ (only_due tokens Other m.RParen) (λ _. only_is _))))
    only_other_by place (Marked m.LBracket) = only_then _ _ (only_skip tokens) (λ _. only_then _ _ (only_list tokens (inner 0 AS) (i 0 AS) m.RBracket) (λ all. only_is _))
    only_other_by place (Marked m.LBrace) = only_then _ _ (only_skip tokens) (λ _. only_look _ _ (only_dict_by place))
    only_other_by place (Marked m.Preload) = only_preload place
    only_other_by place (Marked m.Super) = only_then _ _ (only_skip tokens) (λ _. only_look _ _ (only_super_by place))
    only_other_by place (Marked m.Dollar) = only_then _ _ (only_skip tokens) (λ _. only_look _ _ (only_node_by place))
    only_other_by place _ = only_is _

    only_operand_by : (place : Place) (value : Option Literal) → Only (operand_by tokens room inner place value)
    only_operand_by place (Some value) = only_leaf _
    only_operand_by place None = only_look _ _ (only_other_by place)

    only_operand : Only (operand tokens room inner)
    only_operand at = only_look _ _ (only_operand_by (place_at tokens at)) at

    only_part_by : (place : Place) (a : Expr) (k : Option Mark) → Only (part_by tokens room inner place a k)
    only_part_by place a (Some m.LBracket) = only_then _ _ (only_is _) (λ _. only_then _ _ (only_skip tokens)
        (λ _. only_then _ _ (i 0 AS) (λ x. only_then _ _ (only_due tokens Other m.RBracket) (λ _. only_is _))))
    only_part_by place a (Some m.Dot) = only_then _ _ (only_is _) (λ _. only_then _ _ (only_skip tokens) (λ _. only_then _ _ (only_one tokens any_name Other) (λ name. only_is _)))
    only_part_by place a (Some m.LParen) = only_then _ _ (only_is _) (λ _. only_then _ _ (only_skip tokens) (λ _. only_then _ _ only_args (λ args. only_is _)))
    only_part_by place a _ = only_is _

    only_postfix : Only (postfix tokens room inner)
    only_postfix at = only_then _ _ only_operand (λ a. only_loop _ (λ b. only_look _ _ (only_part_by (place_at tokens at) b)) a) at

    only_kind_test_by : (place : Place) (a : Expr) (k : Option Mark) → Only (kind_test_by tokens room inner place a k)
    only_kind_test_by place a (Some m.Not) = only_then _ _ (only_skip tokens) (λ _. only_then _ _ (only_type_name tokens Other) (λ t. only_is _))
    only_kind_test_by place a _ = only_then _ _ (only_type_name tokens Other) (λ t. only_is _)

    only_test_by : (place : Place) (a : Expr) (k : Option Mark) → Only (test_by tokens room inner place a k)
    only_test_by place a (Some m.Is) = only_then _ _ (only_is _) (λ _. only_then _ _ (only_skip tokens) (λ _. only_look _ _ (only_kind_test_by place a)))
    only_test_by place a _ = only_is _

    only_type_test : Only (type_test tokens room inner)
    only_type_test at = only_then _ _ only_postfix (λ a. only_loop _ (λ b. only_look _ _ (only_test_by (place_at tokens at) b)) a) at

    only_prefix_by : (place : Place) (op : Option TreePrefix) → Only (prefix_by tokens room inner place op)
    only_prefix_by place (Some op) = only_then _ _ (only_is _) (λ _. only_then _ _ (only_skip tokens) (λ _. only_then _ _ (i 0 PREFIX) (λ x. only_is _)))
    only_prefix_by place None = only_type_test

    only_prefix : Only (prefix tokens room inner)
    only_prefix at = only_look _ _ (only_prefix_by (place_at tokens at)) at

    only_operation_by : (n : ℕ) (place : Place) (a : Expr) (op : Option TreeOp) → Only (operation_by tokens room inner n place a op)
    only_operation_by n place a (Some op) = only_then _ _ (only_is _) (λ _. only_then _ _ (only_skip tokens) (λ _. only_then _ _ (i 0 (n - 1)) (λ b. only_is _)))
    only_operation_by n place a None = only_then _ _ (only_is _) (λ _. only_then _ _ (only_skip tokens)
        (λ _. only_then _ _ (only_due tokens Other m.In) (λ _. only_then _ _ (i 1 (n - 1)) (λ b. only_is _))))

    only_turn : (n : ℕ) (place : Place) (a : Expr) → Only (BinaryTurn tokens room inner n place a)
    only_turn n place a at p q (BinaryTurn.operated x y) (BinaryTurn.operated z w) = only_look _ _ (only_operation_by n place a) at p q y w
    only_turn n place a at p q (BinaryTurn.ends x) (BinaryTurn.ends z) = refl
    only_turn n place a at p q (BinaryTurn.operated x y) (BinaryTurn.ends z) = absurd (z x)
    only_turn n place a at p q (BinaryTurn.ends x) (BinaryTurn.operated z w) = absurd (x z)

    only_binary : (n : ℕ) (tighter : Reading Expr) → Only tighter → Only (binary tokens room inner n tighter)
    only_binary n tighter t at = only_then _ _ t (λ a. only_loop _ (only_turn n (place_at tokens at)) a) at

    only_negation_by : (place : Place) (tighter : Reading Expr) → Only tighter → (b : Bool) → Only (negation_by tokens room inner place tighter b)
    only_negation_by place tighter t true = only_then _ _ (only_is _) (λ _. only_then _ _ (only_skip tokens) (λ _. only_then _ _ (i 0 NOT) (λ x. only_is _)))
    only_negation_by place tighter t false = t

    only_negation : (tighter : Reading Expr) → Only tighter → Only (negation tokens room inner tighter)
    only_negation tighter t at = only_look _ _ (only_negation_by (place_at tokens at) tighter t) at

    only_level : (n : ℕ) → Only (level tokens room inner n)
    unfolding level
    only_level zero = only_prefix
    only_level (suc n) = only_either (n == 8) _ _ (only_negation _ (only_level n)) (only_binary (suc n) _ (only_level n))

    only_ternary_by : (place : Place) (a : Expr) (k : Option Mark) → Only (ternary_by tokens room inner place a k)
    only_ternary_by place a (Some m.If) = only_then _ _ (only_is _) (λ _. only_then _ _ (only_skip tokens) (λ _. only_then _ _ (i 0 OR)
        (λ c. only_then _ _ (only_due tokens Other m.Else) (λ _. only_then _ _ (i 0 TERNARY) (λ b. only_is _)))))
    only_ternary_by place a _ = only_is _

    only_ternary : Only (ternary tokens room inner)
    only_ternary at = only_then _ _ (only_level OR) (λ a. only_look _ _ (only_ternary_by (place_at tokens at) a)) at

    only_cast_by : (place : Place) (a : Expr) (k : Option Mark) → Only (cast_by tokens room inner place a k)
    only_cast_by place a (Some m.As) = only_then _ _ (only_is _) (λ _. only_then _ _ (only_skip tokens) (λ _. only_then _ _ (only_type_name tokens Other) (λ t. only_is _)))
    only_cast_by place a _ = only_is _

    only_cast : Only (cast tokens room inner)
    only_cast at = only_then _ _ only_ternary (λ a. only_loop _ (λ b. only_look _ _ (only_cast_by (place_at tokens at) b)) a) at

    only_form : (n : ℕ) → Only (form tokens room inner n)
    unfolding form
    only_form n = only_either (n == AS) _ _ only_cast (only_either (n == TERNARY) _ _ only_ternary (only_level n))

  only_deeper : (room k n : ℕ) → Only (deeper tokens room k n)
  unfolding deeper
  only_deeper zero k n = only_is _
  only_deeper (suc room) zero n = only_form (suc room) (deeper tokens room) (only_deeper room) n
  only_deeper (suc room) (suc k) n = only_deeper room k n

  pub only_expression : (room n : ℕ) → Only (expression tokens room n)
  only_expression room n = only_deeper room 0 n
