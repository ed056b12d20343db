-- No reading of a member or a class has two outcomes.
use Rattle.std.proofs.Common.{ℕ, zero, suc, ◌+◌, Bool, true, false, not, ◌&&◌, List, [], ◌∷◌, ◌++◌, length, Option, Some, None}
use Rattle.std.specs.List.{list_any}
use Rattle.gd_syntax.specs.declared.fault.Place.{Place}
use Rattle.gd_syntax.specs.declared.token.Token.{Token}
use Rattle.gd_syntax.specs.declared.token.Mark.{Mark}
use Rattle.gd_syntax.specs.declared.token.Mark.TheVariants as m
use Rattle.gd_syntax.specs.declared.tree.member.Annotation.{Annotation}
use Rattle.gd_syntax.specs.declared.tree.member.Member.{Member}
use Rattle.gd_syntax.specs.declared.tree.member.Param.{Param}
use Rattle.gd_syntax.specs.declared.tree.type_name.Declared.{Declared}
use Rattle.gd_syntax.specs.Reading.{Reading}
use Rattle.gd_syntax.specs.declared.stops.Sought.TheVariants.{StaticFunc, Other}
use Rattle.gd_syntax.specs.TokenReading.{any_name, place_at}
use Rattle.gd_syntax.specs.StatementGrammar.{max_blocks}
use Rattle.gd_syntax.specs.MemberGrammar.{max_params, max_members, max_classes, root_of, has_value, is_field_annotation, is_member_word, base_by, base, extends_by, item, enum_name_by, enum_name, enum, param_by, param, params_by, params, signal_param, defaulted, func_param, signal_by, signal, result_by, func, annotated_by, annotated, plain, pass, const_line, enum_line, signal_line, class, member_by, member, members_by, members, class_block}
use Rattle.gd_syntax.proofs.Only.{Only, only_is, only_then, only_look, only_loop, only_either, only_skip, only_due, only_one, only_comma_turn, only_list}
use Rattle.gd_syntax.proofs.OnlyTypes.{only_result_type}
use Rattle.gd_syntax.proofs.OnlyDeclarations.{only_below, only_new_name, only_type_by, only_value_by, only_declared, only_annots, only_var, only_const}
use Rattle.gd_syntax.proofs.OnlyStatements.{only_block}

module _ (tokens : List Token) where
  only_base_by : (sofar : List (List ℕ)) (k : Option Mark) → Only (base_by tokens sofar k)
  only_base_by sofar (Some m.Dot) = only_then _ _ (only_skip tokens) (λ _. only_then _ _ (only_one tokens any_name Other) (λ name. only_is _))
  only_base_by sofar _ = only_is _

  pub only_base : Only (base tokens)
  only_base at = only_then _ _ (only_one tokens root_of Other) (λ first. only_then _ _ (only_loop _ (λ sofar. only_look _ _ (only_base_by sofar)) []) (λ names. only_is _)) at

  pub only_extends_by : (k : Option Mark) → Only (extends_by tokens k)
  only_extends_by (Some m.Extends) = only_then _ _ (only_skip tokens) (λ _. only_then _ _ only_base (λ b. only_is _))
  only_extends_by _ = only_is _

  only_item : Only (item tokens)
  only_item = only_then _ _ (only_new_name tokens) (λ name. only_then _ _ (only_look _ _ (only_value_by tokens)) (λ x. only_is _))

  only_enum_name_by : (place : Place) (name : Option (List ℕ)) → Only (enum_name_by tokens place name)
  only_enum_name_by place (Some name) = only_then _ _ (only_skip tokens) (λ _. only_is _)
  only_enum_name_by place None = only_is _

  only_enum_name : Only (enum_name tokens)
  only_enum_name at = only_look _ _ (only_enum_name_by (place_at tokens at)) at

  only_enum : (place : Place) → Only (enum tokens place)
  only_enum place = only_then _ _ (only_skip tokens) (λ _. only_then _ _ only_enum_name (λ name. only_then _ _ (only_due tokens Other m.LBrace)
      (λ _. only_then _ _ (only_list tokens (item tokens) only_item m.RBrace) (λ all. only_is _))))

  module _ (what : List Param → Reading Declared) (w : (before : List Param) → Only (what before)) where
    only_param_by : (sofar : List Param) (place : Place) (name : Option (List ℕ)) → Only (param_by tokens what sofar place name)
    only_param_by sofar place (Some name) = only_then _ _ (only_below tokens (length sofar) max_params) (λ _. only_then _ _ (only_skip tokens) (λ _. only_then _ _ (w sofar) (λ x. only_is _)))
    only_param_by sofar place None = only_is _

    only_param : (sofar : List Param) → Only (param tokens what sofar)
    only_param sofar at = only_look _ _ (only_param_by sofar (place_at tokens at)) at

    only_params_by : (sofar : List Param) (k : Option Mark) → Only (params_by tokens what sofar k)
    only_params_by sofar (Some m.RParen) = only_is _
    only_params_by sofar _ = only_then _ _ (only_param sofar) (λ x. only_comma_turn tokens (sofar ++ x ∷ []))

    only_params : Only (params tokens what)
    only_params = only_then _ _ (only_loop _ (λ sofar. only_look _ _ (only_params_by sofar)) []) (λ all. only_then _ _ (only_due tokens Other m.RParen) (λ _. only_is _))

  only_signal_param : (before : List Param) → Only (signal_param tokens before)
  only_signal_param before = only_then _ _ (only_look _ _ (only_type_by tokens Other)) (λ t. only_is _)

  only_defaulted : (due : Bool) (x : Declared) → Only (defaulted tokens due x)
  only_defaulted due x = only_either (due && not (has_value x)) _ _ (only_is _) (only_is _)

  only_func_param : (before : List Param) → Only (func_param tokens before)
  only_func_param before = only_then _ _ (only_declared tokens Other) (λ x. only_defaulted _ x)

  only_signal_by : (k : Option Mark) → Only (signal_by tokens k)
  only_signal_by (Some m.LParen) = only_then _ _ (only_skip tokens) (λ _. only_params (signal_param tokens) only_signal_param)
  only_signal_by _ = only_is _

  only_signal : (place : Place) → Only (signal tokens place)
  only_signal place = only_then _ _ (only_skip tokens) (λ _. only_then _ _ (only_new_name tokens) (λ name. only_then _ _ (only_look _ _ only_signal_by) (λ all. only_is _)))

  only_result_by : (k : Option Mark) → Only (result_by tokens k)
  only_result_by (Some m.Arrow) = only_then _ _ (only_skip tokens) (λ _. only_then _ _ (only_result_type tokens) (λ t. only_is _))
  only_result_by _ = only_is _

  only_func : (place : Place) (before : List Annotation) (is_static : Bool) → Only (func tokens place before is_static)
  only_func place before is_static = only_then _ _ (only_new_name tokens) (λ name. only_then _ _ (only_due tokens Other m.LParen)
      (λ _. only_then _ _ (only_params (func_param tokens) only_func_param) (λ all. only_then _ _ (only_look _ _ only_result_by)
      (λ t. only_then _ _ (only_due tokens Other m.Colon) (λ _. only_then _ _ (only_block tokens max_blocks) (λ body. only_is _))))))

  only_annotated_by : (place : Place) (before : List Annotation) (k : Option Mark) → Only (annotated_by tokens place before k)
  only_annotated_by place before (Some m.Var) = only_then _ _ (only_var tokens place before) (λ v. only_then _ _ (only_due tokens Other m.Newline) (λ _. only_is _))
  only_annotated_by place before (Some m.Func) = only_either (list_any is_field_annotation before) _ _ (only_is _)
      (only_then _ _ (only_skip tokens) (λ _. only_then _ _ (only_func place before false) (λ f. only_is _)))
  only_annotated_by place before (Some m.Static) = only_either (list_any is_field_annotation before) _ _ (only_is _)
      (only_then _ _ (only_skip tokens) (λ _. only_then _ _ (only_due tokens StaticFunc m.Func) (λ _. only_then _ _ (only_func place before true) (λ f. only_is _))))
  only_annotated_by place before _ = only_is _

  pub only_annotated : (place : Place) (before : List Annotation) → Only (annotated tokens place before)
  only_annotated place before = only_look _ _ (only_annotated_by place before)

  only_plain : {A : Type 0} (classes : ℕ) (reading : Reading A) → Only reading → Only (plain tokens classes reading)
  only_plain classes reading r = only_then _ _ r (λ x. only_is _)

  only_pass : (place : Place) → Only (pass tokens place)
  only_pass place = only_then _ _ (only_skip tokens) (λ _. only_then _ _ (only_due tokens Other m.Newline) (λ _. only_is _))

  only_const_line : (place : Place) → Only (const_line tokens place)
  only_const_line place = only_then _ _ (only_const tokens place) (λ c. only_then _ _ (only_due tokens Other m.Newline) (λ _. only_is _))

  only_enum_line : (place : Place) → Only (enum_line tokens place)
  only_enum_line place = only_then _ _ (only_enum place) (λ x. only_then _ _ (only_due tokens Other m.Newline) (λ _. only_is _))

  only_signal_line : (place : Place) → Only (signal_line tokens place)
  only_signal_line place = only_then _ _ (only_signal place) (λ x. only_then _ _ (only_due tokens Other m.Newline) (λ _. only_is _))

  module _ (inner : ℕ → Reading (List Member × ℕ)) (i : (classes : ℕ) → Only (inner classes)) where
    only_class : (classes : ℕ) (place : Place) → Only (class tokens inner classes place)
    only_class classes place = only_then _ _ (only_below tokens classes max_classes) (λ _. only_then _ _ (only_skip tokens) (λ _. only_then _ _ (only_new_name tokens)
        (λ name. only_then _ _ (only_look _ _ only_extends_by) (λ b. only_then _ _ (only_due tokens Other m.Colon) (λ _. only_then _ _ (i (classes + 1)) (λ all. only_is _))))))

    only_member_by : (classes : ℕ) (place : Place) (k : Option Mark) → Only (member_by tokens inner classes place k)
    only_member_by classes place (Some m.Pass) = only_plain classes _ (only_pass place)
    only_member_by classes place (Some m.Const) = only_plain classes _ (only_const_line place)
    only_member_by classes place (Some m.Enum) = only_plain classes _ (only_enum_line place)
    only_member_by classes place (Some m.Signal) = only_plain classes _ (only_signal_line place)
    only_member_by classes place (Some m.Class) = only_class classes place
    only_member_by classes place _ = only_plain classes _ (only_then _ _ (only_annots tokens is_member_word) (λ before. only_annotated place before))

    only_member : (classes : ℕ) → Only (member tokens inner classes)
    only_member classes at = only_look _ _ (only_member_by classes (place_at tokens at)) at

    only_members_by : (sofar : List Member × ℕ) (b : Bool) → Only (members_by tokens inner sofar b)
    only_members_by sofar true = only_then _ _ (only_below tokens (length sofar.0) max_members) (λ _. only_then _ _ (only_member sofar.1) (λ x. only_is _))
    only_members_by sofar false = only_is _

    pub only_members : (sofar : List Member × ℕ) → Only (members tokens inner sofar)
    only_members sofar = only_loop _ (λ all. only_look _ _ (only_members_by all)) sofar

  pub only_class_block : (room classes : ℕ) → Only (class_block tokens room classes)
  unfolding class_block
  only_class_block zero classes = only_is _
  only_class_block (suc room) classes = only_then _ _ (only_due tokens Other m.Newline) (λ _. only_then _ _ (only_due tokens Other m.Indent)
      (λ _. only_then _ _ (only_members (class_block tokens room) (only_class_block room) ([], classes)) (λ all. only_then _ _ (only_due tokens Other m.Dedent) (λ _. only_is _))))
