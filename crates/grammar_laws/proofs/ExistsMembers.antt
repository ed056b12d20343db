-- Each reading of a member or a class has an outcome.
use Rattle.std.proofs.Common.{ℕ, zero, suc, ◌+◌, Bool, true, false, not, ◌&&◌, List, [], ◌∷◌, ◌++◌, length, Option, Some, None, refl}
use Rattle.std.specs.List.{list_any}
use Rattle.gd_syntax.specs.declared.fault.Place.{Place}
use Rattle.gd_syntax.specs.declared.token.Token.{Token}
use Rattle.gd_syntax.specs.declared.token.Mark.{Mark}
use Rattle.gd_syntax.specs.declared.token.Mark.TheVariants as m
use Rattle.gd_syntax.specs.declared.tree.member.Annotation.{Annotation}
use Rattle.gd_syntax.specs.declared.tree.member.Member.{Member}
use Rattle.gd_syntax.specs.declared.tree.member.Param.{Param}
use Rattle.gd_syntax.specs.declared.tree.type_name.Declared.{Declared}
use Rattle.gd_syntax.specs.Reading.{Reading, Then, Look, Loop, give}
use Rattle.gd_syntax.specs.declared.stops.Sought.TheVariants.{Parameter, StaticFunc, Other}
use Rattle.gd_syntax.specs.TokenReading.{any_name, kind_at, mark_of, mark_at, place_at, OneOf}
use Rattle.gd_syntax.specs.StatementGrammar.{max_blocks}
use Rattle.gd_syntax.specs.MemberGrammar.{max_params, max_members, max_classes, is_member, root_of, has_value, is_field_annotation, is_member_word, base_by, base, extends_by, item, enum_name_by, enum_name, enum, param_by, param, params_by, params, signal_param, defaulted, func_param, signal_by, signal, result_by, func, annotated_by, annotated, plain, pass, const_line, enum_line, signal_line, class, member_by, member, members_by, members, class_block}
use Rattle.grammar_laws.proofs.Exists.{Reads, Takes, Moves, taken, reads_then, takes, reads, sound_look, sound_either, sound_stops, sound_at, sound_refuse, reads_give, goes_on, ends, moves_look, Starts, starts_then, starts_look, starts_refuse, ends_look, ends_mark, reads_loop, takes_skip, takes_due, takes_one, reads_comma_turn, Form, takes_list}
use Rattle.grammar_laws.proofs.ExistsTypes.{takes_result_type}
use Rattle.grammar_laws.proofs.ExistsDeclarations.{past, reads_below, takes_new_name, starts_new_name, reads_type_by, reads_value_by, reads_declared, reads_annots, takes_var, takes_const}
use Rattle.grammar_laws.proofs.ExistsStatements.{takes_block}

module _ (tokens : List Token) where
  moves_base_by : (sofar : List (List ℕ)) (k : Option Mark) → Moves (base_by tokens sofar k)
  moves_base_by sofar (Some m.Dot) = goes_on _ (past tokens _ (taken _ _ (takes_one tokens any_name Other) (λ name. reads_give _)))
  moves_base_by sofar _ = ends sofar

  pub takes_base : Takes (base tokens)
  takes_base = sound_at 1 (λ place. Then (OneOf tokens root_of Other) (λ first. Then (Loop (λ sofar. Look (mark_at tokens) (base_by tokens sofar)) [])
      (λ names. give (record { place = place_at tokens place; root = first; names = names }))))
      (λ at. taken _ _ (takes_one tokens root_of Other) (λ first. reads_then _ _ (reads_loop tokens _ (λ sofar. moves_look _ _ (moves_base_by sofar))
      (λ sofar. ends_mark tokens (base_by tokens sofar) (λ at next b i e. cc e)) []) (λ names. reads_give _)))

  pub reads_extends_by : (k : Option Mark) → Reads (extends_by tokens k)
  reads_extends_by (Some m.Extends) = reads _ (past tokens _ (taken _ _ takes_base (λ b. reads_give _)))
  reads_extends_by _ = reads_give _

  form_item : Form tokens (item tokens)
  form_item = record {
    takes = taken _ _ (takes_new_name tokens) (λ name. reads_then _ _ (sound_look 0 _ _ (reads_value_by tokens)) (λ x. reads_give _));
    starts = starts_then tokens _ _ (starts_new_name tokens);
  }

  reads_enum_name_by : (place : Place) (name : Option (List ℕ)) → Reads (enum_name_by tokens place name)
  reads_enum_name_by place (Some name) = reads _ (taken _ _ (takes_skip tokens) (λ _. reads_give _))
  reads_enum_name_by place None = reads_give _

  reads_enum_name : Reads (enum_name tokens)
  reads_enum_name = sound_at 0 (λ place. Look (λ to. any_name (kind_at tokens to)) (enum_name_by tokens (place_at tokens place))) (λ at. sound_look 0 _ _ (reads_enum_name_by (place_at tokens at)))

  takes_enum : (place : Place) → Takes (enum tokens place)
  takes_enum place = taken _ _ (takes_skip tokens) (λ _. reads_then _ _ reads_enum_name (λ name. reads _ (taken _ _ (takes_due tokens Other m.LBrace)
      (λ _. reads _ (taken _ _ (takes_list tokens (item tokens) form_item m.RBrace) (λ all. reads_give _))))))

  module _ (what : List Param → Reading Declared) (w : (before : List Param) → Reads (what before)) where
    takes_param_by : (sofar : List Param) (place : Place) (name : Option (List ℕ)) → Takes (param_by tokens what sofar place name)
    takes_param_by sofar place (Some name) = takes _ _ (reads_below tokens (length sofar) max_params)
        (λ _. taken _ _ (takes_skip tokens) (λ _. reads_then _ _ (w sofar) (λ x. reads_give _)))
    takes_param_by sofar place None = sound_refuse tokens 1 Parameter

    takes_param : (sofar : List Param) → Takes (param tokens what sofar)
    takes_param sofar = sound_at 1 (λ place. Look (λ to. any_name (kind_at tokens to)) (param_by tokens what sofar (place_at tokens place))) (λ at. sound_look 1 _ _ (takes_param_by sofar (place_at tokens at)))

    starts_param : (sofar : List Param) → Starts tokens (param tokens what sofar)
    starts_param sofar at = starts_look tokens (λ to. any_name (kind_at tokens to)) (param_by tokens what sofar (place_at tokens at)) any_name (λ to. refl) (starts_refuse tokens Parameter) at

    moves_params_by : (sofar : List Param) (k : Option Mark) → Moves (params_by tokens what sofar k)
    moves_params_by sofar (Some m.RParen) = ends sofar
    moves_params_by sofar _ = goes_on _ (taken _ _ (takes_param sofar) (λ x. reads_comma_turn tokens (sofar ++ x ∷ [])))

    takes_params : Takes (params tokens what)
    takes_params = takes _ _ (reads_loop tokens _ (λ sofar. moves_look _ _ (moves_params_by sofar))
        (λ sofar. ends_mark tokens (params_by tokens what sofar) (λ at next b i h. starts_then tokens _ _ (starts_param sofar) at next _ i h)) [])
        (λ all. taken _ _ (takes_due tokens Other m.RParen) (λ _. reads_give _))

  reads_signal_param : (before : List Param) → Reads (signal_param tokens before)
  reads_signal_param before = reads_then _ _ (sound_look 0 _ _ (reads_type_by tokens Other)) (λ t. reads_give _)

  reads_defaulted : (due : Bool) (x : Declared) → Reads (defaulted tokens due x)
  reads_defaulted due x = sound_either 0 (due && not (has_value x)) _ _ (sound_refuse tokens 0 Other) (reads_give x)

  reads_func_param : (before : List Param) → Reads (func_param tokens before)
  reads_func_param before = reads_then _ _ (reads_declared tokens Other) (λ x. reads_defaulted _ x)

  reads_signal_by : (k : Option Mark) → Reads (signal_by tokens k)
  reads_signal_by (Some m.LParen) = reads _ (past tokens _ (takes_params (signal_param tokens) reads_signal_param))
  reads_signal_by _ = reads_give _

  takes_signal : (place : Place) → Takes (signal tokens place)
  takes_signal place = past tokens _ (taken _ _ (takes_new_name tokens) (λ name. reads_then _ _ (sound_look 0 _ _ reads_signal_by) (λ all. reads_give _)))

  reads_result_by : (k : Option Mark) → Reads (result_by tokens k)
  reads_result_by (Some m.Arrow) = reads _ (past tokens _ (taken _ _ (takes_result_type tokens) (λ t. reads_give _)))
  reads_result_by _ = reads_give _

  takes_func : (place : Place) (before : List Annotation) (is_static : Bool) → Takes (func tokens place before is_static)
  takes_func place before is_static = taken _ _ (takes_new_name tokens) (λ name. reads _ (taken _ _ (takes_due tokens Other m.LParen)
      (λ _. reads _ (taken _ _ (takes_params (func_param tokens) reads_func_param) (λ all. reads_then _ _ (sound_look 0 _ _ reads_result_by)
      (λ t. reads _ (taken _ _ (takes_due tokens Other m.Colon) (λ _. reads _ (taken _ _ (takes_block tokens max_blocks) (λ body. reads_give _))))))))))

  takes_annotated_by : (place : Place) (before : List Annotation) (k : Option Mark) → Takes (annotated_by tokens place before k)
  takes_annotated_by place before (Some m.Var) = taken _ _ (takes_var tokens place before) (λ v. reads _ (taken _ _ (takes_due tokens Other m.Newline) (λ _. reads_give _)))
  takes_annotated_by place before (Some m.Func) = sound_either 1 (list_any is_field_annotation before) _ _ (sound_refuse tokens 1 Other)
      (past tokens _ (taken _ _ (takes_func place before false) (λ f. reads_give _)))
  takes_annotated_by place before (Some m.Static) = sound_either 1 (list_any is_field_annotation before) _ _ (sound_refuse tokens 1 Other)
      (past tokens _ (taken _ _ (takes_due tokens StaticFunc m.Func) (λ _. reads _ (taken _ _ (takes_func place before true) (λ f. reads_give _)))))
  takes_annotated_by place before _ = sound_refuse tokens 1 Other

  pub takes_annotated : (place : Place) (before : List Annotation) → Takes (annotated tokens place before)
  takes_annotated place before = sound_look 1 _ _ (takes_annotated_by place before)

  takes_plain : {A : Type 0} (classes : ℕ) (reading : Reading A) → Takes reading → Takes (plain tokens classes reading)
  takes_plain classes reading r = taken _ _ r (λ x. reads_give _)

  takes_pass : (place : Place) → Takes (pass tokens place)
  takes_pass place = past tokens _ (taken _ _ (takes_due tokens Other m.Newline) (λ _. reads_give _))

  takes_const_line : (place : Place) → Takes (const_line tokens place)
  takes_const_line place = taken _ _ (takes_const tokens place) (λ c. reads _ (taken _ _ (takes_due tokens Other m.Newline) (λ _. reads_give _)))

  takes_enum_line : (place : Place) → Takes (enum_line tokens place)
  takes_enum_line place = taken _ _ (takes_enum place) (λ x. reads _ (taken _ _ (takes_due tokens Other m.Newline) (λ _. reads_give _)))

  takes_signal_line : (place : Place) → Takes (signal_line tokens place)
  takes_signal_line place = taken _ _ (takes_signal place) (λ x. reads _ (taken _ _ (takes_due tokens Other m.Newline) (λ _. reads_give _)))

  module _ (inner : ℕ → Reading (List Member × ℕ)) (i : (classes : ℕ) → Takes (inner classes)) where
    takes_class : (classes : ℕ) (place : Place) → Takes (class tokens inner classes place)
    takes_class classes place = takes _ _ (reads_below tokens classes max_classes) (λ _. past tokens _ (taken _ _ (takes_new_name tokens)
        (λ name. reads_then _ _ (sound_look 0 _ _ reads_extends_by) (λ b. reads _ (taken _ _ (takes_due tokens Other m.Colon) (λ _. reads _ (taken _ _ (i (classes + 1)) (λ all. reads_give _))))))))

    takes_member_by : (classes : ℕ) (place : Place) (k : Option Mark) → Takes (member_by tokens inner classes place k)
    takes_member_by classes place (Some m.Pass) = takes_plain classes _ (takes_pass place)
    takes_member_by classes place (Some m.Const) = takes_plain classes _ (takes_const_line place)
    takes_member_by classes place (Some m.Enum) = takes_plain classes _ (takes_enum_line place)
    takes_member_by classes place (Some m.Signal) = takes_plain classes _ (takes_signal_line place)
    takes_member_by classes place (Some m.Class) = takes_class classes place
    takes_member_by classes place _ = takes_plain classes _ (takes _ _ (reads_annots tokens is_member_word) (λ before. takes_annotated place before))

    takes_member : (classes : ℕ) → Takes (member tokens inner classes)
    takes_member classes = sound_at 1 (λ place. Look (mark_at tokens) (member_by tokens inner classes (place_at tokens place))) (λ at. sound_look 1 _ _ (takes_member_by classes (place_at tokens at)))

    moves_members_by : (sofar : List Member × ℕ) (b : Bool) → Moves (members_by tokens inner sofar b)
    moves_members_by sofar true = goes_on _ (takes _ _ (reads_below tokens (length sofar.0) max_members) (λ _. taken _ _ (takes_member sofar.1) (λ x. reads_give _)))
    moves_members_by sofar false = ends sofar

    pub reads_members : (sofar : List Member × ℕ) → Reads (members tokens inner sofar)
    reads_members sofar = reads_loop tokens _ (λ all. moves_look _ _ (moves_members_by all))
        (λ all. ends_look tokens (λ at. is_member (mark_at tokens at)) (members_by tokens inner all) (λ k at. is_member (mark_of k)) (λ at. refl) (λ at next b i e. cc e)) sofar

  pub takes_class_block : (room classes : ℕ) → Takes (class_block tokens room classes)
  unfolding class_block
  takes_class_block zero classes = sound_stops 1 _
  takes_class_block (suc room) classes = taken _ _ (takes_due tokens Other m.Newline) (λ _. reads _ (taken _ _ (takes_due tokens Other m.Indent)
      (λ _. reads_then _ _ (reads_members (class_block tokens room) (takes_class_block room) ([], classes)) (λ all. reads _ (taken _ _ (takes_due tokens Other m.Dedent) (λ _. reads_give _))))))
