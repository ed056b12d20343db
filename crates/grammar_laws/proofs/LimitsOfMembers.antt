-- The members that are read keep the limits.
use Rattle.std.proofs.Common.{◌≡◌, ℕ, zero, suc, ◌+◌, ◌≤◌, ◌<◌, nat_le, Bool, true, false, List, [], ◌∷◌, ◌++◌, length, map, Option, Some, None, refl, ◌∙◌, arith}
use Rattle.std.specs.List.{list_all, list_any}
use Rattle.std.proofs.lemmas.List.{length-append}
use Rattle.std.proofs.lemmas.Bool.{and_from}
use Rattle.std.proofs.lemmas.Bool.Decides.{nat_tests}
use Rattle.gd_syntax.specs.declared.fault.Place.{Place}
use Rattle.gd_syntax.specs.declared.token.Token.{Token}
use Rattle.gd_syntax.specs.declared.token.Mark.{Mark}
use Rattle.gd_syntax.specs.declared.token.Mark.TheVariants as m
use Rattle.gd_syntax.specs.declared.tree.member.Annotation.{Annotation}
use Rattle.gd_syntax.specs.declared.tree.member.Base.{Base}
use Rattle.gd_syntax.specs.declared.tree.member.Class.{Class}
use Rattle.gd_syntax.specs.declared.tree.member.Func.{Func}
use Rattle.gd_syntax.specs.declared.tree.member.Member.{Member}
use Rattle.gd_syntax.specs.declared.tree.member.Member.TheVariants as tree
use Rattle.gd_syntax.specs.declared.tree.member.Param.{Param}
use Rattle.gd_syntax.specs.declared.tree.member.Signal.{Signal}
use Rattle.gd_syntax.specs.declared.tree.type_name.Declared.{Declared}
use Rattle.gd_syntax.specs.declared.tree.type_name.Identifier.{Identifier}
use Rattle.gd_syntax.specs.Levels.{most}
use Rattle.gd_syntax.specs.Reading.{Reading, On, Last}
use Rattle.gd_syntax.specs.TokenReading.{place_at}
use Rattle.gd_syntax.specs.MemberGrammar.{max_params, max_members, max_classes, is_field_annotation, param_by, param, params_by, params, signal_param, func_param, signal_by, signal, func, annotated_by, annotated, plain, pass, const_line, enum_line, signal_line, class, member_by, member, members_by, members, class_block}
use Rattle.gd_syntax.specs.StatementGrammar.{max_blocks}
use Rattle.gd_syntax.proofs.Levels.{most_push}
use Rattle.grammar_laws.specs.Limits.{total, blocks, class_depth, class_count, keeps}
use Rattle.grammar_laws.proofs.LimitForms.{depth-Pass, depth-Var, depth-Const, depth-Enum, depth-Signal, depth-Func, depth-Class, count-Pass, count-Var, count-Const, count-Enum, count-Signal, count-Func, count-Class, keeps-Pass, keeps-Var, keeps-Const, keeps-Enum, keeps-Signal, keeps-Func, keeps-Class, total_push, all_push}
use Rattle.grammar_laws.proofs.BlocksOfStatements.{low_block}
use Rattle.grammar_laws.proofs.Gives.{Gives, gives_then, gives_after, gives_look, gives_either, gives_give, gives_stops, TurnOf, gives_loop, gives_below, gives_comma}

at_most : (n most : ℕ) → n ≤ most → nat_le n most ≡ true
at_most n most h = grind (arith, nat_tests)

-- a member that is no class, and keeps its limits
pub record IsPlain (x : Member) : Type 0 where
  pub keep : keeps x ≡ true
  pub depth : class_depth x ≡ 0
  pub count : class_count x ≡ 0

-- a member, in which so many classes may nest, before which so many classes have begun
pub record IsKept (room before : ℕ) (x : Member × ℕ) : Type 0 where
  pub keep : keeps x.0 ≡ true
  pub depth : class_depth x.0 ≤ room
  pub count : x.1 ≡ before + class_count x.0
  pub classes : x.1 ≤ 256

-- members of a class, in which so many classes may nest with it
pub record AreKept (room before : ℕ) (all : List Member × ℕ) : Type 0 where
  pub keep : list_all keeps all.0 ≡ true
  pub few : length all.0 ≤ 4096
  pub depth : suc (most (map class_depth all.0)) ≤ room
  pub count : all.1 ≡ before + total (map class_count all.0)
  pub classes : all.1 ≤ 256

module _ (tokens : List Token) where
  -- ---- parameters

  abbrev Few : List Param → Type 0
  Few all = length all ≤ 64

  module _ (what : List Param → Reading Declared) where
    below_by : (sofar : List Param) (place : Place) (name : Option (List ℕ)) → Gives (λ _. length sofar < 64) (param_by tokens what sofar place name)
    below_by sofar place (Some name) = gives_then (λ _. length sofar < 64) (λ _. length sofar < 64) _ _ (gives_below tokens (length sofar) max_params)
        (λ _ h. gives_after (λ _. length sofar < 64) _ _ (λ _. gives_after (λ _. length sofar < 64) _ _ (λ x. gives_give (λ _. length sofar < 64) (record { name = record { place = place; name = name }; declared = x }) h)))
    below_by sofar place None = gives_stops (λ _. length sofar < 64) _

    is_below : (sofar : List Param) → Gives (λ _. length sofar < 64) (param tokens what sofar)
    is_below sofar at = gives_look (λ _. length sofar < 64) _ _ (below_by sofar (place_at tokens at)) at

    few_by : (sofar : List Param) → Few sofar → (k : Option Mark) → Gives (TurnOf Few) (params_by tokens what sofar k)
    few_by sofar few (Some m.RParen) = gives_give (TurnOf Few) (Last sofar) few
    few_by sofar few _ = gives_then (λ _. length sofar < 64) (TurnOf Few) _ _ (is_below sofar) (λ x h. gives_comma tokens Few (sofar ++ x ∷ []) (omega (arith, h, length-append sofar (x ∷ []))))

    few_params : Gives Few (params tokens what)
    few_params = gives_then Few Few _ _ (gives_loop Few _ (λ sofar few. gives_look (TurnOf Few) _ _ (few_by sofar few)) [] (omega arith)) (λ all h. gives_after Few _ _ (λ _. gives_give Few all h))

  few_signal_by : (k : Option Mark) → Gives Few (signal_by tokens k)
  few_signal_by (Some m.LParen) = gives_after Few _ _ (λ _. few_params (signal_param tokens))
  few_signal_by _ = gives_give Few [] (omega arith)

  few_signal : (place : Place) → Gives (λ x. length x.params ≤ 64) (signal tokens place)
  few_signal place = gives_after (λ (x : Signal). length x.params ≤ 64) _ _ (λ _. gives_after (λ (x : Signal). length x.params ≤ 64) _ _
      (λ name. gives_then Few (λ (x : Signal). length x.params ≤ 64) _ _ (gives_look Few _ _ few_signal_by) (λ all h. gives_give (λ (x : Signal). length x.params ≤ 64) (record { place = place; name = name; params = all }) h)))

  abbrev IsSmall : Func → Type 0
  IsSmall f = (length f.params ≤ 64) × (blocks f.body ≤ 128)

  small_func : (place : Place) (before : List Annotation) (is_static : Bool) → Gives IsSmall (func tokens place before is_static)
  small_func place before is_static = gives_after IsSmall _ _ (λ name. gives_after IsSmall _ _ (λ _. gives_then Few IsSmall _ _ (few_params (func_param tokens)) (λ all h. gives_after IsSmall _ _ (λ t. gives_after IsSmall _ _
      (λ _. gives_then (λ body. blocks body ≤ 128) IsSmall _ _ (low_block tokens max_blocks)
      (λ body k. gives_give IsSmall (record { place = place; annotations = before; is_static = is_static; name = name; params = all; result = t; body = body }) (h, k)))))))

  -- ---- members that are no class

  plain_func : (f : Func) → IsSmall f → IsPlain (tree.Func f)
  plain_func f small = record { keep = keeps-Func f ∙ and_from (nat_le (length f.params) 64) (nat_le (blocks f.body) 128) (at_most (length f.params) 64 small.0) (at_most (blocks f.body) 128 small.1); depth = depth-Func f; count = count-Func f }

  plain_annotated_by : (place : Place) (before : List Annotation) (k : Option Mark) → Gives IsPlain (annotated_by tokens place before k)
  plain_annotated_by place before (Some m.Var) = gives_after IsPlain _ _ (λ v. gives_after IsPlain _ _ (λ _. gives_give IsPlain (tree.Var v) (record { keep = keeps-Var v; depth = depth-Var v; count = count-Var v })))
  plain_annotated_by place before (Some m.Func) = gives_either IsPlain (list_any is_field_annotation before) _ _ (gives_stops IsPlain _)
      (gives_after IsPlain _ _ (λ _. gives_then IsSmall IsPlain _ _ (small_func place before false) (λ f h. gives_give IsPlain (tree.Func f) (plain_func f h))))
  plain_annotated_by place before (Some m.Static) = gives_either IsPlain (list_any is_field_annotation before) _ _ (gives_stops IsPlain _)
      (gives_after IsPlain _ _ (λ _. gives_after IsPlain _ _ (λ _. gives_then IsSmall IsPlain _ _ (small_func place before true) (λ f h. gives_give IsPlain (tree.Func f) (plain_func f h)))))
  plain_annotated_by place before _ = gives_stops IsPlain _

  pub plain_annotated : (place : Place) (before : List Annotation) → Gives IsPlain (annotated tokens place before)
  plain_annotated place before = gives_look IsPlain _ _ (plain_annotated_by place before)

  plain_pass : (place : Place) → Gives IsPlain (pass tokens place)
  plain_pass place = gives_after IsPlain _ _ (λ _. gives_after IsPlain _ _ (λ _. gives_give IsPlain (tree.Pass place) (record { keep = keeps-Pass place; depth = depth-Pass place; count = count-Pass place })))

  plain_const : (place : Place) → Gives IsPlain (const_line tokens place)
  plain_const place = gives_after IsPlain _ _ (λ c. gives_after IsPlain _ _ (λ _. gives_give IsPlain (tree.Const c) (record { keep = keeps-Const c; depth = depth-Const c; count = count-Const c })))

  plain_enum : (place : Place) → Gives IsPlain (enum_line tokens place)
  plain_enum place = gives_after IsPlain _ _ (λ x. gives_after IsPlain _ _ (λ _. gives_give IsPlain (tree.Enum x) (record { keep = keeps-Enum x; depth = depth-Enum x; count = count-Enum x })))

  plain_signal : (place : Place) → Gives IsPlain (signal_line tokens place)
  plain_signal place = gives_then (λ (x : Signal). length x.params ≤ 64) IsPlain _ _ (few_signal place)
      (λ x h. gives_after IsPlain _ _ (λ _. gives_give IsPlain (tree.Signal x) (record { keep = keeps-Signal x ∙ at_most (length x.params) 64 h; depth = depth-Signal x; count = count-Signal x })))

  -- ---- members

  module _ (room : ℕ) (inner : ℕ → Reading (List Member × ℕ)) (i : (classes : ℕ) → classes ≤ 256 → Gives (AreKept room classes) (inner classes)) where
    kept_plain : (classes : ℕ) → classes ≤ 256 → (R : Reading Member) → Gives IsPlain R → Gives (IsKept room classes) (plain tokens classes R)
    kept_plain classes few R p = gives_then IsPlain (IsKept room classes) _ _ p
        (λ x h. gives_give (IsKept room classes) (x, classes) (record { keep = h.keep; depth = omega (arith, h.depth); count = omega (arith, h.count); classes = few }))

    kept_class : (classes : ℕ) (place : Place) → Gives (IsKept room classes) (class tokens inner classes place)
    kept_class classes place = gives_then (λ _. classes < 256) (IsKept room classes) _ _ (gives_below tokens classes max_classes) (λ _ below. gives_after (IsKept room classes) _ _ (λ _. gives_after (IsKept room classes) _ _
        (λ name. gives_after (IsKept room classes) _ _ (λ b. gives_after (IsKept room classes) _ _ (λ _. gives_then (AreKept room (classes + 1)) (IsKept room classes) _ _ (i (classes + 1) (omega (arith, below)))
        (λ all h. gives_give (IsKept room classes) (tree.Class (record { place = place; name = name; base = b; members = all.0 }), all.1) (class_kept classes place name b all h)))))))
      where
        class_kept : (classes : ℕ) (place : Place) (name : Identifier) (b : Option Base) (all : List Member × ℕ) → AreKept room (classes + 1) all → IsKept room classes (tree.Class (record { place = place; name = name; base = b; members = all.0 }), all.1)
        class_kept classes place name b all h =
            let c : Class = record { place = place; name = name; base = b; members = all.0 } in
            record {
              keep = keeps-Class c ∙ and_from (nat_le (length all.0) 4096) (list_all keeps all.0) (at_most (length all.0) 4096 h.few) h.keep;
              depth = omega (arith, depth-Class c, h.depth);
              count = omega (arith, count-Class c, h.count);
              classes = h.classes;
            }

    kept_by : (classes : ℕ) → classes ≤ 256 → (place : Place) (k : Option Mark) → Gives (IsKept room classes) (member_by tokens inner classes place k)
    kept_by classes few place (Some m.Pass) = kept_plain classes few (pass tokens place) (plain_pass place)
    kept_by classes few place (Some m.Const) = kept_plain classes few (const_line tokens place) (plain_const place)
    kept_by classes few place (Some m.Enum) = kept_plain classes few (enum_line tokens place) (plain_enum place)
    kept_by classes few place (Some m.Signal) = kept_plain classes few (signal_line tokens place) (plain_signal place)
    kept_by classes few place (Some m.Class) = kept_class classes place
    kept_by classes few place _ = kept_plain classes few _ (gives_after IsPlain _ _ (λ before. plain_annotated place before))

    kept_member : (classes : ℕ) → classes ≤ 256 → Gives (IsKept room classes) (member tokens inner classes)
    kept_member classes few at = gives_look (IsKept room classes) _ _ (kept_by classes few (place_at tokens at)) at

    push : (before : ℕ) (sofar : List Member × ℕ) (x : Member × ℕ) → AreKept (suc room) before sofar → length sofar.0 < 4096 → IsKept room sofar.1 x → AreKept (suc room) before (sofar.0 ++ x.0 ∷ [], x.1)
    push before sofar x h few k =
        let deepest = most_push class_depth sofar.0 x.0 in
        let sum = total_push class_count sofar.0 x.0 in
        record {
          keep = all_push keeps sofar.0 x.0 h.keep k.keep;
          few = omega (arith, few, length-append sofar.0 (x.0 ∷ []));
          depth = omega (arith, deepest, h.depth, k.depth);
          count = omega (arith, sum, h.count, k.count);
          classes = k.classes;
        }

    kept_members_by : (before : ℕ) (sofar : List Member × ℕ) → AreKept (suc room) before sofar → (b : Bool) → Gives (TurnOf (AreKept (suc room) before)) (members_by tokens inner sofar b)
    kept_members_by before sofar h true = gives_then (λ _. length sofar.0 < 4096) (TurnOf (AreKept (suc room) before)) _ _ (gives_below tokens (length sofar.0) max_members)
        (λ _ few. gives_then (IsKept room sofar.1) (TurnOf (AreKept (suc room) before)) _ _ (kept_member sofar.1 h.classes)
        (λ x k. gives_give (TurnOf (AreKept (suc room) before)) (On (sofar.0 ++ x.0 ∷ [], x.1)) (push before sofar x h few k)))
    kept_members_by before sofar h false = gives_give (TurnOf (AreKept (suc room) before)) (Last sofar) h

    pub kept_members : (before : ℕ) (sofar : List Member × ℕ) → AreKept (suc room) before sofar → Gives (AreKept (suc room) before) (members tokens inner sofar)
    kept_members before sofar h = gives_loop (AreKept (suc room) before) _ (λ sofar h. gives_look (TurnOf (AreKept (suc room) before)) _ _ (kept_members_by before sofar h)) sofar h

  pub none_kept : (room classes : ℕ) → classes ≤ 256 → AreKept (suc room) classes ([], classes)
  none_kept room classes few = record { keep = refl; few = omega arith; depth = omega arith; count = omega arith; classes = few }

  pub kept_block : (room classes : ℕ) → classes ≤ 256 → Gives (AreKept room classes) (class_block tokens room classes)
  unfolding class_block
  kept_block zero classes few = gives_stops (AreKept zero classes) _
  kept_block (suc room) classes few = gives_after (AreKept (suc room) classes) _ _ (λ _. gives_after (AreKept (suc room) classes) _ _ (λ _. gives_then (AreKept (suc room) classes) (AreKept (suc room) classes) _ _
      (kept_members room (class_block tokens room) (kept_block room) classes ([], classes) (none_kept room classes few)) (λ all h. gives_after (AreKept (suc room) classes) _ _ (λ _. gives_give (AreKept (suc room) classes) all h))))
