-- The first `class_name` of a script that is read is that of its heads.
use Rattle.std.proofs.Common.{◌≡◌, ℕ, zero, suc, ◌+◌, Bool, true, false, not, ◌&&◌, ◌||◌, List, [], ◌∷◌, ◌++◌, length, map, Option, Some, None, refl, sym, ap, ◌∙◌, subst}
use Rattle.std.specs.List.{list_any}
use Rattle.gd_syntax.specs.declared.fault.Place.{Place}
use Rattle.gd_syntax.specs.declared.token.Token.{Token}
use Rattle.gd_syntax.specs.declared.token.Kind.{Kind}
use Rattle.gd_syntax.specs.declared.token.Kind.TheVariants.{Mark as Marked, Name, Int, Text}
use Rattle.gd_syntax.specs.declared.token.Mark.{Mark}
use Rattle.gd_syntax.specs.declared.token.Mark.TheVariants as m
use Rattle.gd_syntax.specs.declared.tree.member.Annotation.{Annotation}
use Rattle.gd_syntax.specs.declared.tree.member.Base.{Base}
use Rattle.gd_syntax.specs.declared.tree.member.Head.{Head}
use Rattle.gd_syntax.specs.declared.tree.member.Head.TheVariants as h
use Rattle.gd_syntax.specs.declared.tree.member.Member.{Member}
use Rattle.gd_syntax.specs.declared.tree.member.Param.{Param}
use Rattle.gd_syntax.specs.declared.tree.member.Script.{Script}
use Rattle.gd_syntax.specs.declared.tree.type_name.Declared.{Declared}
use Rattle.gd_syntax.specs.declared.tree.type_name.Identifier.{Identifier}
use Rattle.gd_syntax.specs.Header.{Global}
use Rattle.gd_syntax.specs.Reading.{Read, Reading, Then, goes, Look, looks, Turn, On, Last, Loop, give, either}
use Rattle.gd_syntax.specs.declared.stops.Sought.TheVariants.{Parameter, StaticFunc, Other}
use Rattle.gd_syntax.specs.TokenReading.{any_name, kind_at, mark_of, mark_at, place_at, OneOf, Due}
use Rattle.gd_syntax.specs.DeclarationGrammar.{annot, new_name}
use Rattle.gd_syntax.specs.StatementGrammar.{max_blocks}
use Rattle.gd_syntax.specs.MemberGrammar.{max_params, max_members, max_classes, max_open_classes, is_member, root_of, has_value, is_field_annotation, is_member_word, base, extends_by, item, enum_name_by, enum_name, enum, param_by, param, params_by, params, signal_param, defaulted, func_param, signal_by, signal, result_by, func, annotated_by, annotated, plain, pass, const_line, enum_line, signal_line, class, member_by, member, members_by, members, class_block}
use Rattle.gd_syntax.specs.MemberGrammar as member_grammar
use Rattle.gd_syntax.specs.ScriptGrammar.{Heads, is_head_annotation, with_first, with_annotation, with_head, is_named, is_based, may_follow, class_name, extends, head_by, head, first_member, no_member, rest, file_by, in_header, script}
use Rattle.header_laws.specs.NamesAgree.{named_onto, heads_name}
use Rattle.header_laws.proofs.Clear.{IsOther, Free, free_on, free_none, Clear, Begun, some_mark, b_clear, c_then, b_then, b_skip, b_stay, s_below, c_give, c_stops, c_refuse, c_either, b_either, c_at, b_at, c_look, c_mark, c_any, b_any, c_loop, c_due, c_one, c_comma, c_list}
use Rattle.header_laws.proofs.ClearExprs.{clear_result_type, clear_new_name, clear_type, clear_value, clear_declared, clear_annots, begun_annot, begun_var, begun_const}
use Rattle.header_laws.proofs.ClearStatements.{clear_block}

module _ (tokens : List Token) where
  -- ---- members

  begun_base_by : (sofar : List (List ℕ)) (k : Option Mark) → Begun tokens (member_grammar.base_by tokens sofar k)
  begun_base_by sofar (Some m.Dot) = b_skip tokens _ (c_then tokens _ _ (c_one tokens any_name Other refl) (λ name. c_give tokens _))
  begun_base_by sofar _ = b_clear tokens (c_give tokens _)

  clear_base : Clear tokens (base tokens)
  clear_base = c_at tokens (λ place. Then (OneOf tokens root_of Other) (λ first. Then (Loop (λ sofar. Look (mark_at tokens) (member_grammar.base_by tokens sofar)) [])
      (λ names. give (record { place = place_at tokens place; root = first; names = names }))))
      (λ at. c_then tokens _ _ (c_one tokens root_of Other refl) (λ first. c_then tokens _ _ (c_loop tokens _ (λ sofar. c_mark tokens _ (c_give tokens _) (begun_base_by sofar)) []) (λ names. c_give tokens _)))

  begun_extends_by : (k : Option Mark) → Begun tokens (extends_by tokens k)
  begun_extends_by (Some m.Extends) = b_skip tokens _ (c_then tokens _ _ clear_base (λ b. c_give tokens _))
  begun_extends_by _ = b_clear tokens (c_give tokens _)

  clear_item : Clear tokens (item tokens)
  clear_item = c_then tokens _ _ (clear_new_name tokens) (λ name. c_then tokens _ _ (clear_value tokens) (λ x. c_give tokens _))

  begun_enum_name_by : (place : Place) (name : Option (List ℕ)) → Begun tokens (enum_name_by tokens place name)
  begun_enum_name_by place (Some name) = b_skip tokens _ (c_give tokens _)
  begun_enum_name_by place None = b_clear tokens (c_give tokens _)

  clear_enum_name : Clear tokens (enum_name tokens)
  clear_enum_name = c_at tokens (λ place. Look (λ to. any_name (kind_at tokens to)) (enum_name_by tokens (place_at tokens place)))
      (λ at. c_look tokens _ _ (λ k to. any_name k) (λ to. refl) (λ to. c_give tokens _) (begun_enum_name_by (place_at tokens at)))

  begun_enum : (place : Place) → Begun tokens (enum tokens place)
  begun_enum place = b_skip tokens _ (c_then tokens _ _ clear_enum_name (λ name. c_then tokens _ _ (c_due tokens Other m.LBrace refl) (λ _. c_then tokens _ _ (c_list tokens (item tokens) clear_item m.RBrace refl) (λ all. c_give tokens _))))

  module _ (what : List Param → Reading Declared) (w : (before : List Param) → Clear tokens (what before)) where
    begun_param_by : (sofar : List Param) (place : Place) (name : Option (List ℕ)) → Begun tokens (param_by tokens what sofar place name)
    begun_param_by sofar place (Some name) = b_stay tokens _ _ (s_below tokens (length sofar) max_params) (λ _. b_skip tokens _ (c_then tokens _ _ (w sofar) (λ x. c_give tokens _)))
    begun_param_by sofar place None = b_clear tokens (c_refuse tokens Parameter)

    clear_param : (sofar : List Param) → Clear tokens (param tokens what sofar)
    clear_param sofar = c_at tokens (λ place. Look (λ to. any_name (kind_at tokens to)) (param_by tokens what sofar (place_at tokens place)))
        (λ at. c_look tokens _ _ (λ k to. any_name k) (λ to. refl) (λ to. c_refuse tokens Parameter) (begun_param_by sofar (place_at tokens at)))

    clear_params_by : (sofar : List Param) (k : Option Mark) → Clear tokens (params_by tokens what sofar k)
    clear_params_by sofar (Some m.RParen) = c_give tokens _
    clear_params_by sofar _ = c_then tokens _ _ (clear_param sofar) (λ x. c_comma tokens (sofar ++ x ∷ []))

    clear_params : Clear tokens (params tokens what)
    clear_params = c_then tokens _ _ (c_loop tokens _ (λ sofar. c_any tokens _ _ (clear_params_by sofar)) []) (λ all. c_then tokens _ _ (c_due tokens Other m.RParen refl) (λ _. c_give tokens _))

  clear_signal_param : (before : List Param) → Clear tokens (signal_param tokens before)
  clear_signal_param before = c_then tokens _ _ (clear_type tokens Other) (λ t. c_give tokens _)

  clear_defaulted : (due : Bool) (x : Declared) → Clear tokens (defaulted tokens due x)
  clear_defaulted due x = c_either tokens (due && not (has_value x)) _ _ (c_refuse tokens Other) (c_give tokens x)

  clear_func_param : (before : List Param) → Clear tokens (func_param tokens before)
  clear_func_param before = c_then tokens _ _ (clear_declared tokens Other) (λ x. clear_defaulted _ x)

  begun_signal_by : (k : Option Mark) → Begun tokens (signal_by tokens k)
  begun_signal_by (Some m.LParen) = b_skip tokens _ (clear_params (signal_param tokens) clear_signal_param)
  begun_signal_by _ = b_clear tokens (c_give tokens _)

  begun_signal : (place : Place) → Begun tokens (signal tokens place)
  begun_signal place = b_skip tokens _ (c_then tokens _ _ (clear_new_name tokens) (λ name. c_then tokens _ _ (c_mark tokens _ (c_give tokens _) begun_signal_by) (λ all. c_give tokens _)))

  begun_result_by : (k : Option Mark) → Begun tokens (result_by tokens k)
  begun_result_by (Some m.Arrow) = b_skip tokens _ (c_then tokens _ _ (clear_result_type tokens) (λ t. c_give tokens _))
  begun_result_by _ = b_clear tokens (c_give tokens _)

  clear_func : (place : Place) (before : List Annotation) (is_static : Bool) → Clear tokens (func tokens place before is_static)
  clear_func place before is_static = c_then tokens _ _ (clear_new_name tokens) (λ name. c_then tokens _ _ (c_due tokens Other m.LParen refl)
      (λ _. c_then tokens _ _ (clear_params (func_param tokens) clear_func_param) (λ all. c_then tokens _ _ (c_mark tokens _ (c_give tokens _) begun_result_by)
      (λ t. c_then tokens _ _ (c_due tokens Other m.Colon refl) (λ _. c_then tokens _ _ (clear_block tokens max_blocks) (λ body. c_give tokens _))))))

  begun_annotated_by : (place : Place) (before : List Annotation) (k : Option Mark) → Begun tokens (annotated_by tokens place before k)
  begun_annotated_by place before (Some m.Var) = b_then tokens _ _ (begun_var tokens place before) (λ v. c_then tokens _ _ (c_due tokens Other m.Newline refl) (λ _. c_give tokens _))
  begun_annotated_by place before (Some m.Func) = b_either tokens (list_any is_field_annotation before) _ _ (b_clear tokens (c_refuse tokens Other))
      (b_skip tokens _ (c_then tokens _ _ (clear_func place before false) (λ f. c_give tokens _)))
  begun_annotated_by place before (Some m.Static) = b_either tokens (list_any is_field_annotation before) _ _ (b_clear tokens (c_refuse tokens Other))
      (b_skip tokens _ (c_then tokens _ _ (c_due tokens StaticFunc m.Func refl) (λ _. c_then tokens _ _ (clear_func place before true) (λ f. c_give tokens _))))
  begun_annotated_by place before _ = b_clear tokens (c_refuse tokens Other)

  clear_annotated : (place : Place) (before : List Annotation) → Clear tokens (annotated tokens place before)
  clear_annotated place before = c_mark tokens _ (c_refuse tokens Other) (begun_annotated_by place before)

  begun_plain : {A : Type 0} (classes : ℕ) (reading : Reading A) → Begun tokens reading → Begun tokens (plain tokens classes reading)
  begun_plain classes reading r = b_then tokens _ _ r (λ x. c_give tokens _)

  begun_pass : (place : Place) → Begun tokens (pass tokens place)
  begun_pass place = b_skip tokens _ (c_then tokens _ _ (c_due tokens Other m.Newline refl) (λ _. c_give tokens _))

  begun_const_line : (place : Place) → Begun tokens (const_line tokens place)
  begun_const_line place = b_then tokens _ _ (begun_const tokens place) (λ c. c_then tokens _ _ (c_due tokens Other m.Newline refl) (λ _. c_give tokens _))

  begun_enum_line : (place : Place) → Begun tokens (enum_line tokens place)
  begun_enum_line place = b_then tokens _ _ (begun_enum place) (λ x. c_then tokens _ _ (c_due tokens Other m.Newline refl) (λ _. c_give tokens _))

  begun_signal_line : (place : Place) → Begun tokens (signal_line tokens place)
  begun_signal_line place = b_then tokens _ _ (begun_signal place) (λ x. c_then tokens _ _ (c_due tokens Other m.Newline refl) (λ _. c_give tokens _))

  module _ (inner : ℕ → Reading (List Member × ℕ)) (i : (classes : ℕ) → Clear tokens (inner classes)) where
    begun_class : (classes : ℕ) (place : Place) → Begun tokens (class tokens inner classes place)
    begun_class classes place = b_stay tokens _ _ (s_below tokens classes max_classes) (λ _. b_skip tokens _ (c_then tokens _ _ (clear_new_name tokens)
        (λ name. c_then tokens _ _ (c_mark tokens _ (c_give tokens _) begun_extends_by) (λ b. c_then tokens _ _ (c_due tokens Other m.Colon refl) (λ _. c_then tokens _ _ (i (classes + 1)) (λ all. c_give tokens _))))))

    begun_member_by : (classes : ℕ) (place : Place) (k : Option Mark) → Begun tokens (member_by tokens inner classes place k)
    begun_member_by classes place (Some m.Pass) = begun_plain classes _ (begun_pass place)
    begun_member_by classes place (Some m.Const) = begun_plain classes _ (begun_const_line place)
    begun_member_by classes place (Some m.Enum) = begun_plain classes _ (begun_enum_line place)
    begun_member_by classes place (Some m.Signal) = begun_plain classes _ (begun_signal_line place)
    begun_member_by classes place (Some m.Class) = begun_class classes place
    begun_member_by classes place _ = begun_plain classes _ (b_clear tokens (c_then tokens _ _ (clear_annots tokens is_member_word) (λ before. clear_annotated place before)))

    begun_member : (classes : ℕ) → Begun tokens (member tokens inner classes)
    begun_member classes = b_at tokens (λ place. Look (mark_at tokens) (member_by tokens inner classes (place_at tokens place))) (λ at. b_any tokens _ _ (begun_member_by classes (place_at tokens at)))

    begun_members_by : (sofar : List Member × ℕ) (b : Bool) → Begun tokens (members_by tokens inner sofar b)
    begun_members_by sofar true = b_stay tokens _ _ (s_below tokens (length sofar.0) max_members) (λ _. b_then tokens _ _ (begun_member sofar.1) (λ x. c_give tokens _))
    begun_members_by sofar false = b_clear tokens (c_give tokens _)

    clear_members : (sofar : List Member × ℕ) → Clear tokens (members tokens inner sofar)
    clear_members sofar = c_loop tokens _ (λ all. c_look tokens _ _ (λ k at. is_member (mark_of k)) (λ at. refl) (λ at. c_give tokens _) (begun_members_by all)) sofar

  clear_class_block : (room classes : ℕ) → Clear tokens (class_block tokens room classes)
  unfolding class_block
  clear_class_block zero classes = c_stops tokens _
  clear_class_block (suc room) classes = c_then tokens _ _ (c_due tokens Other m.Newline refl) (λ _. c_then tokens _ _ (c_due tokens Other m.Indent refl)
      (λ _. c_then tokens _ _ (clear_members (class_block tokens room) (clear_class_block room) ([], classes)) (λ all. c_then tokens _ _ (c_due tokens Other m.Dedent refl) (λ _. c_give tokens _))))

-- ---- the names of heads

head_case : (x : Head) (more others : Option Global) (g : Global) → named_onto x more ≡ Some g → (more ≡ Some g → others ≡ Some g) → named_onto x others ≡ Some g
head_case (h.ClassName place name b) more others g e f = e
head_case (h.Extends place b) more others g e f = f e
head_case (h.Annotation a) more others g e f = f e

name_on : (xs ys : List Head) (g : Global) → heads_name xs ≡ Some g → heads_name (xs ++ ys) ≡ Some g
unfolding heads_name
name_on [] ys g e = absurd (cc e)
name_on (x ∷ xs) ys g e = head_case x (heads_name xs) (heads_name (xs ++ ys)) g e (name_on xs ys g)

none_case : (x : Head) (more others : Option Global) (o : Option Global) → named_onto x more ≡ None → (more ≡ None → others ≡ o) → named_onto x others ≡ o
none_case (h.ClassName place name b) more others o e f = absurd (cc e)
none_case (h.Extends place b) more others o e f = f e
none_case (h.Annotation a) more others o e f = f e

none_on : (xs ys : List Head) → heads_name xs ≡ None → heads_name (xs ++ ys) ≡ heads_name ys
unfolding heads_name
none_on [] ys e = refl
none_on (x ∷ xs) ys e = none_case x (heads_name xs) (heads_name (xs ++ ys)) (heads_name ys) e (none_on xs ys)

none_annotated : (all : List Annotation) → heads_name (map h.Annotation all) ≡ None
unfolding heads_name
none_annotated [] = refl
none_annotated (a ∷ all) = none_annotated all

none_yet : heads_name [] ≡ None
unfolding heads_name
none_yet = refl

one_annotation : (a : Annotation) → heads_name (h.Annotation a ∷ []) ≡ None
unfolding heads_name
one_annotation a = refl

one_base : (place : Place) (b : Base) → heads_name (h.Extends place b ∷ []) ≡ None
unfolding heads_name
one_base place b = refl

one_name : (place : Place) (name : Identifier) (b : Option Base) → heads_name (h.ClassName place name b ∷ []) ≡ Some (record { name = name.name; place = name.place })
unfolding heads_name
one_name place name b = refl

-- only a name is one
name_kind : (kind : Kind) (text : List ℕ) → any_name kind ≡ Some text → kind ≡ Name text
name_kind (Name word) text e = let same : word ≡ text = cc e in ap Name same
name_kind (Int n) text e = absurd (cc)
name_kind (Text text) word e = absurd (cc)
name_kind (Marked mark) text e = absurd (cc)

mark_kind : (kind : Kind) (wanted : Mark) → mark_of kind ≡ Some wanted → kind ≡ Marked wanted
mark_kind (Name word) wanted e = absurd (cc)
mark_kind (Int n) wanted e = absurd (cc)
mark_kind (Text text) wanted e = absurd (cc)
mark_kind (Marked mark) wanted e = let same : mark ≡ wanted = cc e in ap Marked same

module _ (tokens : List Token) (header_end : Place) where
  -- the first `class_name` of the tokens, which stands in the header, with the name behind it
  pub record IsFirst (g : Global) : Type 0 where
    pub at : ℕ
    pub word : kind_at tokens at ≡ Marked m.ClassName
    pub known : in_header tokens header_end at ≡ true
    pub name_is : kind_at tokens (at + 1) ≡ Name g.name
    pub name_place : place_at tokens (at + 1) ≡ g.place
    pub free : Free tokens 0 at

  -- what heads that are read up to a place give
  pub data Words (heads : List Head) (next : ℕ) : Type 0 where
    none : heads_name heads ≡ None → Free tokens 0 next → Words heads next
    one : (g : Global) → heads_name heads ≡ Some g → IsFirst g → Words heads next

  further : (heads more : List Head) (at next : ℕ) → Words heads at → heads_name more ≡ None → Free tokens at next → Words (heads ++ more) next
  further heads more at next (Words.none e free) lacks on = Words.none (none_on heads more e ∙ lacks) (free_on tokens 0 at next free on)
  further heads more at next (Words.one g e first) lacks on = Words.one g (name_on heads more g e) first

  onward : (heads : List Head) (at next : ℕ) → Words heads at → Free tokens at next → Words heads next
  onward heads at next (Words.none e free) on = Words.none e (free_on tokens 0 at next free on)
  onward heads at next (Words.one g e first) on = Words.one g e first

  worded : (heads : List Head) (place : Place) (name : Identifier) (b : Option Base) (at next : ℕ) → Words heads at → kind_at tokens at ≡ Marked m.ClassName → in_header tokens header_end at ≡ true
      → kind_at tokens (at + 1) ≡ Name name.name → place_at tokens (at + 1) ≡ name.place → Words (heads ++ h.ClassName place name b ∷ []) next
  worded heads place name b at next (Words.none e free) word known name_is name_place =
      Words.one (record { name = name.name; place = name.place }) (none_on heads _ e ∙ one_name place name b) (record { at = at; word = word; known = known; name_is = name_is; name_place = name_place; free = free })
  worded heads place name b at next (Words.one g e first) word known name_is name_place = Words.one g (name_on heads _ g e) first

  abbrev found : ℕ → Bool
  found = in_header tokens header_end

  abbrev After : Turn Heads → ℕ → Type 0
  After (On sofar) next = Words sofar.0 next
  After (Last sofar) next = Words sofar.0 next

  first_by : (heads : List Head) (a : Annotation) (b : Bool) (at next : ℕ) → Words heads at → Free tokens at next → Words (with_first heads a b).0 next
  first_by heads a true at next w free = further heads _ at next w (one_annotation a) free
  first_by heads a false at next w free = onward heads at next w free

  annotation_by : (heads : List Head) (before : List Annotation) (a : Annotation) (at next : ℕ) → Words heads at → Free tokens at next → Words (with_annotation heads before a).0 next
  annotation_by heads [] a at next w free = first_by heads a (is_head_annotation a) at next w free
  annotation_by heads (b ∷ before) a at next w free = onward heads at next w free

  annotated_on : (heads : List Head) (all : List Annotation) (at : ℕ) → Words heads at → Words (heads ++ map h.Annotation all) at
  annotated_on heads all at w = further heads _ at at w (none_annotated all) (free_none tokens at at refl)

  begun_extends : (place : Place) → Begun tokens (extends tokens found place)
  begun_extends place = b_skip tokens _ (c_then tokens _ _ (clear_base tokens) (λ b. c_then tokens _ _ (c_due tokens Other m.Newline refl) (λ _. c_give tokens _)))

  extends_after : (sofar : Heads) (place : Place) (at next : ℕ) (t : Turn Heads) → Words sofar.0 at → IsOther tokens at → Then (extends tokens found place) (λ x. give (On (with_head sofar x))) at (Read t next) → After t next
  extends_after sofar place at next t w other (goes {a = x} {next = n} read r) = extended x n read r
    where
      extended : (x : Head) (n : ℕ) → extends tokens found place at (Read x n) → Read t next ≡ Read (On (with_head sofar x)) n → After t next
      extended x n (goes y (goes {a = b} z (goes u e))) r =
          let is : h.Extends place b ≡ x = cc e in
          let free = (begun_extends place).passes at n x other (goes y (goes z (goes u e))) in
          let all = further (sofar.0 ++ map h.Annotation sofar.1) _ at n (annotated_on sofar.0 sofar.1 at w) (one_base place b) free in
          let same : On (with_head sofar (h.Extends place b)) ≡ t = ap (λ y. On (with_head sofar y)) is ∙ (cc r) in
          let there : n ≡ next = cc r in
          subst (λ k. After t k) there (subst (λ u. After u n) same all)

  new_name_is : (at next : ℕ) (name : Identifier) → new_name tokens at (Read name next) → (kind_at tokens at ≡ Name name.name) × (place_at tokens at ≡ name.place)
  new_name_is at next name (goes {a = text} (OneOf.found e) r) =
      let same : record { place = place_at tokens at; name = text } ≡ name = cc r in
      subst (λ (n : Identifier). (kind_at tokens at ≡ Name n.name) × (place_at tokens at ≡ n.place)) same (name_kind (kind_at tokens at) text e, refl)

  class_name_is : (based : Bool) (place : Place) (at next : ℕ) (x : Head) → class_name tokens found based place at (Read x next)
      → (name : Identifier) × (b : Option Base) × (x ≡ h.ClassName place name b) × (kind_at tokens (at + 1) ≡ Name name.name) × (place_at tokens (at + 1) ≡ name.place)
  class_name_is based place at next x (goes {next = n} e (goes {a = name} {next = k} named (goes {a = b} _ (goes _ r)))) =
      let there : n ≡ at + 1 = cc e in
      let is = new_name_is (at + 1) k name (subst (λ to. new_name tokens to (Read name k)) there named) in
      (name, b, cc r, is.0, is.1)

  named_after : (sofar : Heads) (based : Bool) (place : Place) (at next : ℕ) (t : Turn Heads) → Words sofar.0 at → kind_at tokens at ≡ Marked m.ClassName → found at ≡ true
      → Then (class_name tokens found based place) (λ x. give (On (with_head sofar x))) at (Read t next) → After t next
  named_after sofar based place at next t w word known (goes {a = x} {next = k} read r) =
      let is = class_name_is based place at k x read in
      let all = worded (sofar.0 ++ map h.Annotation sofar.1) place is.0 is.1 at next (annotated_on sofar.0 sofar.1 at w) word known is.3 is.4 in
      let same : On (with_head sofar (h.ClassName place is.0 is.1)) ≡ t = ap (λ y. On (with_head sofar y)) (sym is.2) ∙ (cc r) in
      subst (λ u. After u next) same all

  named_case : (sofar : Heads) (a b known_at : Bool) (based : Bool) (place : Place) (at next : ℕ) (t : Turn Heads) (refused : Reading (Turn Heads)) → Words sofar.0 at → kind_at tokens at ≡ Marked m.ClassName → found at ≡ known_at
      → ((t : Turn Heads) → refused at (Read t next) → ⊥)
      → either (a || (b || not known_at)) refused (Then (class_name tokens found based place) (λ x. give (On (with_head sofar x)))) at (Read t next) → After t next
  named_case sofar true b known_at based place at next t refused w word known never r = absurd (never t r)
  named_case sofar false true known_at based place at next t refused w word known never r = absurd (never t r)
  named_case sofar false false false based place at next t refused w word known never r = absurd (never t r)
  named_case sofar false false true based place at next t refused w word known never r = named_after sofar based place at next t w word known r

  based_case : (sofar : Heads) (b : Bool) (place : Place) (at next : ℕ) (t : Turn Heads) (refused : Reading (Turn Heads)) → Words sofar.0 at → IsOther tokens at → ((t : Turn Heads) → refused at (Read t next) → ⊥)
      → either b refused (Then (extends tokens found place) (λ x. give (On (with_head sofar x)))) at (Read t next) → After t next
  based_case sofar true place at next t refused w other never r = absurd (never t r)
  based_case sofar false place at next t refused w other never r = extends_after sofar place at next t w other r

  annot_after : (sofar : Heads) (at next : ℕ) (t : Turn Heads) → Words sofar.0 at → IsOther tokens at → Then (annot tokens (may_follow sofar.1)) (λ a. give (On (with_annotation sofar.0 sofar.1 a))) at (Read t next) → After t next
  annot_after sofar at next t w other (goes {a = a} {next = n} read r) =
      let free = (begun_annot tokens (may_follow sofar.1)).passes at n a other read in
      let same : On (with_annotation sofar.0 sofar.1 a) ≡ t = cc r in
      let there : n ≡ next = cc r in
      subst (λ k. After t k) there (subst (λ u. After u n) same (annotation_by sofar.0 sofar.1 a at n w free))

  last_after : (sofar : Heads) (at next : ℕ) (t : Turn Heads) → Words sofar.0 at → Read t next ≡ Read (Last sofar) at → After t next
  last_after sofar at next t w r =
      let same : Last sofar ≡ t = cc r in
      let there : at ≡ next = cc r in
      subst (λ k. After t k) there (subst (λ u. After u at) same w)

  head_after : (sofar : Heads) (at next : ℕ) (t : Turn Heads) (k : Option Mark) → Words sofar.0 at → mark_at tokens at ≡ k → head_by tokens found sofar (place_at tokens at) (found at) k at (Read t next) → After t next
  head_after sofar at next t (Some m.At) w mark r = annot_after sofar at next t w (some_mark tokens (kind_at tokens at) m.At mark refl) r
  head_after sofar at next t (Some m.ClassName) w mark r =
      named_case sofar (list_any is_field_annotation sofar.1) (list_any is_named sofar.0) (found at) (list_any is_based sofar.0) (place_at tokens at) at next t _ w (mark_kind (kind_at tokens at) m.ClassName mark) refl (λ t e. cc e) r
  head_after sofar at next t (Some m.Extends) w mark r =
      based_case sofar (list_any is_field_annotation sofar.1 || list_any is_based sofar.0) (place_at tokens at) at next t _ w (some_mark tokens (kind_at tokens at) m.Extends mark refl) (λ t e. cc e) r
  head_after sofar at next t _ w mark r = last_after sofar at next t w r

  turn_after : (sofar : Heads) (at next : ℕ) (t : Turn Heads) → Words sofar.0 at → head tokens found sofar at (Read t next) → After t next
  turn_after sofar at next t w (looks {k = k} mark r) = head_after sofar at next t k w mark r

  loop_after : (sofar last : Heads) (at next : ℕ) → Words sofar.0 at → Loop (head tokens found) sofar at (Read last next) → Words last.0 next
  loop_after sofar last at next w (Loop.on {b = b} {next = n} x y) = loop_after b last n next (turn_after sofar at n (On b) w x) y
  loop_after sofar last at next w (Loop.last x) = turn_after sofar at next (Last last) w x

  clear_first_member : (before : List Annotation) → Clear tokens (first_member tokens found before)
  clear_first_member [] = c_give tokens _
  clear_first_member (a ∷ before) = c_either tokens (list_any is_head_annotation (a ∷ before)) _ _ (c_refuse tokens Other) (c_then tokens _ _ (clear_annotated tokens a.place (a ∷ before)) (λ x. c_give tokens _))

  clear_no_member : (before : List Annotation) → Clear tokens (no_member tokens found before)
  clear_no_member before = c_either tokens (list_any is_field_annotation before) _ _ (c_refuse tokens Other) (c_give tokens _)

  -- what is known of a script that is read
  pub record AreFound (heads : List Head) (next : ℕ) : Type 0 where
    pub words : Words heads next
    pub last : ℕ
    pub is_last : next ≡ last + 1
    pub end : kind_at tokens last ≡ Marked m.End

  end_of : (at next : ℕ) (a : Unit {0}) → Due tokens Other m.End at (Read a next) → (next ≡ at + 1) × (kind_at tokens at ≡ Marked m.End)
  end_of at next a (Due.found x) = (refl, mark_kind (kind_at tokens at) m.End x)

  rest_after : (place : Place) (heads : List Head) (first : List Member) (at next : ℕ) (tree : Script) → Words heads at → rest tokens found place heads first at (Read tree next) → AreFound tree.heads next
  rest_after place heads first at next tree w (goes {a = all} {next = n} x (goes {a = u} {next = k} y r)) =
      let free = (clear_members tokens (class_block tokens max_open_classes) (clear_class_block tokens max_open_classes) (first, 1)).passes at n all x in
      let over = end_of n k u y in
      let more = (c_due tokens Other m.End refl).passes n k u y in
      let is : record { place = place; heads = heads; members = all.0 } ≡ tree = cc r in
      let there : k ≡ next = cc r in
      let words : Words heads k = onward heads n k (onward heads at n w free) more in
      subst (λ (s : Script). AreFound s.heads next) is (record { words = subst (Words heads) there words; last = n; is_last = sym there ∙ over.0; end = over.1 })

  file_after : (place : Place) (sofar : Heads) (b : Bool) (at next : ℕ) (tree : Script) → Words sofar.0 at → file_by tokens found place sofar b at (Read tree next) → AreFound tree.heads next
  file_after place sofar true at next tree w (goes {a = first} {next = n} x y) =
      rest_after place sofar.0 first n next tree (onward sofar.0 at n w ((clear_first_member sofar.1).passes at n first x)) y
  file_after place sofar false at next tree w (goes {a = first} {next = n} x y) =
      rest_after place _ first n next tree (onward _ at n (annotated_on sofar.0 sofar.1 at w) ((clear_no_member sofar.1).passes at n first x)) y

  pub script_words : (next : ℕ) (tree : Script) → script tokens header_end 0 (Read tree next) → AreFound tree.heads next
  script_words next tree (goes {a = sofar} {next = n} x (looks {k = b} y r)) =
      file_after (place_at tokens 0) sofar b n next tree (loop_after ([], []) sofar 0 n (Words.none none_yet (free_none tokens 0 0 refl)) x) r
