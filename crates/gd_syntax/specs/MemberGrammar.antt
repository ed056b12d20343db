-- The grammar of classes and their members.
use Rattle.std.specs.Prelude.{ℕ, zero, suc, ◌+◌, Bool, true, false, not, ◌&&◌, ◌||◌, List, [], ◌∷◌, ◌++◌, length, Option, Some, None}
use Rattle.std.specs.List.{list_any}
use Rattle.gd_syntax.specs.declared.fault.Place.{Place}
use Rattle.gd_syntax.specs.declared.token.Token.{Token}
use Rattle.gd_syntax.specs.declared.token.Kind.{Kind}
use Rattle.gd_syntax.specs.declared.token.Kind.TheVariants.{Name, Text}
use Rattle.gd_syntax.specs.declared.token.Mark.{Mark}
use Rattle.gd_syntax.specs.declared.token.Mark.TheVariants as m
use Rattle.gd_syntax.specs.declared.tree.member.Annotation.{Annotation}
use Rattle.gd_syntax.specs.declared.tree.member.Base.{Base}
use Rattle.gd_syntax.specs.declared.tree.member.BaseRoot.{BaseRoot}
use Rattle.gd_syntax.specs.declared.tree.member.BaseRoot.TheVariants as root
use Rattle.gd_syntax.specs.declared.tree.member.Enum.{Enum}
use Rattle.gd_syntax.specs.declared.tree.member.EnumItem.{EnumItem}
use Rattle.gd_syntax.specs.declared.tree.member.Func.{Func}
use Rattle.gd_syntax.specs.declared.tree.member.Member.{Member}
use Rattle.gd_syntax.specs.declared.tree.member.Member.TheVariants as tree
use Rattle.gd_syntax.specs.declared.tree.member.Param.{Param}
use Rattle.gd_syntax.specs.declared.tree.member.Signal.{Signal}
use Rattle.gd_syntax.specs.declared.tree.type_name.Declared.{Declared}
use Rattle.gd_syntax.specs.declared.tree.type_name.Declared.TheVariants.{Typed, Inferred}
use Rattle.gd_syntax.specs.declared.tree.type_name.Identifier.{Identifier}
use Rattle.gd_syntax.specs.declared.tree.type_name.TypeName.{TypeName}
use Rattle.gd_syntax.specs.Reading.{Reading, ◌>>=◌, ◌>>◌, give, either, Look, Turn, On, Last, Loop}
use Rattle.gd_syntax.specs.declared.stops.Sought.TheVariants.{Parameter, StaticFunc, Other}
use Rattle.gd_syntax.specs.TokenReading.{any_name, kind_at, mark_at, place_at, skip, refuse, Due, OneOf, comma, list}
use Rattle.gd_syntax.specs.TypeGrammar.{result_type}
use Rattle.gd_syntax.specs.DeclarationGrammar.{is_field_word, is_ignore_word, below, new_name, type_by, value_by, declared, annots, var, const}
use Rattle.gd_syntax.specs.StatementGrammar.{max_blocks, too_deep, block}

abbrev pub max_params : ℕ
max_params = 64

-- how many members a class has at most
abbrev pub max_members : ℕ
max_members = 4096

-- how many classes a file has at most, its own with them
abbrev pub max_classes : ℕ
max_classes = 256

-- how many inner classes are open at one place at most
abbrev pub max_open_classes : ℕ
max_open_classes = 128

-- whether a member begins with this token
abbrev pub is_member : Option Mark → Bool
is_member (Some m.Pass) = true
is_member (Some m.At) = true
is_member (Some m.Var) = true
is_member (Some m.Const) = true
is_member (Some m.Enum) = true
is_member (Some m.Signal) = true
is_member (Some m.Static) = true
is_member (Some m.Func) = true
is_member (Some m.Class) = true
is_member _ = false

-- the text or the name that begins a base
abbrev pub root_of : Kind → Option BaseRoot
root_of (Text text) = Some (root.Path text)
root_of (Name text) = Some (root.Name text)
root_of _ = None

abbrev pub has_value : Declared → Bool
has_value (Typed t (Some x)) = true
has_value (Typed t None) = false
has_value (Inferred x) = true

abbrev pub is_field_annotation : Annotation → Bool
is_field_annotation a = is_field_word a.name

-- the annotations of members
abbrev pub is_member_word : List ℕ → Bool
is_member_word name = is_field_word name || is_ignore_word name

module _ (tokens : List Token) where
  -- ---- bases

  abbrev pub base_by : List (List ℕ) → Option Mark → Reading (Turn (List (List ℕ)))
  base_by sofar (Some m.Dot) = do skip tokens; name ← OneOf tokens any_name Other; give (On (sofar ++ name ∷ []))
  base_by sofar _ = give (Last sofar)

  abbrev pub base : Reading Base
  base = λ at. (do
    first ← OneOf tokens root_of Other
    names ← Loop (λ sofar. Look (mark_at tokens) (base_by sofar)) []
    give (record { place = place_at tokens at; root = first; names = names })) at

  -- `extends base`, which may be missing
  abbrev pub extends_by : Option Mark → Reading (Option Base)
  extends_by (Some m.Extends) = do skip tokens; b ← base; give (Some b)
  extends_by _ = give None

  -- ---- enums

  abbrev pub item : Reading EnumItem
  item = do name ← new_name tokens; x ← Look (mark_at tokens) (value_by tokens); give (record { name = name; value = x })

  abbrev pub enum_name_by : Place → Option (List ℕ) → Reading (Option Identifier)
  enum_name_by place (Some name) = do skip tokens; give (Some (record { place = place; name = name }))
  enum_name_by place None = give None

  abbrev pub enum_name : Reading (Option Identifier)
  enum_name = λ at. Look (λ to. any_name (kind_at tokens to)) (enum_name_by (place_at tokens at)) at

  abbrev pub enum : Place → Reading Enum
  enum place = do
    skip tokens
    name ← enum_name
    Due tokens Other m.LBrace
    all ← list tokens item m.RBrace
    give (record { place = place; name = name; items = all })

  -- ---- parameters. `what` reads what a parameter is declared to be, after those before it.

  module _ (what : List Param → Reading Declared) where
    abbrev pub param_by : List Param → Place → Option (List ℕ) → Reading Param
    param_by sofar place (Some name) = do
      below tokens (length sofar) max_params
      skip tokens
      x ← what sofar
      give (record { name = record { place = place; name = name }; declared = x })
    param_by sofar place None = refuse tokens Parameter

    abbrev pub param : List Param → Reading Param
    param sofar = λ at. Look (λ to. any_name (kind_at tokens to)) (param_by sofar (place_at tokens at)) at

    abbrev pub params_by : List Param → Option Mark → Reading (Turn (List Param))
    params_by sofar (Some m.RParen) = give (Last sofar)
    params_by sofar _ = do x ← param sofar; comma tokens (sofar ++ x ∷ [])

    -- from behind the bracket that opens the list, up to the one that closes it
    abbrev pub params : Reading (List Param)
    params = do
      all ← Loop (λ sofar. Look (mark_at tokens) (params_by sofar)) []
      Due tokens Other m.RParen
      give all

  -- a parameter of a signal has no default
  abbrev pub signal_param : List Param → Reading Declared
  signal_param before = do t ← Look (mark_at tokens) (type_by tokens Other); give (Typed t None)

  -- a default is due where a parameter before has one
  abbrev pub defaulted : Bool → Declared → Reading Declared
  defaulted due x = either (due && not (has_value x)) (refuse tokens Other) (give x)

  abbrev pub func_param : List Param → Reading Declared
  func_param before = do x ← declared tokens Other; defaulted (list_any (λ p. has_value p.declared) before) x

  -- ---- signals and functions

  abbrev pub signal_by : Option Mark → Reading (List Param)
  signal_by (Some m.LParen) = do skip tokens; params signal_param
  signal_by _ = give []

  abbrev pub signal : Place → Reading Signal
  signal place = do
    skip tokens
    name ← new_name tokens
    all ← Look (mark_at tokens) signal_by
    give (record { place = place; name = name; params = all })

  abbrev pub result_by : Option Mark → Reading (Option TypeName)
  result_by (Some m.Arrow) = do skip tokens; t ← result_type tokens; give (Some t)
  result_by _ = give None

  -- from behind `func`
  abbrev pub func : Place → List Annotation → Bool → Reading Func
  func place before is_static = do
    name ← new_name tokens
    Due tokens Other m.LParen
    all ← params func_param
    t ← Look (mark_at tokens) result_by
    Due tokens Other m.Colon
    body ← block tokens max_blocks
    give (record { place = place; annotations = before; is_static = is_static; name = name; params = all; result = t; body = body })

  -- the variable or function behind its annotations; those of a variable stand before no function
  abbrev pub annotated_by : Place → List Annotation → Option Mark → Reading Member
  annotated_by place before (Some m.Var) = do v ← var tokens place before; Due tokens Other m.Newline; give (tree.Var v)
  annotated_by place before (Some m.Func) = either (list_any is_field_annotation before) (refuse tokens Other)
      (do skip tokens; f ← func place before false; give (tree.Func f))
  annotated_by place before (Some m.Static) = either (list_any is_field_annotation before) (refuse tokens Other)
      (do skip tokens; Due tokens StaticFunc m.Func; f ← func place before true; give (tree.Func f))
  annotated_by place before _ = refuse tokens Other

  abbrev pub annotated : Place → List Annotation → Reading Member
  annotated place before = Look (mark_at tokens) (annotated_by place before)

  -- ---- members. With each comes how many classes have begun in the file. `inner` reads the members of an inner class
  -- behind its `:`, of which that class is the last that has begun.

  -- a member that holds no class
  abbrev pub plain : {A : Type 0} → ℕ → Reading A → Reading (A × ℕ)
  plain classes reading = do x ← reading; give (x, classes)

  abbrev pub pass : Place → Reading Member
  pass place = do skip tokens; Due tokens Other m.Newline; give (tree.Pass place)

  abbrev pub const_line : Place → Reading Member
  const_line place = do c ← const tokens place; Due tokens Other m.Newline; give (tree.Const c)

  abbrev pub enum_line : Place → Reading Member
  enum_line place = do x ← enum place; Due tokens Other m.Newline; give (tree.Enum x)

  abbrev pub signal_line : Place → Reading Member
  signal_line place = do x ← signal place; Due tokens Other m.Newline; give (tree.Signal x)

  module _ (inner : ℕ → Reading (List Member × ℕ)) where
    abbrev pub class : ℕ → Place → Reading (Member × ℕ)
    class classes place = do
      below tokens classes max_classes
      skip tokens
      name ← new_name tokens
      b ← Look (mark_at tokens) extends_by
      Due tokens Other m.Colon
      all ← inner (classes + 1)
      give (tree.Class (record { place = place; name = name; base = b; members = all.0 }), all.1)

    abbrev pub member_by : ℕ → Place → Option Mark → Reading (Member × ℕ)
    member_by classes place (Some m.Pass) = plain classes (pass place)
    member_by classes place (Some m.Const) = plain classes (const_line place)
    member_by classes place (Some m.Enum) = plain classes (enum_line place)
    member_by classes place (Some m.Signal) = plain classes (signal_line place)
    member_by classes place (Some m.Class) = class classes place
    member_by classes place _ = plain classes (do before ← annots tokens is_member_word; annotated place before)

    abbrev pub member : ℕ → Reading (Member × ℕ)
    member classes = λ at. Look (mark_at tokens) (member_by classes (place_at tokens at)) at

    -- a further member, after those before it
    abbrev pub members_by : List Member × ℕ → Bool → Reading (Turn (List Member × ℕ))
    members_by sofar true = do below tokens (length sofar.0) max_members; x ← member sofar.1; give (On (sofar.0 ++ x.0 ∷ [], x.1))
    members_by sofar false = give (Last sofar)

    abbrev pub members : List Member × ℕ → Reading (List Member × ℕ)
    members = Loop (λ sofar. Look (λ at. is_member (mark_at tokens at)) (members_by sofar))

  -- the members of an inner class behind its `:`, where so many more classes may be open
  unfoldable pub class_block : ℕ → ℕ → Reading (List Member × ℕ)
  class_block zero classes = too_deep tokens
  class_block (suc room) classes = do
    Due tokens Other m.Newline
    Due tokens Other m.Indent
    all ← members (class_block room) ([], classes)
    Due tokens Other m.Dedent
    give all
