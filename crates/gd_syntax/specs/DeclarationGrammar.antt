-- The grammar of annotations, variables and constants, which classes and blocks share.
use Rattle.std.specs.Prelude.{◌≡◌, ℕ, nat_lt, Bool, ◌||◌, if◌then◌else◌, List, [], ◌∷◌, ◌++◌, codes, bytes_eq, Option, Some, None}
use Rattle.gd_syntax.specs.declared.fault.Place.{Place}
use Rattle.gd_syntax.specs.declared.fault.FaultKind.TheVariants.{TooMany}
use Rattle.gd_syntax.specs.declared.token.Token.{Token}
use Rattle.gd_syntax.specs.declared.token.Kind.{Kind}
use Rattle.gd_syntax.specs.declared.token.Kind.TheVariants.{Mark as Marked, Name}
use Rattle.gd_syntax.specs.declared.token.Mark.{Mark}
use Rattle.gd_syntax.specs.declared.token.Mark.TheVariants as m
use Rattle.gd_syntax.specs.declared.tree.expr.Expr.{Expr}
use Rattle.gd_syntax.specs.declared.tree.member.Annotation.{Annotation}
use Rattle.gd_syntax.specs.declared.tree.member.Const.{Const}
use Rattle.gd_syntax.specs.declared.tree.member.Var.{Var}
use Rattle.gd_syntax.specs.declared.tree.type_name.Declared.{Declared}
use Rattle.gd_syntax.specs.declared.tree.type_name.Declared.TheVariants.{Typed, Inferred}
use Rattle.gd_syntax.specs.declared.tree.type_name.Identifier.{Identifier}
use Rattle.gd_syntax.specs.declared.tree.type_name.TypeName.{TypeName}
use Rattle.gd_syntax.specs.Operators.{AS}
use Rattle.gd_syntax.specs.Reading.{Read, Stops, Reading, ◌>>=◌, ◌>>◌, give, Look, Turn, On, Last, Loop}
use Rattle.gd_syntax.specs.declared.stops.Sought.{Sought}
use Rattle.gd_syntax.specs.declared.stops.Sought.TheVariants.{VarType, VarEnd, AnnotationName, Other}
use Rattle.gd_syntax.specs.TokenReading.{max_levels, any_name, mark_at, place_at, fault_at, skip, refuse, OneOf, list}
use Rattle.gd_syntax.specs.TypeGrammar.{type_name}
use Rattle.gd_syntax.specs.ExprGrammar.{expression}

-- the annotations of a file
abbrev pub is_head_word : List ℕ → Bool
is_head_word name = bytes_eq name (codes "tool") || bytes_eq name (codes "icon")

-- the annotations of a variable of a class
abbrev pub is_field_word : List ℕ → Bool
is_field_word name = bytes_eq name (codes "export") || bytes_eq name (codes "onready")

-- the annotation of any variable or function
abbrev pub is_ignore_word : List ℕ → Bool
is_ignore_word name = bytes_eq name (codes "warning_ignore")

-- the name of an annotation that may stand here
abbrev pub annotation_word : (List ℕ → Bool) → Kind → Option (List ℕ)
annotation_word may (Name text) = if may text then Some text else None
annotation_word may _ = None

-- the signs before the value of a constant, of which the tree tells nothing
abbrev pub const_sign : Kind → Option (Unit {0})
const_sign (Marked m.Assign) = Some tt
const_sign (Marked m.ColonAssign) = Some tt
const_sign _ = None

module _ (tokens : List Token) where
  -- an expression that is part of no form
  abbrev pub expr : Reading Expr
  expr = expression tokens max_levels AS

  -- so many more are not too many
  abbrev pub below : ℕ → ℕ → Reading (Unit {0})
  below n most = λ at o. o ≡ (if nat_lt n most then Read tt at else Stops (fault_at tokens TooMany at))

  -- a name that is declared, which may be any
  abbrev pub new_name : Reading Identifier
  new_name = λ at. (do name ← OneOf tokens any_name Other; give (record { place = place_at tokens at; name = name })) at

  -- ---- optional parts

  -- `: Type`
  abbrev pub type_by : Sought → Option Mark → Reading (Option TypeName)
  type_by sought (Some m.Colon) = do skip tokens; t ← type_name tokens sought; give (Some t)
  type_by sought _ = give None

  -- `= expr`
  abbrev pub value_by : Option Mark → Reading (Option Expr)
  value_by (Some m.Assign) = do skip tokens; x ← expr; give (Some x)
  value_by _ = give None

  -- `: Type = expr`, where each part may be missing, or `:= expr`
  abbrev pub declared_by : Sought → Option Mark → Reading Declared
  declared_by sought (Some m.ColonAssign) = do skip tokens; x ← expr; give (Inferred x)
  declared_by sought _ = do
    t ← Look (mark_at tokens) (type_by sought)
    x ← Look (mark_at tokens) value_by
    give (Typed t x)

  abbrev pub declared : Sought → Reading Declared
  declared sought = Look (mark_at tokens) (declared_by sought)

  -- ---- annotations, each of which a line's end may follow

  abbrev pub args_by : Option Mark → Reading (List Expr)
  args_by (Some m.LParen) = do skip tokens; list tokens expr m.RParen
  args_by _ = give []

  abbrev pub line_end_by : Option Mark → Reading (Unit {0})
  line_end_by (Some m.Newline) = skip tokens
  line_end_by _ = give tt

  -- from the `@` on
  abbrev pub annot : (List ℕ → Bool) → Reading Annotation
  annot may = λ at. (do
    skip tokens
    name ← OneOf tokens (annotation_word may) AnnotationName
    args ← Look (mark_at tokens) args_by
    Look (mark_at tokens) line_end_by
    give (record { place = place_at tokens at; name = name; args = args })) at

  abbrev pub annots_by : (List ℕ → Bool) → List Annotation → Option Mark → Reading (Turn (List Annotation))
  annots_by may sofar (Some m.At) = do a ← annot may; give (On (sofar ++ a ∷ []))
  annots_by may sofar _ = give (Last sofar)

  abbrev pub annots : (List ℕ → Bool) → Reading (List Annotation)
  annots may = Loop (λ sofar. Look (mark_at tokens) (annots_by may sofar)) []

  -- ---- variables and constants, from their keyword on

  -- a `:` after the type or the value would begin a property
  abbrev pub var_end_by : Var → Option Mark → Reading Var
  var_end_by tree (Some m.Colon) = refuse tokens VarEnd
  var_end_by tree _ = give tree

  abbrev pub var : Place → List Annotation → Reading Var
  var place before = do
    skip tokens
    name ← new_name
    what ← declared VarType
    Look (mark_at tokens) (var_end_by (record { place = place; annotations = before; name = name; declared = what }))

  abbrev pub const : Place → Reading Const
  const place = do
    skip tokens
    name ← new_name
    t ← Look (mark_at tokens) (type_by Other)
    OneOf tokens const_sign Other
    x ← expr
    give (record { place = place; name = name; type_name = t; value = x })
