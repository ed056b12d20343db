-- The grammar of a file: its heads, and its members.
use Rattle.std.specs.Prelude.{ℕ, ◌+◌, Bool, true, false, not, ◌&&◌, ◌||◌, ◌==◌, nat_lt, List, [], ◌∷◌, ◌++◌, map, Option, Some, None, is_some}
use Rattle.std.specs.List.{list_any}
use Rattle.gd_syntax.specs.declared.fault.Place.{Place}
use Rattle.gd_syntax.specs.declared.token.Token.{Token}
use Rattle.gd_syntax.specs.declared.token.Mark.{Mark}
use Rattle.gd_syntax.specs.declared.token.Mark.TheVariants as m
use Rattle.gd_syntax.specs.declared.tree.member.Annotation.{Annotation}
use Rattle.gd_syntax.specs.declared.tree.member.Base.{Base}
use Rattle.gd_syntax.specs.declared.tree.member.Head.{Head}
use Rattle.gd_syntax.specs.declared.tree.member.Head.TheVariants as h
use Rattle.gd_syntax.specs.declared.tree.member.Member.{Member}
use Rattle.gd_syntax.specs.declared.tree.member.Script.{Script}
use Rattle.gd_syntax.specs.Reading.{Reading, ◌>>=◌, ◌>>◌, give, either, Look, Turn, On, Last, Loop}
use Rattle.gd_syntax.specs.declared.stops.Sought.TheVariants.{Other}
use Rattle.gd_syntax.specs.TokenReading.{any_name, kind_at, mark_at, place_at, skip, refuse, Due}
use Rattle.gd_syntax.specs.DeclarationGrammar.{is_head_word, is_field_word, is_ignore_word, new_name, annot}
use Rattle.gd_syntax.specs.MemberGrammar.{max_open_classes, is_field_annotation, base, extends_by, annotated, class_block, members}

-- The heads so far, and the annotations behind them that may belong to the first member: from the first on that is no
-- annotation of a file.
abbrev pub Heads : Type 0
Heads = List Head × List Annotation

abbrev pub is_head_annotation : Annotation → Bool
is_head_annotation a = is_head_word a.name

-- The annotations that may follow. Behind one of a variable a variable is due. One of a file that stands behind others
-- stands before no variable, since these would belong to it.
abbrev pub may_follow : List Annotation → List ℕ → Bool
may_follow before name =
    is_ignore_word name
    || ((is_head_word name && not (list_any is_field_annotation before))
    || (is_field_word name && not (list_any is_head_annotation before)))

-- one of a file that nothing stands before is a head
abbrev pub with_first : List Head → Annotation → Bool → Heads
with_first heads a true = (heads ++ h.Annotation a ∷ [], [])
with_first heads a false = (heads, a ∷ [])

abbrev pub with_annotation : List Head → List Annotation → Annotation → Heads
with_annotation heads [] a = with_first heads a (is_head_annotation a)
with_annotation heads (b ∷ before) a = (heads, b ∷ before ++ a ∷ [])

-- a head behind annotations, which are heads then
abbrev pub with_head : Heads → Head → Heads
with_head sofar x = (sofar.0 ++ map h.Annotation sofar.1 ++ x ∷ [], [])

abbrev pub is_named : Head → Bool
is_named (h.ClassName place name b) = true
is_named _ = false

abbrev pub is_based : Head → Bool
is_based (h.ClassName place name (Some b)) = true
is_based (h.Extends place b) = true
is_based _ = false

-- whether a variable or a function begins with this token
abbrev pub is_annotated : Option Mark → Bool
is_annotated (Some m.Var) = true
is_annotated (Some m.Static) = true
is_annotated (Some m.Func) = true
is_annotated _ = false

-- whether a place stands before another
abbrev pub is_before : Place → Place → Bool
is_before a b = nat_lt a.line b.line || (a.line == b.line && nat_lt a.column b.column)

module _ (tokens : List Token) where
  -- `found` tells whether the header has the `class_name` at a place in the tokens
  module _ (found : ℕ → Bool) where
    -- ---- heads

    -- a file has one base at most
    abbrev pub base_by : Bool → Option Mark → Reading (Option Base)
    base_by based (Some m.Extends) = either based (refuse tokens Other) (extends_by tokens (Some m.Extends))
    base_by based _ = give None

    abbrev pub class_name : Bool → Place → Reading Head
    class_name based place = do
      skip tokens
      name ← new_name tokens
      b ← Look (mark_at tokens) (base_by based)
      Due tokens Other m.Newline
      give (h.ClassName place name b)

    abbrev pub extends : Place → Reading Head
    extends place = do skip tokens; b ← base tokens; Due tokens Other m.Newline; give (h.Extends place b)

    abbrev pub head_by : Heads → Place → Bool → Option Mark → Reading (Turn Heads)
    head_by sofar place known (Some m.At) = do a ← annot tokens (may_follow sofar.1); give (On (with_annotation sofar.0 sofar.1 a))
    head_by sofar place known (Some m.ClassName) = either (list_any is_field_annotation sofar.1 || (list_any is_named sofar.0 || not known)) (refuse tokens Other)
        (do x ← class_name (list_any is_based sofar.0) place; give (On (with_head sofar x)))
    head_by sofar place known (Some m.Extends) = either (list_any is_field_annotation sofar.1 || list_any is_based sofar.0) (refuse tokens Other)
        (do x ← extends place; give (On (with_head sofar x)))
    head_by sofar place known _ = give (Last sofar)

    abbrev pub head : Heads → Reading (Turn Heads)
    head sofar = λ at. Look (mark_at tokens) (head_by sofar (place_at tokens at) (found at)) at

    -- ---- the file

    -- The member that the annotations belong to, if there are any. Those of a file stand before none.
    abbrev pub first_member : List Annotation → Reading (List Member)
    first_member [] = give []
    first_member (a ∷ before) = either (list_any is_head_annotation (a ∷ before)) (refuse tokens Other)
        (do x ← annotated tokens a.place (a ∷ before); give (x ∷ []))

    -- before another token they are heads
    abbrev pub no_member : List Annotation → Reading (List Member)
    no_member before = either (list_any is_field_annotation before) (refuse tokens Other) (give [])

    abbrev pub rest : Place → List Head → List Member → Reading Script
    rest place heads first = do
      all ← members tokens (class_block tokens max_open_classes) (first, 1)
      Due tokens Other m.End
      give (record { place = place; heads = heads; members = all.0 })

    abbrev pub file_by : Place → Heads → Bool → Reading Script
    file_by place sofar true = do first ← first_member sofar.1; rest place sofar.0 first
    file_by place sofar false = do first ← no_member sofar.1; rest place (sofar.0 ++ map h.Annotation sofar.1) first

    -- a file, from its first token to its end
    abbrev pub file : Reading Script
    file = λ at. (do
      sofar ← Loop head ([], [])
      Look (λ to. is_annotated (mark_at tokens to)) (file_by (place_at tokens at) sofar)) at

  -- whether the token's name stands on a later line
  abbrev pub is_name_below : ℕ → Bool
  is_name_below at = is_some (any_name (kind_at tokens (at + 1))) && nat_lt (place_at tokens at).line (place_at tokens (at + 1)).line

  -- the header has a `class_name` that stands before its end, unless its name stands on a later line
  abbrev pub in_header : Place → ℕ → Bool
  in_header header_end at = is_before (place_at tokens at) header_end && not (is_name_below at)

  -- a file whose header lines end at this place
  abbrev pub script : Place → Reading Script
  script header_end = file (in_header header_end)
