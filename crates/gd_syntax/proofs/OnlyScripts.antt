-- No reading of a file has two outcomes.
use Rattle.std.proofs.Common.{ℕ, Bool, true, false, not, ◌||◌, List, [], ◌∷◌, Option, Some}
use Rattle.std.specs.List.{list_any}
use Rattle.gd_syntax.specs.declared.fault.Place.{Place}
use Rattle.gd_syntax.specs.declared.token.Token.{Token}
use Rattle.gd_syntax.specs.declared.token.Mark.{Mark}
use Rattle.gd_syntax.specs.declared.token.Mark.TheVariants as m
use Rattle.gd_syntax.specs.declared.tree.member.Annotation.{Annotation}
use Rattle.gd_syntax.specs.declared.tree.member.Head.{Head}
use Rattle.gd_syntax.specs.declared.tree.member.Member.{Member}
use Rattle.gd_syntax.specs.declared.stops.Sought.TheVariants.{Other}
use Rattle.gd_syntax.specs.TokenReading.{place_at}
use Rattle.gd_syntax.specs.MemberGrammar.{max_open_classes, is_field_annotation, class_block}
use Rattle.gd_syntax.specs.ScriptGrammar.{Heads, is_head_annotation, may_follow, is_named, is_based, base_by, class_name, extends, head_by, head, first_member, no_member, rest, file_by, file, in_header, script}
use Rattle.gd_syntax.proofs.Only.{Only, only_is, only_then, only_look, only_loop, only_either, only_skip, only_due}
use Rattle.gd_syntax.proofs.OnlyDeclarations.{only_new_name, only_annot}
use Rattle.gd_syntax.proofs.OnlyMembers.{only_base, only_extends_by, only_annotated, only_members, only_class_block}

module _ (tokens : List Token) where
  module _ (found : ℕ → Bool) where
    only_base_by : (based : Bool) (k : Option Mark) → Only (base_by tokens found based k)
    only_base_by based (Some m.Extends) = only_either based _ _ (only_is _) (only_extends_by tokens (Some m.Extends))
    only_base_by based _ = only_is _

    only_class_name : (based : Bool) (place : Place) → Only (class_name tokens found based place)
    only_class_name based place = only_then _ _ (only_skip tokens) (λ _. only_then _ _ (only_new_name tokens)
        (λ name. only_then _ _ (only_look _ _ (only_base_by based)) (λ b. only_then _ _ (only_due tokens Other m.Newline) (λ _. only_is _))))

    only_extends : (place : Place) → Only (extends tokens found place)
    only_extends place = only_then _ _ (only_skip tokens) (λ _. only_then _ _ (only_base tokens) (λ b. only_then _ _ (only_due tokens Other m.Newline) (λ _. only_is _)))

    only_head_by : (sofar : Heads) (place : Place) (known : Bool) (k : Option Mark) → Only (head_by tokens found sofar place known k)
    only_head_by sofar place known (Some m.At) = only_then _ _ (only_annot tokens (may_follow sofar.1)) (λ a. only_is _)
    only_head_by sofar place known (Some m.ClassName) = only_either (list_any is_field_annotation sofar.1 || (list_any is_named sofar.0 || not known)) _ _ (only_is _)
        (only_then _ _ (only_class_name (list_any is_based sofar.0) place) (λ x. only_is _))
    only_head_by sofar place known (Some m.Extends) = only_either (list_any is_field_annotation sofar.1 || list_any is_based sofar.0) _ _ (only_is _)
        (only_then _ _ (only_extends place) (λ x. only_is _))
    only_head_by sofar place known _ = only_is _

    only_head : (sofar : Heads) → Only (head tokens found sofar)
    only_head sofar at = only_look _ _ (only_head_by sofar (place_at tokens at) (found at)) at

    only_first_member : (before : List Annotation) → Only (first_member tokens found before)
    only_first_member [] = only_is _
    only_first_member (a ∷ before) = only_either (list_any is_head_annotation (a ∷ before)) _ _ (only_is _) (only_then _ _ (only_annotated tokens a.place (a ∷ before)) (λ x. only_is _))

    only_no_member : (before : List Annotation) → Only (no_member tokens found before)
    only_no_member before = only_either (list_any is_field_annotation before) _ _ (only_is _) (only_is _)

    only_rest : (place : Place) (heads : List Head) (first : List Member) → Only (rest tokens found place heads first)
    only_rest place heads first = only_then _ _ (only_members tokens (class_block tokens max_open_classes) (only_class_block tokens max_open_classes) (first, 1))
        (λ all. only_then _ _ (only_due tokens Other m.End) (λ _. only_is _))

    only_file_by : (place : Place) (sofar : Heads) (b : Bool) → Only (file_by tokens found place sofar b)
    only_file_by place sofar true = only_then _ _ (only_first_member sofar.1) (λ first. only_rest place sofar.0 first)
    only_file_by place sofar false = only_then _ _ (only_no_member sofar.1) (λ first. only_rest place _ first)

    pub only_file : Only (file tokens found)
    only_file at = only_then _ _ (only_loop _ only_head ([], [])) (λ sofar. only_look _ _ (only_file_by (place_at tokens at) sofar)) at

  pub only_script : (header_end : Place) → Only (script tokens header_end)
  only_script header_end = only_file (in_header tokens header_end)
