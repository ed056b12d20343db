-- A script that is read keeps the limits.
use Rattle.std.proofs.Common.{ℕ, Bool, true, false, List, [], ◌∷◌, refl, arith}
use Rattle.std.specs.List.{list_any}
use Rattle.gd_syntax.specs.declared.fault.Place.{Place}
use Rattle.gd_syntax.specs.declared.token.Token.{Token}
use Rattle.gd_syntax.specs.declared.tree.member.Annotation.{Annotation}
use Rattle.gd_syntax.specs.declared.tree.member.Head.{Head}
use Rattle.gd_syntax.specs.declared.tree.member.Member.{Member}
use Rattle.gd_syntax.specs.TokenReading.{place_at}
use Rattle.gd_syntax.specs.MemberGrammar.{max_open_classes, is_field_annotation, class_block}
use Rattle.gd_syntax.specs.ScriptGrammar.{Heads, is_head_annotation, first_member, no_member, rest, file_by, file, in_header, script}
use Rattle.grammar_laws.specs.Limits.{keeps, IsWithinLimits}
use Rattle.grammar_laws.proofs.LimitsOfMembers.{IsPlain, AreKept, plain_annotated, kept_members, kept_block, none_kept}
use Rattle.grammar_laws.proofs.LimitForms.{all_push}
use Rattle.grammar_laws.proofs.Gives.{Gives, gives_then, gives_after, gives_look, gives_either, gives_give, gives_stops}

abbrev Kept : List Member → Type 0
Kept first = AreKept 129 1 (first, 1)

one_kept : (x : Member) → IsPlain x → Kept (x ∷ [])
one_kept x h = record { keep = all_push keeps [] x refl h.keep; few = omega arith; depth = omega (arith, h.depth); count = omega (arith, h.count); classes = omega arith }

module _ (tokens : List Token) where
  module _ (found : ℕ → Bool) where
    kept_first : (before : List Annotation) → Gives Kept (first_member tokens found before)
    kept_first [] = gives_give Kept [] (none_kept tokens 128 1 (omega arith))
    kept_first (a ∷ before) = gives_either Kept (list_any is_head_annotation (a ∷ before)) _ _ (gives_stops Kept _)
        (gives_then IsPlain Kept _ _ (plain_annotated tokens a.place (a ∷ before)) (λ x h. gives_give Kept (x ∷ []) (one_kept x h)))

    kept_no : (before : List Annotation) → Gives Kept (no_member tokens found before)
    kept_no before = gives_either Kept (list_any is_field_annotation before) _ _ (gives_stops Kept _) (gives_give Kept [] (none_kept tokens 128 1 (omega arith)))

    kept_rest : (place : Place) (heads : List Head) (first : List Member) → Kept first → Gives IsWithinLimits (rest tokens found place heads first)
    kept_rest place heads first kept = gives_then (AreKept 129 1) IsWithinLimits _ _ (kept_members tokens 128 (class_block tokens max_open_classes) (kept_block tokens 128) 1 (first, 1) kept)
        (λ all h. gives_after IsWithinLimits _ _ (λ _. gives_give IsWithinLimits (record { place = place; heads = heads; members = all.0 })
        (record { members = h.few; keep = h.keep; depth = omega (arith, h.depth); classes = omega (arith, h.count, h.classes) })))

    kept_file_by : (place : Place) (sofar : Heads) (b : Bool) → Gives IsWithinLimits (file_by tokens found place sofar b)
    kept_file_by place sofar true = gives_then Kept IsWithinLimits _ _ (kept_first sofar.1) (λ first h. kept_rest place sofar.0 first h)
    kept_file_by place sofar false = gives_then Kept IsWithinLimits _ _ (kept_no sofar.1) (λ first h. kept_rest place _ first h)

    kept_file : Gives IsWithinLimits (file tokens found)
    kept_file at = gives_after IsWithinLimits _ _ (λ sofar. gives_look IsWithinLimits _ _ (kept_file_by (place_at tokens at) sofar)) at

  pub kept_script : (header_end : Place) → Gives IsWithinLimits (script tokens header_end)
  kept_script header_end = kept_file (in_header tokens header_end)
