-- Each reading of a file has an outcome.
use Rattle.std.proofs.Common.{ℕ, Bool, true, false, not, ◌||◌, List, [], ◌∷◌, Option, Some}
use Rattle.std.specs.List.{list_any}
use Rattle.gd_syntax.specs.declared.fault.Place.{Place}
use Rattle.gd_syntax.specs.declared.token.Token.{Token}
use Rattle.gd_syntax.specs.declared.token.Mark.{Mark}
use Rattle.gd_syntax.specs.declared.token.Mark.TheVariants as m
use Rattle.gd_syntax.specs.declared.tree.member.Annotation.{Annotation}
use Rattle.gd_syntax.specs.declared.tree.member.Head.{Head}
use Rattle.gd_syntax.specs.declared.tree.member.Member.{Member}
use Rattle.gd_syntax.specs.Reading.{Then, Look, Loop}
use Rattle.gd_syntax.specs.declared.stops.Sought.TheVariants.{Other}
use Rattle.gd_syntax.specs.TokenReading.{mark_at, place_at}
use Rattle.gd_syntax.specs.MemberGrammar.{max_open_classes, is_field_annotation, class_block}
use Rattle.gd_syntax.specs.ScriptGrammar.{Heads, is_head_annotation, may_follow, is_named, is_based, is_annotated, base_by, class_name, extends, head_by, head, first_member, no_member, rest, file_by, file, in_header, script}
use Rattle.grammar_laws.proofs.Exists.{Reads, Takes, Moves, taken, reads_then, takes, reads, sound_look, sound_either, sound_at, sound_refuse, reads_give, goes_on, ends, moves_look, moves_at, Ends, ends_mark, reads_loop, takes_due}
use Rattle.grammar_laws.proofs.ExistsDeclarations.{past, takes_new_name, takes_annot}
use Rattle.grammar_laws.proofs.ExistsMembers.{takes_base, reads_extends_by, takes_annotated, reads_members, takes_class_block}

module _ (tokens : List Token) where
  module _ (found : ℕ → Bool) where
    reads_base_by : (based : Bool) (k : Option Mark) → Reads (base_by tokens found based k)
    reads_base_by based (Some m.Extends) = sound_either 0 based _ _ (sound_refuse tokens 0 Other) (reads_extends_by tokens (Some m.Extends))
    reads_base_by based _ = reads_give _

    takes_class_name : (based : Bool) (place : Place) → Takes (class_name tokens found based place)
    takes_class_name based place = past tokens _ (taken _ _ (takes_new_name tokens)
        (λ name. reads_then _ _ (sound_look 0 _ _ (reads_base_by based)) (λ b. reads _ (taken _ _ (takes_due tokens Other m.Newline) (λ _. reads_give _)))))

    takes_extends : (place : Place) → Takes (extends tokens found place)
    takes_extends place = past tokens _ (taken _ _ (takes_base tokens) (λ b. reads _ (taken _ _ (takes_due tokens Other m.Newline) (λ _. reads_give _))))

    moves_head_by : (sofar : Heads) (place : Place) (known : Bool) (k : Option Mark) → Moves (head_by tokens found sofar place known k)
    moves_head_by sofar place known (Some m.At) = goes_on _ (taken _ _ (takes_annot tokens (may_follow sofar.1)) (λ a. reads_give _))
    moves_head_by sofar place known (Some m.ClassName) = goes_on _ (sound_either 1 (list_any is_field_annotation sofar.1 || (list_any is_named sofar.0 || not known)) _ _ (sound_refuse tokens 1 Other)
        (taken _ _ (takes_class_name (list_any is_based sofar.0) place) (λ x. reads_give _)))
    moves_head_by sofar place known (Some m.Extends) = goes_on _ (sound_either 1 (list_any is_field_annotation sofar.1 || list_any is_based sofar.0) _ _ (sound_refuse tokens 1 Other)
        (taken _ _ (takes_extends place) (λ x. reads_give _)))
    moves_head_by sofar place known _ = ends sofar

    moves_head : (sofar : Heads) → Moves (head tokens found sofar)
    moves_head sofar = moves_at (λ at. Look (mark_at tokens) (head_by tokens found sofar (place_at tokens at) (found at))) (λ at. moves_look _ _ (moves_head_by sofar (place_at tokens at) (found at)))

    ends_head : (sofar : Heads) → Ends tokens (head tokens found sofar)
    ends_head sofar at = ends_mark tokens (head_by tokens found sofar (place_at tokens at) (found at)) (λ to next b i e. cc e) at

    reads_first_member : (before : List Annotation) → Reads (first_member tokens found before)
    reads_first_member [] = reads_give _
    reads_first_member (a ∷ before) = sound_either 0 (list_any is_head_annotation (a ∷ before)) _ _ (sound_refuse tokens 0 Other)
        (reads _ (taken _ _ (takes_annotated tokens a.place (a ∷ before)) (λ x. reads_give _)))

    reads_no_member : (before : List Annotation) → Reads (no_member tokens found before)
    reads_no_member before = sound_either 0 (list_any is_field_annotation before) _ _ (sound_refuse tokens 0 Other) (reads_give _)

    takes_rest : (place : Place) (heads : List Head) (first : List Member) → Takes (rest tokens found place heads first)
    takes_rest place heads first = takes _ _ (reads_members tokens (class_block tokens max_open_classes) (takes_class_block tokens max_open_classes) (first, 1))
        (λ all. taken _ _ (takes_due tokens Other m.End) (λ _. reads_give _))

    takes_file_by : (place : Place) (sofar : Heads) (b : Bool) → Takes (file_by tokens found place sofar b)
    takes_file_by place sofar true = takes _ _ (reads_first_member sofar.1) (λ first. takes_rest place sofar.0 first)
    takes_file_by place sofar false = takes _ _ (reads_no_member sofar.1) (λ first. takes_rest place _ first)

    pub takes_file : Takes (file tokens found)
    takes_file = sound_at 1 (λ place. Then (Loop (head tokens found) ([], [])) (λ sofar. Look (λ to. is_annotated (mark_at tokens to)) (file_by tokens found (place_at tokens place) sofar)))
        (λ at. takes _ _ (reads_loop tokens _ moves_head ends_head ([], [])) (λ sofar. sound_look 1 _ _ (takes_file_by (place_at tokens at) sofar)))

  pub takes_script : (header_end : Place) → Takes (script tokens header_end)
  takes_script header_end = takes_file (in_header tokens header_end)
