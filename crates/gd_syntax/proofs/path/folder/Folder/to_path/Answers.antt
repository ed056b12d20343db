use Rattle.std.proofs.Common.{◌≡◌, ◌∷◌, sym, ap, ◌∙◌, arith, rules, string_bytes}
use Rattle.std.specs.List.{list_all}
use Rattle.std.specs.declared.option.Option.TheVariants.{Some}
use Rattle.res_paths.specs.Paths.{is_res_path}
use Rattle.gd_syntax.specs.Parts.{parts_of, is_name}
use Rattle.gd_syntax.specs.ResPath.{path_of}
use Rattle.gd_syntax.proofs.Segments.{joined_text, joined_is_path}
use Rattle.gd_syntax.proofs.path.folder.Folder.to_path.Goals as goal

pub invariant_of-result : goal.invariant_of-result
invariant_of-result c =
    let all : c.self.inside.segments.items ≡ c.in_ok-first.first.now ∷ c.in_ok-first.others.now = search rules in
    let text = joined_text c.in_ok-first.first.now c.in_ok-first.others.now (string_bytes c.in_ok-text.text) (string_bytes c.push_str.new.self) (string_bytes c.loop-segment.text) c.loop-segment.segment-index (omega arith) c.in_ok-text.ensures.ok c.in_ok-push_str.ensures.bytes c.loop-segment.invariant in
    ap is_res_path text ∙ joined_is_path c.in_ok-first.first.now.now (parts_of c.in_ok-first.others.now) (sym (ap (λ items. list_all is_name (parts_of items)) all) ∙ c.self.invariant)

pub returns : goal.returns
returns c =
    let all : c.self.inside.segments.items ≡ c.in_ok-first.first.now ∷ c.in_ok-first.others.now = search rules in
    let text = joined_text c.in_ok-first.first.now c.in_ok-first.others.now (string_bytes c.in_ok-text.text) (string_bytes c.push_str.new.self) (string_bytes c.loop-segment.text) c.loop-segment.segment-index (omega arith) c.in_ok-text.ensures.ok c.in_ok-push_str.ensures.bytes c.loop-segment.invariant in
    ap (λ folder. path_of (Some folder)) (sym c.self.view_is) ∙ ap (λ items. path_of (Some (parts_of items))) all ∙ ap Some (sym text)
