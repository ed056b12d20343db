use Rattle.std.proofs.Common.{◌≡◌, ◌∙◌, ◌++◌, ◌∷◌, [], List, take, ap, sym, Some, None, option_to_list, append-nil, get_or, filter_map, map}
use Rattle.std.proofs.lemmas.List.{map-append}
use Rattle.stage_core.specs.Rows.{log_of}
use Rattle.stage_core.specs.Load.{result_entry, result_value}
use Rattle.stage_core.proofs.Collect.{filter_map-more, pair_ap}
use Rattle.stage_core.proofs.answer.results_of.Goals.{in-Some+in_ok-try_clone+in_ok-push, in_default}
use Rattle.stage_core.proofs.answer.results_of.Goals as goal

pub loop-file-preserved : goal.loop-file-preserved
unfolding result_entry
loop-file-preserved g c =
    let f = result_entry (log_of c.args.rows.now) in
    let files = c.args.files.now in
    let i = c.loop-file.file-index in
    let file = get_or files i 0 in
    let more = filter_map-more f files i c.loop-file-test.true in
    elim c.match-compiled.branch [
      | in-Some+in_ok-try_clone+in_ok-push w ↦
          let is : f file ≡ Some (file, w.in-Some.out.now.value) = pair_ap file _ _ w.in-Some.ensures in
          let clone = w.in_ok-try_clone.field-0 in
          ap (λ v. map result_value v.items) w.results-is ∙ (ap (map result_value) w.in_ok-push.ensures.items ∙ (map-append result_value c.loop-file.results.items ((file, clone) ∷ [])
          ∙ (ap (λ (xs : List _). xs ++ (file, clone.value) ∷ []) c.loop-file.invariant
          ∙ (ap (λ x. filter_map f (take i files) ++ (file, x) ∷ []) w.in_ok-try_clone.ensures
          ∙ sym (more ∙ ap (λ o. filter_map f (take i files) ++ option_to_list o) is)))))
      | in_default w ↦
          let is : f file ≡ None = pair_ap file _ _ w.in_default.ensures in
          ap (λ v. map result_value v.items) w.results-is ∙ (c.loop-file.invariant ∙ sym (more ∙ (ap (λ o. filter_map f (take i files) ++ option_to_list o) is ∙ append-nil (filter_map f (take i files)))))
    ]
