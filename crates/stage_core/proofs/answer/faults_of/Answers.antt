use Rattle.std.proofs.Common.{◌≡◌, ◌∙◌, ◌++◌, ◌∷◌, [], List, take, ap, sym, Some, None, option_map, option_to_list, append-nil, get_or, filter_map}
use Rattle.stage_core.specs.Rows.{log_of}
use Rattle.stage_core.specs.Load.{fault_entry}
use Rattle.stage_core.specs.Status.{status_fault}
use Rattle.stage_core.proofs.Collect.{filter_map-more, pair_ap}
use Rattle.stage_core.proofs.answer.faults_of.Goals.{in-Some+in_ok-push, in_default}
use Rattle.stage_core.proofs.answer.faults_of.Goals as goal

pub loop-file-preserved : goal.loop-file-preserved
unfolding fault_entry
loop-file-preserved g c =
    let f = fault_entry (log_of c.args.rows.now) in
    let files = c.args.files.now in
    let i = c.loop-file.file-index in
    let file = get_or files i 0 in
    let more = filter_map-more f files i c.loop-file-test.true in
    let entry : f file ≡ option_map (λ x. (file, x)) c.fault.result = pair_ap file _ _ (ap status_fault (sym c.status.ensures) ∙ sym c.fault.ensures) in
    elim c.match-fault.branch [
      | in-Some+in_ok-push w ↦
          let is : f file ≡ Some (file, w.in-Some.fault) = entry ∙ pair_ap file _ _ w.in-Some.is in
          ap (λ v. v.items) w.faults-is ∙ (w.in_ok-push.ensures.items ∙ (ap (λ (xs : List _). xs ++ (file, w.in-Some.fault) ∷ []) c.loop-file.invariant ∙ sym (more ∙ ap (λ o. filter_map f (take i files) ++ option_to_list o) is)))
      | in_default w ↦
          let is : f file ≡ None = entry ∙ pair_ap file _ _ w.in_default.is in
          ap (λ v. v.items) w.faults-is ∙ (c.loop-file.invariant ∙ sym (more ∙ (ap (λ o. filter_map f (take i files) ++ option_to_list o) is ∙ append-nil (filter_map f (take i files)))))
    ]
