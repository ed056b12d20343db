use Rattle.std.proofs.Common.{◌≡◌, ◌∙◌, ◌++◌, ◌∷◌, [], ℕ, List, true, false, cond, sym, ap, filter}
use Rattle.stage_core.specs.FileSets.{is_in, files_below}
use Rattle.stage_core.proofs.Collect.{ordered_more}
use Rattle.stage_core.proofs.answer.in_order.Goals.{then-contains_file+in_ok-push, else-contains_file}
use Rattle.stage_core.proofs.answer.in_order.Goals as goal

pub loop-file-init : goal.loop-file-init
unfolding files_below
loop-file-init c = c.new-ordered.ensures.items

pub loop-file-preserved : goal.loop-file-preserved
loop-file-preserved c =
    let set = c.args.set.now in
    let file = c.loop-file.file in
    let before = filter (λ f. is_in f set) (files_below file) in
    let more = ordered_more set file in
    elim c.if-contains_file.branch [
      | then-contains_file+in_ok-push w ↦
          let there : is_in file set ≡ true = sym c.contains_file.ensures ∙ w.if-contains_file.true in
          ap (λ v. v.items) w.ordered-is ∙ (w.in_ok-push.ensures.items ∙ (ap (λ (xs : List ℕ). xs ++ file ∷ []) c.loop-file.invariant ∙ sym (more ∙ ap (λ b. cond b (before ++ file ∷ []) before) there)))
      | else-contains_file w ↦
          let not_there : is_in file set ≡ false = sym c.contains_file.ensures ∙ w.if-contains_file.false in
          ap (λ v. v.items) w.ordered-is ∙ (c.loop-file.invariant ∙ sym (more ∙ ap (λ b. cond b (before ++ file ∷ []) before) not_there))
    ]
