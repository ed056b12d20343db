use Rattle.std.proofs.Common.{◌≡◌, ◌+◌, ap, ◌∙◌, refl, add-one, suc, arith, rules}
use Rattle.std.specs.Prelude.{string_bytes}
use Rattle.std.proofs.lemmas.Result.{err_from_is_err_and}
use Rattle.host_io.specs.Causes.{after_told_call}
use Rattle.folder_meaning.specs.Image.{size_of}
use Rattle.folder_meaning.specs.Limits.{max_file_bytes}
use Rattle.project_run.proofs.SoFar.{stopped, finished, one_more, image-push, faults_more, paths_more, short_more, total_more}
use Rattle.project_run.proofs.image.read_files.Goals as goal

pub returns-in_err-content-clause-told : goal.returns-in_err-content-clause-told
returns-in_err-content-clause-told g c = λ files same.
    let t = c.in_err-content.ensures.told files (c.loop-path.invariant.same ∙ same) in
    let p = err_from_is_err_and c.from_residual.result c.from_residual.ensures.1 in
    rw (p.1, p.2)
    (stopped files _ _ _ _ _ _ c.loop-path.invariant.number c.path-item.result c.loop-path-test.true c.path-item.is (c.loop-path.invariant.so_far files same) _ c.as_str.ensures.value t.0 c.in_err-content.field-0.0 _ c.in_err-content.ensures.number t.1 t.2)

pub loop-path-preserved : goal.loop-path-preserved
loop-path-preserved g c =
    let text : string_bytes c.in_ok-path.path ≡ c.as_str.result.now = search rules in
    let more = image-push _ _ _ _ _ c.in_ok-push.ensures.items text refl in
    let faults = faults_more _ _ _ _ _ c.as_str.result.now c.in_ok-content.content c.loop-path.invariant.deciding c.loop-path.invariant.other c.in_ok-content.ensures.faults more in
    record {
      so_far = λ files same.
          let t = c.in_ok-content.ensures.told files (c.loop-path.invariant.same ∙ same) in
          one_more files _ _ _ _ _ _ c.loop-path.invariant.number c.path-item.result c.loop-path-test.true c.path-item.is (c.loop-path.invariant.so_far files same) _ c.as_str.ensures.value t.0 _ _ _ t.1 t.2.1 c.in_ok-content.ensures.number (image-push _ _ _ _ _ c.in_ok-push.ensures.items text t.2.0) (ap (λ n. c.loop-path.total + n) (c.size-total.ensures ∙ ap size_of t.2.0));
      fits = rw c.size-total.ensures c.in_ok-content.ensures.within;
      number = rw add-one (c.in_ok-content.ensures.number ∙ ap after_told_call c.loop-path.invariant.number);
      count = omega (arith, c.in_ok-push.ensures.len, c.loop-path.invariant.count);
      same = c.in_ok-content.ensures.files ∙ c.loop-path.invariant.same;
      deciding = faults.0;
      other = faults.1;
      read = paths_more _ _ _ _ c.path-item.result c.as_str.result.now _ c.loop-path-test.true c.path-item.is c.as_str.ensures.value more c.loop-path.invariant.read;
      short = short_more max_file_bytes _ _ c.as_str.result.now _ more c.loop-path.invariant.short c.in_ok-content.ensures.short;
      sum = total_more _ _ c.as_str.result.now _ _ _ more c.loop-path.invariant.sum c.size-total.ensures;
    }

pub returns-clause-told : goal.returns-clause-told
returns-clause-told g c = λ files same. finished files _ _ c.args.paths.now c.loop-path.path-index _ _ c.loop-path.invariant.number c.loop-path-test.false (c.loop-path.invariant.so_far files same)

pub returns-in_err-content-clause-calls : goal.returns-in_err-content-clause-calls
returns-in_err-content-clause-calls g c = record { count = suc c.loop-path.path-index; is = c.in_err-content.ensures.number ∙ ap after_told_call c.loop-path.invariant.number }

pub returns-in_err-path-clause-calls : goal.returns-in_err-path-clause-calls
returns-in_err-path-clause-calls g c = record { count = suc c.loop-path.path-index; is = c.in_ok-content.ensures.number ∙ ap after_told_call c.loop-path.invariant.number }

pub returns-in_err-push-clause-calls : goal.returns-in_err-push-clause-calls
returns-in_err-push-clause-calls g c = record { count = suc c.loop-path.path-index; is = c.in_ok-content.ensures.number ∙ ap after_told_call c.loop-path.invariant.number }
