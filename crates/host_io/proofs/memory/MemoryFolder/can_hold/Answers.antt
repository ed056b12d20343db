use Rattle.std.proofs.Common.{◌≡◌, true, false, refl, sym, ◌∙◌, arith, rules, take}
use Rattle.std.specs.Prelude.{string_bytes, IsTrue}
use Rattle.std.specs.List.{IsDistinct}
use Rattle.res_paths.specs.Paths.{is_project_path}
use Rattle.host_io.specs.Memory.{paths_of, AreProjectFiles}
use Rattle.host_io.proofs.Held.{form-more, once-more, seen-more, not_yet, already, has_form, new_path}
use Rattle.host_io.proofs.memory.MemoryFolder.can_hold.Goals as goal

pub loop-path-init : goal.loop-path-init
unfolding IsDistinct
loop-path-init c = record {
  form = λ k d below. absurd (omega arith);
  once = tt;
  seen = λ q. rw c.new-seen.ensures.empty refl;
}

pub returns-then-not-is_project_path : goal.returns-then-not-is_project_path
returns-then-not-is_project_path c =
    let file = c.loop-path-item.result in (
      λ held. cc,
      λ (held : AreProjectFiles c.args.files.now).
          let form : IsTrue (is_project_path (string_bytes file.0)) = has_form c.args.files.now c.loop-path.path-index file c.loop-path-test.true c.loop-path-item.is held.form in
          cc,
    )

pub returns-then-not-branch : goal.returns-then-not-branch
returns-then-not-branch c =
    let file = c.loop-path-item.result in (
      λ held. cc,
      λ (held : AreProjectFiles c.args.files.now).
          let new = new_path c.args.files.now c.loop-path.path-index file held.once c.loop-path-test.true c.loop-path-item.is in
          let key = c.as_str-in-loop-path.result in
          let old : c.in_ok-insert.field-0 ≡ false = search rules in
          let there = already (paths_of (take c.loop-path.path-index c.args.files.now)) (string_bytes file.0) key.now c.as_str-in-loop-path.ensures.value _ _ c.in_ok-insert.ensures.added (c.loop-path.invariant.seen key) old in
          sym new ∙ there,
    )

pub loop-path-preserved : goal.loop-path-preserved
loop-path-preserved c =
    let file = c.loop-path-item.result in
    let key = c.as_str-in-loop-path.result in
    let plain : IsTrue (is_project_path (string_bytes file.0)) = search rules in
    let added : c.in_ok-insert.field-0 ≡ true = search rules in
    let new = not_yet (paths_of (take c.loop-path.path-index c.args.files.now)) (string_bytes file.0) key.now c.as_str-in-loop-path.ensures.value _ _ c.in_ok-insert.ensures.added (c.loop-path.invariant.seen key) added in
    record {
      form = form-more c.args.files.now c.loop-path.path-index file c.loop-path-test.true c.loop-path-item.is c.loop-path.invariant.form plain;
      once = once-more c.args.files.now c.loop-path.path-index file c.loop-path-test.true c.loop-path-item.is c.loop-path.invariant.once new;
      seen = λ q. seen-more c.args.files.now c.loop-path.path-index file c.loop-path-test.true c.loop-path-item.is key.now q.now _ _ c.as_str-in-loop-path.ensures.value (c.in_ok-insert.ensures.updates.0 q) (c.loop-path.invariant.seen q);
    }
