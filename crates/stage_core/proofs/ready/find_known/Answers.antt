use Rattle.std.proofs.Common.{◌≡◌, ℕ, ◌∙◌, true, false, true≢false, vec_capacity, inl, inr, sym, ap, subst, arith, Contains, []}
use Rattle.std.proofs.lemmas.Bool.Decides.{eqb_tells}
use Rattle.stage_core.specs.Rows.{log_of}
use Rattle.stage_core.specs.FileSets.{with_file}
use Rattle.stage_core.specs.Machine.{is_requested}
use Rattle.stage_core.proofs.Reach.{empty_file_set, with_file_set, with_file_has, with_file_kept, Contains-with_file}
use Rattle.stage_core.proofs.ready.find_known.Goals.{then-has_request, else-has_request}
use Rattle.stage_core.proofs.ready.find_known.Goals as goal

none_there : (x : ℕ) → Contains [] x → ⊥
none_there x c = omega arith

pub loop-file-init : goal.loop-file-init
loop-file-init g c =
    let e = c.clear.ensures.items in
    record {
      visited = rw e (empty_file_set _);
      sound = λ file there. absurd (none_there file (subst (λ xs. Contains xs file) e there));
      complete = λ file l. absurd (omega arith);
      capacity = c.clear.ensures.capacity;
    }

pub loop-file-preserved : goal.loop-file-preserved
loop-file-preserved g c =
    elim c.if-has_request.branch [
      | then-has_request w ↦
          let items : c.if-has_request.known.items ≡ with_file c.loop-file.known.items c.loop-file.file = ap (λ v. v.items) w.known-is ∙ w.add_file.ensures.after in
          let asked : is_requested (log_of c.args.rows.now) c.loop-file.file ≡ true = sym c.has_request.ensures ∙ w.if-has_request.true in
          record {
            visited = rw items (with_file_set _ _ _ c.loop-file-test.true c.loop-file.invariant.visited);
            sound = λ file there. elim (Contains-with_file _ _ file (subst (λ xs. Contains xs file) items there)) [
              | inl h ↦ c.loop-file.invariant.sound file h
              | inr s ↦ subst (λ z. is_requested (log_of c.args.rows.now) z ≡ true) s asked
            ];
            complete = λ file l e. rw items (elim (eqb_tells file c.loop-file.file) [
              | inl s ↦ subst (λ z. Contains (with_file c.loop-file.known.items c.loop-file.file) z) (sym s.1) (with_file_has c.loop-file.known.items c.loop-file.file)
              | inr s ↦ with_file_kept c.loop-file.known.items c.loop-file.file file (c.loop-file.invariant.complete file (grind arith) e)
            ]);
            capacity = ap vec_capacity w.known-is ∙ (w.add_file.ensures.capacity ∙ c.loop-file.invariant.capacity);
          }
      | else-has_request w ↦
          let items : c.if-has_request.known.items ≡ c.loop-file.known.items = ap (λ v. v.items) w.known-is in
          let not_asked : is_requested (log_of c.args.rows.now) c.loop-file.file ≡ false = sym c.has_request.ensures ∙ w.if-has_request.false in
          record {
            visited = rw items c.loop-file.invariant.visited;
            sound = λ file there. c.loop-file.invariant.sound file (subst (λ xs. Contains xs file) items there);
            complete = λ file l e. rw items (elim (eqb_tells file c.loop-file.file) [
              | inl s ↦ absurd (true≢false (sym (subst (λ z. is_requested (log_of c.args.rows.now) z ≡ true) s.1 e) ∙ not_asked))
              | inr s ↦ c.loop-file.invariant.complete file (grind arith) e
            ]);
            capacity = ap vec_capacity w.known-is ∙ c.loop-file.invariant.capacity;
          }
    ]

pub returns-clause-known : goal.returns-clause-known
returns-clause-known g c file = (
  λ there. let from = (c.add_reachable.ensures.reached file).0 there in record { from = from.0; requested = c.loop-file.invariant.sound from.0 from.1; reached = from.2 },
  λ k. (c.add_reachable.ensures.reached file).1 (k.from, c.loop-file.invariant.complete k.from (omega (arith, c.requires.in_range.asked k.from k.requested)) k.requested, k.reached),
)
