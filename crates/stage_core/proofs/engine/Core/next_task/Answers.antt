use Rattle.std.proofs.Common.{sym, ap, subst, refl, ◌≡◌, ◌∙◌, ℕ, false, true, Contains, List, ◌⊎◌, ◌↔◌, inl, inr, subst₂, IsTrue, true≢false}
use Rattle.stage_core.specs.declared.work.StageOut.{Ghosts}
use Rattle.stage_core.specs.Rows.{log_of}
use Rattle.stage_core.specs.Machine.{IsReady, IsKnown, IsInProgress, outcomes, is_done_at}
use Rattle.stage_core.proofs.Legal.{Laws}
use Rattle.stage_core.proofs.CoreSteps.{in_range, known_rows, work}
use Rattle.stage_core.specs.Log.{State, Entry}
use Rattle.stage_core.proofs.Progress.{fails_or}
use Rattle.stage_core.proofs.engine.Core.next_task.Goals as goal

-- what the search for a task has told, in terms of the log and the rows
module _ {O P : Type 0} (g : Ghosts O P) (log : List (Entry O)) (in_progress known : List ℕ) (s : State P O) (is : s.log ≡ log) (held : s.in_progress ≡ in_progress) (all : (file : ℕ) → Contains known file ↔ IsKnown g log file) where
  none_ready : ((file stage : ℕ) → Contains known file → IsReady g log in_progress file stage → ⊥) → (file stage : ℕ) → IsReady g s.log s.in_progress file stage → ⊥
  none_ready none file stage ready =
      let r : IsReady g log in_progress file stage = subst₂ (λ l u. IsReady g l u file stage) is held ready in
      none file stage ((all file).1 r.known) r

  finished : ((file : ℕ) → Contains known file → is_done_at (outcomes log file) 5 ≡ true) ↔ ((file : ℕ) → IsKnown g s.log file → is_done_at (outcomes s.log file) 5 ≡ true)
  finished = (
    λ f file k. subst (λ l. is_done_at (outcomes l file) 5 ≡ true) (sym is) (f file ((all file).1 (subst (λ l. IsKnown g l file) is k))),
    λ f file there. subst (λ l. is_done_at (outcomes l file) 5 ≡ true) is (f file (subst (λ l. IsKnown g l file) (sym is) ((all file).0 there))),
  )

  busy : ((file stage : ℕ) → Contains known file → IsReady g log in_progress file stage → ⊥) → (((file : ℕ) → Contains known file → is_done_at (outcomes log file) 5 ≡ true) → ⊥)
      → ((file : ℕ) → IsKnown g log file → is_done_at (outcomes log file) 5 ≡ false → ((f : ℕ) × (k : ℕ) × IsReady g log in_progress f k) ⊎ ((f : ℕ) × (k : ℕ) × IsInProgress in_progress f k))
      → (file : ℕ) × (stage : ℕ) × IsInProgress s.in_progress file stage
  busy none unfinished work =
      elim (fails_or (λ file. is_done_at (outcomes log file) 5) known) [
        | inr k ↦ absurd (unfinished k)
        | inl f ↦ elim (work f.at ((all f.at).0 f.among) f.fails) [
          | inl r ↦ absurd (none r.0 r.1 ((all r.0).1 r.2.known) r.2)
          | inr u ↦ (u.0, u.1, subst (λ us. IsInProgress us u.0 u.1) (sym held) u.2)
        ]
      ]

pub find_known-requires-clause-in_range : goal.find_known-requires-clause-in_range
find_known-requires-clause-in_range g c =
    let i = c.self.inside in
    let laws : Laws g.O.StageOut = record { links_of_value = g.met.O.StageOut.links_of_value; walk_of_value = g.met.O.StageOut.walk_of_value; links_in_range = g.met.O.StageOut.links_in_range; walk_in_range = g.met.O.StageOut.walk_in_range; walk_within_links = g.met.O.StageOut.walk_within_links } in
    rw c.deref.ensures.value (in_range g.O.StageOut laws i.project.value i.rows.items i.in_progress.items i.files _ _ _ c.self.invariant)

pub ready_task-task-requires-clause-known : goal.ready_task-task-requires-clause-known
ready_task-task-requires-clause-known g c file there =
    let i = c.self.inside in
    let laws : Laws g.O.StageOut = record { links_of_value = g.met.O.StageOut.links_of_value; walk_of_value = g.met.O.StageOut.walk_of_value; links_in_range = g.met.O.StageOut.links_in_range; walk_in_range = g.met.O.StageOut.walk_in_range; walk_within_links = g.met.O.StageOut.walk_within_links } in
    let k : IsKnown g.O.StageOut (log_of i.rows.items) file = subst (λ ls. IsKnown g.O.StageOut (log_of ls) file) c.deref.ensures.value ((c.find_known.ensures.known file).0 (subst (λ xs. Contains xs file) c.deref-4.ensures.value there)) in
    let rows = known_rows g.O.StageOut laws i.project.value i.rows.items i.in_progress.items i.files _ _ _ c.self.invariant file k in
    rw (c.deref-2.ensures.value, c.deref-3.ensures.value) (rows.0, rows.1, k)

pub ready_task-task-requires-clause-in_range : goal.ready_task-task-requires-clause-in_range
ready_task-task-requires-clause-in_range g c =
    let i = c.self.inside in
    let laws : Laws g.O.StageOut = record { links_of_value = g.met.O.StageOut.links_of_value; walk_of_value = g.met.O.StageOut.walk_of_value; links_in_range = g.met.O.StageOut.links_in_range; walk_in_range = g.met.O.StageOut.walk_in_range; walk_within_links = g.met.O.StageOut.walk_within_links } in
    rw c.deref-2.ensures.value (in_range g.O.StageOut laws i.project.value i.rows.items i.in_progress.items i.files _ _ _ c.self.invariant)

pub returns-in-Some-clause-nothing_ready : goal.returns-in-Some-clause-nothing_ready
returns-in-Some-clause-nothing_ready g c =
    let i = c.self.inside in
    let log = log_of i.rows.items in
    let known = c.find_known.new.known.items in
    let is : c.args.self.now.state.log ≡ log = sym (ap (λ s. s.log) (ap (λ v. v.state) c.self.view_is)) in
    let held : c.args.self.now.state.in_progress ≡ i.in_progress.items = sym (ap (λ s. s.in_progress) (ap (λ v. v.state) c.self.view_is)) in
    let all : (file : ℕ) → Contains known file ↔ IsKnown g.O.StageOut log file = subst (λ ls. (file : ℕ) → Contains known file ↔ IsKnown g.O.StageOut (log_of ls) file) c.deref.ensures.value c.find_known.ensures.known in
    let ready : IsReady g.O.StageOut log i.in_progress.items c.in-Some.task.0 c.in-Some.task.1 = subst₂ (λ ls us. IsReady g.O.StageOut (log_of ls) us c.in-Some.task.0 c.in-Some.task.1) c.deref-2.ensures.value c.deref-3.ensures.value c.in-Some.ensures.some in
    (λ e. cc, λ n. absurd (n.0 c.in-Some.task.0 c.in-Some.task.1 (rw (is, held) ready)))

pub returns-then-are_finished-clause-all_done : goal.returns-then-are_finished-clause-all_done
returns-then-are_finished-clause-all_done g c =
    let i = c.self.inside in
    let log = log_of i.rows.items in
    let known = c.find_known.new.known.items in
    let is : c.args.self.now.state.log ≡ log = sym (ap (λ s. s.log) (ap (λ v. v.state) c.self.view_is)) in
    let held : c.args.self.now.state.in_progress ≡ i.in_progress.items = sym (ap (λ s. s.in_progress) (ap (λ v. v.state) c.self.view_is)) in
    let all : (file : ℕ) → Contains known file ↔ IsKnown g.O.StageOut log file = subst (λ ls. (file : ℕ) → Contains known file ↔ IsKnown g.O.StageOut (log_of ls) file) c.deref.ensures.value c.find_known.ensures.known in
    let done : IsTrue c.are_finished.result ↔ ((file : ℕ) → Contains known file → is_done_at (outcomes log file) 5 ≡ true) =
    subst₂ (λ ls ks. IsTrue c.are_finished.result ↔ ((file : ℕ) → Contains ks file → is_done_at (outcomes (log_of ls) file) 5 ≡ true)) c.deref-5.ensures.value c.deref-6.ensures.value c.are_finished.ensures in
    (λ e. (finished g.O.StageOut log i.in_progress.items known c.args.self.now.state is held all).0 (done.0 c.if-are_finished.true), λ _. refl)

pub returns-clause-all_done : goal.returns-clause-all_done
returns-clause-all_done g c =
    let i = c.self.inside in
    let log = log_of i.rows.items in
    let known = c.find_known.new.known.items in
    let is : c.args.self.now.state.log ≡ log = sym (ap (λ s. s.log) (ap (λ v. v.state) c.self.view_is)) in
    let held : c.args.self.now.state.in_progress ≡ i.in_progress.items = sym (ap (λ s. s.in_progress) (ap (λ v. v.state) c.self.view_is)) in
    let all : (file : ℕ) → Contains known file ↔ IsKnown g.O.StageOut log file = subst (λ ls. (file : ℕ) → Contains known file ↔ IsKnown g.O.StageOut (log_of ls) file) c.deref.ensures.value c.find_known.ensures.known in
    let done : IsTrue c.are_finished.result ↔ ((file : ℕ) → Contains known file → is_done_at (outcomes log file) 5 ≡ true) =
    subst₂ (λ ls ks. IsTrue c.are_finished.result ↔ ((file : ℕ) → Contains ks file → is_done_at (outcomes (log_of ls) file) 5 ≡ true)) c.deref-5.ensures.value c.deref-6.ensures.value c.are_finished.ensures in
    (λ e. cc, λ f. absurd (true≢false (sym (done.1 ((finished g.O.StageOut log i.in_progress.items known c.args.self.now.state is held all).1 f)) ∙ c.if-are_finished.false)))

pub returns-clause-nothing_ready : goal.returns-clause-nothing_ready
returns-clause-nothing_ready g c =
    let i = c.self.inside in
    let log = log_of i.rows.items in
    let known = c.find_known.new.known.items in
    let is : c.args.self.now.state.log ≡ log = sym (ap (λ s. s.log) (ap (λ v. v.state) c.self.view_is)) in
    let held : c.args.self.now.state.in_progress ≡ i.in_progress.items = sym (ap (λ s. s.in_progress) (ap (λ v. v.state) c.self.view_is)) in
    let all : (file : ℕ) → Contains known file ↔ IsKnown g.O.StageOut log file = subst (λ ls. (file : ℕ) → Contains known file ↔ IsKnown g.O.StageOut (log_of ls) file) c.deref.ensures.value c.find_known.ensures.known in
    let none : (file stage : ℕ) → Contains known file → IsReady g.O.StageOut log i.in_progress.items file stage → ⊥ =
    λ file stage there ready. c.in_default.ensures.none file stage (rw c.deref-4.ensures.value there) (rw (c.deref-2.ensures.value, c.deref-3.ensures.value) ready) in
    (λ e. (none_ready g.O.StageOut log i.in_progress.items known c.args.self.now.state is held all none, λ x. cc), λ _. refl)

pub returns-clause-busy : goal.returns-clause-busy
returns-clause-busy g c e =
    let i = c.self.inside in
    let log = log_of i.rows.items in
    let known = c.find_known.new.known.items in
    let is : c.args.self.now.state.log ≡ log = sym (ap (λ s. s.log) (ap (λ v. v.state) c.self.view_is)) in
    let held : c.args.self.now.state.in_progress ≡ i.in_progress.items = sym (ap (λ s. s.in_progress) (ap (λ v. v.state) c.self.view_is)) in
    let all : (file : ℕ) → Contains known file ↔ IsKnown g.O.StageOut log file = subst (λ ls. (file : ℕ) → Contains known file ↔ IsKnown g.O.StageOut (log_of ls) file) c.deref.ensures.value c.find_known.ensures.known in
    let laws : Laws g.O.StageOut = record { links_of_value = g.met.O.StageOut.links_of_value; walk_of_value = g.met.O.StageOut.walk_of_value; links_in_range = g.met.O.StageOut.links_in_range; walk_in_range = g.met.O.StageOut.walk_in_range; walk_within_links = g.met.O.StageOut.walk_within_links } in
    let none : (file stage : ℕ) → Contains known file → IsReady g.O.StageOut log i.in_progress.items file stage → ⊥ =
    λ file stage there ready. c.in_default.ensures.none file stage (rw c.deref-4.ensures.value there) (rw (c.deref-2.ensures.value, c.deref-3.ensures.value) ready) in
    let done : IsTrue c.are_finished.result ↔ ((file : ℕ) → Contains known file → is_done_at (outcomes log file) 5 ≡ true) =
    subst₂ (λ ls ks. IsTrue c.are_finished.result ↔ ((file : ℕ) → Contains ks file → is_done_at (outcomes (log_of ls) file) 5 ≡ true)) c.deref-5.ensures.value c.deref-6.ensures.value c.are_finished.ensures in
    busy g.O.StageOut log i.in_progress.items known c.args.self.now.state is held all none (λ f. true≢false (sym (done.1 f) ∙ c.if-are_finished.false)) (work g.O.StageOut laws i.project.value i.rows.items i.in_progress.items i.files _ _ _ c.self.invariant)
