-- Each event keeps what is true of each state.
use Rattle.std.proofs.Common.{◌≡◌, ℕ, ◌+◌, ◌-◌, ◌<◌, ◌≤◌, ◌≢◌, inl, inr, true, false, cond, nat_le, List, [], ◌∷◌, ◌++◌, length, slice_index, slice_set, refl, sym, ap, ◌∙◌, subst, subst₂, arith, append-nil, length-set, take_all, get_or-set_same, get_or-set_other, replicate}
use Rattle.std.proofs.lemmas.Bool.Decides.{nat_tests, eqb_tells}
use Rattle.std.proofs.lemmas.Grind.{common_steps}
use Rattle.stage_core.specs.declared.work.StageOut.{Ghosts}
use Rattle.stage_core.specs.Log.{State, Entry, OutcomeValue, Request, Claim, Publish, Event, Requests, Claims, Publishes, GivesBack}
use Rattle.stage_core.specs.Machine.{outcomes, has_final, is_done_at, is_requested, is_claimed, IsOpen, IsReady, HoldsValue, requested, claimed, published, given_back, after, run, IsAllowed, AreAllowed, start, IsLegal, empty, grows, IsSound}
use Rattle.stage_core.proofs.Grow.{added, outcomes-push, open_stays}
use Rattle.stage_core.proofs.Legal.{Laws, known_in}

module _ {O P : Type 0} (g : Ghosts O P) where
  -- each task under way is open, and the next of its file
  abbrev AreTasks : List (Entry O) → List ℕ → Type 0
  AreTasks log in_progress = (file stage : ℕ) → 1 ≤ stage → slice_index in_progress file ≡ stage → IsOpen g log file stage × (stage ≡ length (outcomes log file) + 1)

  tasks_of : (s : State P O) → IsSound g s → AreTasks s.log s.in_progress
  tasks_of s sound file stage some held = sound.tasks file stage (record { some = some; held = held })

  made : (s : State P O) → IsLegal g s.project s.log → length s.in_progress ≡ g.files s.project → AreTasks s.log s.in_progress → IsSound g s
  made s legal all tasks = record { legal = legal; all_files = all; tasks = λ file stage u. tasks file stage u.some u.held }

  -- an entry that publishes nothing of the file
  tasks_stay : (log : List (Entry O)) (e : Entry O) (in_progress : List ℕ) → ((file : ℕ) → 1 ≤ slice_index in_progress file → added file e ≡ []) → AreTasks log in_progress → AreTasks (log ++ e ∷ []) in_progress
  tasks_stay log e in_progress none tasks file stage some held =
      let t = tasks file stage some held in
      let same : outcomes (log ++ e ∷ []) file ≡ outcomes log file = outcomes-push log e file ∙ ap (λ (os : List (OutcomeValue O)). outcomes log file ++ os) (none file (omega arith)) ∙ append-nil (outcomes log file) in
      (open_stays g log e file stage t.0, rw same t.1)

  -- a row that is written
  tasks_set : (log : List (Entry O)) (in_progress : List ℕ) (f v : ℕ) → f < length in_progress → (1 ≤ v → IsOpen g log f v × (v ≡ length (outcomes log f) + 1)) → ((file stage : ℕ) → file ≢ f → 1 ≤ stage → slice_index in_progress file ≡ stage → IsOpen g log file stage × (stage ≡ length (outcomes log file) + 1)) → AreTasks log (slice_set in_progress f v)
  tasks_set log in_progress f v l new old file stage some held =
      elim (eqb_tells file f) [
        | inl w ↦
            let v_is : v ≡ stage = sym (get_or-set_same in_progress f v 0 l) ∙ (subst (λ z. slice_index (slice_set in_progress f v) z ≡ stage) w.1 held) in
            subst₂ (λ a b. IsOpen g log a b × (b ≡ length (outcomes log a) + 1)) (sym w.1) v_is (new (omega arith))
        | inr w ↦ old file stage w.1 some (sym (get_or-set_other in_progress f file v 0 w.1) ∙ held)
      ]

  pub ready_is_open : (s : State P O) (file stage : ℕ) → IsReady g s.log s.in_progress file stage → IsOpen g s.log file stage
  unfolding is_done_at
  ready_is_open s file stage r =
      let ended : has_final (outcomes s.log file) ≡ false = grind (arith, nat_tests, r.unfinished) in
      let few : length (outcomes s.log file) < 5 = grind (arith, nat_tests, r.unfinished) in
      record {
        known = r.known;
        from_one = omega (arith, r.next);
        to_five = omega (arith, r.next);
        begun = omega (arith, r.next);
        earlier_done = rw (take_all (stage - 1) (outcomes s.log file) (omega (arith, r.next))) ended;
        needs = r.needs;
      }

  pub requested_sound : (s : State P O) (f : ℕ) → f < g.files s.project → IsSound g s → IsSound g (requested s f)
  requested_sound s f l sound =
      elim (is_requested s.log f) as (λ b. is_requested s.log f ≡ b → IsSound g (record s { log = cond b s.log (s.log ++ Request f ∷ []) })) [
        | true ↦ λ e. sound
        | false ↦ λ e. made (record s { log = s.log ++ Request f ∷ [] }) (grows s.log (Request f) sound.legal (l, e)) sound.all_files (tasks_stay s.log (Request f) s.in_progress (λ file h. refl) (tasks_of s sound))
      ] refl

  module _ (laws : Laws g) (s : State P O) (sound : IsSound g s) where
    open_row : (f k : ℕ) → IsOpen g s.log f k → f < length s.in_progress
    open_row f k o = omega (arith, known_in g s.project laws s.log sound.legal f o.known, sound.all_files)

    pub claimed_sound : (f k : ℕ) → IsReady g s.log s.in_progress f k → IsSound g (claimed s f k)
    claimed_sound f k ready =
        let o = ready_is_open s f k ready in
        let all : length (slice_set s.in_progress f k) ≡ g.files s.project = length-set s.in_progress f k ∙ sound.all_files in
        let tasks : AreTasks s.log (slice_set s.in_progress f k) = tasks_set s.log s.in_progress f k (open_row f k o) (λ _. (o, ready.next)) (λ file stage ne some held. tasks_of s sound file stage some held) in
        elim (is_claimed s.log f k) as (λ b. is_claimed s.log f k ≡ b → IsSound g (record { project = s.project; log = cond b s.log (s.log ++ Claim f k ∷ []); in_progress = slice_set s.in_progress f k })) [
          | true ↦ λ e. made (record { project = s.project; log = s.log; in_progress = slice_set s.in_progress f k }) sound.legal all tasks
          | false ↦ λ e. made (record { project = s.project; log = s.log ++ Claim f k ∷ []; in_progress = slice_set s.in_progress f k }) (grows s.log (Claim f k) sound.legal (o, e)) all (tasks_stay s.log (Claim f k) (slice_set s.in_progress f k) (λ file h. refl) tasks)
        ] refl

    pub published_sound : (f k : ℕ) (o : OutcomeValue O) → IsOpen g s.log f k → HoldsValue g s.project f k o → IsSound g (published s f k o)
    published_sound f k o task holds =
        let len = length (outcomes s.log f) in
        let all : length (slice_set s.in_progress f 0) ≡ g.files s.project = length-set s.in_progress f 0 ∙ sound.all_files in
        let row = open_row f k task in
        elim (nat_le k len) as (λ b. nat_le k len ≡ b → IsSound g (cond b s (record { project = s.project; log = s.log ++ Publish f k o ∷ []; in_progress = slice_set s.in_progress f 0 }))) [
          | true ↦ λ e. sound
          | false ↦ λ e.
              let next : k ≡ len + 1 = grind (arith, nat_tests, task.begun) in
              made (record { project = s.project; log = s.log ++ Publish f k o ∷ []; in_progress = slice_set s.in_progress f 0 }) (grows s.log (Publish f k o) sound.legal (task, next, holds)) all
              (tasks_stay s.log (Publish f k o) (slice_set s.in_progress f 0) (λ file h. elim (eqb_tells f file) [
                | inl w ↦ absurd (let none : slice_index (slice_set s.in_progress f 0) f ≡ 0 = get_or-set_same s.in_progress f 0 0 row in omega (arith, subst (λ z. 1 ≤ slice_index (slice_set s.in_progress f 0) z) (sym w.1) h))
                | inr w ↦ rw w.0 refl
              ]) (tasks_set s.log s.in_progress f 0 row (λ bad. absurd (omega arith)) (λ file stage ne some held. tasks_of s sound file stage some held)))
        ] refl

    pub given_back_sound : (f k : ℕ) → IsOpen g s.log f k → IsSound g (given_back s f k)
    given_back_sound f k task =
        let len = length (outcomes s.log f) in
        let all : length (slice_set s.in_progress f 0) ≡ g.files s.project = length-set s.in_progress f 0 ∙ sound.all_files in
        elim (nat_le k len) as (λ b. IsSound g (cond b s (record s { in_progress = slice_set s.in_progress f 0 }))) [
          | true ↦ sound
          | false ↦ made (record s { in_progress = slice_set s.in_progress f 0 }) sound.legal all (tasks_set s.log s.in_progress f 0 (open_row f k task) (λ bad. absurd (omega arith)) (λ file stage ne some held. tasks_of s sound file stage some held))
        ]

  pub after_sound : Laws g → (s : State P O) (e : Event O) → IsSound g s → IsAllowed g s e → IsSound g (after s e)
  after_sound laws s (Requests f) sound a = requested_sound s f a sound
  after_sound laws s (Claims f k) sound a = claimed_sound laws s sound f k a
  after_sound laws s (Publishes f k o) sound a = published_sound laws s sound f k o (sound.tasks f k a.0).0 a.1
  after_sound laws s (GivesBack f k) sound a = given_back_sound laws s sound f k (sound.tasks f k a).0

  pub run_sound : Laws g → (es : List (Event O)) (s : State P O) → IsSound g s → AreAllowed g s es → IsSound g (run s es)
  run_sound laws [] s sound a = sound
  run_sound laws (e ∷ es) s sound a = run_sound laws es (after s e) (after_sound laws s e sound a.0) a.1

  none_held : (n file stage : ℕ) → 1 ≤ stage → slice_index (replicate n 0) file ≡ stage → ⊥
  none_held n file stage some held = grind (arith, common_steps)

  pub start_sound : (project : P) → IsSound g (start g project)
  start_sound project = made (start g project) empty (grind (arith, common_steps)) (λ file stage some held. absurd (none_held (g.files project) file stage some held))
