-- Each call keeps what holds of each core, and has room for what it writes.
use Rattle.std.proofs.Common.{◌≡◌, ℕ, ◌+◌, ◌*◌, ◌<◌, ◌≤◌, true, false, cond, nat_le, List, [], ◌∷◌, ◌++◌, length, slice_set, replicate, sym, subst, arith}
use Rattle.std.proofs.lemmas.Bool.Decides.{nat_tests}
use Rattle.std.proofs.lemmas.List.{map-append, length-map}
use Rattle.stage_core.specs.Begins.{Begins}
use Rattle.stage_core.specs.declared.work.StageOut.{Ghosts}
use Rattle.stage_core.specs.declared.work.Outcome.{Outcome}
use Rattle.stage_core.specs.declared.log_rows.LogRow.{LogRow}
use Rattle.stage_core.specs.declared.log_rows.LogRow.TheVariants as row
use Rattle.stage_core.specs.Log.{State, Entry, Request, Claim, Publish, value_of}
use Rattle.stage_core.specs.Rows.{entry_of, log_of}
use Rattle.stage_core.specs.Machine.{HasWork, IsKnown, is_done_at, outcomes, is_requested, is_claimed, IsOpen, IsReady, HoldsValue, IsSound}
use Rattle.stage_core.specs.CoreState.{IsCoreState, AreInRange, state_of}
use Rattle.stage_core.proofs.Legal.{Laws, known_in, edges_in, walks_in, requested_in}
use Rattle.stage_core.proofs.Progress.{progress}
use Rattle.stage_core.proofs.Sound.{requested_sound, claimed_sound, published_sound, given_back_sound, ready_is_open, start_sound}
use Rattle.stage_core.proofs.Room.{room, few}

pub log_push : {O : Type 0} (rows : List (LogRow O)) (x : LogRow O) → log_of (rows ++ x ∷ []) ≡ log_of rows ++ entry_of x ∷ []
log_push rows x = map-append entry_of rows (x ∷ [])

pub log_grows : {O P : Type 0} (s old : State P O) (rows more : List (LogRow O)) (x : LogRow O) → s ≡ old → s.log ≡ log_of rows → more ≡ rows ++ x ∷ [] → Begins old.log (log_of more)
log_grows s old rows more x view is e = record { rest = entry_of x ∷ []; joins = rw (← view, is, e) (sym (log_push rows x)) }

module _ {O P : Type 0} (g : Ghosts O P) (laws : Laws g) (project : P) (rows : List (LogRow O)) (in_progress : List ℕ) (files lr kr mr : ℕ) (held : IsCoreState g (state_of project (log_of rows) in_progress) files lr kr mr) where
  log : List (Entry O)
  log = log_of rows

  abbrev Keeps : List (Entry O) → List ℕ → Type 0
  Keeps log' in_progress' = IsCoreState g (state_of project log' in_progress') files lr kr mr

  with_sound : (log' : List (Entry O)) (in_progress' : List ℕ) → IsSound g (state_of project log' in_progress') → Keeps log' in_progress'
  with_sound log' in_progress' s = record { sound = s; all_files = held.all_files; rows = held.rows; known_files = held.known_files; visited = held.visited }

  pub known_row : (file stage : ℕ) → IsOpen g (log_of rows) file stage → (file < files) × (file < length in_progress)
  known_row file stage o =
      let h = known_in g project laws (log_of rows) held.sound.legal file o.known in
      (omega (arith, h, held.all_files), omega (arith, h, held.sound.all_files))

  pub request_room : (file : ℕ) → file < g.files project → is_requested (log_of rows) file ≡ false → length rows < lr
  request_room file l e = omega (arith, room g project laws (log_of rows) (Request file) held.sound.legal (l, e), length-map rows entry_of, held.all_files, held.rows)

  pub request_keeps : (file : ℕ) → file < g.files project → is_requested (log_of rows) file ≡ false → Keeps (log_of (rows ++ row.Request file ∷ [])) in_progress
  request_keeps file l e =
      let s = requested_sound g (state_of project (log_of rows) in_progress) file l held.sound in
      with_sound _ in_progress (rw log_push (subst (λ b. IsSound g (state_of project (cond b (log_of rows) (log_of rows ++ Request file ∷ [])) in_progress)) e s))

  pub publish_room : (file stage : ℕ) (o : Outcome O) → IsOpen g (log_of rows) file stage → HoldsValue g project file stage (value_of o) → length (outcomes (log_of rows) file) < stage → length rows < lr
  publish_room file stage o task holds l =
      omega (arith, room g project laws (log_of rows) (Publish file stage (value_of o)) held.sound.legal (task, omega (arith, task.begun), holds), length-map rows entry_of, held.all_files, held.rows)

  not_there : (file stage : ℕ) → length (outcomes (log_of rows) file) < stage → nat_le stage (length (outcomes (log_of rows) file)) ≡ false
  not_there file stage l = grind (arith, nat_tests)

  pub publish_keeps : (file stage : ℕ) (o : Outcome O) → IsOpen g (log_of rows) file stage → HoldsValue g project file stage (value_of o) → length (outcomes (log_of rows) file) < stage → Keeps (log_of (rows ++ row.Publish file stage o ∷ [])) (slice_set in_progress file 0)
  publish_keeps file stage o task holds l =
      let s = published_sound g laws (state_of project (log_of rows) in_progress) held.sound file stage (value_of o) task holds in
      with_sound _ _ (rw log_push (subst (λ b. IsSound g (cond b (state_of project (log_of rows) in_progress) (state_of project (log_of rows ++ Publish file stage (value_of o) ∷ []) (slice_set in_progress file 0)))) (not_there file stage l) s))

  pub give_back_keeps : (file stage : ℕ) → IsOpen g (log_of rows) file stage → length (outcomes (log_of rows) file) < stage → Keeps (log_of rows) (slice_set in_progress file 0)
  give_back_keeps file stage task l =
      let s = given_back_sound g laws (state_of project (log_of rows) in_progress) held.sound file stage task in
      with_sound _ _ (subst (λ b. IsSound g (cond b (state_of project (log_of rows) in_progress) (state_of project (log_of rows) (slice_set in_progress file 0)))) (not_there file stage l) s)

  pub claim_room : (file stage : ℕ) → IsReady g (log_of rows) in_progress file stage → is_claimed (log_of rows) file stage ≡ false → length rows < lr
  claim_room file stage ready e =
      omega (arith, room g project laws (log_of rows) (Claim file stage) held.sound.legal (ready_is_open g (state_of project (log_of rows) in_progress) file stage ready, e), length-map rows entry_of, held.all_files, held.rows)

  pub claim_keeps_new : (file stage : ℕ) → IsReady g (log_of rows) in_progress file stage → is_claimed (log_of rows) file stage ≡ false → Keeps (log_of (rows ++ row.Claim file stage ∷ [])) (slice_set in_progress file stage)
  claim_keeps_new file stage ready e =
      let s = claimed_sound g laws (state_of project (log_of rows) in_progress) held.sound file stage ready in
      with_sound _ _ (rw log_push (subst (λ b. IsSound g (state_of project (cond b (log_of rows) (log_of rows ++ Claim file stage ∷ [])) (slice_set in_progress file stage))) e s))

  pub claim_keeps_old : (file stage : ℕ) → IsReady g (log_of rows) in_progress file stage → is_claimed (log_of rows) file stage ≡ true → Keeps (log_of rows) (slice_set in_progress file stage)
  claim_keeps_old file stage ready e =
      let s = claimed_sound g laws (state_of project (log_of rows) in_progress) held.sound file stage ready in
      with_sound _ _ (subst (λ b. IsSound g (state_of project (cond b (log_of rows) (log_of rows ++ Claim file stage ∷ [])) (slice_set in_progress file stage))) e s)

  pub ready_row : (file stage : ℕ) → IsReady g (log_of rows) in_progress file stage → (file < files) × (file < length in_progress)
  ready_row file stage ready = known_row file stage (ready_is_open g (state_of project (log_of rows) in_progress) file stage ready)

  pub in_range : AreInRange g (log_of rows) files
  in_range = record {
    by_links = λ a b c. omega (arith, edges_in g project laws (log_of rows) held.sound.legal a b c, held.all_files);
    by_walk = λ a b c. omega (arith, walks_in g project laws (log_of rows) held.sound.legal a b c, held.all_files);
    asked = λ file e. omega (arith, requested_in g project (log_of rows) held.sound.legal file e, held.all_files);
  }

  pub known_rows : (file : ℕ) → IsKnown g (log_of rows) file → (file < files) × (file < length in_progress)
  known_rows file k =
      let h = known_in g project laws (log_of rows) held.sound.legal file k in
      (omega (arith, h, held.all_files), omega (arith, h, held.sound.all_files))

  -- a known path that is not done has work
  pub work : (file : ℕ) → IsKnown g (log_of rows) file → is_done_at (outcomes (log_of rows) file) 5 ≡ false → HasWork g (state_of project (log_of rows) in_progress)
  work file k undone = progress g laws (state_of project (log_of rows) in_progress) held.sound.legal (length (outcomes (log_of rows) file) + 1) file (omega arith) k undone

pub held_start : {O P : Type 0} (g : Ghosts O P) (project : P) (files lr kr mr : ℕ) → files ≡ g.files project → 11 * files ≤ lr → files ≤ kr → files ≤ mr → IsCoreState g (state_of project [] (replicate files 0)) files lr kr mr
held_start g project files lr kr mr all l k m = record { sound = rw all (start_sound g project); all_files = all; rows = l; known_files = k; visited = m }

pub log_few : {O P : Type 0} (g : Ghosts O P) (laws : Laws g) (s : State P O) (files lr kr mr : ℕ) → IsCoreState g s files lr kr mr → length s.log ≤ 11 * g.files s.project
log_few g laws s files lr kr mr held = few g s.project laws s.log held.sound.legal
