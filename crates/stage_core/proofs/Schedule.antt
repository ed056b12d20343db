-- What holds after any events.
use Rattle.std.proofs.Common.{◌≡◌, ℕ, ◌+◌, ◌<◌, ◌≤◌, inl, inr, true, false, cond, nat_le, List, [], ◌∷◌, ◌++◌, length, Contains, filter, slice_set, refl, ap, ◌∙◌, subst, arith, append-nil, length-append}
use Rattle.std.proofs.lemmas.Bool.Decides.{eqb_tells}
use Rattle.std.proofs.lemmas.List.Elements.{Contains-push_cases, filter-append}
use Rattle.stage_core.specs.declared.work.StageOut.{Ghosts}
use Rattle.stage_core.specs.Log.{State, Entry, OutcomeValue, Request, Claim, Publish, Event, Requests, Claims, Publishes, GivesBack}
use Rattle.stage_core.specs.Machine.{outcomes, HoldsValue, after, run, start, MayFollow, IsLegal, empty, grows, AreAllowed, IsSound}
use Rattle.stage_core.specs.Schedule.{publishes, IsConsistent}
use Rattle.stage_core.proofs.Grow.{outcomes-push}
use Rattle.stage_core.proofs.Legal.{Laws, five_at_most}
use Rattle.stage_core.proofs.Progress.{progress}
use Rattle.stage_core.proofs.Sound.{run_sound, start_sound}

pub after_project : {O P : Type 0} (s : State P O) (e : Event O) → (after s e).project ≡ s.project
after_project s (Requests f) = refl
after_project s (Claims f k) = refl
after_project s (Publishes f k o) = elim (nat_le k (length (outcomes s.log f))) as (λ b. (cond b s (record { project = s.project; log = s.log ++ Publish f k o ∷ []; in_progress = slice_set s.in_progress f 0 })).project ≡ s.project) [ true ↦ refl | false ↦ refl ]
after_project s (GivesBack f k) = elim (nat_le k (length (outcomes s.log f))) as (λ b. (cond b s (record s { in_progress = slice_set s.in_progress f 0 })).project ≡ s.project) [ true ↦ refl | false ↦ refl ]

run_project : {O P : Type 0} (es : List (Event O)) (s : State P O) → (run s es).project ≡ s.project
run_project [] s = refl
run_project (e ∷ es) s = run_project es (after s e) ∙ after_project s e

module _ {O P : Type 0} (g : Ghosts O P) (project : P) where
  values_in : (log : List (Entry O)) → IsLegal g project log → (file stage : ℕ) (o : OutcomeValue O) → Contains log (Publish file stage o) → HoldsValue g project file stage o
  values_in log empty file stage o c = absurd (omega arith)
  values_in log (grows old e l m) file stage o c =
      elim (Contains-push_cases old e (Publish file stage o) c) [
        | inl h ↦ values_in old l file stage o h
        | inr is ↦ (subst (λ w. MayFollow g project old w) is m).2
      ]

  abbrev count : List (Entry O) → ℕ → ℕ → ℕ
  count log file stage = length (filter (publishes file stage) log)

  -- an entry adds a publish of the stage only where it is the next
  record IsCounted (log : List (Entry O)) (file stage : ℕ) : Type 0 where
    few : count log file stage ≤ 1
    none_yet : length (outcomes log file) < stage → count log file stage ≡ 0

  count-push : (log : List (Entry O)) (e : Entry O) (file stage : ℕ) → count (log ++ e ∷ []) file stage ≡ count log file stage + cond (publishes file stage e) 1 0
  count-push log e file stage =
      ap length (filter-append (publishes file stage) log (e ∷ [])) ∙ (length-append (filter (publishes file stage) log) (filter (publishes file stage) (e ∷ [])) ∙ elim (publishes file stage e) as (λ b. count log file stage + length (cond b (e ∷ []) []) ≡ count log file stage + cond b 1 0) [ true ↦ refl | false ↦ refl ])

  counted : (log : List (Entry O)) (e : Entry O) → MayFollow g project log e → (file stage : ℕ) → IsCounted log file stage → IsCounted (log ++ e ∷ []) file stage
  counted log (Request f) m file stage h = record { few = rw count-push (omega (arith, h.few)); none_yet = rw (count-push, outcomes-push, append-nil) (λ l. omega (arith, h.none_yet l)) }
  counted log (Claim f k) m file stage h = record { few = rw count-push (omega (arith, h.few)); none_yet = rw (count-push, outcomes-push, append-nil) (λ l. omega (arith, h.none_yet l)) }
  counted log (Publish f k o) m file stage h =
      elim (eqb_tells f file) [
        | inl w ↦
            let next : k ≡ length (outcomes log file) + 1 = subst (λ z. k ≡ length (outcomes log z) + 1) w.1 m.1 in
            let more = length-append (outcomes log file) (o ∷ []) in
            elim (eqb_tells k stage) [
              | inl v ↦ record { few = rw (count-push, w.0, v.0) (omega (arith, h.none_yet (omega arith))); none_yet = rw (outcomes-push, w.0) (λ l. absurd (omega arith)) }
              | inr v ↦ record { few = rw (count-push, w.0, v.0) (omega (arith, h.few)); none_yet = rw (count-push, outcomes-push, w.0, v.0) (λ l. omega (arith, h.none_yet (omega arith))) }
            ]
        | inr w ↦ record { few = rw (count-push, w.0) (omega (arith, h.few)); none_yet = rw (count-push, outcomes-push, w.0, append-nil) (λ l. omega (arith, h.none_yet l)) }
      ]

  counts : (log : List (Entry O)) → IsLegal g project log → (file stage : ℕ) → IsCounted log file stage
  counts log empty file stage = record { few = omega arith; none_yet = λ l. refl }
  counts log (grows old e l m) file stage = counted old e m file stage (counts old l file stage)

pub sound_is_consistent : {O P : Type 0} (g : Ghosts O P) → Laws g → (s : State P O) → IsSound g s → IsConsistent g s.project s
sound_is_consistent g laws s sound = record {
  same = refl;
  values = λ file stage o c. values_in g s.project s.log sound.legal file stage o c;
  once = λ file stage. (counts g s.project s.log sound.legal file stage).few;
  five = λ file. five_at_most g s.project s.log sound.legal file;
  goes_on = λ file known undone. progress g laws s sound.legal (length (outcomes s.log file) + 1) file (omega arith) known undone;
}

pub consistent : {O P : Type 0} (g : Ghosts O P) → Laws g → (project : P) (events : List (Event O)) → AreAllowed g (start g project) events → IsConsistent g project (run (start g project) events)
consistent g laws project events allowed =
    let s = run (start g project) events in
    let sound = run_sound g laws events (start g project) (start_sound g project) allowed in
    let same : s.project ≡ project = run_project events (start g project) in
    subst (λ p. IsConsistent g p s) same (sound_is_consistent g laws s sound)
